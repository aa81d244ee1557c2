use Rattle.std.proofs.Common.{refl, inr, subst}
use Rattle.std.specs.Result.{IfOk}
use Rattle.std.proofs.lemmas.Result.{IfOk-weaker}
use Rattle.rtgs_book.specs.declared.refusal.Refusal.TheVariants.{OutOfMemory}
use Rattle.rtgs_cli_lines.specs.Texts.{Prints}
use Rattle.rtgs_cli_lines.specs.declared.failure.Failure.TheVariants.{Refused}
use Rattle.rtgs_order_files.specs.Results.{results_text}
use Rattle.rtgs_cli.proofs.imports.Imported.{refused_as}
use Rattle.rtgs_cli.proofs.imports.print_sent.Goals as goal

pub returns-in-Ok-clause-printed : goal.returns-in-Ok-clause-printed
returns-in-Ok-clause-printed g c =
    let batch = c.in-Ok.batch in
    let printed = subst (λ rows. IfOk c.print_results.result
    (λ printed. Prints (results_text rows batch.replies.items batch.stopped) batch.stopped printed
    (g.O.Write.contents c.args.out.now) (g.O.Write.contents c.print_results.new.out))) c.as_slice.ensures.value
    c.print_results.ensures.printed in
    IfOk-weaker c.print_results.result _ _ (λ printed prints. ((c.in-Ok.rows, batch), c.in-Ok.is, prints)) printed

pub returns-in-Ok-clause-refused : goal.returns-in-Ok-clause-refused
returns-in-Ok-clause-refused g c = refused_as c.print_results.result (Refused OutOfMemory) _ _
    c.print_results.ensures.refused (inr ((c.in-Ok.rows, c.in-Ok.batch), c.in-Ok.is, refl))
