use Rattle.std.proofs.Common.{◌≡◌, ◌⊎◌, subst}
use Rattle.std.specs.Result.{IfErr}
use Rattle.std.proofs.lemmas.Result.{IfOk-weaker}
use Rattle.rtgs_book.specs.declared.refusal.Refusal.TheVariants.{OutOfMemory}
use Rattle.rtgs_cli_lines.specs.declared.failure.Failure.TheVariants.{Refused, Orders}
use Rattle.rtgs_order_files.specs.OrderFile.{IsFaultOf}
use Rattle.rtgs_order_files.specs.declared.batch_fault.BatchFault.{BatchFault}
use Rattle.rtgs_cli.proofs.imports.OrdersRead.{taken_refused}
use Rattle.rtgs_cli.proofs.imports.submit_file.Goals as goal

pub returns-clause-sent : goal.returns-clause-sent
returns-clause-sent g c = IfOk-weaker c.submit_orders-sent.result _ _ (λ sent did honest book held.
    let it = did honest book held in
    (it, c.what_a_session_leaves.ensures book _ _ it.whole_after_a_crash it.session it.calm_after_a_crash))
    c.submit_orders-sent.ensures.sent

pub returns-clause-refused : goal.returns-clause-refused
returns-clause-refused g c =
    taken_refused (λ bytes. bytes.items) c.args.read.answer c.in_ok-bytes.bytes c.in_ok-bytes.ensures
    c.submit_orders-sent.result
    (subst (λ bytes. IfErr c.submit_orders-sent.result (λ why. (why ≡ Refused OutOfMemory)
    ⊎ ((fault : BatchFault) × IsFaultOf bytes fault × (why ≡ Orders fault)))) c.as_slice.ensures.value
    c.submit_orders-sent.ensures.refused)
