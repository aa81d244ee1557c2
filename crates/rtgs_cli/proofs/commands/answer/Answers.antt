use Rattle.std.proofs.Common.{◌≡◌, true, None, refl, inl, inr, subst, string_bytes}
use Rattle.std.specs.Result.{IfOk}
use Rattle.std.proofs.lemmas.Result.{IfOk-at_ok, IfOk-weaker, IfErr-at_err, IfErr-weaker}
use Rattle.rtgs_desk.specs.Replies.{IsOfItsKind}
use Rattle.rtgs_cli.specs.files.Printing.{ended_line}
use Rattle.rtgs_cli_lines.specs.Lines.{done_line}
use Rattle.rtgs_cli_lines.specs.declared.done.Done.TheVariants.{Answered}
use Rattle.rtgs_cli.proofs.commands.Submitted.{submitted_with}
use Rattle.rtgs_cli.proofs.commands.answer.Goals as goal

pub returns-in-Ok-clause-printed : goal.returns-in-Ok-clause-printed
returns-in-Ok-clause-printed g c =
    let (book, is, shut, named) = c.in-Ok.ensures.done in
    let command = c.args.command in
    let of_kind = IfOk-at_ok (λ p. IfOk p.1 (IsOfItsKind command)) is
    c.submit.ensures.of_its_kind in
    IfOk-weaker c.print.result _ _ (λ printed it. (
      ended_line (done_line (Answered it.0)),
      None,
      (
        it.0,
        book.desk,
        (c.in-Ok.closed, refl, shut),
        submitted_with _ (λ book. book.desk) command c.submit.result c.submit.ensures.replied book _ _ is it.1,
        subst (λ reply. IfOk reply (IsOfItsKind command)) it.1 of_kind,
        refl,
        refl,
      ),
      it.2,
    )) c.print.ensures.printed

pub returns-in-Ok-clause-refused : goal.returns-in-Ok-clause-refused
returns-in-Ok-clause-refused g c =
    let (book, is, shut, named) = c.in-Ok.ensures.done in
    IfErr-weaker c.print.result _ _ (λ why it. inr (
      it.0,
      book.desk,
      (c.in-Ok.closed, refl, shut),
      submitted_with _ (λ book. book.desk) c.args.command c.submit.result c.submit.ensures.replied book _ _ is it.1,
      it.2,
    )) c.print.ensures.refused

pub returns-in-Err-clause-refused : goal.returns-in-Err-clause-refused
returns-in-Err-clause-refused g c = rw c.refused.ensures (inl (
  c.in-Err.unopened,
  refl,
  IfErr-at_err _ c.in-Err.ensures.unopened c.submit.ensures.unopened,
  refl,
))

pub returns-in-Ok-clause-at : goal.returns-in-Ok-clause-at
returns-in-Ok-clause-at g c =
    let (book, is, shut, named) = c.in-Ok.ensures.done in
    named _ (IfOk-at_ok (λ p. string_bytes p.0.lock.locked.name ≡ _) is c.submit.ensures.at)

pub returns-in-Err-clause-at : goal.returns-in-Err-clause-at
returns-in-Err-clause-at g c = rw c.refused.ensures (IfErr-at_err _ c.in-Err.ensures.unopened c.submit.ensures.of)
