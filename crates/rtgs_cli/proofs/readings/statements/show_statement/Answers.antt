use Rattle.std.proofs.Common.{◌≡◌, ◌∙◌, Ok, Err, refl, sym, ap, inl, inr, string_bytes}
use Rattle.std.proofs.lemmas.Result.{IfOk-at_ok, IfErr-at_err}
use Rattle.rtgs_book.specs.declared.refusal.Refusal.TheVariants.{UnknownParticipant}
use Rattle.rtgs_statements.specs.declared.book_text_fault.BookTextFault.TheVariants as text
use Rattle.rtgs_cli.proofs.readings.Shown.{if_done, if_refused}
use Rattle.rtgs_cli.proofs.readings.Stated.{refused_as_unknown, states}
use Rattle.rtgs_cli.proofs.readings.statements.show_statement.Goals as goal

pub returns-in-Ok-clause-printed : goal.returns-in-Ok-clause-printed
returns-in-Ok-clause-printed g c =
    let (book, is, shut, named) = c.in-Ok.ensures.done in
    if_done c.outcome.result _ (λ printed so. inr (states _ _ _ _ _ (λ book. book.desk) g.O.Write.contents c.args.code
    c.args.date c.write.result _ _ c.write.ensures.written c.write.ensures.fault c.write.ensures.lines book _ is
    c.in-Ok.closed shut c.outcome.result (Ok printed) c.outcome.ensures so))

pub returns-in-Ok-clause-refused : goal.returns-in-Ok-clause-refused
returns-in-Ok-clause-refused g c =
    let (book, is, shut, named) = c.in-Ok.ensures.done in
    if_refused c.outcome.result _ (λ why so. inr (
      states _ _ _ _ _ (λ book. book.desk) g.O.Write.contents c.args.code c.args.date c.write.result _ _
          c.write.ensures.written c.write.ensures.fault c.write.ensures.lines book _ is c.in-Ok.closed shut
          c.outcome.result (Err why) c.outcome.ensures so,
      λ unknown. IfOk-at_ok (λ p. p.1 ≡ Err (text.Refused UnknownParticipant) → _) is c.write.ensures.unknown
          (refused_as_unknown _ (sym c.outcome.ensures ∙ so ∙ ap Err unknown)),
    ))

pub returns-in-Err-clause-refused : goal.returns-in-Err-clause-refused
returns-in-Err-clause-refused g c = rw c.refused.ensures (inl (
  inl (
    c.in-Err.unopened,
    refl,
    IfErr-at_err _ c.in-Err.ensures.unopened c.write.ensures.unopened,
    refl,
  ),
  IfErr-at_err _ c.in-Err.ensures.unopened c.write.ensures.unchanged,
))

pub returns-in-Ok-clause-at : goal.returns-in-Ok-clause-at
returns-in-Ok-clause-at g c =
    let (book, is, shut, named) = c.in-Ok.ensures.done in
    named _ (IfOk-at_ok (λ p. string_bytes p.0.lock.locked.name ≡ _) is c.write.ensures.at)

pub returns-in-Err-clause-at : goal.returns-in-Err-clause-at
returns-in-Err-clause-at g c = rw c.refused.ensures (IfErr-at_err _ c.in-Err.ensures.unopened c.write.ensures.of)
