use Rattle.std.proofs.Common.{◌≡◌, refl, inl, inr, string_bytes}
use Rattle.std.proofs.lemmas.Result.{IfOk-at_ok, IfOk-weaker, IfErr-at_err, IfErr-weaker}
use Rattle.rtgs_order_files.specs.Results.{results_text}
use Rattle.rtgs_cli.specs.imports.Causes.{RefusesRows}
use Rattle.rtgs_cli.proofs.imports.Imported.{imported_with, idle_for, either_way}
use Rattle.rtgs_cli.proofs.imports.import.Goals as goal

pub returns-in-Ok-clause-printed : goal.returns-in-Ok-clause-printed
returns-in-Ok-clause-printed g c =
    let (book, is, shut, named) = c.in-Ok.ensures.done in
    let send = c.send.ensures in
    IfOk-weaker c.print_sent.result _ _ (λ printed it. (
      results_text it.0.0.items it.0.1.replies.items it.0.1.stopped,
      it.0.1.stopped,
      (
        it.0.0.items,
        it.0.1.replies.items,
        imported_with _ (λ book. book.desk) c.send.result book _ _ is _ _ _ c.in-Ok.closed shut c.args.sender
            (λ it. it.0.items) (λ it. it.1.replies.items) (λ it. it.1.stopped) send.rows send.stopped send.sent it.0
            it.1,
        refl,
      ),
      it.2,
    )) c.print_sent.ensures.printed

pub returns-in-Ok-clause-refused : goal.returns-in-Ok-clause-refused
returns-in-Ok-clause-refused g c =
    let (book, is, shut, named) = c.in-Ok.ensures.done in
    let send = c.send.ensures in
    IfErr-weaker c.print_sent.result _ _ (λ why cause. inr (either_way
    (λ refused. idle_for _ (λ book. book.desk) c.send.result book _ _ is _ _ _ c.in-Ok.closed shut
    (λ read why. RefusesRows (λ bytes. bytes.items) read.value.answer why) send.refused why refused)
    (λ it. (
      it.2,
      it.0.0.items,
      it.0.1.replies.items,
      it.0.1.stopped,
      imported_with _ (λ book. book.desk) c.send.result book _ _ is _ _ _ c.in-Ok.closed shut c.args.sender
          (λ it. it.0.items) (λ it. it.1.replies.items) (λ it. it.1.stopped) send.rows send.stopped send.sent it.0 it.1,
    )) cause)) c.print_sent.ensures.refused

pub returns-in-Err-clause-refused : goal.returns-in-Err-clause-refused
returns-in-Err-clause-refused g c = rw c.refused.ensures (inl (
  c.in-Err.unopened,
  refl,
  IfErr-at_err _ c.in-Err.ensures.unopened c.send.ensures.unopened,
  refl,
))

pub returns-in-Ok-clause-at : goal.returns-in-Ok-clause-at
returns-in-Ok-clause-at g c =
    let (book, is, shut, named) = c.in-Ok.ensures.done in
    named _ (IfOk-at_ok (λ p. string_bytes p.0.lock.locked.name ≡ _) is c.send.ensures.at)

pub returns-in-Err-clause-at : goal.returns-in-Err-clause-at
returns-in-Err-clause-at g c = rw c.refused.ensures (IfErr-at_err _ c.in-Err.ensures.unopened c.send.ensures.of)
