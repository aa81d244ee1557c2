use Rattle.std.proofs.Common.{◌≡◌, None, refl, inl, inr, string_bytes}
use Rattle.std.proofs.lemmas.Result.{IfOk-at_ok, IfOk-weaker, IfErr-at_err, IfErr-weaker}
use Rattle.rtgs_cli.proofs.readings.BytesRead.{bytes_read, refusal_read}
use Rattle.rtgs_cli.proofs.readings.Shown.{read_with}
use Rattle.rtgs_cli.proofs.readings.texts.show_text.Goals as goal

pub returns-in-Ok-clause-printed : goal.returns-in-Ok-clause-printed
returns-in-Ok-clause-printed g c =
    let (book, is, shut, named) = c.in-Ok.ensures.done in
    let read = read_with _ (λ book. book.desk) (λ text. text.items) c.args.reading c.read.result c.read.ensures.read
    book _ is in
    IfOk-weaker c.print_read.result _ _ (λ printed it. (
      it.0.items,
      None,
      (
        book.desk,
        (c.in-Ok.closed, refl, shut),
        bytes_read _ (λ text. text.items) c.args.reading _ book.desk read it.0 it.1,
        refl,
      ),
      it.2,
    )) c.print_read.ensures.printed

pub returns-in-Ok-clause-refused : goal.returns-in-Ok-clause-refused
returns-in-Ok-clause-refused g c =
    let (book, is, shut, named) = c.in-Ok.ensures.done in
    let read = read_with _ (λ book. book.desk) (λ text. text.items) c.args.reading c.read.result c.read.ensures.read
    book _ is in
    IfErr-weaker c.print_read.result _ _ (λ why it. inr (
      it.0,
      book.desk,
      (c.in-Ok.closed, refl, shut),
      refusal_read _ (λ text. text.items) c.args.reading _ book.desk read it.0 it.1,
      it.2,
    )) c.print_read.ensures.refused

pub returns-in-Err-clause-refused : goal.returns-in-Err-clause-refused
returns-in-Err-clause-refused g c = rw c.refused.ensures (inl (
  c.in-Err.unopened,
  refl,
  IfErr-at_err _ c.in-Err.ensures.unopened c.read.ensures.unopened,
  refl,
))

pub returns-in-Ok-clause-at : goal.returns-in-Ok-clause-at
returns-in-Ok-clause-at g c =
    let (book, is, shut, named) = c.in-Ok.ensures.done in
    named _ (IfOk-at_ok (λ p. string_bytes p.0.lock.locked.name ≡ _) is c.read.ensures.at)

pub returns-in-Err-clause-at : goal.returns-in-Err-clause-at
returns-in-Err-clause-at g c = rw c.refused.ensures (IfErr-at_err _ c.in-Err.ensures.unopened c.read.ensures.of)
