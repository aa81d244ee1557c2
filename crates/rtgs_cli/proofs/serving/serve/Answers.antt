use Rattle.std.proofs.Common.{◌≡◌, refl, inl, string_bytes}
use Rattle.std.proofs.lemmas.Result.{IfOk-at_ok, IfErr-at_err}
use Rattle.rtgs_cli.proofs.serving.Served.{served_with, idle_with}
use Rattle.rtgs_cli.proofs.serving.serve.Goals as goal

pub returns-in-Ok-clause-printed : goal.returns-in-Ok-clause-printed
returns-in-Ok-clause-printed g c =
    let (book, is, shut, named) = c.in-Ok.ensures.done in
    served_with _ _ (λ book. book.desk) c.serve_book.result book _ c.in-Ok.closed shut c.args.service.now
    (g.O.Write.contents c.args.out.now) (g.O.Write.contents c.serve_book.new.out) _ is
    c.serve_book.ensures.served c.serve_book.ensures.taken

pub returns-in-Ok-clause-refused : goal.returns-in-Ok-clause-refused
returns-in-Ok-clause-refused g c =
    let (book, is, shut, named) = c.in-Ok.ensures.done in
    idle_with _ _ (λ book. book.desk) c.serve_book.result book _ c.in-Ok.closed shut _ is c.serve_book.ensures.refused

pub returns-in-Err-clause-refused : goal.returns-in-Err-clause-refused
returns-in-Err-clause-refused g c = rw c.refused.ensures (inl (
  c.in-Err.unopened,
  refl,
  IfErr-at_err _ c.in-Err.ensures.unopened c.serve_book.ensures.unopened,
  refl,
))

pub returns-in-Ok-clause-at : goal.returns-in-Ok-clause-at
returns-in-Ok-clause-at g c =
    let (book, is, shut, named) = c.in-Ok.ensures.done in
    named _ (IfOk-at_ok (λ p. string_bytes p.0.lock.locked.name ≡ _) is c.serve_book.ensures.at)

pub returns-in-Err-clause-at : goal.returns-in-Err-clause-at
returns-in-Err-clause-at g c = rw c.refused.ensures (IfErr-at_err _ c.in-Err.ensures.unopened c.serve_book.ensures.of)
