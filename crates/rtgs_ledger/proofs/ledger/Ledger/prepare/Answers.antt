use Rattle.std.proofs.Common.{inl, refl}
use Rattle.std.proofs.lemmas.Result.{err_from_is_err_and}
use Rattle.rtgs_ledger.proofs.Following.{would_act}
use Rattle.rtgs_ledger.proofs.ledger.Ledger.prepare.Goals as goal

-- room lacks for the change of a command that would act
pub returns-in_err-make_room-clause-refused : goal.returns-in_err-make_room-clause-refused
returns-in_err-make_room-clause-refused c book is calm found =
    let passed = err_from_is_err_and c.from_residual-in_err-make_room.result
    c.from_residual-in_err-make_room.ensures.1 in
    let p = c.in_ok-answer.ensures.prepared book is calm found in
    rw (passed.1, passed.2) (inl (
      refl,
      λ _. would_act book p.book c.args.command.now c.in_ok-answer.answer
          c.in_ok-answer.change p.step c.in_ok-answer.ensures.answered.1 c.in_err-make_room.ensures.some,
    ))
