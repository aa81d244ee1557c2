use Rattle.std.proofs.lemmas.Result.{IfOk-weaker}
use Rattle.rtgs_book_file.proofs.stored_desk.opening.open.Goals as goal

pub returns-clause-opened : goal.returns-clause-opened
returns-clause-opened g c = IfOk-weaker c.desk_over.result _ _ (λ desk opened clean is_open.
    let over = rw c.open.ensures.is.0 at opened in
    over clean (c.rests.ensures is_open)) c.desk_over.ensures.opened
