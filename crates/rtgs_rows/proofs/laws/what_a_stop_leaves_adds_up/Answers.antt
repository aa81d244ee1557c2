use Rattle.rtgs_rows.proofs.Money.{adds_up_alike}
use Rattle.rtgs_rows.proofs.laws.what_a_stop_leaves_adds_up.Goals as goal

pub returns-clause-some : goal.returns-clause-some
returns-clause-some g c whole trees left =
    let book = whole trees left in
    (book.1.0, book.1.1, c.stored_balances_are_the_postings.ensures book.0 book.1.0 book.1.2)

pub returns-clause-all : goal.returns-clause-all
returns-clause-all g c whole trees left content holds =
    let book = whole trees left in
    adds_up_alike trees book.1.0 content book.1.1 holds (c.stored_balances_are_the_postings.ensures book.0 book.1.0
    book.1.2)
