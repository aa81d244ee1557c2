use Rattle.std.proofs.Common.{◌∙◌, ap, sym, arith}
use Rattle.std.proofs.lemmas.Int.{ints}
use Rattle.rtgs_book.specs.declared.book.Book.{Book}
use Rattle.rtgs_book.specs.Balance.{balance}
use Rattle.rtgs_laws.specs.Quiet.{value_of}
use Rattle.rtgs_lists.proofs.Bools.{from_not}
use Rattle.rtgs_ledger.proofs.Kept.{balance_at}
use Rattle.rtgs_ledger.proofs.Whole.{is_of_book, whole}
use Rattle.rtgs_ledger.proofs.ledger.Ledger.can_be_paid.Goals as goal

pub returns : goal.returns
returns c book is none =
    let r = c.self.inside.records in
    let sender = c.args.order.now.sender in
    let of = is_of_book book r c.args.self.now c.self.view_is is in
    let found = sym c.get.ensures ∙ c.in-Some.is in
    let had = balance_at (whole book r) of.kept sender c.in-Some.account found
    ∙ ap (λ (b : Book). balance b sender) of.same in
    let paid = c.value_of.ensures.value ∙ ap value_of (c.as_slice.ensures.value ∙ c.in-Ok.ensures.answered book is) in
    let short = c.is_short.ensures book is (from_not _ none) in
    omega (arith, ints)
