use Rattle.std.proofs.Common.{◌≡◌, ◌∙◌, ap, sym, arith}
use Rattle.std.proofs.lemmas.Int.{ints}
use Rattle.rtgs_book.specs.declared.book.Book.{Book}
use Rattle.rtgs_book.specs.Balance.{floor}
use Rattle.rtgs_ledger.proofs.Kept.{floor_at}
use Rattle.rtgs_ledger.proofs.Whole.{is_of_book, whole}
use Rattle.rtgs_ledger.proofs.ledger.Ledger.is_short.Goals as goal

pub returns : goal.returns
returns c book is short =
    let r = c.self.inside.records in
    let of = is_of_book book r c.args.self.now c.self.view_is is in
    let found = sym c.get.ensures ∙ c.in-Some.is in
    let lowest : floor book c.args.code.now ≡ c.floor.result =
    sym (ap (λ (b : Book). floor b c.args.code.now) of.same)
    ∙ floor_at (whole book r) of.kept c.args.code.now c.in-Some.account found ∙ sym c.floor.ensures in
    let brought = c.queued_to.ensures.value book is in
    omega (arith, ints, lowest, brought)
