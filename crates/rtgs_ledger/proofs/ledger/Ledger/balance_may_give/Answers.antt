use Rattle.std.proofs.Common.{◌∙◌, inl, inr, ap, sym, true≢false, arith}
use Rattle.std.proofs.lemmas.Int.{ints}
use Rattle.rtgs_book.specs.declared.book.Book.{Book}
use Rattle.rtgs_book.specs.Balance.{balance}
use Rattle.rtgs_laws.specs.Quiet.{value_of}
use Rattle.rtgs_lists.proofs.Bools.{from_not}
use Rattle.rtgs_ledger.proofs.Kept.{balance_at}
use Rattle.rtgs_ledger.proofs.Whole.{is_of_book, whole}
use Rattle.rtgs_ledger.proofs.ledger.Ledger.balance_may_give.Goals as goal

pub returns-in_default-first_queued : goal.returns-in_default-first_queued
returns-in_default-first_queued c book is none some =
    absurd (true≢false (sym (c.first_queued.ensures.none book is c.in_default-first_queued.is) ∙ some))

pub returns-then-cents : goal.returns-then-cents
returns-then-cents c book is none some =
    let r = c.self.inside.records in
    let of = is_of_book book r c.args.self.now c.self.view_is is in
    let found = sym c.get.ensures ∙ c.in-Some.is in
    let had = balance_at (whole book r) of.kept c.args.code.now c.in-Some.account found
    ∙ ap (λ (b : Book). balance b c.args.code.now) of.same in
    inl (omega (arith, ints, had))

pub returns : goal.returns
returns c book is none some =
    let first = c.in-Some-first_queued.ensures.first book is in
    let paid = ap value_of first in
    let short = c.is_short.ensures book is (from_not _ none) in
    inr (omega (arith, ints))
