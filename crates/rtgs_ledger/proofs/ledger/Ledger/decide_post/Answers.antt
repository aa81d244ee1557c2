use Rattle.rtgs_book.specs.declared.command.Command.TheVariants as command
use Rattle.std.proofs.Common.{◌≡◌, ◌∙◌, ◌+◌, ◌+ℤ◌, sym, ap, nat_le, [], ◌∷◌, length, true, false, ◌&&◌}
use Rattle.std.proofs.Common.{inr, refl, arith}
use Rattle.std.proofs.lemmas.Int.{ints}
use Rattle.std.proofs.lemmas.Bool.Decides.{nat_tests}
use Rattle.std.proofs.lemmas.Result.{err_from_is_err_and}
use Rattle.std.specs.Str.{bytes_eq}
use Rattle.std.specs.Ordering.{int_eq}
use Rattle.rtgs_book.specs.declared.answer.Answer.TheVariants.{Posted}
use Rattle.rtgs_book.specs.declared.answer.Known.TheVariants as known
use Rattle.rtgs_book.specs.declared.change.RowChange.TheVariants.{AddPosting, SetBalance}
use Rattle.rtgs_book.specs.declared.limits.TheConstants.{LARGEST_NUMBER}
use Rattle.rtgs_book.specs.Lookup.{posting_named}
use Rattle.rtgs_ledger.proofs.Posting.{unknown, repeats, reference_used, numbers_used_up, total_too_large, no_cover}
use Rattle.rtgs_ledger.proofs.Posting.{next_posting, prepared_post}
use Rattle.rtgs_ledger.proofs.Kept.{is_known, is_unknown, balance_at, balance_fits, floor_at, total_at, prepared_repeat}
use Rattle.rtgs_book.specs.declared.book.Book.{Book}
use Rattle.rtgs_book.specs.cores.Cores.{IsCoreOf}
use Rattle.rtgs_ledger.proofs.Whole.{IsPrepared, held_of, book_of, whole, is_of_book}
use Rattle.rtgs_ledger.proofs.Whole.{to_lacking, to_refused, to_prepared}
use Rattle.rtgs_ledger.proofs.ledger.Ledger.decide_post.Goals as goal
use Rattle.rtgs_ledger.proofs.ledger.Ledger.decide_post.Goals.{else-eq-via-then-eq+else-eq-2, else-eq-via-else-eq}
use Rattle.rtgs_ledger.proofs.ledger.Ledger.decide_post.Goals.{After-is_uncovered}
use Rattle.rtgs_lists.proofs.Bools.{and_left_false, and_right_false, and_true}

pub returns-in_default-clause-refused : goal.returns-in_default-clause-refused
returns-in_default-clause-refused c book is found =
    let of = is_of_book book c.self.inside.records c.args.self.now c.self.view_is is in
    let r = whole book c.self.inside.records in
    to_refused book c.self.inside.records c.args.self.now.core of
    (command.Post c.args.code c.args.reference c.args.cents) _ (inr (
      unknown (book_of r) c.args.code c.args.reference c.args.cents
          (is_unknown r of.kept c.args.code (sym c.get.ensures ∙ c.in_default.is)),
      refl,
    ))

pub returns-then-eq-2-clause-prepared : goal.returns-then-eq-2-clause-prepared
unfolding posting_named
returns-then-eq-2-clause-prepared c book is found =
    let of = is_of_book book c.self.inside.records c.args.self.now c.self.view_is is in
    let r = whole book c.self.inside.records in
    let found_here : c.args.found ≡ posting_named (book_of r) c.args.reference = found
    ∙ ap (λ (b : Book). posting_named b c.args.reference) (sym of.same) in
    let there = is_known r of.kept c.args.code c.in-Some.account (sym c.get.ensures ∙ c.in-Some.is) in
    let same = and_true (bytes_eq c.in-Some-found.found.code c.args.code)
    (int_eq c.in-Some-found.found.cents c.args.cents)
    (sym c.eq.ensures ∙ c.if-eq.true) (sym c.eq-then-eq.ensures ∙ c.if-eq-2.true) in
    let step = repeats (book_of r) c.args.code c.args.reference c.args.cents there c.in-Some-found.found
    (sym found_here ∙ c.in-Some-found.is) same in
    rw (c.repeated.ensures.answer, c.repeated.ensures.change) (to_prepared book c.self.inside.records
    c.args.self.now.core of _ _ _ (prepared_repeat (held_of r) _
    (known.Posting c.in-Some-found.found.number) of.kept step))

pub returns-in-Some-found-clause-refused : goal.returns-in-Some-found-clause-refused
unfolding posting_named
returns-in-Some-found-clause-refused c book is found =
    let of = is_of_book book c.self.inside.records c.args.self.now c.self.view_is is in
    let r = whole book c.self.inside.records in
    let found_here : c.args.found ≡ posting_named (book_of r) c.args.reference = found
    ∙ ap (λ (b : Book). posting_named b c.args.reference) (sym of.same) in
    let there = is_known r of.kept c.args.code c.in-Some.account (sym c.get.ensures ∙ c.in-Some.is) in
    let other : (bytes_eq c.in-Some-found.found.code c.args.code && int_eq c.in-Some-found.found.cents c.args.cents)
    ≡ false = elim c.else-eq.branch [
      | else-eq-via-then-eq+else-eq-2 w ↦ and_right_false (bytes_eq c.in-Some-found.found.code c.args.code)
          (int_eq c.in-Some-found.found.cents c.args.cents) (sym w.eq-then-eq.ensures ∙ w.if-eq-2.false)
      | else-eq-via-else-eq w ↦ and_left_false (bytes_eq c.in-Some-found.found.code c.args.code)
          (int_eq c.in-Some-found.found.cents c.args.cents) (sym c.eq.ensures ∙ w.if-eq.false)
    ] in
    to_refused book c.self.inside.records c.args.self.now.core of
    (command.Post c.args.code c.args.reference c.args.cents) _ (inr (
      reference_used (book_of r) c.args.code c.args.reference c.args.cents there
          c.in-Some-found.found (sym found_here ∙ c.in-Some-found.is) other,
      refl,
    ))

pub returns-then-number-clause-refused : goal.returns-then-number-clause-refused
unfolding posting_named
returns-then-number-clause-refused c book is found =
    let of = is_of_book book c.self.inside.records c.args.self.now c.self.view_is is in
    let r = whole book c.self.inside.records in
    let found_here : c.args.found ≡ posting_named (book_of r) c.args.reference = found
    ∙ ap (λ (b : Book). posting_named b c.args.reference) (sym of.same) in
    let there = is_known r of.kept c.args.code c.in-Some.account (sym c.get.ensures ∙ c.in-Some.is) in
    let many : nat_le LARGEST_NUMBER (length r.postings)
    ≡ true = (let next = of.postings in let test = c.if-number.true in grind (arith, nat_tests, next, test)) in
    to_refused book c.self.inside.records c.args.self.now.core of
    (command.Post c.args.code c.args.reference c.args.cents) _ (inr (
      numbers_used_up (book_of r) c.args.code c.args.reference c.args.cents there
          (sym found_here ∙ c.in_default-found.is) many,
      refl,
    ))

pub returns-then-is_too_much-clause-refused : goal.returns-then-is_too_much-clause-refused
unfolding posting_named
returns-then-is_too_much-clause-refused c book is found =
    let of = is_of_book book c.self.inside.records c.args.self.now c.self.view_is is in
    let r = whole book c.self.inside.records in
    let found_here : c.args.found ≡ posting_named (book_of r) c.args.reference = found
    ∙ ap (λ (b : Book). posting_named b c.args.reference) (sym of.same) in
    let there = is_known r of.kept c.args.code c.in-Some.account (sym c.get.ensures ∙ c.in-Some.is) in
    let few : nat_le LARGEST_NUMBER (length r.postings)
    ≡ false = (let next = of.postings in let test = c.if-number.false in grind (arith, nat_tests, next, test)) in
    let large = sym c.is_too_much.ensures ∙ c.if-is_too_much.true in
    to_refused book c.self.inside.records c.args.self.now.core of
    (command.Post c.args.code c.args.reference c.args.cents) _ (inr (
      total_too_large (book_of r) c.args.code c.args.reference c.args.cents there
          (sym found_here ∙ c.in_default-found.is) few (rw (total_at r of.kept) at large),
      refl,
    ))

pub returns-then-is_uncovered-clause-refused : goal.returns-then-is_uncovered-clause-refused
unfolding posting_named
returns-then-is_uncovered-clause-refused c book is found =
    let of = is_of_book book c.self.inside.records c.args.self.now c.self.view_is is in
    let r = whole book c.self.inside.records in
    let found_here : c.args.found ≡ posting_named (book_of r) c.args.reference = found
    ∙ ap (λ (b : Book). posting_named b c.args.reference) (sym of.same) in
    let account_found = sym c.get.ensures ∙ c.in-Some.is in
    let small_all = c.balances_are_small.ensures (book_of r) of.kept.sound of.kept.fits in
    let fits = balance_fits r of.kept small_all c.args.code c.in-Some.account account_found in
    let range = c.cents.ensures.in_range in
    let sum : c.moved-balance.result ≡ c.in-Some.account.balance +ℤ c.args.cents = c.moved-balance.ensures
    (let low = fits.0 in let high = fits.1 in omega (arith, ints)) ∙ omega (arith, ints) in
    let there = is_known r of.kept c.args.code c.in-Some.account account_found in
    let few : nat_le LARGEST_NUMBER (length r.postings)
    ≡ false = (let next = of.postings in let test = c.if-number.false in grind (arith, nat_tests, next, test)) in
    let small = rw (total_at r of.kept) at (sym c.is_too_much.ensures ∙ c.if-is_too_much.false) in
    let short = rw (
      sum,
      balance_at r of.kept c.args.code c.in-Some.account account_found,
      ←
          floor_at r of.kept c.args.code c.in-Some.account account_found,
    ) at
    (sym c.is_uncovered.ensures ∙ c.if-is_uncovered.true) in
    to_refused book c.self.inside.records c.args.self.now.core of
    (command.Post c.args.code c.args.reference c.args.cents) _ (inr (
      no_cover (book_of r) c.args.code c.args.reference c.args.cents there
          (sym found_here ∙ c.in_default-found.is) few small short,
      refl,
    ))

-- what is prepared for a posting that passed the tests
posted : (c : After-is_uncovered) (book : Book) → IsCoreOf book c.args.self.now.core
    → c.args.found ≡ posting_named book c.args.reference → c.is_uncovered.result ≡ false
    → IsPrepared (held_of (whole book c.self.inside.records))
    (command.Post c.args.code c.args.reference c.args.cents) (Posted (length book.postings + 1))
    (AddPosting (next_posting (book_of (whole book c.self.inside.records)) c.args.code c.args.reference c.args.cents)
    ∷ SetBalance c.args.code c.moved-balance.result ∷ [])
unfolding posting_named
posted c book is found enough =
    let of = is_of_book book c.self.inside.records c.args.self.now c.self.view_is is in
    let r = whole book c.self.inside.records in
    let found_here : c.args.found ≡ posting_named (book_of r) c.args.reference = found
    ∙ ap (λ (b : Book). posting_named b c.args.reference) (sym of.same) in
    let account_found = sym c.get.ensures ∙ c.in-Some.is in
    let small_all = c.balances_are_small.ensures (book_of r) of.kept.sound of.kept.fits in
    let fits = balance_fits r of.kept small_all c.args.code c.in-Some.account account_found in
    let range = c.cents.ensures.in_range in
    let sum : c.moved-balance.result ≡ c.in-Some.account.balance +ℤ c.args.cents = c.moved-balance.ensures
    (let low = fits.0 in let high = fits.1 in omega (arith, ints)) ∙ omega (arith, ints) in
    let few : nat_le LARGEST_NUMBER (length r.postings)
    ≡ false = (let next = of.postings in let test = c.if-number.false in grind (arith, nat_tests, next, test)) in
    let small = rw (total_at r of.kept) at (sym c.is_too_much.ensures ∙ c.if-is_too_much.false) in
    let covered = rw (
      sum,
      balance_at r of.kept c.args.code c.in-Some.account account_found,
      ← floor_at r of.kept c.args.code c.in-Some.account account_found,
    ) at
    (sym c.is_uncovered.ensures ∙ enough) in
    prepared_post r of.kept c.args.code c.args.reference c.args.cents
    c.in-Some.account account_found c.moved-balance.result sum
    (c.cents.ensures.not_zero, c.cents.ensures.in_range)
    (sym found_here ∙ c.in_default-found.is) few small covered

pub returns-in_err-rows-clause-refused : goal.returns-in_err-rows-clause-refused
returns-in_err-rows-clause-refused c book is found =
    let of = is_of_book book c.self.inside.records c.args.self.now c.self.view_is is in
    let refused = err_from_is_err_and c.from_residual.result c.from_residual.ensures.1 in
    rw (refused.1, refused.2) (to_lacking book c.self.inside.records c.args.self.now.core of _ _ _
    (posted (goal.at.returns-in_err-rows-clause-refused c).After-is_uncovered book is found c.if-is_uncovered.false)
    refl)

pub returns-clause-prepared : goal.returns-clause-prepared
returns-clause-prepared c book is found =
    let of = is_of_book book c.self.inside.records c.args.self.now c.self.view_is is in
    rw (c.from_vec.ensures, c.in_ok-rows.ensures.items, of.postings) (to_prepared book c.self.inside.records
    c.args.self.now.core of _ _ _
    (posted (goal.at.returns-clause-prepared c).After-is_uncovered book is found c.if-is_uncovered.false))
