use Rattle.std.proofs.Common.{◌≡◌, ◌∙◌, ◌<◌, ◌^◌, [], ◌∷◌, sym, ap, subst, true, pos, ◌+ℤ◌, ◌-ℤ◌, find, Some, refl}
use Rattle.std.proofs.Common.{arith, inl}
use Rattle.std.proofs.lemmas.Int.{ints}
use Rattle.std.proofs.lemmas.Bool.Decides.{nat_tests}
use Rattle.std.proofs.lemmas.Result.{err_from_is_err_and}
use Rattle.rtgs_book.specs.declared.book.Book.{Book}
use Rattle.rtgs_book.specs.Commands.{settles_at_once}
use Rattle.rtgs_book.specs.Settle.{mark_of}
use Rattle.rtgs_records.specs.Held.{Held}
use Rattle.rtgs_records.specs.accounts.Accounts.{is_of}
use Rattle.rtgs_ledger.specs.Ordering.{IsTaken}
use Rattle.rtgs_ledger.proofs.Kept.{balance_fits}
use Rattle.rtgs_ledger.proofs.Ordering.{prepared_settled, one_mark, taken_acts}
use Rattle.rtgs_ledger.proofs.Whole.{held_of, book_of, whole, is_of_book, to_prepared, marks_are_counted}
use Rattle.rtgs_ledger.proofs.ledger.Ledger.decide_settled.Goals as goal

pub returns-then-not-counts_marks-clause-refused : goal.returns-then-not-counts_marks-clause-refused
returns-then-not-counts_marks-clause-refused c book is taken =
    let of = is_of_book book c.self.inside.records c.args.self.now c.self.view_is is in
    let counted = c.counts_marks.ensures.1 (marks_are_counted book c.self.inside.records c.args.self.now.core of) in
    let test = c.if-not-counts_marks.true in
    absurd (grind (arith, nat_tests, counted, test))

pub returns-in_err-rows-clause-refused : goal.returns-in_err-rows-clause-refused
returns-in_err-rows-clause-refused c book is taken =
    let passed = err_from_is_err_and c.from_residual.result c.from_residual.ensures.1 in
    rw (passed.1, passed.2) (inl (refl, λ _. taken_acts book c.args.order.now taken))

pub returns-clause-prepared : goal.returns-clause-prepared
unfolding mark_of
returns-clause-prepared c book is taken direct settles from to =
    let r = c.self.inside.records in
    let of = is_of_book book r c.args.self.now c.self.view_is is in
    let w = whole book r in
    let o = c.args.order.now in
    let sending = c.args.sending.now in
    let receiving = c.args.receiving.now in
    let taken_here : IsTaken (book_of w) o = subst (λ (b : Book). IsTaken b o) (sym of.same) taken in
    let settles_here = subst (λ (b : Book). settles_at_once b o.sender o.amount ≡ true) (sym of.same) settles in
    let from_here : find (is_of o.sender) r.accounts.accounts ≡ Some sending = rw of.accounts from in
    let to_here : find (is_of o.receiver) r.accounts.accounts ≡ Some receiving = rw of.accounts to in
    let small = c.balances_are_small.ensures (book_of w) of.kept.sound of.kept.fits in
    let sending_fits = balance_fits w of.kept small o.sender sending from_here in
    let receiving_fits = balance_fits w of.kept small o.receiver receiving to_here in
    let amount = taken.fits.1 in
    let less : c.with_less-debited.result ≡ sending.balance -ℤ pos o.amount = c.with_less-debited.ensures
    (let low = sending_fits.0 in let high = sending_fits.1 in omega (arith, ints)) in
    let more : c.with_more-credited.result ≡ receiving.balance +ℤ pos o.amount = c.with_more-credited.ensures
    (let low = receiving_fits.0 in let high = receiving_fits.1 in omega (arith, ints)) in
    let mark : c.next_mark-mark.result ≡ mark_of (book_of w) (o ∷ []) = c.next_mark-mark.ensures
    ∙ rw (of.marks, one_mark (book_of w) o taken_here.next direct) refl in
    rw (c.from_vec.ensures, c.in_ok-rows.ensures, mark) (to_prepared book r c.args.self.now.core of _ _ _
    (prepared_settled (held_of w) of.kept o taken_here sending receiving from_here to_here
    c.with_less-debited.result c.with_more-credited.result less more
    direct settles_here))

pub returns-clause-made : goal.returns-clause-made
returns-clause-made c room covers =
    let counted = c.counts_marks.ensures.0 (let test = c.if-not-counts_marks.false in grind (arith, nat_tests, test)) in
    let mark : c.args.self.now.core.next_mark < 2 ^ 63 = subst (λ n. n < 2 ^ 63)
    (ap (λ (h : Held). h.core.next_mark) c.self.view_is) (omega (arith, counted)) in
    rw (c.from_vec.ensures, c.in_ok-rows.ensures) (
      (c.requires.number, c.requires.few, λ e. absurd (cc), λ e. absurd (cc)),
      (mark, (tt, (tt, tt))),
    )
