use Rattle.std.proofs.Common.{◌≡◌, ◌∙◌, ◌≤◌, ℕ, ℤ, pos, neg_ℤ, ◌-ℤ◌, Bool, true, false, cond, List, Some, None, find}
use Rattle.std.proofs.Common.{FitsSigned, w64, of_z, to_z, refl, sym, ap, subst, arith, option_map}
use Rattle.std.proofs.lemmas.Int.{ints, to_z-of_z}
use Rattle.rtgs_lists.proofs.Finds.{all_found}
use Rattle.rtgs_money.specs.declared.credit.TheConstants.Credit as Credit
use Rattle.rtgs_money.specs.Amounts.{IsCredit}
use Rattle.rtgs_book.specs.declared.book.Book.{Book}
use Rattle.rtgs_book.specs.declared.limits.TheConstants.{LARGEST_BALANCE}
use Rattle.rtgs_book.specs.declared.participant.Participant.{Participant}
use Rattle.rtgs_book.specs.Balance.{balance, floor}
use Rattle.rtgs_book.specs.Books.{is_closed}
use Rattle.rtgs_book.specs.Lookup.{credit_of, has_code, participant_of}
use Rattle.rtgs_book.specs.Totals.{Within}
use Rattle.rtgs_records.specs.accounts.Accounts.{is_of, participant_in}
use Rattle.rtgs_ledger.proofs.Kept.{balance_at, balance_fits, find-participants, floor_at, is_unknown, participant_none}
use Rattle.rtgs_ledger.proofs.Whole.{book_of, is_of_book, whole}
use Rattle.rtgs_ledger.proofs.ledger.Ledger.headroom.Goals as goal

-- who has no account has no credit
no_floor : (book : Book) (code : List ℕ) → participant_of book code ≡ None → floor book code ≡ pos 0
unfolding floor credit_of
no_floor book code none = rw none (by (is_closed book.day.phase))
  where
    by : (b : Bool) → cond b (pos 0) (neg_ℤ (pos 0)) ≡ pos 0
    by true = refl
    by false = refl

floor_fits : (b : Bool) (credit : ℕ) → credit ≤ Credit.MAX → FitsSigned w64 (cond b (pos 0) (neg_ℤ (pos credit)))
floor_fits true credit few = omega (arith, ints)
floor_fits false credit few = omega (arith, ints)

room_fits : (b : Bool) (credit : ℕ) (money : ℤ) → Within LARGEST_BALANCE money → credit ≤ Credit.MAX
    → FitsSigned w64 (money -ℤ cond b (pos 0) (neg_ℤ (pos credit)))
room_fits true credit money small few = let low = small.0 in let high = small.1 in omega (arith, ints)
room_fits false credit money small few = let low = small.0 in let high = small.1 in omega (arith, ints)

pub returns-in_default : goal.returns-in_default
returns-in_default c book is =
    let of = is_of_book book c.self.inside.records c.args.self.now c.self.view_is is in
    let w = whole book c.self.inside.records in
    let code = c.args.code.now in
    let none : find (is_of code) w.accounts.accounts ≡ None = sym c.get.ensures ∙ c.in_default.is in
    let nothing : balance (book_of w) code ≡ pos 0 =
    c.balance_of_unknown_code.ensures (book_of w) code of.kept.sound (is_unknown w of.kept code none) in
    let lowest : floor (book_of w) code ≡ pos 0 = no_floor (book_of w) code (participant_none w of.kept code none) in
    let here : c.new.result ≡ balance (book_of w) code -ℤ floor (book_of w) code =
    rw (nothing, lowest) c.new.ensures in
    subst (λ (b : Book). c.new.result ≡ balance b code -ℤ floor b code) of.same here

pub returns : goal.returns
returns c book is =
    let of = is_of_book book c.self.inside.records c.args.self.now c.self.view_is is in
    let w = whole book c.self.inside.records in
    let code = c.args.code.now in
    let a = c.in-Some.account in
    let found : find (is_of code) w.accounts.accounts ≡ Some a = sym c.get.ensures ∙ c.in-Some.is in
    let balanced : a.balance ≡ balance (book_of w) code = balance_at w of.kept code a found in
    let is_floor : c.floor.result ≡ cond (is_closed w.day.phase) (pos 0) (neg_ℤ (pos a.participant.credit)) =
    c.floor.ensures in
    let small : Within LARGEST_BALANCE a.balance =
    balance_fits w of.kept (c.balances_are_small.ensures (book_of w) of.kept.sound of.kept.fits) code a found in
    let few : IsCredit a.participant.credit = all_found (λ (p : Participant). IsCredit p.credit) (has_code code)
    (book_of w).participants a.participant of.kept.fits.credits
    (find-participants code w.accounts.accounts ∙ ap (option_map participant_in) found) in
    let passed : to_z w64 (of_z w64 c.floor.result) ≡ c.floor.result = to_z-of_z w64 c.floor.result
    (rw is_floor (floor_fits (is_closed w.day.phase) a.participant.credit few)) in
    let same : c.new-floor.result ≡ c.floor.result = cc (c.new-floor.ensures, passed) in
    let lowest : c.new-floor.result ≡ floor (book_of w) code =
    same ∙ is_floor ∙ sym (floor_at w of.kept code a found) in
    let fits : FitsSigned w64 (a.balance -ℤ c.new-floor.result) = rw (same, is_floor)
    (room_fits (is_closed w.day.phase) a.participant.credit a.balance small few) in
    let here : c.above.result ≡ balance (book_of w) code -ℤ floor (book_of w) code =
    c.above.ensures fits ∙ (λ j. balanced j -ℤ lowest j) in
    subst (λ (b : Book). c.above.result ≡ balance b code -ℤ floor b code) of.same here
