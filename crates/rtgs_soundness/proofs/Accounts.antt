-- The balances of a book's participants, as a map holds them.
use Rattle.std.proofs.Common.{◌≡◌, ◌<◌, ◌||◌, ℕ, suc, zero, ℤ, Bool, true, false, List, [], ◌∷◌, map, length, get_or}
use Rattle.std.proofs.Common.{Some, Ordering, Less, Equal, Greater, refl, sym, ◌∙◌, arith}
use Rattle.std.proofs.lemmas.Int.{ints}
use Rattle.std.specs.Prelude.{FitsSigned}
use Rattle.std.specs.Int.{w64}
use Rattle.std.specs.List.{list_any, AllByRecursion}
use Rattle.std.specs.BTreeMap.{BTreeMap, get}
use Rattle.std.specs.Ordering.{nat_cmp, is_eq, eq_by_cmp, ordering_reverse}
use Rattle.std.specs.Cmp.Lexicographic.{slice_cmp, nat_list_cmp_total}
use Rattle.rtgs_book.specs.declared.account.Account.{Account}
use Rattle.rtgs_book.specs.declared.book.Book.{Book}
use Rattle.rtgs_book.specs.declared.participant.Participant.{Participant}
use Rattle.rtgs_book.specs.declared.limits.TheConstants.{LARGEST_BALANCE}
use Rattle.rtgs_book.specs.Balance.{balance}
use Rattle.rtgs_book.specs.Laws.{BalancesFit}
use Rattle.rtgs_book.specs.Lookup.{codes_of}
use Rattle.rtgs_book.specs.Totals.{Totals, Within}
use Rattle.rtgs_book.specs.cores.Cores.{account_of}

self_equal : (a : List ℕ) → is_eq (slice_cmp nat_cmp a a) ≡ true
self_equal a = by (slice_cmp nat_cmp a a) (nat_list_cmp_total.antisymm a a)
  where
    by : (o : Ordering) → o ≡ ordering_reverse o → is_eq o ≡ true
    by Less e = absurd (cc)
    by Equal e = refl
    by Greater e = absurd (cc)

abbrev code_at : List Participant → ℕ → Participant → List ℕ
code_at ps i d = (get_or ps i d).code

member_at : (ps : List Participant) (i : ℕ) (d : Participant) → i < length ps
    → list_any (eq_by_cmp (slice_cmp nat_cmp) (code_at ps i d)) (map (λ (p : Participant). p.code) ps) ≡ true
member_at [] i d lt = absurd (omega arith)
member_at (p ∷ ps) zero d lt = rw (self_equal p.code) refl
member_at (p ∷ ps) (suc i) d lt = by (eq_by_cmp (slice_cmp nat_cmp) (code_at ps i d) p.code)
    (member_at ps i d (omega arith))
  where
    by : (b : Bool) → list_any (eq_by_cmp (slice_cmp nat_cmp) (code_at ps i d)) (map (λ (p : Participant). p.code) ps)
        ≡ true → (b || list_any (eq_by_cmp (slice_cmp nat_cmp) (code_at ps i d)) (map (λ (p : Participant). p.code) ps))
        ≡ true
    by true e = refl
    by false e = e

all_codes_at : (P : List ℕ → Type 0) (ps : List Participant) (i : ℕ) (d : Participant) → i < length ps
    → AllByRecursion P (map (λ (p : Participant). p.code) ps) → P (code_at ps i d)
all_codes_at P [] i d lt h = absurd (omega arith)
all_codes_at P (p ∷ ps) zero d lt h = h.0
all_codes_at P (p ∷ ps) (suc i) d lt h = all_codes_at P ps i d (omega arith) h.1

module _ (book : Book) (balances : BTreeMap (List ℕ) ℤ) (totals : Totals (slice_cmp nat_cmp) (codes_of book)
    (balance book) balances) (i : ℕ) (d : Participant) (within : i < length book.participants) where
  there : get (slice_cmp nat_cmp) balances (code_at book.participants i d)
      ≡ Some (balance book (code_at book.participants i d))
  unfolding codes_of
  there = rw (totals (code_at book.participants i d), member_at book.participants i d within) refl

  there_fits : BalancesFit book → Within LARGEST_BALANCE (balance book (code_at book.participants i d))
  unfolding codes_of
  there_fits small = all_codes_at (λ c. Within LARGEST_BALANCE (balance book c)) book.participants i d within
      small

  -- the participant's balance is there, and it fits
  pub has_balance : BalancesFit book → (z : ℤ)
      × (get (slice_cmp nat_cmp) balances (code_at book.participants i d) ≡ Some z) × FitsSigned w64 z
  has_balance small =
      let low = (there_fits small).0 in
      let high = (there_fits small).1 in
      (balance book (code_at book.participants i d), there, omega (arith, ints))

  -- and what has it is the participant's account
  pub is_account : (a : Account) → a.participant ≡ get_or book.participants i d
      → get (slice_cmp nat_cmp) balances (code_at book.participants i d) ≡ Some a.balance
      → a ≡ account_of book (get_or book.participants i d)
  is_account a same found =
      let is : Some a.balance ≡ Some (balance book (code_at book.participants i d)) = sym found ∙ there in
      let balanced : a.balance ≡ balance book (code_at book.participants i d) = cc in
      λ k. record { participant = same k; balance = balanced k }
