-- Accounts while an order is settled.
use Rattle.std.proofs.Common.{◌≡◌, ℕ, ◌^◌, ◌≤◌, ℤ, pos, neg_ℤ, ◌+ℤ◌, ◌-ℤ◌, Bool, true, false, cond, List, [], ◌∷◌, map}
use Rattle.std.proofs.Common.{refl, arith}
use Rattle.std.proofs.lemmas.Int.{ints}
use Rattle.std.specs.Prelude.{FitsSigned}
use Rattle.std.specs.Int.{w64}
use Rattle.std.specs.List.{AllByRecursion}
use Rattle.rtgs_money.specs.declared.amount.TheConstants.Amount as Amount
use Rattle.rtgs_book.specs.declared.account.Account.{Account}
use Rattle.rtgs_book.specs.declared.order.Order.{Order}
use Rattle.rtgs_book.specs.Balance.{gain}
use Rattle.rtgs_book.specs.Totals.{Within}
use Rattle.rtgs_records.specs.accounts.Accounts.{after_order, code_of, is_of, move, with_move}
use Rattle.rtgs_lists.proofs.Codes.{bytes_eq_comm}
use Rattle.rtgs_lists.proofs.Lists.{all_weaker}

moves_once : (o : Order) (less more : ℤ) → less ≡ neg_ℤ (pos o.amount) → more ≡ pos o.amount → (a : Account)
    → move o.receiver more (move o.sender less a) ≡ after_order o a
unfolding gain
moves_once o less more e f a = by (is_of o.sender a) (is_of o.receiver a) refl refl
  where
    by : (s r : Bool) → is_of o.sender a ≡ s → is_of o.receiver a ≡ r
        → move o.receiver more (move o.sender less a) ≡ after_order o a
    by true true g h =
        let same : a.balance +ℤ less +ℤ more ≡ a.balance +ℤ (pos o.amount -ℤ pos o.amount) = omega (arith, ints) in
        rw (bytes_eq_comm o.receiver (code_of a), bytes_eq_comm o.sender (code_of a), g, h)
        (λ i. record a { balance = same i })
    by true false g h =
        let same : a.balance +ℤ less ≡ a.balance +ℤ (pos 0 -ℤ pos o.amount) = omega (arith, ints) in
        rw (bytes_eq_comm o.receiver (code_of a), bytes_eq_comm o.sender (code_of a), g, h)
        (λ i. record a { balance = same i })
    by false true g h =
        let same : a.balance +ℤ more ≡ a.balance +ℤ (pos o.amount -ℤ pos 0) = omega (arith, ints) in
        rw (bytes_eq_comm o.receiver (code_of a), bytes_eq_comm o.sender (code_of a), g, h)
        (λ i. record a { balance = same i })
    by false false g h =
        let same : a.balance ≡ a.balance +ℤ (pos 0 -ℤ pos 0) = omega (arith, ints) in
        rw (bytes_eq_comm o.receiver (code_of a), bytes_eq_comm o.sender (code_of a), g, h)
        (λ i. record a { balance = same i })

pub moves_all : (o : Order) (less more : ℤ) → less ≡ neg_ℤ (pos o.amount) → more ≡ pos o.amount → (xs : List Account)
    → with_move o.receiver more (with_move o.sender less xs) ≡ map (after_order o) xs
moves_all o less more e f [] = refl
moves_all o less more e f (x ∷ xs) = λ i. moves_once o less more e f x i ∷ moves_all o less more e f xs i

-- a balance within the bound takes or gives one amount more
pub fits_less : (n : ℕ) → n ≤ Amount.MAX → (less : ℤ) → less ≡ neg_ℤ (pos n) → (xs : List Account)
    → AllByRecursion (λ a. Within (10 ^ 18) a.balance) xs → AllByRecursion (λ a. FitsSigned w64 (a.balance +ℤ less)) xs
fits_less n small less e = all_weaker (λ a. Within (10 ^ 18) a.balance) (λ a. FitsSigned w64 (a.balance +ℤ less))
    (λ a h. omega (arith, ints))

pub fits_more : (code : List ℕ) (n : ℕ) → n ≤ Amount.MAX → (less more : ℤ) → less ≡ neg_ℤ (pos n) → more ≡ pos n
    → (xs : List Account) → AllByRecursion (λ a. Within (10 ^ 18) a.balance) xs
    → AllByRecursion (λ a. FitsSigned w64 (a.balance +ℤ more)) (with_move code less xs)
fits_more code n small less more e f [] h = tt
fits_more code n small less more e f (x ∷ xs) h = (by (is_of code x), fits_more code n small less more e f xs h.1)
  where
    by : (t : Bool) → FitsSigned w64 ((cond t (record x { balance = x.balance +ℤ less }) x).balance +ℤ more)
    by true = let low = h.0.0 in let high = h.0.1 in omega (arith, ints)
    by false = let low = h.0.0 in let high = h.0.1 in omega (arith, ints)
