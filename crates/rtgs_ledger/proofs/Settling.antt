-- Accounts while orders are settled one after another.
use Rattle.std.proofs.Common.{◌≡◌, ℕ, ◌+◌, ◌*◌, ◌^◌, ◌≤◌, pos, ◌+ℤ◌, ◌-ℤ◌, Bool, true, false, cond, List, []}
use Rattle.std.proofs.Common.{◌∷◌, ◌++◌, map, refl, sym, subst, arith}
use Rattle.std.proofs.lemmas.Int.{ints}
use Rattle.std.specs.List.{AllByRecursion}
use Rattle.std.specs.Str.{bytes_eq}
use Rattle.rtgs_money.specs.declared.amount.TheConstants.Amount as Amount
use Rattle.rtgs_book.specs.declared.book.Book.{Book}
use Rattle.rtgs_book.specs.declared.order.Order.{Order}
use Rattle.rtgs_book.specs.declared.participant.Participant.{Participant}
use Rattle.rtgs_book.specs.Balance.{gain, balance}
use Rattle.rtgs_book.specs.IntSum.{int_sum_by}
use Rattle.rtgs_book.specs.Totals.{Within}
use Rattle.rtgs_book.specs.declared.account.Account.{Account}
use Rattle.rtgs_book.specs.declared.limits.TheConstants.{MOST_QUEUED, LARGEST_BALANCE}
use Rattle.rtgs_records.specs.accounts.Accounts.{code_of, participant_in, after_order}
use Rattle.rtgs_ledger.specs.Resolving.{AreSmall, after_orders}
use Rattle.rtgs_book.specs.cores.Following.{AreBalanced}
use Rattle.rtgs_lists.proofs.Lists.{all_weaker}
use Rattle.rtgs_lists.proofs.Sums.{int_sum_by-append}

-- ---- orders one after another

after_more : (os : List Order) (o : Order) (a : Account) → after_order o (after_orders os a)
    ≡ after_orders (os ++ o ∷ []) a
after_more os o a =
    let sum = int_sum_by-append (gain (code_of a)) os (o ∷ []) in
    let same : (a.balance +ℤ int_sum_by (gain (code_of a)) os) +ℤ gain (code_of a) o
    ≡ a.balance +ℤ int_sum_by (gain (code_of a)) (os ++ o ∷ []) = omega (arith, ints) in
    λ i. record a { balance = same i }

pub all_after_more : (os : List Order) (o : Order) (xs : List Account)
    → map (after_order o) (map (after_orders os) xs) ≡ map (after_orders (os ++ o ∷ [])) xs
all_after_more os o [] = refl
all_after_more os o (x ∷ xs) = λ i. after_more os o x i ∷ all_after_more os o xs i

pub all_after_none : (xs : List Account) → xs ≡ map (after_orders []) xs
all_after_none [] = refl
all_after_none (x ∷ xs) = let same : x.balance ≡ x.balance +ℤ pos 0 = omega (arith, ints)
    in λ i. record x { balance = same i } ∷ all_after_none xs i

gain_is_small : (code : List ℕ) (o : Order) → o.amount ≤ Amount.MAX → Within Amount.MAX (gain code o)
unfolding gain
gain_is_small code o small = by (bytes_eq o.receiver code) (bytes_eq o.sender code)
  where
    by : (r s : Bool) → Within Amount.MAX (cond r (pos o.amount) (pos 0) -ℤ cond s (pos o.amount) (pos 0))
    by true true = (omega (arith, ints), omega (arith, ints))
    by true false = (omega (arith, ints), omega (arith, ints))
    by false true = (omega (arith, ints), omega (arith, ints))
    by false false = (omega (arith, ints), omega (arith, ints))

-- so far the balances have moved by one amount for each order at most
abbrev pub AreNear : ℕ → List Account → Type 0
AreNear orders xs = AllByRecursion (λ a. Within (LARGEST_BALANCE + orders * Amount.MAX) a.balance) xs

pub near_more : (n : ℕ) (o : Order) → o.amount ≤ Amount.MAX → (xs : List Account) → AreNear n xs
    → AreNear (n + 1) (map (after_order o) xs)
near_more n o small [] h = tt
near_more n o small (x ∷ xs) h =
    let by = gain_is_small (code_of x) o small in
    let low = h.0.0 in
    let high = h.0.1 in
    let least = by.0 in
    let most = by.1 in
    ((omega (arith, ints), omega (arith, ints)), near_more n o small xs h.1)

pub near_is_small : (n : ℕ) → n ≤ MOST_QUEUED → (xs : List Account) → AreNear n xs
    → AllByRecursion (λ a. Within (10 ^ 18) a.balance) xs
near_is_small n few = all_weaker (λ a. Within (LARGEST_BALANCE + n * Amount.MAX) a.balance)
    (λ a. Within (10 ^ 18) a.balance) (λ a h. let low = h.0 in let high = h.1
    in (omega (arith, ints), omega (arith, ints)))

pub near_small : (xs : List Account) → AreSmall xs → AreNear 0 xs
near_small = all_weaker (λ (a : Account). Within LARGEST_BALANCE a.balance)
    (λ (a : Account). Within (LARGEST_BALANCE + 0 * Amount.MAX) a.balance) (λ a h. let low = h.0 in let high = h.1
    in (omega (arith, ints), omega (arith, ints)))

-- so it is in a sound book
pub small_of : (book : Book) (xs : List Account) → AreBalanced book xs
    → AllByRecursion (λ code. Within LARGEST_BALANCE (balance book code))
    (map (λ (p : Participant). p.code) (map participant_in xs)) → AreSmall xs
small_of book [] h small = tt
small_of book (x ∷ xs) h small = (subst (Within LARGEST_BALANCE) (sym h.0) small.0, small_of book xs h.1 small.1)
