-- Sums of stored balances.
use Rattle.std.proofs.Common.{◌≡◌, ℕ, ◌+◌, ℤ, pos, negsuc, ◌+ℤ◌, List, [], ◌∷◌, map, sum_by, refl, sym, ap, ap₂, ◌∙◌}
use Rattle.std.proofs.Common.{arith}
use Rattle.std.proofs.lemmas.Int.{ints}
use Rattle.std.proofs.lemmas.List.Sorted.{sum_by-IsPermutation}
use Rattle.std.proofs.lemmas.List.Sums.{sum_by-cons}
use Rattle.std.specs.List.{AllByRecursion}
use Rattle.std.specs.List.Sorted.{IsPermutation}
use Rattle.rtgs_book.specs.declared.book.Book.{Book}
use Rattle.rtgs_book.specs.declared.participant.Participant.{Participant}
use Rattle.rtgs_book.specs.Balance.{balance}
use Rattle.rtgs_book.specs.IntSum.{int_sum_by}
use Rattle.sqlite.specs.Order.{Row}
use Rattle.sqlite.specs.Tree.{Trees}
use Rattle.rtgs_book.specs.declared.posting.Posting.{Posting}
use Rattle.rtgs_rows.specs.Rows.{posting_row}
use Rattle.rtgs_rows.specs.Content.{Holding, Content, holding_row, Holds, rows_in}
use Rattle.rtgs_rows.specs.Keeping.{AddsUp}
use Rattle.rtgs_rows.specs.Tables.{participant_table, posting_table}

-- what a number is above zero, and below it
abbrev up : ℤ → ℕ
up (pos n) = n
up (negsuc n) = 0

abbrev down : ℤ → ℕ
down (pos n) = 0
down (negsuc n) = n + 1

apart : (z : ℤ) → z +ℤ pos (down z) ≡ pos (up z)
apart (pos n) = omega (arith, ints)
apart (negsuc n) = omega (arith, ints)

plus : (a b : ℤ) (u v m n : ℕ) → a +ℤ pos u ≡ pos m → b +ℤ pos v ≡ pos n → (a +ℤ b) +ℤ pos (u + v) ≡ pos (m + n)
plus a b u v m n one other = omega (arith, ints)

parts : {X : Type 0} (f : X → ℤ) (xs : List X) → int_sum_by f xs +ℤ pos (sum_by (λ x. down (f x)) xs)
    ≡ pos (sum_by (λ x. up (f x)) xs)
parts f [] = refl
parts f (x ∷ xs) = rw (sum_by-cons (λ x. down (f x)) x xs, sum_by-cons (λ x. up (f x)) x xs)
    (plus (f x) (int_sum_by f xs) (down (f x)) (sum_by (λ x. down (f x)) xs) (up (f x)) (sum_by (λ x. up (f x)) xs)
    (apart (f x)) (parts f xs))

-- a sum does not depend on the order
pub int_sum_by-permuted : {X : Type 0} (f : X → ℤ) (xs ys : List X) → IsPermutation xs ys
    → int_sum_by f ys ≡ int_sum_by f xs
int_sum_by-permuted f xs ys p =
    let above = sum_by-IsPermutation (λ x. up (f x)) xs ys p in
    let below = sum_by-IsPermutation (λ x. down (f x)) xs ys p in
    let one = parts f xs in
    let other = parts f ys in
    omega (arith, ints)

-- stored balances that are the book's add up as these do
pub stored_sum : (book : Book) (hs : List Holding) → AllByRecursion
    (λ (h : Holding). h.balance ≡ balance book h.participant.code) hs
    → int_sum_by (λ (h : Holding). h.balance) hs ≡ int_sum_by (balance book)
    (map (λ (p : Participant). p.code) (map (λ (h : Holding). h.participant) hs))
stored_sum book [] all = refl
stored_sum book (h ∷ hs) all = let here = all.0 in let rest = stored_sum book hs all.1 in omega (arith, ints)

-- rows that are equal have equal sums
sums_once : {X : Type 0} (row : X → Row) (f : X → ℤ) → ((a b : X) → row a ≡ row b → f a ≡ f b) → (xs ys : List X)
    → map row xs ≡ map row ys → int_sum_by f xs ≡ int_sum_by f ys
sums_once row f once [] [] e = refl
sums_once row f once [] (y ∷ ys) e = absurd cc
sums_once row f once (x ∷ xs) [] e = absurd cc
sums_once row f once (x ∷ xs) (y ∷ ys) e =
    let head : row x ≡ row y = cc in
    let tail : map row xs ≡ map row ys = cc in
    ap₂ ◌+ℤ◌ (once x y head) (sums_once row f once xs ys tail)

balance_once : (a b : Holding) → holding_row a ≡ holding_row b → a.balance ≡ b.balance
balance_once a b e = cc

cents_once : (a b : Posting) → posting_row a ≡ posting_row b → a.cents ≡ b.cents
cents_once a b e = cc

-- whatever records tables are read as, the sums are the same
pub adds_up_alike : (trees : Trees) (one other : Content) → Holds one trees → Holds other trees → AddsUp one
    → AddsUp other
adds_up_alike trees one other first second sums =
    let same = sym second.rows ∙ first.rows in
    let balances = sums_once holding_row (λ (h : Holding). h.balance) balance_once other.holdings one.holdings
    (ap (rows_in participant_table) same) in
    let cents = sums_once posting_row (λ (p : Posting). p.cents) cents_once other.postings one.postings
    (ap (rows_in posting_table) same) in
    balances ∙ sums ∙ sym cents
