-- Held orders, put in by their dates.
use Rattle.std.proofs.Common.{◌≡◌, ◌∙◌, ℕ, ◌<◌, ◌≤◌, ◌==◌, pos, ◌-ℤ◌, ◌≤ℤ◌, ◌↔◌, int_lt, nat_lt, Bool, true, false}
use Rattle.std.proofs.Common.{cond, ◌&&◌, List, [], ◌∷◌, ◌++◌, filter, fold, Option, Some, None, refl, sym, ap}
use Rattle.std.proofs.Common.{true≢false, append_assoc, arith}
use Rattle.std.proofs.lemmas.Int.{ints}
use Rattle.std.specs.List.{AllByRecursion}
use Rattle.std.specs.Str.{bytes_eq}
use Rattle.rtgs_lists.proofs.Bools.{and_left}
use Rattle.rtgs_lists.proofs.Filters.{filter_nothing}
use Rattle.rtgs_lists.proofs.Lists.{all_weaker}
use Rattle.rtgs_book.specs.Balance.{balance, floor}
use Rattle.rtgs_book.specs.Books.{is_held, is_held_state}
use Rattle.rtgs_book.specs.Settle.{today}
use Rattle.rtgs_book.specs.Soundness.{FitsDue, IsSound}
use Rattle.rtgs_book.specs.cores.Nexts.{AreDatedInOrder}
use Rattle.rtgs_book.specs.declared.book.Book.{Book}
use Rattle.rtgs_book.specs.declared.order.Order.{Order}
use Rattle.rtgs_book.specs.declared.order_state.OrderState.{OrderState}
use Rattle.rtgs_book.specs.declared.order_state.OrderState.TheVariants.{Queued, Held, Settled, Withdrawn, Rejected}
use Rattle.rtgs_desk.specs.Readings.{headroom, held, held_among, placed, short_by}

all_placed : (P : Order → Type 0) (sorted : List Order) (order : Order) → AllByRecursion P sorted → P order
    → AllByRecursion P (placed sorted order)
all_placed P [] order h p = (p, tt)
all_placed P (other ∷ others) order h p = by (nat_lt order.date other.date) (all_placed P others order h.1 p)
  where
    by : (b : Bool) → AllByRecursion P (placed others order)
        → AllByRecursion P (cond b (order ∷ other ∷ others) (other ∷ placed others order))
    by true rest = (p, h)
    by false rest = (h.0, rest)

all_put_in : (P : Order → Type 0) (sorted os : List Order) → AllByRecursion P sorted → AllByRecursion P os
    → AllByRecursion P (fold placed sorted os)
all_put_in P sorted [] h k = h
all_put_in P sorted (o ∷ os) h k = all_put_in P (placed sorted o) os (all_placed P sorted o h k.0) k.1

-- ---- their dates never fall

abbrev AreDated : List Order → Type 0
AreDated os = AreDatedInOrder (λ (o : Order). o.date) os

dated_placed : (sorted : List Order) (order : Order) → AreDated sorted → AreDated (placed sorted order)
dated_placed [] order h = (tt, tt)
dated_placed (other ∷ others) order h = by (nat_lt order.date other.date) refl (dated_placed others order h.1)
  where
    by : (b : Bool) → nat_lt order.date other.date ≡ b → AreDated (placed others order)
        → AreDated (cond b (order ∷ other ∷ others) (other ∷ placed others order))
    by true e rest =
        let less : order.date < other.date = grind arith in (
          (
            omega arith,
            all_weaker (λ (o : Order). other.date ≤ o.date) (λ (o : Order). order.date ≤ o.date)
                (λ o k. omega (arith, less, k)) others h.0,
          ),
          h,
        )
    by false e rest =
        let least : other.date ≤ order.date = grind arith in
        (all_placed (λ (o : Order). other.date ≤ o.date) others order h.0 least, rest)

dated_put_in : (sorted os : List Order) → AreDated sorted → AreDated (fold placed sorted os)
dated_put_in sorted [] h = h
dated_put_in sorted (o ∷ os) h = dated_put_in (placed sorted o) os (dated_placed sorted o h)

pub held_dated : (book : Book) (code : List ℕ) → AreDated (held book code)
unfolding held
held_dated book code = dated_put_in [] (held_among book.orders code) tt

-- ---- those of one date

abbrev is_of : ℕ → Order → Bool
is_of date o = o.date == date

none_later : (date : ℕ) (sorted : List Order) → AllByRecursion (λ (o : Order). date < o.date) sorted
    → filter (is_of date) sorted ≡ []
none_later date sorted later = filter_nothing (is_of date) sorted (all_weaker (λ (o : Order). date < o.date)
    (λ (o : Order). is_of date o ≡ false) (λ o k. grind arith) sorted later)

append_nil : (xs : List Order) → xs ++ [] ≡ xs
append_nil [] = refl
append_nil (x ∷ xs) = ap (λ l. x ∷ l) (append_nil xs)

of_date_placed : (date : ℕ) (sorted : List Order) (order : Order) → AreDated sorted
    → filter (is_of date) (placed sorted order) ≡ filter (is_of date) sorted ++ filter (is_of date) (order ∷ [])
of_date_placed date [] order h = refl
of_date_placed date (other ∷ others) order h =
    by (nat_lt order.date other.date) refl (of_date_placed date others order h.1)
  where
    -- the order stands first, before later ones
    first : (b : Bool) → is_of date order ≡ b → order.date < other.date
        → cond b (order ∷ filter (is_of date) (other ∷ others)) (filter (is_of date) (other ∷ others))
        ≡ filter (is_of date) (other ∷ others) ++ cond b (order ∷ []) []
    first true e less =
        let same : order.date ≡ date = grind arith in
        let later = none_later date (other ∷ others) (
          omega (arith, same, less),
          all_weaker (λ (o : Order). other.date ≤ o.date) (λ (o : Order). date < o.date)
              (λ o k. omega (arith, same, less, k)) others h.0,
        ) in
        rw later refl
    first false e less = sym (append_nil (filter (is_of date) (other ∷ others)))

    behind : (c : Bool) → filter (is_of date) (placed others order)
        ≡ filter (is_of date) others ++ filter (is_of date) (order ∷ [])
        → cond c (other ∷ filter (is_of date) (placed others order)) (filter (is_of date) (placed others order))
        ≡ cond c (other ∷ filter (is_of date) others) (filter (is_of date) others) ++ filter (is_of date) (order ∷ [])
    behind true rest = ap (λ l. other ∷ l) rest
    behind false rest = rest

    by : (b : Bool) → nat_lt order.date other.date ≡ b → filter (is_of date) (placed others order)
        ≡ filter (is_of date) others ++ filter (is_of date) (order ∷ [])
        → filter (is_of date) (cond b (order ∷ other ∷ others) (other ∷ placed others order))
        ≡ filter (is_of date) (other ∷ others) ++ filter (is_of date) (order ∷ [])
    by true e rest = let less : order.date < other.date = grind arith in first (is_of date order) refl less
    by false e rest = behind (is_of date other) rest

-- the order's, and then those of the others
of_date_more : (date : ℕ) (o : Order) (os : List Order)
    → filter (is_of date) (o ∷ []) ++ filter (is_of date) os ≡ filter (is_of date) (o ∷ os)
of_date_more date o os = by (is_of date o)
  where
    by : (b : Bool) → cond b (o ∷ []) [] ++ filter (is_of date) os
        ≡ cond b (o ∷ filter (is_of date) os) (filter (is_of date) os)
    by true = refl
    by false = refl

of_date_put_in : (date : ℕ) (sorted os : List Order) → AreDated sorted
    → filter (is_of date) (fold placed sorted os) ≡ filter (is_of date) sorted ++ filter (is_of date) os
of_date_put_in date sorted [] h = sym (append_nil (filter (is_of date) sorted))
of_date_put_in date sorted (o ∷ os) h =
    of_date_put_in date (placed sorted o) os (dated_placed sorted o h)
    ∙ ap (λ l. l ++ filter (is_of date) os) (of_date_placed date sorted o h)
    ∙ append_assoc (filter (is_of date) sorted) (filter (is_of date) (o ∷ [])) (filter (is_of date) os)
    ∙ ap (λ l. filter (is_of date) sorted ++ l) (of_date_more date o os)

pub held_of_date : (book : Book) (code : List ℕ) (date : ℕ) → filter (is_of date) (held book code)
    ≡ filter (is_of date) (held_among book.orders code)
unfolding held
held_of_date book code date = of_date_put_in date [] (held_among book.orders code) tt

-- ---- their due dates

due_is : (today date : ℕ) (due : Option ℕ) (s : OrderState) → FitsDue today due date s → is_held_state s ≡ true
    → due ≡ Some date
due_is today date None s fits e = absurd (true≢false (sym e ∙ fits))
due_is today date (Some due) Held fits e = ap Some (sym fits.2.0)
due_is today date (Some due) Queued fits e = absurd (true≢false (sym e))
due_is today date (Some due) (Settled mark) fits e = absurd (true≢false (sym e))
due_is today date (Some due) Withdrawn fits e = absurd (true≢false (sym e))
due_is today date (Some due) Rejected fits e = absurd (true≢false (sym e))

-- what is taken passes, and is as all are
taken : (P Q : Order → Type 0) (p : Order → Bool) → ((o : Order) → P o → p o ≡ true → Q o) → (os : List Order)
    → AllByRecursion P os → AllByRecursion Q (filter p os)
taken P Q p goes [] h = tt
taken P Q p goes (o ∷ os) h = by (p o) refl (taken P Q p goes os h.1)
  where
    by : (b : Bool) → p o ≡ b → AllByRecursion Q (filter p os)
        → AllByRecursion Q (cond b (o ∷ filter p os) (filter p os))
    by true e rest = (goes o h.0 e, rest)
    by false e rest = rest

pub held_due : (book : Book) (code : List ℕ) → IsSound book
    → AllByRecursion (λ (o : Order). o.due ≡ Some o.date) (held book code)
unfolding held
held_due book code sound = all_put_in (λ (o : Order). o.due ≡ Some o.date) [] (held_among book.orders code) tt
    (taken (λ (o : Order). FitsDue (today book) o.due o.date o.state) (λ (o : Order). o.due ≡ Some o.date)
    (λ (o : Order). is_held o && bytes_eq o.sender code)
    (λ o fits e. due_is (today book) o.date o.due o.state fits (and_left (is_held o) (bytes_eq o.sender code) e))
    book.orders sound.dates.dues)

-- ---- cover

pub lacks_nothing : (book : Book) (code : List ℕ) (order : Order)
    → (short_by (headroom book code) (Some order) ≡ pos 0)
    ↔ (floor book code ≤ℤ (balance book code -ℤ pos order.amount))
lacks_nothing book code order = by (int_lt (headroom book code) (pos order.amount)) refl
  where
    by : (b : Bool) → int_lt (headroom book code) (pos order.amount) ≡ b
        → (cond b (pos order.amount -ℤ headroom book code) (pos 0) ≡ pos 0)
        ↔ (floor book code ≤ℤ (balance book code -ℤ pos order.amount))
    by true e = (λ none. omega (arith, ints), λ covered. absurd (omega (arith, ints)))
    by false e = (λ none. omega (arith, ints), λ covered. refl)
