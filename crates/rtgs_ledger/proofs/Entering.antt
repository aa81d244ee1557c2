-- Rows by which held orders enter their queues, one by one, come to letting them in together.
use Rattle.std.proofs.Common.{◌≡◌, ℕ, ◌==◌, Bool, true, false, cond, ◌&&◌, ◌||◌, List, [], ◌∷◌, map, filter, refl, sym}
use Rattle.std.proofs.Common.{ap, ◌∙◌, true≢false, find, Some, arith}
use Rattle.std.proofs.lemmas.Bool.Decides.{nat_tests}
use Rattle.std.specs.List.{AllByRecursion, list_any}
use Rattle.rtgs_book.specs.declared.book.Book.{Book}
use Rattle.rtgs_book.specs.declared.order.Order.{Order}
use Rattle.rtgs_book.specs.declared.change.RowChange.{RowChange}
use Rattle.rtgs_book.specs.declared.change.RowChange.TheVariants.{EnterQueue}
use Rattle.rtgs_book.specs.Books.{is_held}
use Rattle.rtgs_book.specs.Changes.{changed}
use Rattle.rtgs_book.specs.Commands.{entered, has_number, is_due, is_due_by, is_held_with, let_in}
use Rattle.rtgs_book.specs.Soundness.{OrdersAreNumbered}
use Rattle.rtgs_records.specs.queues.Laws.{NumbersLeadToOrders}
use Rattle.rtgs_ledger.proofs.Withdrawing.{alone_in_number}
use Rattle.rtgs_lists.proofs.Lists.{all_weaker}
use Rattle.rtgs_lists.proofs.Numbers.{eq_self}
use Rattle.rtgs_book.specs.Settle.{altered}

-- the orders with these numbers enter their queues
abbrev pub enter_rows : ℕ → List ℕ → List RowChange
enter_rows date numbers = map (λ n. EnterQueue n date) numbers

-- the order is held, and has one of these numbers
abbrev pub is_held_among : List ℕ → Order → Bool
is_held_among numbers o = is_held o && list_any (λ n. has_number n o) numbers

-- what a first entry does to an order, and then the others
one_first : (date n : ℕ) (ns : List ℕ) (o : Order)
    → altered (is_held_among ns) (entered date) (altered (is_held_with n) (entered date) o)
    ≡ altered (is_held_among (n ∷ ns)) (entered date) o
one_first date n ns o = by (is_held o) refl (has_number n o) refl
  where
    by : (h : Bool) → is_held o ≡ h → (m : Bool) → has_number n o ≡ m
        → altered (is_held_among ns) (entered date) (altered (is_held_with n) (entered date) o)
        ≡ altered (is_held_among (n ∷ ns)) (entered date) o
    by true e true f = rw (e, f) refl
    by true e false f = rw (e, f, e) refl
    by false e m f = rw (e, e) refl

map_each : {X Y Z : Type 0} (f : X → Y) (g : Y → Z) (h : X → Z) → ((x : X) → g (f x) ≡ h x) → (xs : List X)
    → map g (map f xs) ≡ map h xs
map_each f g h same [] = refl
map_each f g h same (x ∷ xs) = λ i. same x i ∷ map_each f g h same xs i

none_among : (date : ℕ) (os : List Order) → map (altered (is_held_among []) (entered date)) os ≡ os
none_among date [] = refl
none_among date (o ∷ os) = λ i. by (is_held o) i ∷ none_among date os i
  where
    by : (h : Bool) → cond (h && false) (entered date o) o ≡ o
    by true = refl
    by false = refl

pub entries_one_by_one : (date : ℕ) (numbers : List ℕ) (book : Book)
    → changed book (enter_rows date numbers) ≡ let_in book (is_held_among numbers) date
unfolding let_in
entries_one_by_one date [] book = sym (λ i. record book { orders = none_among date book.orders i })
entries_one_by_one date (n ∷ ns) book =
    entries_one_by_one date ns (let_in book (is_held_with n) date)
    ∙ (λ i. record book {
      orders = map_each (altered (is_held_with n) (entered date))
          (altered (is_held_among ns) (entered date)) (altered (is_held_among (n ∷ ns)) (entered date))
          (one_first date n ns) book.orders i;
    })

-- ---- the held orders that are due are those with their numbers

tests_agree : (p q : Order → Bool) (date : ℕ) (os : List Order) → AllByRecursion (λ o. p o ≡ q o) os
    → map (altered p (entered date)) os ≡ map (altered q (entered date)) os
tests_agree p q date [] h = refl
tests_agree p q date (o ∷ os) h = λ i. cond (h.0 i) (entered date o) o ∷ tests_agree p q date os h.1 i

-- an order that passes the test is among those with the numbers of such
found_among : (q p : Order → Bool) (o : Order) (os : List Order) → find p os ≡ Some o → q o ≡ true
    → list_any (λ n. has_number n o) (map (λ (x : Order). x.number) (filter q os)) ≡ true
found_among q p o [] f e = absurd (cc)
found_among q p o (x ∷ os) f e = by (p x) (q x) refl f (λ g. found_among q p o os g e)
  where
    or_right : (a b : Bool) → b ≡ true → (a || b) ≡ true
    or_right true b e = refl
    or_right false b e = e

    by : (a b : Bool) → q x ≡ b → cond a (Some x) (find p os) ≡ Some o
        → (find p os ≡ Some o → list_any (λ n. has_number n o) (map (λ (y : Order). y.number) (filter q os)) ≡ true)
        → list_any (λ n. has_number n o) (map (λ (y : Order). y.number) (cond b (x ∷ filter q os) (filter q os))) ≡ true
    by true true is g rest =
        let same : x ≡ o = cc in
        rw (ap (λ (y : Order). y.number) same, eq_self o.number) refl
    by true false is g rest = let same : x ≡ o = cc in absurd (true≢false (sym (ap q same ∙ e) ∙ is))
    by false true is g rest = or_right _ _ (rest g)
    by false false is g rest = rest g

-- and one that does not is not, where no other order has its number
none_with : (q : Order → Bool) (o : Order) (os : List Order)
    → AllByRecursion (λ x. has_number o.number x ≡ true → q x ≡ false) os
    → list_any (λ n. has_number n o) (map (λ (x : Order). x.number) (filter q os)) ≡ false
none_with q o [] h = refl
none_with q o (x ∷ os) h = by (q x) refl (none_with q o os h.1)
  where
    apart : q x ≡ true → (b : Bool) → (o.number == x.number) ≡ b → b ≡ false
    apart passes true e = absurd (true≢false (sym passes ∙ h.0 (let other : (x.number == o.number) ≡ true =
        grind (arith, nat_tests) in other)))
    apart passes false e = refl

    by : (b : Bool) → q x ≡ b
        → list_any (λ n. has_number n o) (map (λ (y : Order). y.number) (filter q os)) ≡ false
        → list_any (λ n. has_number n o) (map (λ (y : Order). y.number) (cond b (x ∷ filter q os) (filter q os)))
        ≡ false
    by true is rest = rw (apart is (o.number == x.number) refl) rest
    by false is rest = rest

module _ (numbers : NumbersLeadToOrders) (date : ℕ) (book : Book) (numbered : OrdersAreNumbered book) where
  abbrev pub due_numbers : List ℕ
  due_numbers = map (λ (o : Order). o.number) (filter (is_due date) book.orders)

  among_is : (o : Order) → find (has_number o.number) book.orders ≡ Some o
      → is_held_among due_numbers o ≡ is_due date o
  among_is o found = by (is_held o) refl (is_due_by date o.due) refl
    where
      alone : AllByRecursion (λ x. has_number o.number x ≡ true → x ≡ o) book.orders
      alone = alone_in_number numbers book numbered (has_number o.number) o found

      by : (h : Bool) → is_held o ≡ h → (d : Bool) → is_due_by date o.due ≡ d
          → (is_held o && list_any (λ n. has_number n o)
          (map (λ (x : Order). x.number) (filter (is_due date) book.orders))) ≡ (is_held o && is_due_by date o.due)
      by true e true f = rw (found_among (is_due date) (has_number o.number) o book.orders found (rw (e, f) refl), e, f)
          refl
      by true e false f =
          let not_due : is_due date o ≡ false = rw (e, f) refl in
          rw (
            none_with (is_due date) o book.orders (all_weaker (λ x. has_number o.number x ≡ true → x ≡ o)
                (λ x. has_number o.number x ≡ true → is_due date x ≡ false)
                (λ x same t. ap (is_due date) (same t) ∙ not_due) book.orders alone),
            e,
            f,
          ) refl
      by false e d f = rw e refl

  -- the rows lead to the book with these orders in their queues
  pub due_enter : changed book (enter_rows date due_numbers) ≡ let_in book (is_due date) date
  unfolding let_in
  due_enter =
      entries_one_by_one date due_numbers book
      ∙ (λ i. record book {
        orders = tests_agree (is_held_among due_numbers) (is_due date) date book.orders
            (all_weaker (λ o. find (has_number o.number) book.orders ≡ Some o)
            (λ o. is_held_among due_numbers o ≡ is_due date o) among_is book.orders (numbers book numbered)) i;
      })
