-- The numbers that are taken queue by queue are those of the chosen orders, or of all that are queued.
use Rattle.std.proofs.Common.{◌≡◌, ℕ, zero, suc, ◌<◌, ◌≤◌, ◌+◌, ◌==◌, nat_lt, pos, ◌-ℤ◌, Bool, true, false, cond}
use Rattle.std.proofs.Common.{◌||◌, List, [], ◌∷◌, ◌++◌, map, filter, length, get_or, take, sum_by, refl, sym, ap, ◌∙◌}
use Rattle.std.proofs.Common.{subst, arith}
use Rattle.std.proofs.lemmas.Bool.Decides.{nat_tests}
use Rattle.std.proofs.lemmas.List.{length-map, map-append, take-map, take_all}
use Rattle.std.proofs.lemmas.List.Sums.{sum_by-cons, sum_by-append, sum_by_more}
use Rattle.std.specs.List.{AllByRecursion, flat_map, list_any, range_with_len}
use Rattle.std.specs.Str.{bytes_eq}
use Rattle.rtgs_book.specs.declared.book.Book.{Book}
use Rattle.rtgs_book.specs.declared.order.Order.{Order}
use Rattle.rtgs_book.specs.Books.{is_queued}
use Rattle.rtgs_book.specs.Lookup.{codes_of}
use Rattle.rtgs_book.specs.IntSum.{int_sum_by}
use Rattle.rtgs_book.specs.Balance.{gain}
use Rattle.rtgs_book.specs.Queue.{queue, queued_numbers}
use Rattle.rtgs_book.specs.Choice.{Choice, is_chosen, chosen}
use Rattle.rtgs_book.specs.Soundness.{IsSound, OrdersAreNumbered}
use Rattle.rtgs_gridlock.specs.Choices.{sum_below}
use Rattle.rtgs_choices.specs.ByIndex.{code_at}
use Rattle.rtgs_choices.specs.Settling.{orders_taken, numbers_taken, is_numbered}
use Rattle.rtgs_choices.proofs.Agree.{length_is}
use Rattle.rtgs_choices.proofs.Inputs.{HasIndexes, parties_have_indexes}
use Rattle.rtgs_choices.proofs.Chosen.{ChosenAreBeginnings, gets, gives, gains_are, sum_by-senders, sum_by-chosen}
use Rattle.rtgs_lists.proofs.Lists.{all_both, all_filter, all_weaker}
use Rattle.rtgs_lists.proofs.Numbers.{eq_self, not_below}
use Rattle.rtgs_lists.proofs.Filters.{filter_twice}

-- ---- sums

-- a sum by index is one along the list
sum_below-list : {X : Type 0} (f : X → ℕ) (d : X) (xs : List X) (n : ℕ) → n ≤ length xs
    → sum_below n (λ i. f (get_or xs i d)) ≡ sum_by f (take n xs)
unfolding sum_below
sum_below-list f d xs zero le = refl
sum_below-list f d xs (suc n) le =
    ap (λ (s : ℕ). s + f (get_or xs n d)) (sum_below-list f d xs n (omega arith))
    ∙ sym (sum_by_more f xs n d (omega arith))
    ∙ ap (λ (m : ℕ). sum_by f (take m xs)) (let e : n + 1 ≡ suc n = omega arith in e)

sum_by-flat_map : {X Y : Type 0} (f : Y → ℕ) (g : X → List Y) (xs : List X)
    → sum_by f (flat_map g xs) ≡ sum_by (λ x. sum_by f (g x)) xs
sum_by-flat_map f g [] = refl
sum_by-flat_map f g (x ∷ xs) =
    sum_by-append f (g x) (flat_map g xs) ∙ ap (λ (n : ℕ). sum_by f (g x) + n) (sum_by-flat_map f g xs)
    ∙ sym (sum_by-cons (λ x. sum_by f (g x)) x xs)

some_more : (b : Bool) (n : ℕ) → (b || nat_lt 0 n) ≡ nat_lt 0 (cond b 1 0 + n)
some_more true n = grind (arith, nat_tests)
some_more false n = ap (nat_lt 0) (let e : n ≡ 0 + n = omega arith in e)

-- one passes where the number of those that pass isn't 0
any_by_count : {X : Type 0} (p : X → Bool) (xs : List X) → list_any p xs ≡ nat_lt 0 (sum_by (λ x. cond (p x) 1 0) xs)
any_by_count p [] = refl
any_by_count p (x ∷ xs) =
    ap (λ (t : Bool). p x || t) (any_by_count p xs)
    ∙ some_more (p x) (sum_by (λ x. cond (p x) 1 0) xs)
    ∙ ap (nat_lt 0) (sym (sum_by-cons (λ x. cond (p x) 1 0) x xs))

any-map : {X Y : Type 0} (p : Y → Bool) (f : X → Y) (xs : List X) → list_any p (map f xs) ≡ list_any (λ x. p (f x)) xs
any-map p f [] = refl
any-map p f (x ∷ xs) = ap (λ (t : Bool). p (f x) || t) (any-map p f xs)

-- ---- numbers

abbrev number_of : Order → ℕ
number_of o = o.number

abbrev Rises : List Order → Type 0
Rises [] = Unit {0}
Rises (o ∷ os) = AllByRecursion (λ (x : Order). o.number < x.number) os × Rises os

rises_from : (first : ℕ) (os : List Order) → map number_of os ≡ range_with_len first (length os) → Rises os
rises_from first [] e = tt
rises_from first (o ∷ os) e =
    let head : o.number ≡ first = cc in
    let rest : map number_of os ≡ range_with_len (first + 1) (length os) = cc in (
      all_weaker (λ (x : Order). first + 1 ≤ x.number) (λ (x : Order). o.number < x.number) (λ x le. omega arith) os
          (not_below number_of (first + 1) os rest),
      rises_from (first + 1) os rest,
    )

orders_rise : (book : Book) → OrdersAreNumbered book → Rises book.orders
orders_rise book h = rises_from 1 book.orders (h.0 ∙ ap (range_with_len 1) (length-map book.orders number_of))

any_none : {X : Type 0} (p : X → Bool) (xs : List X) → AllByRecursion (λ x. p x ≡ false) xs → list_any p xs ≡ false
any_none p [] h = refl
any_none p (x ∷ xs) h = rw h.0 (any_none p xs h.1)

lt-apart : (a b : ℕ) → a < b → (a == b) ≡ false
lt-apart a b less = grind (arith, nat_tests)

gt-apart : (a b : ℕ) → b < a → (a == b) ≡ false
gt-apart a b less = grind (arith, nat_tests)

-- where numbers rise, an order has a number of those that pass where it passes itself
passes_by_number : (p : Order → Bool) (os : List Order) → Rises os
    → AllByRecursion (λ (o : Order). p o ≡ list_any (λ (x : Order). o.number == x.number) (filter p os)) os
passes_by_number p [] rise = tt
passes_by_number p (o ∷ os) rise = (first (p o), later (p o) (passes_by_number p os rise.1))
  where
    first : (b : Bool) → b ≡ list_any (λ (x : Order). o.number == x.number) (cond b (o ∷ filter p os) (filter p os))
    first true = rw (eq_self o.number) refl
    first false = sym (any_none (λ (x : Order). o.number == x.number) (filter p os)
        (all_filter (λ (x : Order). (o.number == x.number) ≡ false) p os
        (all_weaker (λ (x : Order). o.number < x.number) (λ (x : Order). (o.number == x.number) ≡ false)
        (λ x less. lt-apart o.number x.number less) os rise.0)))

    later : (b : Bool) → AllByRecursion (λ (y : Order). p y ≡ list_any (λ (x : Order). y.number == x.number)
        (filter p os)) os → AllByRecursion (λ (y : Order). p y
        ≡ list_any (λ (x : Order). y.number == x.number) (cond b (o ∷ filter p os) (filter p os))) os
    later true rest = all_both (λ (y : Order). o.number < y.number)
        (λ (y : Order). p y ≡ list_any (λ (x : Order). y.number == x.number) (filter p os))
        (λ (y : Order). p y ≡ list_any (λ (x : Order). y.number == x.number) (o ∷ filter p os))
        (λ y less e. rw (gt-apart y.number o.number less) e) os rise.0 rest
    later false rest = rest

-- ---- account by account

-- parts of the orders that together are those that pass, one part for each account
module _ (book : Book) (sound : IsSound book) (passes : Order → Bool) (part : List ℕ → List Order)
    (whole : (f : Order → ℕ) → sum_below (length (codes_of book)) (λ i. sum_by f (part (code_at book i)))
    ≡ sum_by f (filter passes book.orders)) where
  abbrev parts : List Order
  parts = flat_map part (codes_of book)

  abbrev numbers : List ℕ
  numbers = flat_map (λ code. map number_of (part code)) (codes_of book)

  pub numbers_are : numbers ≡ map number_of parts
  numbers_are = each (codes_of book)
    where
      each : (codes : List (List ℕ)) → flat_map (λ code. map number_of (part code)) codes
          ≡ map number_of (flat_map part codes)
      each [] = refl
      each (code ∷ codes) = ap (λ (ns : List ℕ). map number_of (part code) ++ ns) (each codes)
          ∙ sym (map-append number_of (part code) (flat_map part codes))

  pub sum_by-all : (f : Order → ℕ) → sum_by f parts ≡ sum_by f (filter passes book.orders)
  sum_by-all f =
      sum_by-flat_map f part (codes_of book)
      ∙ ap (sum_by (λ code. sum_by f (part code))) (sym (take_all (length (codes_of book)) (codes_of book)
      (omega arith)))
      ∙ sym (sum_below-list (λ code. sum_by f (part code)) [] (codes_of book) (length (codes_of book)) (omega arith))
      ∙ whole f

  any_by-all : (p : Order → Bool) → list_any p parts ≡ list_any p (filter passes book.orders)
  any_by-all p = any_by_count p parts ∙ ap (nat_lt 0) (sum_by-all (λ o. cond (p o) 1 0))
      ∙ sym (any_by_count p (filter passes book.orders))

  has_number_there : (o : Order) → is_numbered numbers o ≡ list_any (λ (x : Order). o.number == x.number)
      (filter passes book.orders)
  has_number_there o =
      ap (λ (ns : List ℕ). is_numbered ns o) numbers_are
      ∙ any-map (λ n. o.number == n) number_of parts
      ∙ any_by-all (λ (x : Order). o.number == x.number)

  pub passes_by_numbers : AllByRecursion (λ o. passes o ≡ is_numbered numbers o) book.orders
  passes_by_numbers =
      all_weaker (λ (o : Order). passes o ≡ list_any (λ (x : Order). o.number == x.number) (filter passes book.orders))
      (λ o. passes o ≡ is_numbered numbers o)
      (λ o e. e ∙ sym (has_number_there o)) book.orders (passes_by_number passes book.orders
      (orders_rise book sound.orders_numbered))

  pub as_many_numbers : length (filter passes book.orders) ≡ length numbers
  as_many_numbers =
      sym (length_is (filter passes book.orders)) ∙ sym (sum_by-all (λ o. 1)) ∙ length_is parts
      ∙ sym (length-map parts number_of) ∙ sym (ap length numbers_are)

-- ---- the chosen orders

module _ (law : ChosenAreBeginnings) (book : Book) (choice : Choice) (sound : IsSound book) where
  abbrev beginning : List ℕ → List Order
  beginning code = take (choice code) (queue book code)

  taken_is : numbers_taken book choice ≡ flat_map (λ code. map number_of (beginning code)) (codes_of book)
  unfolding numbers_taken queue
  taken_is i = flat_map (λ code. take-map number_of (choice code) (queue book code) i) (codes_of book)

  pub chosen_by_number : AllByRecursion (λ o. is_chosen book choice o ≡ is_numbered (numbers_taken book choice) o)
      book.orders
  unfolding chosen
  chosen_by_number =
      subst (λ (ns : List ℕ). AllByRecursion (λ o. is_chosen book choice o ≡ is_numbered ns o) book.orders)
      (sym taken_is)
      (passes_by_numbers book sound (is_chosen book choice) beginning (sum_by-chosen law book sound choice))

  pub chosen_count : length (chosen book choice) ≡ length (numbers_taken book choice)
  unfolding chosen
  chosen_count = as_many_numbers book sound (is_chosen book choice) beginning (sum_by-chosen law book sound choice)
      ∙ sym (ap length taken_is)

  pub taken_numbers : numbers_taken book choice ≡ map number_of (orders_taken book choice)
  unfolding orders_taken chosen
  taken_numbers = taken_is ∙ numbers_are book sound (is_chosen book choice) beginning
      (sum_by-chosen law book sound choice)

  pub sum_by-taken : (f : Order → ℕ) → sum_by f (orders_taken book choice) ≡ sum_by f (chosen book choice)
  unfolding orders_taken chosen
  sum_by-taken f = sum_by-all book sound (is_chosen book choice) beginning (sum_by-chosen law book sound choice) f

  pub gains_taken : (code : List ℕ) → int_sum_by (gain code) (orders_taken book choice)
      ≡ int_sum_by (gain code) (chosen book choice)
  gains_taken code =
      gains_are code (orders_taken book choice)
      ∙ (λ i. pos (sum_by-taken (gets code) i) -ℤ pos (sum_by-taken (gives code) i))
      ∙ sym (gains_are code (chosen book choice))

-- ---- the queued orders

module _ (book : Book) (sound : IsSound book) where
  sum_by-queued : (f : Order → ℕ) → sum_below (length (codes_of book)) (λ i. sum_by f (queue book (code_at book i)))
      ≡ sum_by f (filter is_queued book.orders)
  unfolding queue
  sum_by-queued =
      sum_by-senders book (filter is_queued book.orders) (queue book) sound
      (all_filter (HasIndexes book) is_queued book.orders (parties_have_indexes book sound))
      (λ code. filter_twice is_queued (λ (o : Order). bytes_eq o.sender code) book.orders)

  pub queued_by_number : AllByRecursion (λ o. is_queued o ≡ is_numbered
      (flat_map (queued_numbers book.orders) (codes_of book)) o) book.orders
  unfolding queue
  queued_by_number = passes_by_numbers book sound is_queued (queue book) sum_by-queued

  pub queued_count : length (filter is_queued book.orders) ≡ length
      (flat_map (queued_numbers book.orders) (codes_of book))
  unfolding queue
  queued_count = as_many_numbers book sound is_queued (queue book) sum_by-queued
