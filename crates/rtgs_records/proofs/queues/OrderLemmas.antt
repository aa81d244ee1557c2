-- Queued orders: their numbers, which rise, and the queues of their senders.
use Rattle.std.proofs.Common.{◌≡◌, ◌≢◌, ℕ, zero, suc, ◌+◌, ◌<◌, ◌≤◌, Bool, true, false, cond, not, ◌&&◌, ◌==◌, List, []}
use Rattle.std.proofs.Common.{◌∷◌, ◌++◌, length, map, filter, get_or, find, Some, None, Option, Result, Ok, Err, IfOk}
use Rattle.std.proofs.Common.{IfErr, nat_lt, Less, Equal, Greater, Ordering, is_lt, refl, sym, ap, ◌∙◌, subst}
use Rattle.std.proofs.Common.{true≢false, inl}
use Rattle.std.proofs.Common.{inr, arith, add-one}
use Rattle.std.proofs.Math.ListN.{set, length-append}
use Rattle.std.proofs.lemmas.Bool.{cases_lt}
use Rattle.std.proofs.lemmas.Bool.Decides.{nat_tests}
use Rattle.std.proofs.lemmas.Cmp.{nat_cmp_total}
use Rattle.std.proofs.lemmas.List.Sorted.{searchable_from_sorted}
use Rattle.std.specs.List.{AllByRecursion}
use Rattle.std.specs.List.Sorted.{IsSearchInRange, IsBinarySearchResult}
use Rattle.std.specs.Ordering.{nat_cmp}
use Rattle.std.specs.Str.{bytes_eq}
use Rattle.rtgs_book.specs.declared.order.Order.{Order}
use Rattle.rtgs_book.specs.declared.order_state.OrderState.{OrderState}
use Rattle.rtgs_book.specs.Books.{is_held, is_waiting, is_queued_state, is_held_state, is_waiting_state}
use Rattle.rtgs_book.specs.Commands.{entered, has_number, is_held_with}
use Rattle.rtgs_book.specs.Settle.{altered, restated}
use Rattle.rtgs_records.specs.declared.queues.queues.QueueNumbers.{QueueNumbers}
use Rattle.rtgs_records.specs.queues.Orders.{IsKept, AreRising, AreWaiting, HasNumberAt, numbers_among}
use Rattle.rtgs_records.specs.queues.QueueNumbers.{AreInOrder, numbers_of, room_of}
use Rattle.std.specs.Cmp.Lexicographic.{bytes_decides}
use Rattle.rtgs_book.specs.declared.order_state.OrderState.TheVariants.{Queued, Held, Settled, Withdrawn, Rejected}
use Rattle.rtgs_records.proofs.queues.Among.{all_numbers, number_among, numbers_keep, numbers_leave, numbers_push}
use Rattle.rtgs_records.proofs.queues.Among.{no_more, one_less, stands}
use Rattle.rtgs_lists.proofs.Filters.{filter_all, put_in}
use Rattle.rtgs_lists.proofs.Places.{put_in_first}
use Rattle.rtgs_lists.proofs.Lists.{all_at_place, all_filter, all_push, all_weaker}

-- ---- numbers

pub rising_filter : (p : Order → Bool) (os : List Order) → AreRising os → AreRising (filter p os)
rising_filter p [] h = tt
rising_filter p (o ∷ os) h = by (p o) (rising_filter p os h.1)
  where
    by : (b : Bool) → AreRising (filter p os) → AreRising (cond b (o ∷ filter p os) (filter p os))
    by true rest = (all_filter (λ x. o.number < x.number) p os h.0, rest)
    by false rest = rest

pub rising_end : (os : List Order) (o : Order) → AreRising os → AllByRecursion (λ x. x.number < o.number) os
    → AreRising (os ++ o ∷ [])
rising_end [] o h below = (tt, tt)
rising_end (x ∷ xs) o h below = (all_push (λ y. x.number < y.number) xs o h.0 below.0, rising_end xs o h.1 below.1)

-- what a sweep leaves is queued, and nothing is swept out where all are
pub are_waiting : (os : List Order) → AreWaiting (filter is_waiting os)
are_waiting [] = tt
are_waiting (o ∷ os) = by (is_waiting o) refl (are_waiting os)
  where
    by : (b : Bool) → is_waiting o ≡ b → AreWaiting (filter is_waiting os)
        → AreWaiting (cond b (o ∷ filter is_waiting os) (filter is_waiting os))
    by true e rest = (e, rest)
    by false e rest = rest

pub all_stay : (os : List Order) → AreWaiting os → filter is_waiting os ≡ os
all_stay os h = filter_all is_waiting os h

rising_at : (os : List Order) → AreRising os → (k : ℕ) (d : Order) → suc k < length os
    → (get_or os k d).number < (get_or os (suc k) d).number
rising_at [] h k d lt = absurd (omega arith)
rising_at (o ∷ os) h zero d lt = all_at_place (λ x. o.number < x.number) os h.0 0 d (omega arith)
rising_at (o ∷ os) h (suc k) d lt = rising_at os h.1 k d (omega arith)

abbrev pub number_of : Order → ℕ
number_of o = o.number

abbrev is_not : ℕ → Order → Type 0
is_not number o = has_number number o ≡ false

other : (number : ℕ) (o : Order) → o.number ≢ number → has_number number o ≡ false
other number o apart = grind (arith, nat_tests, apart)

own : (number : ℕ) (o : Order) → o.number ≡ number → has_number number o ≡ true
own number o same = grind (arith, nat_tests, same)

-- numbers above another are other numbers
all_above : (number : ℕ) (os : List Order) → AllByRecursion (λ x. number < x.number) os → AllByRecursion
    (is_not number) os
all_above number os h = all_weaker (λ x. number < x.number) (is_not number) (λ x above. grind
    (arith, nat_tests, above)) os h

none_there : (number : ℕ) (os : List Order) → AllByRecursion (is_not number) os → find (has_number number) os ≡ None
none_there number [] h = refl
none_there number (o ∷ os) h = rw h.0 (none_there number os h.1)

-- ---- what a search finds

pub found_waiting : (number : ℕ) (os : List Order) → AreRising os → (i : ℕ) → HasNumberAt number os i → (d : Order)
    → find (has_number number) (filter is_waiting os) ≡ cond (is_waiting (get_or os i d)) (Some (get_or os i d)) None
found_waiting number [] h i at d = absurd (let l = at.in_range in omega arith)
found_waiting number (o ∷ os) h zero at d = by (is_waiting o) refl
  where
    here : has_number number o ≡ true
    here = own number o (at.has_number d)

    later : find (has_number number) (filter is_waiting os) ≡ None
    later = none_there number (filter is_waiting os) (all_filter (is_not number) is_waiting os
        (all_above number os (subst (λ n. AllByRecursion (λ x. n < x.number) os) (at.has_number d) h.0)))

    by : (b : Bool) → is_waiting o ≡ b → find (has_number number) (cond b (o ∷ filter is_waiting os)
        (filter is_waiting os))
        ≡ cond b (Some o) None
    by true e = rw here refl
    by false e = later
found_waiting number (o ∷ os) h (suc i) at d = by (is_waiting o) (found_waiting number os h.1 i rest d)
  where
    within : i < length os
    within = let l = at.in_range in omega arith

    rest : HasNumberAt number os i
    rest = record { in_range = within; has_number = λ d. at.has_number d }

    less : o.number < number
    less = subst (λ n. o.number < n) (at.has_number d) (all_at_place (λ x. o.number < x.number) os h.0 i d within)

    apart : has_number number o ≡ false
    apart = grind (arith, nat_tests, less)

    by : (b : Bool) → find (has_number number) (filter is_waiting os)
        ≡ cond (is_waiting (get_or os i d)) (Some (get_or os i d)) None
        → find (has_number number) (cond b (o ∷ filter is_waiting os) (filter is_waiting os))
        ≡ cond (is_waiting (get_or os i d)) (Some (get_or os i d)) None
    by true e = rw apart e
    by false e = e

pub found_nowhere : (number : ℕ) (os : List Order) → AllByRecursion (is_not number) os
    → find (has_number number) (filter is_waiting os) ≡ None
found_nowhere number os h = none_there number (filter is_waiting os) (all_filter (is_not number) is_waiting os h)

pub recursion_from : (P : Order → Type 0) (os : List Order) → ((k : ℕ) (d : Order) → k < length os → P (get_or os k d))
    → AllByRecursion P os
recursion_from P [] h = tt
recursion_from P (o ∷ os) h = (h 0 o (omega arith), recursion_from P os (λ k d lt. h (suc k) d (omega arith)))

less_from : (a b : ℕ) → nat_cmp a b ≡ Less → a < b
less_from a b e = grind (arith, nat_tests, e)

pub searched : (os : List Order) → AreRising os → (number : ℕ) (r : Result ℕ ℕ)
    → IsSearchInRange r (length os) → IsBinarySearchResult (λ o. nat_cmp (number_of o) number) os r
    → record { found : IfOk r (HasNumberAt number os); absent : IfErr r (λ _. AllByRecursion (is_not number) os) }
searched os rise number (Ok at) in_range equal = record {
  found = record { in_range = in_range; has_number = λ d. same (get_or os at d).number (equal d) };
  absent = tt;
}
  where
    same : (n : ℕ) → nat_cmp n number ≡ Equal → n ≡ number
    same n e = grind (arith, nat_tests, e)
searched os rise number (Err at) in_range parted =
    let parts = parted (searchable_from_sorted nat_cmp_total number_of os number
    (λ k d low high. rw add-one (not_before (get_or os k d).number (get_or os (suc k) d).number
    (rising_at os rise k d (omega arith))))) in
    record {
      found = tt;
      absent = recursion_from (is_not number) os
          (λ k d lt. apart_at k d lt (parts.0 k d (omega arith)) (λ le. parts.1 k d le lt));
    }
  where
    not_before : (a b : ℕ) → a < b → is_lt (nat_cmp b a) ≡ false
    not_before a b lt = by (nat_cmp b a) refl
      where
        by : (o : Ordering) → nat_cmp b a ≡ o → is_lt o ≡ false
        by Less e = absurd (let back = less_from b a e in omega arith)
        by Equal e = refl
        by Greater e = refl

    apart_at : (k : ℕ) (d : Order) → k < length os → (k < at → nat_cmp (number_of (get_or os k d)) number ≡ Less)
        → (at ≤ k → nat_cmp (number_of (get_or os k d)) number ≡ Greater) → is_not number (get_or os k d)
    apart_at k d lt less more = elim (cases_lt k at) [
      | inl below ↦ (let l = less_from (number_of (get_or os k d)) number (less below) in grind (arith, nat_tests, l))
      | inr above ↦ (let m = more above in grind (arith, nat_tests, m))
    ]

-- ---- a change of state

module _ (number : ℕ) (change : Order → Order) (same : (o : Order) → (change o).number ≡ o.number) where
  unchanged : (order : Order) → has_number number order ≡ false → altered (has_number number) change order ≡ order
  unchanged order e = rw e refl

  changed : (order : Order) → has_number number order ≡ true
      → altered (has_number number) change order ≡ change order
  changed order e = rw e refl

  number_stays : (order : Order) → (altered (has_number number) change order).number ≡ order.number
  number_stays order = by (has_number number order) refl
    where
      by : (b : Bool) → has_number number order ≡ b → (altered (has_number number) change order).number ≡ order.number
      by true e = rw e (same order)
      by false e = rw e refl

  pub none_altered : (os : List Order) → AllByRecursion (is_not number) os → map (altered
      (has_number number) change) os ≡ os
  none_altered [] h = refl
  none_altered (o ∷ os) h = λ i. unchanged o h.0 i ∷ none_altered os h.1 i

  -- the one order with the number gets the state
  pub one_altered : (os : List Order) → AreRising os → (i : ℕ) → HasNumberAt number os i → (o : Order)
      → ((d : Order) → o ≡ get_or os i d) → set os i (change o) ≡ map (altered
      (has_number number) change) os
  one_altered [] h i at o is = absurd (let l = at.in_range in omega arith)
  one_altered (x ∷ xs) h zero at o is = λ k. first k ∷ sym (none_altered xs (all_above number xs
      (subst (λ n. AllByRecursion (λ y. n < y.number) xs) (at.has_number x) h.0))) k
    where
      first : change o ≡ altered (has_number number) change x
      first = ap change (is x) ∙ sym (changed x (own number x (at.has_number x)))
  one_altered (x ∷ xs) h (suc i) at o is = λ k. sym (unchanged x apart) k ∷ one_altered xs h.1 i rest o is k
    where
      within : i < length xs
      within = let l = at.in_range in omega arith

      rest : HasNumberAt number xs i
      rest = record { in_range = within; has_number = λ d. at.has_number d }

      less : x.number < number
      less = subst (λ n. x.number < n) (at.has_number x) (all_at_place (λ y. x.number < y.number) xs h.0 i x within)

      apart : has_number number x ≡ false
      apart = grind (arith, nat_tests, less)

  numbers_stay : (P : ℕ → Type 0) (os : List Order) → AllByRecursion (λ (o : Order). P o.number) os
      → AllByRecursion (λ (o : Order). P o.number) (map (altered (has_number number) change) os)
  numbers_stay P [] h = tt
  numbers_stay P (o ∷ os) h = (subst P (sym (number_stays o)) h.0, numbers_stay P os h.1)

  rising_altered : (os : List Order) → AreRising os → AreRising (map (altered (has_number number) change) os)
  rising_altered [] h = tt
  rising_altered (o ∷ os) h = (
    subst (λ n. AllByRecursion (λ (x : Order). n < x.number) (map (altered (has_number number) change) os))
        (sym (number_stays o)) (numbers_stay (λ n. o.number < n) os h.0),
    rising_altered os h.1,
  )

  -- it leaves those that wait
  pub waiting_rest : ((o : Order) → is_waiting (change o) ≡ false) → (os : List Order)
      → filter is_waiting (map (altered (has_number number) change) os)
      ≡ filter (λ o. not (has_number number o)) (filter is_waiting os)
  waiting_rest settled [] = refl
  waiting_rest settled (o ∷ os) = by (has_number number o) (is_waiting o) refl refl (waiting_rest settled os)
    where
      by : (a b : Bool) → has_number number o ≡ a → is_waiting o ≡ b
          → filter is_waiting (map (altered (has_number number) change) os)
          ≡ filter (λ o. not (has_number number o)) (filter is_waiting os)
          → filter is_waiting (cond a (change o) o ∷ map (altered (has_number number) change) os)
          ≡ filter (λ o. not (has_number number o)) (cond b (o ∷ filter is_waiting os) (filter is_waiting os))
      by true true e f rest = rw (settled o, e) rest
      by true false e f rest = rw (settled o) rest
      by false true e f rest = rw (f, e) (ap (λ ys. o ∷ ys) rest)
      by false false e f rest = rw f rest

-- ---- what is kept

numbers_again : (is_in : OrderState → Bool) → ((state : OrderState) → is_in state ≡ true → is_waiting_state state ≡
    true)
    → (sender : List ℕ) (os : List Order) → numbers_among is_in (filter is_waiting os) sender
    ≡ numbers_among is_in os sender
numbers_again is_in within sender [] = refl
numbers_again is_in within sender (o ∷ os) = by (is_waiting o) (is_in o.state) (bytes_eq o.sender sender) refl refl refl
    (numbers_again is_in within sender os)
  where
    by : (w a b : Bool) → is_waiting o ≡ w → is_in o.state ≡ a → bytes_eq o.sender sender ≡ b
        → numbers_among is_in (filter is_waiting os) sender ≡ numbers_among is_in os sender
        → numbers_among is_in (cond w (o ∷ filter is_waiting os) (filter is_waiting os)) sender
        ≡ numbers_among is_in (o ∷ os) sender
    by true true true w e f rest = rw (e, f) (ap (λ ns. o.number ∷ ns) rest)
    by true true false w e f rest = rw (e, f) rest
    by true false b w e f rest = rw e rest
    by false true b w e f rest = absurd (true≢false (sym (within o.state e) ∙ w))
    by false false b w e f rest = rw e rest

pub queued_waits : (state : OrderState) → is_queued_state state ≡ true → is_waiting_state state ≡ true
queued_waits Queued e = refl
queued_waits Held e = refl
queued_waits (Settled mark) e = e
queued_waits Withdrawn e = e
queued_waits Rejected e = e

pub held_waits : (state : OrderState) → is_held_state state ≡ true → is_waiting_state state ≡ true
held_waits Queued e = refl
held_waits Held e = refl
held_waits (Settled mark) e = e
held_waits Withdrawn e = e
held_waits Rejected e = e

pub others_wait_not : (state : OrderState) → is_queued_state state ≡ false → is_held_state state ≡ false
    → is_waiting_state state ≡ false
others_wait_not Queued e f = e
others_wait_not Held e f = f
others_wait_not (Settled mark) e f = refl
others_wait_not Withdrawn e f = refl
others_wait_not Rejected e f = refl

-- orders that are queued or held wait, and no others
pub ruleset which_states_wait = (queued_waits, held_waits, others_wait_not)

queued_out : (state : OrderState) → is_waiting_state state ≡ false → is_queued_state state ≡ false
queued_out Queued e = e
queued_out Held e = refl
queued_out (Settled mark) e = e
queued_out Withdrawn e = e
queued_out Rejected e = e

held_out : (state : OrderState) → is_waiting_state state ≡ false → is_held_state state ≡ false
held_out Queued e = refl
held_out Held e = e
held_out (Settled mark) e = e
held_out Withdrawn e = e
held_out Rejected e = e

pub same_numbers : (sender : List ℕ) (os : List Order) → numbers_among is_queued_state os sender
    ≡ numbers_among is_queued_state (filter is_waiting os) sender
same_numbers sender os = sym (numbers_again is_queued_state queued_waits sender os)

pub same_held : (sender : List ℕ) (os : List Order) → numbers_among is_held_state os sender
    ≡ numbers_among is_held_state (filter is_waiting os) sender
same_held sender os = sym (numbers_again is_held_state held_waits sender os)

right_false : (a b : Bool) → b ≡ false → (a && b) ≡ false
right_false true b e = e
right_false false b e = refl

pub held_is_not_queued : (state : OrderState) → is_held_state state ≡ true → is_queued_state state ≡ false
held_is_not_queued Queued e = absurd (true≢false (sym e))
held_is_not_queued Held e = refl
held_is_not_queued (Settled mark) e = refl
held_is_not_queued Withdrawn e = refl
held_is_not_queued Rejected e = refl

-- numbers of orders rise where the orders do
pub numbers_rise : (is_in : OrderState → Bool) (sender : List ℕ) (orders : List Order) → AreRising orders
    → AreInOrder (numbers_among is_in orders sender)
numbers_rise is_in sender [] h = tt
numbers_rise is_in sender (x ∷ xs) h = by (stands is_in sender x) refl (numbers_rise is_in sender xs h.1)
  where
    later : AllByRecursion (λ n. x.number ≤ n) (numbers_among is_in xs sender)
    later = all_numbers is_in sender (λ n. x.number ≤ n) xs (all_weaker (λ (y : Order). x.number < y.number)
        (λ (y : Order). x.number ≤ y.number) (λ y less. omega arith) xs h.0)

    by : (b : Bool) → stands is_in sender x ≡ b → AreInOrder (numbers_among is_in xs sender)
        → AreInOrder (numbers_among is_in (x ∷ xs) sender)
    by true e rest = rw e (later, rest)
    by false e rest = rw e rest

-- a held order goes to its place in its sender's queue
numbers_enter : (sender : List ℕ) (number date : ℕ) (orders : List Order) → AreRising orders → (i : ℕ)
    → HasNumberAt number orders i → ((d : Order) → is_held_state (get_or orders i d).state ≡ true)
    → ((d : Order) → bytes_eq (get_or orders i d).sender sender ≡ true)
    → numbers_among is_queued_state (map (altered (has_number number) (entered date)) orders) sender
    ≡ put_in (λ n. nat_lt n number) number (numbers_among is_queued_state orders sender)
numbers_enter sender number date [] h i at held own_one = absurd (let l = at.in_range in omega arith)
numbers_enter sender number date (x ∷ xs) h zero at held own_one =
    let here : has_number number x ≡ true = own number x (at.has_number x) in
    let of_it : bytes_eq x.sender sender ≡ true = own_one x in
    let out : is_queued_state x.state ≡ false = held_is_not_queued x.state (held x) in
    let above = subst (λ n. AllByRecursion (λ (y : Order). n < y.number) xs) (at.has_number x) h.0 in
    let rest : map (altered (has_number number) (entered date)) xs ≡ xs = none_altered number (entered date) (λ o. refl)
    xs (all_above number xs above) in
    let none : AllByRecursion (λ n. nat_lt n number ≡ false) (numbers_among is_queued_state xs sender) =
    all_numbers is_queued_state sender (λ n. nat_lt n number ≡ false) xs (all_weaker
    (λ (y : Order). number < y.number) (λ (y : Order). nat_lt y.number number ≡ false)
    (λ y less. grind (arith, nat_tests, less)) xs above) in
    rw (here, of_it, out) (ap (λ ns. x.number ∷ ns) (ap (λ ys. numbers_among is_queued_state ys sender) rest)
    ∙ ap (λ n. n ∷ numbers_among is_queued_state xs sender) (at.has_number x)
    ∙ sym (put_in_first (λ n. nat_lt n number) number (numbers_among is_queued_state xs sender) none))
numbers_enter sender number date (x ∷ xs) h (suc i) at held own_one =
    by (is_queued_state x.state && bytes_eq x.sender sender) refl (numbers_enter sender number date xs h.1 i
    (record { in_range = (let l = at.in_range in omega arith); has_number = λ d. at.has_number d }) held own_one)
  where
    within : i < length xs
    within = let l = at.in_range in omega arith

    less : x.number < number
    less = subst (λ n. x.number < n) (at.has_number x) (all_at_place (λ y. x.number < y.number) xs h.0 i x within)

    apart : has_number number x ≡ false
    apart = grind (arith, nat_tests, less)

    low : nat_lt x.number number ≡ true
    low = grind (arith, nat_tests, less)

    by : (b : Bool) → (is_queued_state x.state && bytes_eq x.sender sender) ≡ b
        → numbers_among is_queued_state (map (altered (has_number number) (entered date)) xs) sender
        ≡ put_in (λ n. nat_lt n number) number (numbers_among is_queued_state xs sender)
        → numbers_among is_queued_state (map (altered (has_number number) (entered date)) (x ∷ xs)) sender
        ≡ put_in (λ n. nat_lt n number) number (numbers_among is_queued_state (x ∷ xs) sender)
    by true e rest = rw (apart, e, low) (ap (λ ns. x.number ∷ ns) rest)
    by false e rest = rw (apart, e) rest

-- those that wait, with it
pub waiting_entered : (number date : ℕ) (os : List Order) → ((k : ℕ) (d : Order) → k < length os
    → has_number number (get_or os k d) ≡ true → is_held (get_or os k d) ≡ true)
    → filter is_waiting (map (altered (has_number number) (entered date)) os)
    ≡ map (altered (is_held_with number) (entered date)) (filter is_waiting os)
waiting_entered number date [] held = refl
waiting_entered number date (o ∷ os) held = by (has_number number o) (is_waiting o) refl refl
    (waiting_entered number date os (λ k d lt. held (suc k) d (omega arith)))
  where
    by : (a b : Bool) → has_number number o ≡ a → is_waiting o ≡ b
        → filter is_waiting (map (altered (has_number number) (entered date)) os)
        ≡ map (altered (is_held_with number) (entered date)) (filter is_waiting os)
        → filter is_waiting (cond a (entered date o) o ∷ map (altered (has_number number) (entered date)) os)
        ≡ map (altered (is_held_with number) (entered date)) (cond b (o ∷ filter is_waiting os) (filter is_waiting os))
    by true true e f rest =
        let is : is_held o ≡ true = held 0 o (omega arith) e in
        rw (is, e) (ap (λ ys. entered date o ∷ ys) rest)
    by true false e f rest = absurd (true≢false (sym (held_waits o.state (held 0 o (omega arith) e)) ∙ f))
    by false true e f rest =
        let out : is_held_with number o ≡ false = right_false (is_held o) (has_number number o) e in
        rw (f, out) (ap (λ ys. o ∷ ys) rest)
    by false false e f rest = rw f rest

-- and none of them enters, where none with the number is held
pub none_entered : (number date : ℕ) (os : List Order) → ((k : ℕ) (d : Order) → k < length os
    → has_number number (get_or os k d) ≡ true → is_held (get_or os k d) ≡ false)
    → map (altered (is_held_with number) (entered date)) os ≡ os
none_entered number date [] out = refl
none_entered number date (o ∷ os) out = by (has_number number o) refl
    (none_entered number date os (λ k d lt. out (suc k) d (omega arith)))
  where
    by : (a : Bool) → has_number number o ≡ a → map (altered (is_held_with number) (entered date)) os ≡ os
        → map (altered (is_held_with number) (entered date)) (o ∷ os) ≡ o ∷ os
    by true e rest =
        let not_held : is_held o ≡ false = out 0 o (omega arith) e in
        rw not_held (ap (λ ys. o ∷ ys) rest)
    by false e rest =
        let not_it : is_held_with number o ≡ false = right_false (is_held o) (has_number number o) e in
        rw not_it (ap (λ ys. o ∷ ys) rest)

-- where numbers rise, each order with the number is the one at its place
pub only_one : (number : ℕ) (order : Order) (xs : List Order) → AreRising xs → (i : ℕ) → HasNumberAt number xs i
    → ((d : Order) → order ≡ get_or xs i d) → (k : ℕ) (d : Order) → k < length xs
    → has_number number (get_or xs k d) ≡ true → get_or xs k d ≡ order
only_one number order [] h i at is k d lt g = absurd (omega arith)
only_one number order (x ∷ xs) h zero at is zero d lt g = sym (is d)
only_one number order (x ∷ xs) h zero at is (suc k) d lt g = absurd (true≢false (sym g ∙ all_at_place (is_not number) xs
    (all_above number xs (subst (λ n. AllByRecursion (λ y. n < y.number) xs) (at.has_number x) h.0)) k d
    (omega arith)))
only_one number order (x ∷ xs) h (suc i) at is zero d lt g = absurd (true≢false (sym g ∙ apart))
  where
    less : x.number < number
    less = subst (λ n. x.number < n) (at.has_number x)
        (all_at_place (λ y. x.number < y.number) xs h.0 i x (let l = at.in_range in omega arith))

    apart : has_number number x ≡ false
    apart = grind (arith, nat_tests, less)
only_one number order (x ∷ xs) h (suc i) at is (suc k) d lt g = only_one number order xs h.1 i
    (record { in_range = (let l = at.in_range in omega arith); has_number = λ d. at.has_number d }) is k d
    (omega arith) g

module _ (orders : List Order) (queues held : QueueNumbers) (next : ℕ) (awaited : Option (List ℕ)) (holds tidy : Bool)
    (kept : IsKept orders queues held next awaited holds tidy) where
  -- nothing is awaited, and no room is lost
  pub kept_alone : (new more : QueueNumbers) → ((sender : List ℕ) → numbers_of new sender ≡ numbers_of queues sender)
      → ((sender : List ℕ) → numbers_of more sender ≡ numbers_of held sender)
      → ((sender : List ℕ) → room_of queues sender ≤ room_of new sender)
      → IsKept orders new more next None holds tidy
  kept_alone new more same also room = record {
    rising = kept.rising;
    before = kept.before;
    queued = λ sender. same sender ∙ kept.queued sender;
    held = λ sender. also sender ∙ kept.held sender;
    roomy = λ sender. let long = ap length (also sender) in let had = kept.roomy sender in let has = room sender in
        omega arith;
    ready = λ name e. absurd (let f : None ≡ Some name = e in cc);
    waiting = kept.waiting;
  }

  -- an order is counted alone
  pub kept_counted : IsKept orders queues held (next + 1) awaited holds tidy
  kept_counted = record {
    rising = kept.rising;
    before = all_weaker (λ (o : Order). o.number < next) (λ (o : Order). o.number < next + 1) (λ o lt. omega arith)
        orders
        kept.before;
    queued = kept.queued;
    held = kept.held;
    roomy = kept.roomy;
    ready = kept.ready;
    waiting = kept.waiting;
  }

  module _ (order : Order) (number : order.number ≡ next) (waits : is_waiting order ≡ true)
      (awaits : awaited ≡ Some order.sender) where
    pushed_rising : AreRising (orders ++ order ∷ [])
    pushed_rising = rising_end orders order kept.rising (subst (λ n. AllByRecursion (λ (o : Order). o.number < n)
        orders)
        (sym number) kept.before)

    pushed_before : AllByRecursion (λ (o : Order). o.number < next + 1) (orders ++ order ∷ [])
    pushed_before = all_push (λ (o : Order). o.number < next + 1) orders order
        (all_weaker (λ (o : Order). o.number < next) (λ (o : Order). o.number < next + 1) (λ o lt. omega arith) orders
        kept.before) (omega arith)

    -- the awaited order is queued
    pub kept_push : (new : QueueNumbers) → is_queued_state order.state ≡ true → is_held_state order.state ≡ false
        → ((sender : List ℕ) → numbers_of new sender ≡ cond (bytes_eq order.sender sender)
        (numbers_of queues sender ++ order.number ∷ []) (numbers_of queues sender))
        → ((sender : List ℕ) → room_of queues sender ≤ room_of new sender + cond (bytes_eq order.sender sender) 1 0)
        → IsKept (orders ++ order ∷ []) new held (next + 1) None holds tidy
    kept_push new is out pushed room = record {
      rising = pushed_rising;
      before = pushed_before;
      queued = λ sender. pushed sender ∙ ap (λ ns. cond (bytes_eq order.sender sender) (ns ++ order.number ∷ []) ns)
          (kept.queued sender) ∙ sym (numbers_push is_queued_state sender orders order ∙ rw is refl);
      held = λ sender. kept.held sender ∙ sym (numbers_push is_held_state sender orders order ∙ rw out refl);
      roomy = λ sender. by sender (bytes_eq order.sender sender) refl (room sender);
      ready = λ name f. absurd (let g : None ≡ Some name = f in cc);
      waiting = λ all. all_push (λ (o : Order). is_waiting o ≡ true) orders order (kept.waiting all) waits;
    }
      where
        by : (sender : List ℕ) (b : Bool) → bytes_eq order.sender sender ≡ b
            → room_of queues sender ≤ room_of new sender + cond b 1 0 → length (numbers_of held sender) ≤ room_of new
            sender
        by sender true e less =
            let at : order.sender ≡ sender = (bytes_decides order.sender sender).0 e in
            let had = kept.ready sender (awaits ∙ ap (λ s. Some s) at) in
            let wide : length (numbers_of held sender) + 1 ≤ room_of queues sender = had.0 in omega arith
        by sender false e less = let had = kept.roomy sender in omega arith

    -- or it is held
    pub kept_hold : (more : QueueNumbers) → is_queued_state order.state ≡ false → is_held_state order.state ≡ true
        → ((sender : List ℕ) → numbers_of more sender ≡ cond (bytes_eq order.sender sender)
        (numbers_of held sender ++ order.number ∷ []) (numbers_of held sender))
        → IsKept (orders ++ order ∷ []) queues more (next + 1) None holds tidy
    kept_hold more out is pushed = record {
      rising = pushed_rising;
      before = pushed_before;
      queued = λ sender. kept.queued sender ∙ sym (numbers_push is_queued_state sender orders order ∙ rw out refl);
      held = λ sender. pushed sender ∙ ap (λ ns. cond (bytes_eq order.sender sender) (ns ++ order.number ∷ []) ns)
          (kept.held sender) ∙ sym (numbers_push is_held_state sender orders order ∙ rw is refl);
      roomy = λ sender. by sender (bytes_eq order.sender sender) refl (pushed sender);
      ready = λ name f. absurd (let g : None ≡ Some name = f in cc);
      waiting = λ all. all_push (λ (o : Order). is_waiting o ≡ true) orders order (kept.waiting all) waits;
    }
      where
        by : (sender : List ℕ) (b : Bool) → bytes_eq order.sender sender ≡ b
            → numbers_of more sender ≡ cond b (numbers_of held sender ++ order.number ∷ []) (numbers_of held sender)
            → length (numbers_of more sender) ≤ room_of queues sender
        by sender true e is =
            let at : order.sender ≡ sender = (bytes_decides order.sender sender).0 e in
            let had = kept.ready sender (awaits ∙ ap (λ s. Some s) at) in
            let wide : length (numbers_of held sender) + 1 ≤ room_of queues sender = had.0 in
            let long : length (numbers_of more sender) ≡ length (numbers_of held sender) + 1 = ap length is
            ∙ length-append (numbers_of held sender) (order.number ∷ []) in
            omega arith
        by sender false e is = let had = kept.roomy sender in let long = ap length is in omega arith

  -- an order gets a state in which it waits no more, and they are tidy no more
  pub kept_restated : (number : ℕ) (state : OrderState) (at : ℕ) (order : Order) (new more : QueueNumbers)
      → is_waiting_state state ≡ false → HasNumberAt number orders at → ((d : Order) → order ≡ get_or orders at d)
      → ((sender : List ℕ) → numbers_of new sender ≡ cond (bytes_eq order.sender sender)
      (filter (λ (n : ℕ). not (n == number)) (numbers_of queues sender)) (numbers_of queues sender))
      → ((sender : List ℕ) → room_of queues sender ≤ room_of new sender)
      → ((sender : List ℕ) → numbers_of more sender ≡ cond (bytes_eq order.sender sender)
      (filter (λ (n : ℕ). not (n == number)) (numbers_of held sender)) (numbers_of held sender))
      → ((sender : List ℕ) → room_of held sender ≤ room_of more sender)
      → IsKept (map (restated (has_number number) state) orders) new more next awaited holds false
  kept_restated number state at order new more settled there is left room dropped space = record {
    rising = rising_altered number (λ o. record o { state = state }) (λ o. refl) orders kept.rising;
    before = numbers_stay number (λ o. record o { state = state }) (λ o. refl) (λ n. n < next) orders kept.before;
    queued = λ sender. left sender ∙ ap (λ ns. cond (bytes_eq order.sender sender)
        (filter (λ (n : ℕ). not (n == number)) ns) ns) (kept.queued sender)
        ∙ by is_queued_state (queued_out state settled) sender (bytes_eq order.sender sender) refl;
    held = λ sender. dropped sender ∙ ap (λ ns. cond (bytes_eq order.sender sender)
        (filter (λ (n : ℕ). not (n == number)) ns) ns) (kept.held sender)
        ∙ by is_held_state (held_out state settled) sender (bytes_eq order.sender sender) refl;
    roomy = λ sender. let had = kept.roomy sender in let has = room sender in let less = shorter sender in omega arith;
    ready = λ sender f.
        let had = kept.ready sender f in
        let wide : length (numbers_of held sender) + 1 ≤ room_of queues sender = had.0 in
        let has = room sender in let also = space sender in let less = shorter sender in
        (omega arith, λ may. let one = had.1 may in omega arith);
    waiting = λ all. absurd (true≢false (sym all));
  }
    where
      shorter : (sender : List ℕ) → length (numbers_of more sender) ≤ length (numbers_of held sender)
      shorter sender = split (bytes_eq order.sender sender) (dropped sender)
        where
          split : (b : Bool) → numbers_of more sender ≡ cond b (filter (λ (n : ℕ). not (n == number))
              (numbers_of held sender)) (numbers_of held sender)
              → length (numbers_of more sender) ≤ length (numbers_of held sender)
          split true e = let long = ap length e in let less = no_more number (numbers_of held sender) in omega arith
          split false e = let long = ap length e in omega arith

      by : (is_in : OrderState → Bool) → is_in state ≡ false → (sender : List ℕ) (b : Bool)
          → bytes_eq order.sender sender ≡ b
          → cond (bytes_eq order.sender sender)
          (filter (λ (n : ℕ). not (n == number)) (numbers_among is_in orders sender))
          (numbers_among is_in orders sender)
          ≡ numbers_among is_in (map (restated (has_number number) state) orders) sender
      by is_in out sender true f = rw f (sym (numbers_leave is_in sender number (λ o. record o { state = state })
          (λ o. out) orders))
      by is_in out sender false f = rw f (sym (numbers_keep is_in sender number (λ o. record o { state = state }) orders
          (λ k d lt g. (
            right_false (is_in (get_or orders k d).state) (bytes_eq (get_or orders k d).sender sender)
                (ap (λ (o : Order). bytes_eq o.sender sender) (only_one number order orders kept.rising at there is k d
                lt g) ∙ f),
            rw out refl,
          ))))

  -- a held order enters its queue, after the orders there
  pub kept_entered : (number date at : ℕ) (order : Order) (new more : QueueNumbers)
      → is_held_state order.state ≡ true → HasNumberAt number orders at → ((d : Order) → order ≡ get_or orders at d)
      → ((sender : List ℕ) → numbers_of new sender ≡ cond (bytes_eq order.sender sender)
      (put_in (λ n. nat_lt n number) number (numbers_of queues sender)) (numbers_of queues sender))
      → ((sender : List ℕ) → room_of queues sender ≤ room_of new sender + cond (bytes_eq order.sender sender) 1 0)
      → ((sender : List ℕ) → numbers_of more sender ≡ cond (bytes_eq order.sender sender)
      (filter (λ (n : ℕ). not (n == number)) (numbers_of held sender)) (numbers_of held sender))
      → ((sender : List ℕ) → room_of held sender ≤ room_of more sender)
      → IsKept (map (altered (has_number number) (entered date)) orders) new more next awaited holds tidy
  kept_entered number date at order new more is_held there is placed room dropped space = record {
    rising = rising_altered number (entered date) (λ o. refl) orders kept.rising;
    before = numbers_stay number (entered date) (λ o. refl) (λ n. n < next) orders kept.before;
    queued = λ sender. placed sender ∙ ap (λ ns. cond (bytes_eq order.sender sender)
        (put_in (λ n. nat_lt n number) number ns) ns) (kept.queued sender)
        ∙ comes sender (bytes_eq order.sender sender) refl;
    held = λ sender. dropped sender ∙ ap (λ ns. cond (bytes_eq order.sender sender)
        (filter (λ (n : ℕ). not (n == number)) ns) ns) (kept.held sender)
        ∙ goes sender (bytes_eq order.sender sender) refl;
    roomy = λ sender.
        let had = kept.roomy sender in
        let fit = fits sender 0 (omega arith) in omega arith;
    ready = λ sender f.
        let had = kept.ready sender f in
        let also = space sender in
        (fits sender 1 had.0, λ may. let one = had.1 may in omega arith);
    waiting = λ all. entered_wait orders (kept.waiting all);
  }
    where
      other : (sender : List ℕ) → bytes_eq order.sender sender ≡ false → (k : ℕ) (d : Order) → k < length orders
          → has_number number (get_or orders k d) ≡ true → bytes_eq (get_or orders k d).sender sender ≡ false
      other sender f k d lt g = ap (λ (o : Order). bytes_eq o.sender sender)
          (only_one number order orders kept.rising at there is k d lt g) ∙ f

      stays : (is_in : OrderState → Bool) (sender : List ℕ) → bytes_eq order.sender sender ≡ false
          → numbers_among is_in (map (altered (has_number number) (entered date)) orders) sender
          ≡ numbers_among is_in orders sender
      stays is_in sender f = numbers_keep is_in sender number (entered date) orders (λ k d lt g. (
        right_false (is_in (get_or orders k d).state) (bytes_eq (get_or orders k d).sender sender)
            (other sender f k d lt g),
        right_false (is_in Queued) (bytes_eq (get_or orders k d).sender sender) (other sender f k d lt g),
      ))

      goes : (sender : List ℕ) (b : Bool) → bytes_eq order.sender sender ≡ b
          → cond (bytes_eq order.sender sender)
          (filter (λ (n : ℕ). not (n == number)) (numbers_among is_held_state orders sender))
          (numbers_among is_held_state orders sender)
          ≡ numbers_among is_held_state (map (altered (has_number number) (entered date)) orders) sender
      goes sender true f = rw f (sym (numbers_leave is_held_state sender number (entered date) (λ o. refl) orders))
      goes sender false f = rw f (sym (stays is_held_state sender f))

      comes : (sender : List ℕ) (b : Bool) → bytes_eq order.sender sender ≡ b
          → cond (bytes_eq order.sender sender)
          (put_in (λ n. nat_lt n number) number (numbers_among is_queued_state orders sender))
          (numbers_among is_queued_state orders sender)
          ≡ numbers_among is_queued_state (map (altered (has_number number) (entered date)) orders) sender
      comes sender true f = rw f (sym (numbers_enter sender number date orders kept.rising at there
          (λ d. subst (λ (o : Order). is_held_state o.state ≡ true) (is d) is_held)
          (λ d. subst (λ (o : Order). bytes_eq o.sender sender ≡ true) (is d) f)))
      comes sender false f = rw f (sym (stays is_queued_state sender f))

      fits : (sender : List ℕ) (more_room : ℕ) → length (numbers_of held sender) + more_room ≤ room_of queues sender
          → length (numbers_of more sender) + more_room ≤ room_of new sender
      fits sender more_room had = split (bytes_eq order.sender sender) refl (room sender) (dropped sender)
        where
          split : (b : Bool) → bytes_eq order.sender sender ≡ b → room_of queues sender ≤ room_of new sender + cond b 1
              0
              → numbers_of more sender ≡ cond b (filter (λ (n : ℕ). not (n == number)) (numbers_of held sender))
              (numbers_of held sender) → length (numbers_of more sender) + more_room ≤ room_of new sender
          split true f less e =
              let among = number_among is_held_state sender orders at order there.in_range
              (subst (λ (o : Order). (is_held_state o.state && bytes_eq o.sender sender) ≡ true) (is order)
              (rw (is_held, f) refl)) in
              let shorter = one_less number (numbers_of held sender) among.0
              (subst (λ ns. among.0 < length ns) (sym (kept.held sender)) among.1)
              (ap (λ ns. get_or ns among.0 0) (kept.held sender) ∙ among.2 ∙ there.has_number order) in
              let long = ap length e in omega arith
          split false f less e = let long = ap length e in omega arith

      entered_wait : (os : List Order) → AreWaiting os → AreWaiting (map (altered (has_number number) (entered date))
          os)
      entered_wait [] h = tt
      entered_wait (o ∷ os) h = (waits (has_number number o) refl, entered_wait os h.1)
        where
          waits : (b : Bool) → has_number number o ≡ b → is_waiting (altered (has_number number) (entered date) o) ≡
              true
          waits true e = rw e refl
          waits false e = rw e h.0

  -- there is room in its queue for a held order
  pub kept_roomy : (number at : ℕ) (order : Order) → is_held_state order.state ≡ true → HasNumberAt number orders at
      → ((d : Order) → order ≡ get_or orders at d) → 1 ≤ room_of queues order.sender
  kept_roomy number at order is_held there is =
      let own_one : bytes_eq order.sender order.sender ≡ true = (bytes_decides order.sender order.sender).1 refl in
      let among = number_among is_held_state order.sender orders at order there.in_range
      (subst (λ (o : Order). (is_held_state o.state && bytes_eq o.sender order.sender) ≡ true) (is order)
      (rw (is_held, own_one) refl)) in
      let less : among.0 < length (numbers_of held order.sender) = subst (λ ns. among.0 < length ns)
      (sym (kept.held order.sender)) among.1 in
      let fits = kept.roomy order.sender in omega arith

  -- what waits no more is swept out
  pub kept_swept : IsKept (filter is_waiting orders) queues held next awaited holds true
  kept_swept = record {
    rising = rising_filter is_waiting orders kept.rising;
    before = all_filter (λ (o : Order). o.number < next) is_waiting orders kept.before;
    queued = λ sender. kept.queued sender ∙ same_numbers sender orders;
    held = λ sender. kept.held sender ∙ same_held sender orders;
    roomy = kept.roomy;
    ready = kept.ready;
    waiting = λ _. are_waiting orders;
  }

pub waiting_twice : (os : List Order) → filter is_waiting (filter is_waiting os) ≡ filter is_waiting os
waiting_twice [] = refl
waiting_twice (o ∷ os) = by (is_waiting o) refl (waiting_twice os)
  where
    by : (b : Bool) → is_waiting o ≡ b → filter is_waiting (filter is_waiting os) ≡ filter is_waiting os
        → filter is_waiting (cond b (o ∷ filter is_waiting os) (filter is_waiting os))
        ≡ cond b (o ∷ filter is_waiting os) (filter is_waiting os)
    by true e rest = rw e (ap (λ ys. o ∷ ys) rest)
    by false e rest = rest

-- ---- loading

-- the places of the orders so far
abbrev pub ArePlaces : List Order → QueueNumbers → QueueNumbers → Type 0
ArePlaces os queues others = record {
  queued : (sender : List ℕ) → numbers_of queues sender ≡ numbers_among is_queued_state os sender;
  held : (sender : List ℕ) → numbers_of others sender ≡ numbers_among is_held_state os sender;
  roomy : (sender : List ℕ) → length (numbers_of others sender) ≤ room_of queues sender;
}

module _ (os : List Order) (x : Order) (queues held reserved : QueueNumbers) (places : ArePlaces os queues held)
    (same : (sender : List ℕ) → numbers_of reserved sender ≡ numbers_of queues sender)
    (more : (sender : List ℕ) → room_of queues sender ≤ room_of reserved sender)
    (wide : length (numbers_of held x.sender) + 1 ≤ room_of reserved x.sender) where
  pub place_queued : (new : QueueNumbers) → is_queued_state x.state ≡ true → is_held_state x.state ≡ false
      → ((sender : List ℕ) → numbers_of new sender ≡ cond (bytes_eq x.sender sender)
      (numbers_of reserved sender ++ x.number ∷ []) (numbers_of reserved sender))
      → ((sender : List ℕ) → room_of reserved sender ≤ room_of new sender + cond (bytes_eq x.sender sender) 1 0)
      → ArePlaces (os ++ x ∷ []) new held
  place_queued new is out pushed room = record {
    queued = λ sender. pushed sender ∙ ap (λ ns. cond (bytes_eq x.sender sender) (ns ++ x.number ∷ []) ns)
        (same sender ∙ places.queued sender) ∙ sym (numbers_push is_queued_state sender os x ∙ rw is refl);
    held = λ sender. places.held sender ∙ sym (numbers_push is_held_state sender os x ∙ rw out refl);
    roomy = λ sender. by sender (bytes_eq x.sender sender) refl (room sender);
  }
    where
      by : (sender : List ℕ) (b : Bool) → bytes_eq x.sender sender ≡ b
          → room_of reserved sender ≤ room_of new sender + cond b 1 0 → length (numbers_of held sender) ≤ room_of new
          sender
      by sender true e less =
          let at : x.sender ≡ sender = (bytes_decides x.sender sender).0 e in
          let had = subst (λ s. length (numbers_of held s) + 1 ≤ room_of reserved s) at wide in omega arith
      by sender false e less = let had = places.roomy sender in let has = more sender in omega arith

  pub place_held : (new space : QueueNumbers) → is_queued_state x.state ≡ false → is_held_state x.state ≡ true
      → ((sender : List ℕ) → numbers_of space sender ≡ numbers_of held sender)
      → ((sender : List ℕ) → numbers_of new sender ≡ cond (bytes_eq x.sender sender)
      (numbers_of space sender ++ x.number ∷ []) (numbers_of space sender))
      → ArePlaces (os ++ x ∷ []) reserved new
  place_held new space out is spaced pushed = record {
    queued = λ sender. same sender ∙ places.queued sender
        ∙ sym (numbers_push is_queued_state sender os x ∙ rw out refl);
    held = λ sender. pushed sender ∙ ap (λ ns. cond (bytes_eq x.sender sender) (ns ++ x.number ∷ []) ns)
        (spaced sender ∙ places.held sender) ∙ sym (numbers_push is_held_state sender os x ∙ rw is refl);
    roomy = λ sender. by sender (bytes_eq x.sender sender) refl (pushed sender);
  }
    where
      by : (sender : List ℕ) (b : Bool) → bytes_eq x.sender sender ≡ b
          → numbers_of new sender ≡ cond b (numbers_of space sender ++ x.number ∷ []) (numbers_of space sender)
          → length (numbers_of new sender) ≤ room_of reserved sender
      by sender true e is =
          let at : x.sender ≡ sender = (bytes_decides x.sender sender).0 e in
          let had = subst (λ s. length (numbers_of held s) + 1 ≤ room_of reserved s) at wide in
          let long : length (numbers_of new sender) ≡ length (numbers_of held sender) + 1 = ap length is
          ∙ length-append (numbers_of space sender) (x.number ∷ []) ∙ ap (λ ns. length ns + 1) (spaced sender) in
          omega arith
      by sender false e is =
          let had = places.roomy sender in
          let has = more sender in
          let long : length (numbers_of new sender) ≡ length (numbers_of held sender) = ap length is
          ∙ ap length (spaced sender) in
          omega arith

  pub place_none : is_queued_state x.state ≡ false → is_held_state x.state ≡ false
      → ArePlaces (os ++ x ∷ []) reserved held
  place_none out also = record {
    queued = λ sender. same sender ∙ places.queued sender
        ∙ sym (numbers_push is_queued_state sender os x ∙ rw out refl);
    held = λ sender. places.held sender ∙ sym (numbers_push is_held_state sender os x ∙ rw also refl);
    roomy = λ sender. let had = places.roomy sender in let has = more sender in omega arith;
  }

pub not_queued : (state : OrderState) → (state ≡ Queued → ⊥) → is_queued_state state ≡ false
not_queued Queued apart = absurd (apart refl)
not_queued Held apart = refl
not_queued (Settled mark) apart = refl
not_queued Withdrawn apart = refl
not_queued Rejected apart = refl

pub not_held : (state : OrderState) → (state ≡ Held → ⊥) → is_held_state state ≡ false
not_held Queued apart = refl
not_held Held apart = absurd (apart refl)
not_held (Settled mark) apart = refl
not_held Withdrawn apart = refl
not_held Rejected apart = refl
