-- What follows of what the desk says of queues.
use Rattle.std.proofs.Common.{◌≡◌, ◌∙◌, ◌↔◌, ℕ, ℤ, pos, ◌+ℤ◌, ◌-ℤ◌, ◌≤ℤ◌, int_lt, unsigned_abs, Bool, true, false, cond}
use Rattle.std.proofs.Common.{◌||◌, List, [], ◌∷◌, ◌++◌, length, length-take, filter, take, nat_cmp, refl, sym, ap}
use Rattle.std.proofs.Common.{subst, true≢false, arith}
use Rattle.std.proofs.lemmas.Int.{ints}
use Rattle.std.proofs.lemmas.List.Sums.{sum_by-cons}
use Rattle.std.specs.Cmp.Lexicographic.{slice_cmp, bytes_decides}
use Rattle.std.specs.List.{AllByRecursion, flat_map, list_any}
use Rattle.std.specs.List.Sorted.{IsStrictlySortedBy}
use Rattle.std.specs.Str.{bytes_eq}
use Rattle.rtgs_lists.proofs.Bools.{and_left, and_right}
use Rattle.rtgs_lists.proofs.Codes.{bytes_eq_self}
use Rattle.rtgs_lists.proofs.Lists.{all_append, all_filter, all_weaker}
use Rattle.rtgs_lists.proofs.Sums.{at_code, int_sum_by-append, int_sum_by-both, int_sum_by-same, sum_at_code}
use Rattle.rtgs_book.specs.declared.book.Book.{Book}
use Rattle.rtgs_book.specs.declared.order.Order.{Order}
use Rattle.rtgs_book.specs.declared.queue_reading.QueueReading.{QueueReading}
use Rattle.rtgs_book.specs.declared.receiver_reading.ReceiverReading.{ReceiverReading}
use Rattle.rtgs_book.specs.Books.{is_empty}
use Rattle.rtgs_book.specs.Choice.{Choice, chosen}
use Rattle.rtgs_book.specs.IntSum.{int_sum_by}
use Rattle.rtgs_book.specs.Lookup.{codes_of, is_participant}
use Rattle.rtgs_book.specs.Queue.{queue}
use Rattle.rtgs_book.specs.Soundness.{has_parties, IsSound, OrdersAreNumbered}
use Rattle.rtgs_desk.specs.Payments.{paid_to}
use Rattle.rtgs_desk.specs.Queues.{AgreesWithAccount, IsCoveredAsSaid, SharesTheQueue, headroom, queue_if_any}
use Rattle.rtgs_desk.specs.Queues.{queue_readings, reading_of_queue, receiver_of, short_of}
use Rattle.rtgs_desk.specs.Readings.{value_of}

-- what holds of each queue that has orders holds of all that is said
pub each : (P : QueueReading → Type 0) (book : Book) (choice : Choice) (codes : List (List ℕ))
    → ((code : List ℕ) (first : Order) (rest : List Order) → queue book code ≡ first ∷ rest
    → P (reading_of_queue book choice code first (first ∷ rest)))
    → AllByRecursion P (flat_map (λ code. queue_if_any book choice code (queue book code)) codes)
each P book choice [] h = tt
each P book choice (code ∷ codes) h =
    all_append P (queue_if_any book choice code (queue book code)) _ (one (queue book code) refl)
    (each P book choice codes h)
  where
    one : (orders : List Order) → queue book code ≡ orders → AllByRecursion P (queue_if_any book choice code orders)
    one [] e = tt
    one (first ∷ rest) e = (h code first rest e, tt)

-- ---- accounts

pub agree : (book : Book) (choice : Choice) → AllByRecursion (AgreesWithAccount book) (queue_readings book choice)
agree book choice = each (AgreesWithAccount book) book choice (codes_of book) (λ code first rest e. record {
  queued = λ p. ap (length {A = Order}) (sym e);
  value = λ p. ap (λ (orders : List Order). pos (value_of orders)) (sym e);
})

-- ---- receivers

none_paid : (codes : List (List ℕ)) → int_sum_by (λ (code : List ℕ). pos 0) codes ≡ pos 0
none_paid [] = refl
none_paid (code ∷ codes) = let rest = none_paid codes in omega (arith, ints)

-- an order counts at its receiver, and nowhere else
shared : (f : Order → ℤ) (codes : List (List ℕ)) (orders : List Order)
    → IsStrictlySortedBy (slice_cmp nat_cmp) codes
    → AllByRecursion (λ (o : Order). list_any (bytes_eq o.receiver) codes ≡ true) orders
    → int_sum_by (λ code. int_sum_by f (paid_to code orders)) codes ≡ int_sum_by f orders
shared f codes [] rise known = none_paid codes
shared f codes (o ∷ os) rise known =
    int_sum_by-same (λ code. int_sum_by f (paid_to code (o ∷ os)))
    (λ code. at_code o.receiver (f o) code +ℤ int_sum_by f (paid_to code os))
    (λ code. one (bytes_eq o.receiver code) (paid_to code os)) codes
    ∙ int_sum_by-both (at_code o.receiver (f o)) (λ code. int_sum_by f (paid_to code os)) codes
    ∙ (λ j. sum_at_code o.receiver (f o) codes rise known.0 j +ℤ shared f codes os rise known.1 j)
  where
    one : (b : Bool) (xs : List Order) → int_sum_by f (cond b (o ∷ xs) xs)
        ≡ cond b (f o) (pos 0) +ℤ int_sum_by f xs
    one true xs = refl
    one false xs = omega (arith, ints)

-- so it is with what is said of the receivers
said : (g : ReceiverReading → ℤ) (f : Order → ℤ) → ((code : List ℕ) (orders : List Order)
    → int_sum_by g (receiver_of code orders) ≡ int_sum_by f orders) → (codes : List (List ℕ)) (orders : List Order)
    → int_sum_by g (flat_map (λ code. receiver_of code (paid_to code orders)) codes)
    ≡ int_sum_by (λ code. int_sum_by f (paid_to code orders)) codes
said g f same [] orders = refl
said g f same (code ∷ codes) orders =
    int_sum_by-append g (receiver_of code (paid_to code orders)) _
    ∙ (λ j. same code (paid_to code orders) j +ℤ said g f same codes orders j)

counted : (orders : List Order) → int_sum_by (λ (o : Order). pos 1) orders ≡ pos (length orders)
counted [] = refl
counted (o ∷ os) = let rest = counted os in omega (arith, ints)

valued : (orders : List Order) → int_sum_by (λ (o : Order). pos o.amount) orders ≡ pos (value_of orders)
valued [] = refl
valued (o ∷ os) =
    let rest = valued os in
    let sum = sum_by-cons (λ (o : Order). o.amount) o os in
    omega (arith, ints)

one_counted : (code : List ℕ) (orders : List Order)
    → int_sum_by (λ (r : ReceiverReading). pos r.queued) (receiver_of code orders)
    ≡ int_sum_by (λ (o : Order). pos 1) orders
one_counted code [] = refl
one_counted code (o ∷ os) = let all = counted (o ∷ os) in omega (arith, ints)

one_valued : (code : List ℕ) (orders : List Order)
    → int_sum_by (λ (r : ReceiverReading). r.queued_value) (receiver_of code orders)
    ≡ int_sum_by (λ (o : Order). pos o.amount) orders
one_valued code [] = refl
one_valued code (o ∷ os) = let all = valued (o ∷ os) in omega (arith, ints)

-- a queue pays participants
known_receivers : (book : Book) (code : List ℕ) → IsSound book
    → AllByRecursion (λ (o : Order). list_any (bytes_eq o.receiver) (codes_of book) ≡ true) (queue book code)
unfolding queue is_participant
known_receivers book code sound =
    all_filter (λ (o : Order). list_any (bytes_eq o.receiver) (codes_of book) ≡ true) _ book.orders
    (all_weaker (λ o. has_parties book o ≡ true)
    (λ (o : Order). list_any (bytes_eq o.receiver) (codes_of book) ≡ true)
    (λ o e. and_right _ _ (and_left _ _ e)) book.orders sound.parties.0)

pub share : (book : Book) (choice : Choice) → IsSound book → AllByRecursion SharesTheQueue (queue_readings book choice)
share book choice sound = each SharesTheQueue book choice (codes_of book) (λ code first rest e.
    let known = subst (AllByRecursion (λ (o : Order). list_any (bytes_eq o.receiver) (codes_of book) ≡ true)) e
    (known_receivers book code sound) in
    record {
      queued = said (λ (r : ReceiverReading). pos r.queued) (λ (o : Order). pos 1) one_counted (codes_of book)
          (first ∷ rest) ∙ shared (λ (o : Order). pos 1) (codes_of book) (first ∷ rest) sound.codes_rise.0 known
          ∙ counted (first ∷ rest);
      value = said (λ (r : ReceiverReading). r.queued_value) (λ (o : Order). pos o.amount) one_valued (codes_of book)
          (first ∷ rest) ∙ shared (λ (o : Order). pos o.amount) (codes_of book) (first ∷ rest) sound.codes_rise.0 known
          ∙ valued (first ∷ rest);
    })

-- ---- what settles

empty_is : (orders : List Order) → is_empty orders ≡ true → orders ≡ []
empty_is [] e = refl
empty_is (o ∷ os) e = absurd (cc)

pub nothing_settles : ((book : Book) (choice : Choice) (code : List ℕ) → OrdersAreNumbered book
    → filter (λ (o : Order). bytes_eq o.sender code) (chosen book choice) ≡ take (choice code) (queue book code))
    → (book : Book) (choice : Choice) → OrdersAreNumbered book → is_empty (chosen book choice) ≡ true
    → AllByRecursion (λ (r : QueueReading). r.settling ≡ 0) (queue_readings book choice)
nothing_settles beginnings book choice numbered none =
    each (λ (r : QueueReading). r.settling ≡ 0) book choice (codes_of book) (λ code first rest e.
    ap (λ (orders : List Order). length (take (choice code) orders)) (sym e)
    ∙ ap (length {A = Order}) (sym (beginnings book choice code numbered))
    ∙ ap (λ (orders : List Order). length (filter (λ (o : Order). bytes_eq o.sender code) orders))
    (empty_is (chosen book choice) none))

all_left : (P : QueueReading → Type 0) (xs ys : List QueueReading) → AllByRecursion P (xs ++ ys) → AllByRecursion P xs
all_left P [] ys h = tt
all_left P (x ∷ xs) ys h = (h.0, all_left P xs ys h.1)

all_right : (P : QueueReading → Type 0) (xs ys : List QueueReading) → AllByRecursion P (xs ++ ys) → AllByRecursion P ys
all_right P [] ys h = h
all_right P (x ∷ xs) ys h = all_right P xs ys h.1

-- what holds of all that is said holds of each participant's queue
at_participant : (P : QueueReading → Type 0) (book : Book) (choice : Choice) (code : List ℕ) (codes : List (List ℕ))
    → list_any (bytes_eq code) codes ≡ true
    → AllByRecursion P (flat_map (λ c. queue_if_any book choice c (queue book c)) codes)
    → AllByRecursion P (queue_if_any book choice code (queue book code))
at_participant P book choice code [] has all = absurd (true≢false (sym has))
at_participant P book choice code (c ∷ codes) has all = by (bytes_eq code c) refl has (λ later.
    at_participant P book choice code codes later (all_right P (queue_if_any book choice c (queue book c)) _ all))
  where
    by : (b : Bool) → bytes_eq code c ≡ b → (b || list_any (bytes_eq code) codes) ≡ true
        → (list_any (bytes_eq code) codes ≡ true → AllByRecursion P (queue_if_any book choice code (queue book code)))
        → AllByRecursion P (queue_if_any book choice code (queue book code))
    by true e h rest = subst (λ (x : List ℕ). AllByRecursion P (queue_if_any book choice x (queue book x)))
        (sym ((bytes_decides code c).0 e)) (all_left P (queue_if_any book choice c (queue book c)) _ all)
    by false e h rest = rest h

none_taken : (book : Book) (choice : Choice) (code : List ℕ) (orders : List Order)
    → AllByRecursion (λ (r : QueueReading). r.settling ≡ 0) (queue_if_any book choice code orders)
    → length (take (choice code) orders) ≡ 0
none_taken book choice code [] h = let long = length-take {A = Order} (choice code) [] in omega (arith, long)
none_taken book choice code (o ∷ os) h = h.0

known_senders : (book : Book) (choice : Choice) → IsSound book
    → AllByRecursion (λ (o : Order). list_any (bytes_eq o.sender) (codes_of book) ≡ true) (chosen book choice)
unfolding chosen is_participant
known_senders book choice sound =
    all_filter (λ (o : Order). list_any (bytes_eq o.sender) (codes_of book) ≡ true) _ book.orders
    (all_weaker (λ o. has_parties book o ≡ true)
    (λ (o : Order). list_any (bytes_eq o.sender) (codes_of book) ≡ true)
    (λ o e. and_left _ _ (and_left _ _ e)) book.orders sound.parties.0)

pub nothing_chosen : ((book : Book) (choice : Choice) (code : List ℕ) → OrdersAreNumbered book
    → filter (λ (o : Order). bytes_eq o.sender code) (chosen book choice) ≡ take (choice code) (queue book code))
    → (book : Book) (choice : Choice) → IsSound book
    → AllByRecursion (λ (r : QueueReading). r.settling ≡ 0) (queue_readings book choice)
    → is_empty (chosen book choice) ≡ true
nothing_chosen beginnings book choice sound none = by (chosen book choice) refl
  where
    by : (orders : List Order) → chosen book choice ≡ orders → is_empty orders ≡ true
    by [] e = refl
    by (o ∷ os) e =
        let known = subst (AllByRecursion (λ (o : Order). list_any (bytes_eq o.sender) (codes_of book) ≡ true)) e
        (known_senders book choice sound) in
        let here = at_participant (λ (r : QueueReading). r.settling ≡ 0) book choice o.sender (codes_of book) known.0
        none in
        let taken : length (take (choice o.sender) (queue book o.sender)) ≡ 0 =
        none_taken book choice o.sender (queue book o.sender) here in
        let its : filter (λ (other : Order). bytes_eq other.sender o.sender) (o ∷ os)
        ≡ o ∷ filter (λ (other : Order). bytes_eq other.sender o.sender) os = rw (bytes_eq_self o.sender) refl in
        let same : o ∷ filter (λ (other : Order). bytes_eq other.sender o.sender) os
        ≡ take (choice o.sender) (queue book o.sender) = sym its
        ∙ ap (filter (λ (other : Order). bytes_eq other.sender o.sender)) (sym e)
        ∙ beginnings book choice o.sender sound.orders_numbered in
        absurd (omega (arith, taken, ap (length {A = Order}) same))

-- ---- cover

pub lt_from_test_false : (a b : ℤ) → int_lt a b ≡ false → b ≤ℤ a
lt_from_test_false a b e = grind (arith, ints)

pub no_gap : (h a : ℤ) → int_lt h a ≡ true → unsigned_abs (a -ℤ h) ≡ 0 → a ≤ℤ h
no_gap h a e none = absurd (grind (arith, ints))

not_less : (h a : ℤ) → int_lt h a ≡ true → a ≤ℤ h → unsigned_abs (a -ℤ h) ≡ 0
not_less h a e le = absurd (grind (arith, ints))

pub covers_first : (h : ℤ) (amount : ℕ) → short_of h amount ≡ 0 → pos amount ≤ℤ h
covers_first h amount none = by (int_lt h (pos amount)) refl none
  where
    by : (b : Bool) → int_lt h (pos amount) ≡ b → cond b (unsigned_abs (pos amount -ℤ h)) 0 ≡ 0 → pos amount ≤ℤ h
    by true e none = no_gap h (pos amount) e none
    by false e none = lt_from_test_false h (pos amount) e

pub covered : (book : Book) (choice : Choice) → AllByRecursion IsCoveredAsSaid (queue_readings book choice)
covered book choice = each IsCoveredAsSaid book choice (codes_of book)
    (λ code first rest e. by (headroom book code) (pos first.amount)
    (int_lt (headroom book code) (pos first.amount)) refl)
  where
    by : (h a : ℤ) (b : Bool) → int_lt h a ≡ b → (cond b (unsigned_abs (a -ℤ h)) 0 ≡ 0) ↔ (a ≤ℤ h)
    by h a true e = (no_gap h a e, not_less h a e)
    by h a false e = (λ none. lt_from_test_false h a e, λ le. refl)
