-- How many orders are queued or held.
use Rattle.std.proofs.Common.{◌≡◌, ℕ, ◌+◌, ◌*◌, ◌≤◌, Bool, true, false, not, ◌&&◌, ◌||◌, List, [], ◌∷◌, length, filter}
use Rattle.std.proofs.Common.{refl, sym, ap, subst, cond, true≢false, arith}
use Rattle.std.specs.List.{AllByRecursion, list_any}
use Rattle.std.specs.Str.{bytes_eq}
use Rattle.rtgs_book.specs.declared.limits.TheConstants.{LONGEST_QUEUE, MOST_PARTICIPANTS, MOST_QUEUED}
use Rattle.rtgs_book.specs.Books.{Book, Order, is_waiting}
use Rattle.rtgs_book.specs.Lookup.{codes_of, is_participant}
use Rattle.rtgs_book.specs.Queue.{waiting}
use Rattle.rtgs_book.specs.Soundness.{IsSound, has_parties}
use Rattle.rtgs_lists.proofs.Bools.{and_right, first_of_three}
use Rattle.rtgs_lists.proofs.Filters.{filter_twice, filter_shorter}
use Rattle.rtgs_lists.proofs.Lists.{all_filter, all_weaker}

-- the order is of this sender
is_from : List ℕ → Order → Bool
is_from code o = bytes_eq o.sender code

-- the sender is one of these
IsOneOf : List (List ℕ) → Order → Type 0
IsOneOf codes o = list_any (bytes_eq o.sender) codes ≡ true

-- those that pass and those that do not are all
parts : (p : Order → Bool) (os : List Order) → length (filter p os) + length (filter (λ o. not (p o)) os) ≡ length os
parts p [] = omega arith
parts p (o ∷ os) = by (p o) (parts p os)
  where
    by : (b : Bool) → length (filter p os) + length (filter (λ o. not (p o)) os) ≡ length os
        → length (cond b (o ∷ filter p os) (filter p os))
        + length (cond (not b) (o ∷ filter (λ o. not (p o)) os) (filter (λ o. not (p o)) os)) ≡ length (o ∷ os)
    by true rest = omega arith
    by false rest = omega arith

-- what is not of the first sender is of another
others_known : (code : List ℕ) (codes : List (List ℕ)) (os : List Order) → AllByRecursion (IsOneOf (code ∷ codes)) os
    → AllByRecursion (IsOneOf codes) (filter (λ o. not (is_from code o)) os)
unfolding IsOneOf is_from
others_known code codes [] known = tt
others_known code codes (o ∷ os) known = by (bytes_eq o.sender code) known.0 (others_known code codes os known.1)
  where
    by : (b : Bool) → (b || list_any (bytes_eq o.sender) codes) ≡ true
        → AllByRecursion (IsOneOf codes) (filter (λ o. not (is_from code o)) os)
        → AllByRecursion (IsOneOf codes) (cond (not b) (o ∷ filter (λ o. not (is_from code o)) os)
        (filter (λ o. not (is_from code o)) os))
    by true e rest = rest
    by false e rest = (e, rest)

-- where no sender has more than these, all senders together have at most as many for each
few_from : (most : ℕ) (codes : List (List ℕ)) (os : List Order) → AllByRecursion (IsOneOf codes) os
    → AllByRecursion (λ code. length (filter (is_from code) os) ≤ most) codes → length os ≤ length codes * most
unfolding IsOneOf
few_from most [] [] known few = omega arith
few_from most [] (o ∷ os) known few = absurd (true≢false (sym known.0))
few_from most (code ∷ codes) os known few =
    let fewer = all_weaker (λ c. length (filter (is_from c) os) ≤ most)
    (λ c. length (filter (is_from c) (filter (λ o. not (is_from code o)) os)) ≤ most)
    (λ c k. less c k) codes few.1 in
    let rest = few_from most codes (filter (λ o. not (is_from code o)) os) (others_known code codes os known) fewer in
    let all = parts (is_from code) os in
    let here = few.0 in
    omega arith
  where
    less : (c : List ℕ) → length (filter (is_from c) os) ≤ most
        → length (filter (is_from c) (filter (λ o. not (is_from code o)) os)) ≤ most
    less c k =
        let twice = filter_twice (λ o. not (is_from code o)) (is_from c) os in
        let shorter = filter_shorter (λ o. not (is_from code o) && is_from c o) (is_from c)
        (λ o e. and_right (not (is_from code o)) (is_from c o) e) os in
        rw twice (omega arith)

pub few_wait : (book : Book) → IsSound book → length (filter is_waiting book.orders) ≤ MOST_QUEUED
unfolding IsOneOf is_from is_participant waiting
few_wait book sound =
    let known = all_weaker (λ o. has_parties book o ≡ true) (IsOneOf (codes_of book))
    (λ o k. first_of_three (is_participant book o.sender) (is_participant book o.receiver)
    (not (bytes_eq o.sender o.receiver)) k) book.orders sound.parties.0 in
    let short = all_weaker (λ code. length (waiting book code) ≤ LONGEST_QUEUE)
    (λ code. length (filter (is_from code) (filter is_waiting book.orders)) ≤ LONGEST_QUEUE)
    (λ code k. rw (filter_twice is_waiting (is_from code) book.orders) k) (codes_of book) sound.queues.short in
    let few = few_from LONGEST_QUEUE (codes_of book) (filter is_waiting book.orders)
    (all_filter (IsOneOf (codes_of book)) is_waiting book.orders known) short in
    let participants = sound.codes_rise.1 in
    omega arith
