-- What is read of orders that wait: by their numbers, and in the queues of their senders.
use Rattle.std.proofs.Common.{◌≡◌, ℕ, ◌<◌, Bool, true, false, ◌&&◌, cond, List, [], ◌∷◌, filter, length, get_or, find}
use Rattle.std.proofs.Common.{Some, refl, sym, ap, ◌∙◌, true≢false, arith}
use Rattle.std.proofs.lemmas.Bool.Decides.{nat_tests}
use Rattle.std.proofs.lemmas.List.{get_or-map}
use Rattle.std.specs.List.{AllByRecursion}
use Rattle.std.specs.Str.{bytes_eq}
use Rattle.rtgs_book.specs.declared.order.Order.{Order}
use Rattle.rtgs_book.specs.Books.{is_queued, is_waiting}
use Rattle.rtgs_book.specs.Commands.{has_number}
use Rattle.rtgs_book.specs.Queue.{queued_among, queued_numbers}
use Rattle.rtgs_records.specs.queues.Orders.{AreRising}
use Rattle.rtgs_records.proofs.queues.OrderLemmas.{queued_waits}
use Rattle.rtgs_lists.proofs.Lists.{all_at_place, all_filter, all_weaker}
use Rattle.rtgs_lists.proofs.Numbers.{eq_self}

all_both : {X : Type 0} (P Q : X → Type 0) (xs : List X) → AllByRecursion P xs → AllByRecursion Q xs
    → AllByRecursion (λ x. P x × Q x) xs
all_both P Q [] h k = tt
all_both P Q (x ∷ xs) h k = ((h.0, k.0), all_both P Q xs h.1 k.1)

-- where numbers rise, each order is found by its own
pub found_by_number : (os : List Order) → AreRising os → AllByRecursion (λ x. find (has_number x.number) os ≡ Some x) os
found_by_number [] h = tt
found_by_number (o ∷ os) h = (
  rw (eq_self o.number) refl,
  all_weaker (λ x. (o.number < x.number) × (find (has_number x.number) os ≡ Some x))
      (λ x. find (has_number x.number) (o ∷ os) ≡ Some x) (λ x k. later x k.0 k.1) os
      (all_both (λ x. o.number < x.number) (λ x. find (has_number x.number) os ≡ Some x) os h.0
      (found_by_number os h.1)),
)
  where
    later : (x : Order) → o.number < x.number → find (has_number x.number) os ≡ Some x
        → find (has_number x.number) (o ∷ os) ≡ Some x
    later x above found =
        let apart : has_number x.number o ≡ false = grind (arith, nat_tests, above) in
        rw apart found

-- so the numbers in a queue lead to its orders
pub queued_at : (os : List Order) → AreRising os → (sender : List ℕ) (k : ℕ) (d : Order)
    → k < length (queued_among os sender)
    → find (has_number (get_or (queued_numbers os sender) k 0)) os ≡ Some (get_or (queued_among os sender) k d)
queued_at os rise sender k d lt =
    ap (λ n. find (has_number n) os) (get_or-map (λ (o : Order). o.number) (queued_among os sender) k d 0 lt)
    ∙ all_at_place (λ x. find (has_number x.number) os ≡ Some x) (queued_among os sender)
    (all_filter (λ x. find (has_number x.number) os ≡ Some x) (λ o. is_queued o && bytes_eq o.sender sender) os
    (found_by_number os rise)) k d lt

-- the queues are those among the orders that wait
pub among_waiting : (sender : List ℕ) (os : List Order) → queued_among (filter is_waiting os) sender
    ≡ queued_among os sender
among_waiting sender [] = refl
among_waiting sender (o ∷ os) = by (is_waiting o) (is_queued o) (bytes_eq o.sender sender) refl refl refl
    (among_waiting sender os)
  where
    by : (w a b : Bool) → is_waiting o ≡ w → is_queued o ≡ a → bytes_eq o.sender sender ≡ b
        → queued_among (filter is_waiting os) sender ≡ queued_among os sender
        → queued_among (cond w (o ∷ filter is_waiting os) (filter is_waiting os)) sender ≡ queued_among (o ∷ os) sender
    by true true true w e f rest = rw (e, f) (ap (λ xs. o ∷ xs) rest)
    by true true false w e f rest = rw (e, f) rest
    by true false b w e f rest = rw e rest
    by false true b w e f rest = absurd (true≢false (sym (queued_waits o.state e) ∙ w))
    by false false b w e f rest = rw e rest
