-- What larger and smaller choices do to a participant.
use Rattle.std.proofs.Common.{List, ◌≡◌, ℕ, ◌+◌, ◌<◌, ◌≤◌, length, take, refl, ap, ◌∙◌, inl, inr, arith, ◌≤ℤ◌}
use Rattle.std.specs.List.{sum_by}
use Rattle.std.proofs.lemmas.Int.{ints}
use Rattle.std.proofs.lemmas.Bool.{cases_lt}
use Rattle.rtgs_gridlock.specs.declared.queues.Payment.{Payment}
use Rattle.rtgs_gridlock.specs.declared.positions.Position.{Position}
use Rattle.rtgs_gridlock.specs.Choices.{sum_below, amount_to, position_of, queue_of, payment_count, sent, received}
use Rattle.rtgs_gridlock.specs.Choices.{IsCovered, IsFeasible}
use Rattle.rtgs_gridlock.proofs.Sums.{sum_below_none, sum_below_more, sum_below-fewer, sum_below-le, sum_by-take-longer}

pub sent_is : (queues : List (List Payment)) (choice : ℕ → ℕ) (p : ℕ)
    → sent queues choice p ≡ sum_by (λ payment. payment.amount) (take (choice p) (queue_of queues p))
unfolding sent
sent_is queues choice p = refl

-- the same number chosen of its queue, the same amount sent
pub sent-same : (queues : List (List Payment)) (a b : ℕ → ℕ) (p : ℕ) → a p ≡ b p → sent queues a p ≡ sent queues b p
unfolding sent
sent-same queues a b p e = ap (λ (x : ℕ). sum_by (λ payment. payment.amount) (take x (queue_of queues p))) e

-- a smaller choice brings at most as much
pub received-le : (queues : List (List Payment)) (small large : ℕ → ℕ) (p : ℕ)
    → ((s : ℕ) → s < length queues → small s ≤ large s) → received queues small p ≤ received queues large p
unfolding received
received-le queues small large p h =
    sum_below-le (length queues) _ _ (λ s b. sum_by-take-longer (amount_to p) (queue_of queues s) (small s) (large s)
    (h s b))

-- a participant that is short under a choice has fewer payments in each smaller feasible one
pub short_has_fewer : (positions : List Position) (queues : List (List Payment)) (small large : ℕ → ℕ) (p : ℕ)
    → IsFeasible positions queues small → ((s : ℕ) → s < length queues → small s ≤ large s) → p < length queues
    → (IsCovered positions queues large p → ⊥) → small p < large p
short_has_fewer positions queues small large p feasible below within short =
    elim (cases_lt (small p) (large p)) [
      | inl fewer ↦ fewer
      | inr equal ↦ absurd (short (covered_too equal))
    ]
  where
    covered_too : large p ≤ small p → IsCovered positions queues large p
    covered_too equal =
        let same : sent queues small p ≡ sent queues large p =
        sent-same queues small large p (omega (arith, below p within)) in
        let less = received-le queues small large p below in
        let here = feasible.covered p within in
        omega (arith, ints, same, less, here)

-- how many payments the first n participants have queued
unfoldable pub payments_below : ℕ → List (List Payment) → ℕ
payments_below n queues = sum_below n (λ p. length (queue_of queues p))

-- what the chosen payments of the first n participants bring to p
unfoldable pub received_from : ℕ → List (List Payment) → (ℕ → ℕ) → ℕ → ℕ
received_from n queues choice p =
    sum_below n (λ sender. sum_by (amount_to p) (take (choice sender) (queue_of queues sender)))

pub received_from_none : (queues : List (List Payment)) (choice : ℕ → ℕ) (p : ℕ) → received_from 0 queues choice p ≡ 0
unfolding received_from
received_from_none queues choice p = sum_below_none _

pub received_from_more : (n : ℕ) (queues : List (List Payment)) (choice : ℕ → ℕ) (p : ℕ)
    → received_from (n + 1) queues choice p ≡ received_from n queues choice p
    + sum_by (amount_to p) (take (choice n) (queue_of queues n))
unfolding received_from
received_from_more n queues choice p = sum_below_more n _

pub received_from_all : (queues : List (List Payment)) (choice : ℕ → ℕ) (p : ℕ)
    → received queues choice p ≡ received_from (length queues) queues choice p
unfolding received_from received
received_from_all queues choice p = refl

pub payments_below_none : (queues : List (List Payment)) → payments_below 0 queues ≡ 0
unfolding payments_below
payments_below_none queues = sum_below_none _

pub payments_below_more : (n : ℕ) (queues : List (List Payment))
    → payments_below (n + 1) queues ≡ payments_below n queues + length (queue_of queues n)
unfolding payments_below
payments_below_more n queues = sum_below_more n _

pub payments_below_all : (queues : List (List Payment)) → payment_count queues ≡ payments_below (length queues) queues
unfolding payments_below payment_count
payments_below_all queues = refl

pub payments_below-le : (n : ℕ) (queues : List (List Payment)) → n ≤ length queues
    → payments_below n queues ≤ payment_count queues
unfolding payments_below payment_count
payments_below-le n queues h = sum_below-fewer n (length queues) _ h

-- with balances at their floors or above, a participant that has nothing chosen is covered
pub short_has_one : (positions : List Position) (queues : List (List Payment)) (choice : ℕ → ℕ) (p : ℕ)
    → (position_of positions p).floor ≤ℤ (position_of positions p).balance → (IsCovered positions queues choice p → ⊥)
    → 0 < choice p
short_has_one positions queues choice p floored short =
    elim (cases_lt 0 (choice p)) [
      | inl some ↦ some
      | inr none ↦ absurd (short (covered_by (omega arith)))
    ]
  where
    covered_by : choice p ≡ 0 → IsCovered positions queues choice p
    covered_by none =
        let nothing : sent queues choice p ≡ 0 =
        sent_is queues choice p ∙ ap (λ (x : ℕ). sum_by (λ payment. payment.amount) (take x (queue_of queues p))) none
        in
        omega (arith, ints, nothing, floored)

-- the three laws of a count over the participants, and its bound
pub ruleset counts = (payments_below_none, payments_below_more, payments_below_all, payments_below-le)
