-- Laws of the greatest choice.
use Rattle.std.proofs.Common.{◌≡◌, ℕ, zero, suc, List, ◌+◌, ◌<◌, ◌≤◌, length, take, drop, refl, sym, ap, ◌∙◌, arith}
use Rattle.std.specs.List.{sum_by}
use Rattle.std.proofs.Math.Seq.{take-add}
use Rattle.std.proofs.lemmas.List.{length-drop}
use Rattle.std.proofs.lemmas.List.Sums.{sum_by-append}
use Rattle.std.proofs.lemmas.Int.{ints}
use Rattle.rtgs_gridlock.specs.declared.positions.Position.{Position}
use Rattle.rtgs_gridlock.specs.Choices.{sum_below, amount_to, queue_of, sent, received, IsWithin, IsFeasible}
use Rattle.rtgs_gridlock.specs.Choices.{IsGreatest}
use Rattle.rtgs_gridlock.specs.Laws.{IsSettled, order_count, value_of}
use Rattle.rtgs_gridlock.specs.declared.queues.Payment.{Payment}
use Rattle.rtgs_gridlock.proofs.Sums.{sum_below-le, sum_by-take-longer}
use Rattle.rtgs_gridlock.proofs.ChoiceLemmas.{sent_is}

-- sums of sums
pub sum_below-plus : (n : ℕ) (f g h : ℕ → ℕ) → ((k : ℕ) → k < n → f k ≡ g k + h k)
    → sum_below n f ≡ sum_below n g + sum_below n h
unfolding sum_below
sum_below-plus zero f g h e = refl
sum_below-plus (suc n) f g h e =
    omega (arith, sum_below-plus n f g h (λ k b. e k (omega arith)), e n (omega arith))

pub sum_below-zero : (n : ℕ) (f : ℕ → ℕ) → ((k : ℕ) → k < n → f k ≡ 0) → sum_below n f ≡ 0
unfolding sum_below
sum_below-zero zero f e = refl
sum_below-zero (suc n) f e =
    omega (arith, sum_below-zero n f (λ k b. e k (omega arith)), e n (omega arith))

-- a beginning is its own beginning and that of what is left
pub beginning_more : (f : Payment → ℕ) (queue rest : List Payment) (a b : ℕ) → rest ≡ drop a queue
    → sum_by f (take (a + b) queue) ≡ sum_by f (take a queue) + sum_by f (take b rest)
beginning_more f queue rest a b e =
    ap (sum_by f) (take-add a b queue) ∙ sum_by-append f (take a queue) (take b (drop a queue))
    ∙ ap (λ (ys : List Payment). sum_by f (take a queue) + sum_by f (take b ys)) (sym e)

pub sent_more : (positions rest_positions : List Position) (queues rest : List (List Payment)) (choice more : ℕ → ℕ)
    (p : ℕ) → p < length queues → IsSettled positions queues choice rest_positions rest
    → sent queues (λ s. choice s + more s) p ≡ sent queues choice p + sent rest more p
unfolding sent
sent_more positions rest_positions queues rest choice more p b settled =
    beginning_more (λ payment. payment.amount) (queue_of queues p) (queue_of rest p) (choice p) (more p)
    (settled.queues_left p b)

pub received_more : (positions rest_positions : List Position) (queues rest : List (List Payment)) (choice more : ℕ → ℕ)
    (p : ℕ) → IsSettled positions queues choice rest_positions rest
    → received queues (λ s. choice s + more s) p ≡ received queues choice p + received rest more p
unfolding received
received_more positions rest_positions queues rest choice more p settled =
    sum_below-plus (length queues) _ _ (λ s. sum_by (amount_to p) (take (more s) (queue_of rest s)))
    (λ s b. beginning_more (amount_to p) (queue_of queues s) (queue_of rest s) (choice s) (more s)
    (settled.queues_left s b))
    ∙ ap (λ (n : ℕ). sum_below (length queues) (λ s. sum_by (amount_to p) (take (choice s) (queue_of queues s)))
    + sum_below n (λ s. sum_by (amount_to p) (take (more s) (queue_of rest s)))) (sym settled.count)

-- what is feasible of the rest is feasible of the whole, on top of what was settled
pub IsFeasible-more : (positions rest_positions : List Position) (queues rest : List (List Payment))
    (choice more : ℕ → ℕ) → IsWithin queues choice → IsSettled positions queues choice rest_positions rest
    → IsFeasible rest_positions rest more → IsFeasible positions queues (λ s. choice s + more s)
IsFeasible-more positions rest_positions queues rest choice more is settled feasible = record {
  within = λ p b.
      let left = feasible.within p (omega (arith, b, settled.count)) in
      omega (
        arith,
        left,
        is p b,
        ap length (settled.queues_left p b),
        length-drop (choice p)
            (queue_of queues p),
      );
  covered = λ p b.
      let here = feasible.covered p (omega (arith, b, settled.count)) in
      let sends = sent_more positions rest_positions queues rest choice more p b settled in
      let gets = received_more positions rest_positions queues rest choice more p settled in
      omega (arith, ints, here, sends, gets, settled.floors p b, settled.balances p b);
}

pub sent_none : (queues : List (List Payment)) (p : ℕ) → sent queues (λ _. 0) p ≡ 0
unfolding sent
sent_none queues p = refl

pub received_none : (queues : List (List Payment)) (p : ℕ) → received queues (λ _. 0) p ≡ 0
unfolding received
received_none queues p = sum_below-zero (length queues) _ (λ s b. refl)

pub IsGreatest-settled : (positions rest_positions : List Position) (queues rest : List (List Payment)) (choice : ℕ → ℕ)
    → IsGreatest positions queues choice → IsSettled positions queues choice rest_positions rest
    → IsGreatest rest_positions rest (λ _. 0)
IsGreatest-settled positions rest_positions queues rest choice is settled = record {
  feasible = record {
    within = λ p b. omega arith;
    covered = λ p b.
        let inside : p < length queues = omega (arith, b, settled.count) in
        omega (
          arith,
          ints,
          is.feasible.covered p inside,
          settled.floors p inside,
          settled.balances p inside,
          sent_none
              rest p,
          received_none rest p,
        );
  };
  largest = λ other feasible p b.
      let inside : p < length queues = omega (arith, b, settled.count) in
      omega (
        arith,
        is.largest (λ s. choice s + other s) (IsFeasible-more positions rest_positions queues rest choice
            other is.feasible.within settled feasible) p inside,
      );
}

pub most_orders : (positions : List Position) (queues : List (List Payment)) (choice other : ℕ → ℕ)
    → IsGreatest positions queues choice → IsFeasible positions queues other
    → order_count queues other ≤ order_count queues choice
most_orders positions queues choice other is feasible =
    sum_below-le (length queues) other choice (is.largest other feasible)

pub most_value : (positions : List Position) (queues : List (List Payment)) (choice other : ℕ → ℕ)
    → IsGreatest positions queues choice → IsFeasible positions queues other
    → value_of queues other ≤ value_of queues choice
most_value positions queues choice other is feasible =
    sum_below-le (length queues) (sent queues other) (sent queues choice)
    (λ p b.
    let longer = sum_by-take-longer (λ (payment : Payment). payment.amount) (queue_of queues p) (other p) (choice p)
    (is.largest other feasible p b) in
    omega (arith, longer, sent_is queues other p, sent_is queues choice p))
