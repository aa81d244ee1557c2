-- Fundings as payments are taken back.
use Rattle.std.proofs.Common.{◌≡◌, ℕ, List, ◌+◌, ◌-◌, ◌<◌, ◌≤◌, cond, eqb, length, take, get_or, sym, ap, ◌∙◌, subst}
use Rattle.std.proofs.Common.{inl, inr, arith, pos, ◌+ℤ◌}
use Rattle.std.specs.List.{sum_by}
use Rattle.std.proofs.lemmas.List.{take_all}
use Rattle.std.proofs.lemmas.List.Sums.{sum_by_more}
use Rattle.std.proofs.lemmas.Int.{ints}
use Rattle.std.proofs.lemmas.Bool.{cases_eq, cond-true, cond-false, eq-eqb, ne_eqb}
use Rattle.rtgs_gridlock.specs.declared.positions.Position.{Position}
use Rattle.rtgs_gridlock.specs.Choices.{amount_to, position_of, queue_of, sent, received, IsCovered, IsGreatest}
use Rattle.rtgs_gridlock.specs.Fundings.{funds_of, owed_of, everything, AreFundings}
use Rattle.rtgs_gridlock.specs.declared.queues.Payment.{Payment}
use Rattle.rtgs_gridlock.specs.declared.fundings.Funding.{Funding}
use Rattle.rtgs_gridlock.proofs.Sums.{sum_below-same, sum_below_changed}
use Rattle.rtgs_gridlock.specs.Workspaces.{newest}
use Rattle.rtgs_gridlock.proofs.ChoiceLemmas.{sent_is, sent-same}

-- headrooms, with what all payments bring, are the fundings of the choice of all
pub AreFundings-filled : (positions : List Position) (queues : List (List Payment)) (opened credited : List Funding)
    → ((p : ℕ) → p < length queues → (position_of positions p).floor +ℤ pos (funds_of opened p)
    ≡ (position_of positions p).balance) → ((p : ℕ) → p < length queues
    → owed_of opened p ≡ sum_by (λ payment. payment.amount) (queue_of queues p))
    → ((p : ℕ) → p < length queues → funds_of credited p ≡ funds_of opened p + received queues (everything queues) p)
    → ((p : ℕ) → owed_of credited p ≡ owed_of opened p) → AreFundings positions queues (everything queues) credited
AreFundings-filled positions queues opened credited headroom owes brings same = record {
  funds = λ p b. omega (arith, ints, headroom p b, brings p b);
  owed = λ p b.
      same p ∙ owes p b ∙ sym (sent_is queues (everything queues) p
      ∙ ap (sum_by (λ (payment : Payment). payment.amount)) (take_all _ (queue_of queues p) (omega arith)));
}

-- the same lengths below the number of queues, the same received
pub received-same : (queues : List (List Payment)) (a b : ℕ → ℕ) (p : ℕ) → ((s : ℕ) → s < length queues → a s ≡ b s)
    → received queues a p ≡ received queues b p
unfolding received
received-same queues a b p h =
    sum_below-same (length queues) _ _ (λ s c. ap (λ (k : ℕ). sum_by (amount_to p) (take k (queue_of queues s)))
    (h s c))

pub AreFundings-same : (positions : List Position) (queues : List (List Payment)) (a b : ℕ → ℕ)
    (fundings : List Funding) → ((s : ℕ) → s < length queues → a s ≡ b s) → AreFundings positions queues a fundings
    → AreFundings positions queues b fundings
AreFundings-same positions queues a b fundings h are = record {
  funds = λ p c. are.funds p c ∙ ap (λ (x : ℕ). (position_of positions p).balance +ℤ pos x)
      (received-same queues a b p h);
  owed = λ p c. are.owed p c ∙ sent-same queues a b p (h p c);
}

-- a beginning that is longer by one has that one's share more
pub beginning_taken : (f : Payment → ℕ) (queue : List Payment) (many fewer : ℕ) (d : Payment) → fewer + 1 ≡ many
    → many ≤ length queue → sum_by f (take many queue) ≡ sum_by f (take fewer queue) + f (get_or queue (many - 1) d)
beginning_taken f queue many fewer d e within =
    let at : many - 1 ≡ fewer = omega arith in
    subst (λ (k : ℕ). sum_by f (take k queue) ≡ sum_by f (take fewer queue) + f (get_or queue (many - 1) d)) e
    (subst (λ (i : ℕ). sum_by f (take (fewer + 1) queue) ≡ sum_by f (take fewer queue) + f (get_or queue i d)) (sym at)
    (sum_by_more f queue fewer d (omega arith)))

-- what a payment that is taken back brought
pub received_taken : (queues : List (List Payment)) (many fewer : ℕ → ℕ) (s p : ℕ) → s < length queues
    → fewer s + 1 ≡ many s → many s ≤ length (queue_of queues s) → ((t : ℕ) → (t ≡ s → ⊥) → fewer t ≡ many t)
    → received queues many p ≡ received queues fewer p + amount_to p (newest queues many s)
unfolding received
received_taken queues many fewer s p inside e within others =
    sum_below_changed (length queues) _ _ s (amount_to p (newest queues many s)) inside
    (beginning_taken (amount_to p) (queue_of queues s) (many s) (fewer s) (record { receiver = 0; amount = 0 }) e
    within)
    (λ t ne. ap (λ (k : ℕ). sum_by (amount_to p) (take k (queue_of queues t))) (sym (others t ne)))

-- what a participant no longer sends
pub sent_taken : (queues : List (List Payment)) (many fewer : ℕ → ℕ) (s : ℕ) → fewer s + 1 ≡ many s
    → many s ≤ length (queue_of queues s) → sent queues many s ≡ sent queues fewer s + (newest queues many s).amount
unfolding sent
sent_taken queues many fewer s e within =
    beginning_taken (λ payment. payment.amount) (queue_of queues s) (many s) (fewer s)
    (record { receiver = 0; amount = 0 }) e within

-- the fundings after a payment is taken back are those of the smaller choice
pub AreFundings-taken : (positions : List Position) (queues : List (List Payment)) (many fewer : ℕ → ℕ)
    (old new : List Funding) (s : ℕ) → s < length queues → fewer s + 1 ≡ many s → many s ≤ length (queue_of queues s)
    → ((t : ℕ) → (t ≡ s → ⊥) → fewer t ≡ many t) → ((p : ℕ) → funds_of new p + amount_to p (newest queues many s)
    ≡ funds_of old p) → ((p : ℕ) → owed_of new p + cond (eqb p s) (newest queues many s).amount 0 ≡ owed_of old p)
    → AreFundings positions queues many old → AreFundings positions queues fewer new
AreFundings-taken positions queues many fewer old new s inside e within others funds owed are = record {
  funds = λ p b. omega (
    arith,
    ints,
    are.funds p b,
    funds p,
    received_taken queues many fewer s p inside e within
        others,
  );
  owed = each;
}
  where
    each : (p : ℕ) → p < length queues → owed_of new p ≡ sent queues fewer p
    each p b =
        elim (cases_eq p s) [
          | inl at ↦
              let here : cond (eqb p s) (newest queues many s).amount 0
              ≡ (newest queues many s).amount = cond-true (eqb p s) _ _ (eq-eqb p s at) in
              let sends : sent queues many p ≡ sent queues fewer p + (newest queues many s).amount =
              subst (λ (q : ℕ). sent queues many q ≡ sent queues fewer q + (newest queues many s).amount) (sym at)
              (sent_taken queues many fewer s e within) in
              omega (arith, here, sends, are.owed p b, owed p)
          | inr off ↦
              let here : cond (eqb p s) (newest queues many s).amount 0 ≡ 0 = cond-false (eqb p s) _ _ (ne_eqb p s off)
              in
              omega (arith, here, sent-same queues fewer many p (others p off), are.owed p b, owed p)
        ]

-- funds cover what is owed exactly where the choice leaves the participant at its floor or above
pub IsCovered-from_fundings : (positions : List Position) (queues : List (List Payment)) (choice : ℕ → ℕ)
    (fundings : List Funding) (p : ℕ) → p < length queues → AreFundings positions queues choice fundings
    → owed_of fundings p ≤ funds_of fundings p → IsCovered positions queues choice p
IsCovered-from_fundings positions queues choice fundings p b are enough =
    omega (arith, ints, are.funds p b, are.owed p b, enough)

pub enough_from_IsCovered : (positions : List Position) (queues : List (List Payment)) (choice : ℕ → ℕ)
    (fundings : List Funding) (p : ℕ) → p < length queues → AreFundings positions queues choice fundings
    → IsCovered positions queues choice p → owed_of fundings p ≤ funds_of fundings p
enough_from_IsCovered positions queues choice fundings p b are covered =
    omega (arith, ints, are.funds p b, are.owed p b, covered)

-- what is said of a choice depends on its lengths below the number of queues alone
pub IsCovered-same : (positions : List Position) (queues : List (List Payment)) (a b : ℕ → ℕ) (p : ℕ)
    → p < length queues → ((s : ℕ) → s < length queues → a s ≡ b s) → IsCovered positions queues a p
    → IsCovered positions queues b p
IsCovered-same positions queues a b p c h covered =
    omega (arith, ints, covered, sent-same queues a b p (h p c), received-same queues a b p h)

pub IsGreatest-same : (positions : List Position) (queues : List (List Payment)) (a b : ℕ → ℕ)
    → ((s : ℕ) → s < length queues → a s ≡ b s) → IsGreatest positions queues a → IsGreatest positions queues b
IsGreatest-same positions queues a b h is = record {
  feasible = record {
    within = λ p c. omega (arith, h p c, is.feasible.within p c);
    covered = λ p c. IsCovered-same positions queues a b p c h (is.feasible.covered p c);
  };
  largest = λ other feasible p c. omega (arith, h p c, is.largest other feasible p c);
}
