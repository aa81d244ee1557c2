-- For how long a choice bounds what can settle.
use Rattle.std.proofs.Common.{◌≡◌, ℕ, zero, suc, ◌+◌, ◌-◌, ◌<◌, ◌≤◌, min, Bool, true, false, cond, eqb, leb, List, []}
use Rattle.std.proofs.Common.{◌∷◌, ◌++◌, length, take, refl, sym, ap, ◌∙◌, subst, inl, inr, arith, ℤ, pos}
use Rattle.std.proofs.Common.{◌+ℤ◌, ◌-ℤ◌, ◌<ℤ◌, ◌≤ℤ◌, slice_index}
use Rattle.std.specs.List.{sum_by}
use Rattle.std.proofs.lemmas.List.{take-append-le, take_all, length-append}
use Rattle.std.proofs.Math.Seq.{take-append-add}
use Rattle.std.proofs.lemmas.Bool.Decides.{leb_tells}
use Rattle.std.proofs.lemmas.List.Sums.{sum_by-append, sum_by-cons, sum_by_push, sum_by-take-le}
use Rattle.std.proofs.lemmas.Int.{ints}
use Rattle.std.proofs.lemmas.Bool.{cases_eq, cases_lt, cond-true, cond-false, eq-eqb, ne_eqb}
use Rattle.rtgs_gridlock.specs.declared.queues.Payment.{Payment}
use Rattle.rtgs_gridlock.specs.declared.positions.Position.{Position}
use Rattle.rtgs_gridlock.specs.Choices.{sum_below, amount_to, position_of, queue_of, sent, received, IsWithin}
use Rattle.rtgs_gridlock.specs.Choices.{IsFeasible, IsCovered}
use Rattle.rtgs_gridlock.specs.Fundings.{everything}
use Rattle.rtgs_gridlock.specs.Laws.{IsSettled}
use Rattle.rtgs_gridlock.specs.Slack.{headroom_of, risen, net_of, AreAtMost, AreBelow, HasSlack, IsAppended, IsCalm}
use Rattle.rtgs_gridlock.specs.Slack.{IsCeiling, IsWithdrawn, RoseLess}
use Rattle.rtgs_gridlock.proofs.Sums.{sum_below-same, sum_below-more-le}
use Rattle.rtgs_gridlock.proofs.ChoiceLemmas.{sent_is, sent-same, received-le}
use Rattle.rtgs_gridlock.proofs.LawLemmas.{IsFeasible-more}
use Rattle.rtgs_gridlock.proofs.RaisedLemmas.{raised, raised-balance, raised-floor, raised-below}

-- lower limits
pub lower_ceiling : (queues : List (List Payment)) (choice : ℕ → ℕ) (limits lower : ℕ → ℤ)
    → IsCeiling queues choice limits → AreAtMost (length queues) lower limits → IsCeiling queues choice lower
lower_ceiling queues choice limits lower is less = record {
  at_most = λ positions below other feasible p b. is.at_most positions
      (λ q c. omega (arith, ints, below q c, less q c)) other feasible p b;
}

pub calm_below : (positions : List Position) (queues : List (List Payment)) (limits : ℕ → ℤ)
    → IsCeiling queues (λ _. 0) limits → AreBelow (length queues) positions limits → IsCalm positions queues
calm_below positions queues limits is below other feasible p b =
    let most = is.at_most positions below other feasible p b in
    omega (arith, most)

pub calm_within : (positions moved : List Position) (queues : List (List Payment)) (slacks : List ℕ)
    → HasSlack positions queues (λ _. 0) slacks → RoseLess positions moved slacks (length queues)
    → IsCalm moved queues
calm_within positions moved queues slacks has rose =
    calm_below moved queues (risen positions (slice_index slacks)) has.ceiling (λ p b. omega (arith, ints, rose p b))

pub nothing_queued : (queues : List (List Payment)) (limits : ℕ → ℤ)
    → ((p : ℕ) → p < length queues → queue_of queues p ≡ []) → IsCeiling queues (λ _. 0) limits
nothing_queued queues limits none = record {
  at_most = λ positions _ other feasible p b. omega (arith, feasible.within p b, ap length (none p b));
}

-- the same beginnings, the same received
received-agree : (queues new : List (List Payment)) (k other : ℕ → ℕ) (p : ℕ) → length new ≡ length queues
    → ((s : ℕ) → s < length queues → take (k s) (queue_of new s) ≡ take (other s) (queue_of queues s))
    → received new k p ≡ received queues other p
unfolding received
received-agree queues new k other p count same =
    ap (λ (n : ℕ). sum_below n (λ s. sum_by (amount_to p) (take (k s) (queue_of new s)))) count
    ∙ sum_below-same (length queues) _ _ (λ s b. ap (sum_by (amount_to p)) (same s b))

sent-agree : (queues new : List (List Payment)) (k other : ℕ → ℕ) (p : ℕ)
    → take (k p) (queue_of new p) ≡ take (other p) (queue_of queues p) → sent new k p ≡ sent queues other p
unfolding sent
sent-agree queues new k other p same = ap (sum_by (λ (payment : Payment). payment.amount)) same

-- beginnings that bring the same, but one that brings at most so much more
received-more-below : (queues new : List (List Payment)) (k other : ℕ → ℕ) (p i d : ℕ) → length new ≡ length queues
    → i < length queues → sum_by (amount_to p) (take (k i) (queue_of new i))
    ≤ sum_by (amount_to p) (take (other i) (queue_of queues i)) + d
    → ((s : ℕ) → s < length queues → (s ≡ i → ⊥) → sum_by (amount_to p) (take (k s) (queue_of new s))
    ≡ sum_by (amount_to p) (take (other s) (queue_of queues s))) → received new k p ≤ received queues other p + d
unfolding received
received-more-below queues new k other p i d count inside at off =
    let e = ap (λ (n : ℕ). sum_below n (λ s. sum_by (amount_to p) (take (k s) (queue_of new s)))) count in
    let here = sum_below-more-le (length queues) (λ s. sum_by (amount_to p) (take (k s) (queue_of new s)))
    (λ s. sum_by (amount_to p) (take (other s) (queue_of queues s))) i d inside at
    (λ s b ne. omega (arith, off s b ne)) in
    omega (arith, e, here)

-- a choice that does not take the payment at the end takes the same without it
untaken : (queues new : List (List Payment)) (sender : ℕ) (payment : Payment) (other : ℕ → ℕ)
    → IsAppended queues sender payment new → other sender ≤ length (queue_of queues sender) → (s : ℕ)
    → take (other s) (queue_of new s) ≡ take (other s) (queue_of queues s)
untaken queues new sender payment other appended fewer s =
    elim (cases_eq s sender) [
      | inl at ↦ subst (λ (q : ℕ). take (other q) (queue_of new q) ≡ take (other q) (queue_of queues q)) (sym at)
          (ap (take (other sender)) appended.longer ∙ take-append-le (other sender) (queue_of queues sender)
          (payment ∷ []) fewer)
      | inr ne ↦ ap (take (other s)) (appended.others s ne)
    ]

-- the last payment of a queue is withdrawn
pub last_withdrawn : (queues new : List (List Payment)) (sender : ℕ) (payment : Payment) (choice : ℕ → ℕ)
    (limits : ℕ → ℤ) → IsCeiling queues choice limits → IsAppended new sender payment queues
    → IsCeiling new choice limits
last_withdrawn queues new sender payment choice limits is was = record {
  at_most = λ positions below other feasible p b. is.at_most positions
      (λ q c. below q (omega (arith, c, was.count))) other (before positions other feasible) p
      (omega (arith, b, was.count));
}
  where
    before : (positions : List Position) (other : ℕ → ℕ) → IsFeasible positions new other
        → IsFeasible positions queues other
    before positions other feasible = record {
      within = λ q c. elim (cases_eq q sender) [
        | inl at ↦ subst (λ (s : ℕ). other s ≤ length (queue_of queues s)) (sym at) (omega (
          arith,
          feasible.within sender was.sender_is,
          ap length was.longer,
          length-append (queue_of new sender) (payment ∷ []),
        ))
        | inr ne ↦ omega (arith, feasible.within q (omega (arith, c, was.count)), ap length (was.others q ne))
      ];
      covered = λ q c. omega (
        arith,
        ints,
        feasible.covered q (omega (arith, c, was.count)),
        sent-agree new queues other other q (same q),
        received-agree new queues other other q was.count (λ s _. same s),
      );
    }
      where
        same : (s : ℕ) → take (other s) (queue_of queues s) ≡ take (other s) (queue_of new s)
        same = untaken new queues sender payment other was (feasible.within sender was.sender_is)

-- a payment is appended of a sender without cover for its whole queue
pub appended_uncovered : (queues new : List (List Payment)) (sender : ℕ) (payment : Payment) (choice : ℕ → ℕ)
    (limits lower : ℕ → ℤ) → IsCeiling queues choice limits → IsAppended queues sender payment new
    → AreAtMost (length queues) lower limits → lower sender ≤ℤ net_of new sender → IsCeiling new choice lower
appended_uncovered queues new sender payment choice limits lower is appended less net = record { at_most = at_most }
  where
    at_most : (positions : List Position) → AreBelow (length new) positions lower → (other : ℕ → ℕ)
        → IsFeasible positions new other → (p : ℕ) → p < length new → other p ≤ choice p
    at_most positions below other feasible p b =
        is.at_most positions (λ q c. omega (arith, ints, below q (omega (arith, c, appended.count)), less q c)) other
        old_feasible p (omega (arith, b, appended.count))
      where
        inside : sender < length new
        inside = omega (arith, appended.sender_is, appended.count)

        whole : length (queue_of new sender) ≡ length (queue_of queues sender) + 1
        whole = ap length appended.longer ∙ length-append (queue_of queues sender) (payment ∷ [])

        -- it is not chosen: the sender would be short
        unchosen : other sender ≤ length (queue_of queues sender)
        unchosen =
            elim (cases_lt (length (queue_of queues sender)) (other sender)) [
              | inl more ↦
                  let all : other sender ≡ everything new sender = omega
                  (arith, more, whole, feasible.within sender inside) in
                  absurd (omega (
                    arith,
                    ints,
                    below sender inside,
                    net,
                    feasible.covered sender inside,
                    sent-same new other (everything new) sender all,
                    received-le new other (everything new) sender (λ s c. feasible.within s c),
                  ))
              | inr fewer ↦ fewer
            ]

        same : (s : ℕ) → take (other s) (queue_of new s) ≡ take (other s) (queue_of queues s)
        same = untaken queues new sender payment other appended unchosen

        old_feasible : IsFeasible positions queues other
        old_feasible = record {
          within = λ q c. within q c;
          covered = λ q c. omega (
            arith,
            ints,
            feasible.covered q (omega (arith, c, appended.count)),
            sent-agree queues new other other q
                (same q),
            received-agree queues new other other q appended.count (λ s _. same s),
          );
        }
          where
            within : IsWithin queues other
            within q c =
                elim (cases_eq q sender) [
                  | inl at ↦ subst (λ (s : ℕ). other s ≤ length (queue_of queues s)) (sym at) unchosen
                  | inr ne ↦ omega (
                    arith,
                    feasible.within q (omega (arith, c, appended.count)),
                    ap length (appended.others q
                        ne),
                  )
                ]

unfoldable int_cond : Bool → ℤ → ℤ
int_cond true z = z
int_cond false z = pos 0

int_cond-true : (b : Bool) (z : ℤ) → b ≡ true → int_cond b z ≡ z
unfolding int_cond
int_cond-true b z e = ap (λ (x : Bool). int_cond x z) e

int_cond-false : (b : Bool) (z : ℤ) → b ≡ false → int_cond b z ≡ pos 0
unfolding int_cond
int_cond-false b z e = ap (λ (x : Bool). int_cond x z) e

take_none : {A : Type 0} (n : ℕ) → take {A = A} n [] ≡ []
take_none zero = refl
take_none (suc n) = refl

pub empty_from_length : {A : Type 0} (xs : List A) → length xs ≤ 0 → xs ≡ []
empty_from_length [] none = refl
empty_from_length (x ∷ xs) none = absurd (omega arith)

-- a beginning of a queue with one payment more, against that of the queue
cut : (f : Payment → ℕ) (queue : List Payment) (payment : Payment) (k : ℕ)
    → (sum_by f (take (min k (length queue)) queue) ≤ sum_by f (take k (queue ++ payment ∷ [])))
    × (sum_by f (take k (queue ++ payment ∷ [])) ≤ sum_by f (take (min k (length queue)) queue) + f payment)
cut f queue payment k =
    elim (cases_lt (length queue) k) [
      | inl more ↦
          let all : sum_by f (take k (queue ++ payment ∷ [])) ≡ sum_by f queue + f payment =
          ap (sum_by f) (take_all k (queue ++ payment ∷ []) (omega
          (arith, more, length-append queue (payment ∷ [])))) ∙ sum_by_push f queue payment in
          let short : sum_by f (take (min k (length queue)) queue) ≡ sum_by f queue =
          ap (sum_by f) (take_all (min k (length queue)) queue (omega (arith, more))) in
          (omega (arith, all, short), omega (arith, all, short))
      | inr fewer ↦
          let at : min k (length queue) ≡ k = omega (arith, fewer) in
          let same : sum_by f (take k (queue ++ payment ∷ [])) ≡ sum_by f (take k queue) =
          ap (sum_by f) (take-append-le k queue (payment ∷ []) fewer) in
          let here : sum_by f (take (min k (length queue)) queue) ≡ sum_by f (take k queue) =
          ap (λ (n : ℕ). sum_by f (take n queue)) at in
          (omega (arith, same, here), omega (arith, same, here))
    ]

-- a payment is appended whose receiver stays below its limit with it
module _ (queues new : List (List Payment)) (sender : ℕ) (payment : Payment) (choice : ℕ → ℕ) (limits lower : ℕ → ℤ)
    (is : IsCeiling queues choice limits) (appended : IsAppended queues sender payment new)
    (apart : payment.receiver ≡ sender → ⊥)
    (less : (p : ℕ) → p < length queues → (lower p +ℤ pos (amount_to p payment)) ≤ℤ limits p)
    (first : length (queue_of queues sender) ≤ choice sender
    → lower sender ≤ℤ ((pos (sent queues choice sender) +ℤ pos payment.amount) -ℤ pos (received queues choice sender)))
  where
    module _ (positions : List Position) (below : AreBelow (length new) positions lower) (other : ℕ → ℕ)
        (feasible : IsFeasible positions new other) where
      -- the choice without the payment
      abbrev without : ℕ → ℕ
      without p = min (other p) (length (queue_of queues p))

      abbrev gains : ℕ → ℤ
      gains p = pos (amount_to p payment)

      in_new : (p : ℕ) → p < length queues → p < length new
      in_new p b = omega (arith, b, appended.count)

      unchanged : (p : ℕ) → p < length queues → (p ≡ sender → ⊥) → without p ≡ other p
      unchanged p b ne = omega (arith, feasible.within p (in_new p b), ap length (appended.others p ne))

      -- for each function of payments, the beginnings of the two choices
      beginnings : (f : Payment → ℕ) (p : ℕ) → p < length queues → (p ≡ sender → ⊥)
          → sum_by f (take (other p) (queue_of new p)) ≡ sum_by f (take (without p) (queue_of queues p))
      beginnings f p b ne =
          ap (λ (xs : List Payment). sum_by f (take (other p) xs)) (appended.others p ne)
          ∙ ap (λ (n : ℕ). sum_by f (take n (queue_of queues p))) (sym (unchanged p b ne))

      at_sender : (f : Payment → ℕ)
          → (sum_by f (take (without sender) (queue_of queues sender))
          ≤ sum_by f (take (other sender) (queue_of new sender)))
          × (sum_by f (take (other sender) (queue_of new sender))
          ≤ sum_by f (take (without sender) (queue_of queues sender)) + f payment)
      at_sender f =
          subst (λ (xs : List Payment).
          (sum_by f (take (min (other sender) (length (queue_of queues sender))) (queue_of queues sender))
          ≤ sum_by f (take (other sender) xs)) × (sum_by f (take (other sender) xs)
          ≤ sum_by f (take (min (other sender) (length (queue_of queues sender))) (queue_of queues sender))
          + f payment))
          (sym appended.longer) (cut f (queue_of queues sender) payment (other sender))

      sends : (p : ℕ) → p < length queues → sent queues without p ≤ sent new other p
      sends p b =
          elim (cases_eq p sender) [
            | inl at ↦ subst (λ (q : ℕ). sent queues without q ≤ sent new other q) (sym at)
                (omega (arith, sent_is queues without sender, sent_is new other sender, (at_sender (λ x. x.amount)).0))
            | inr ne ↦ omega (arith, sent_is queues without p, sent_is new other p, beginnings (λ x. x.amount) p b ne)
          ]

      gets : (p : ℕ) → received new other p ≤ received queues without p + amount_to p payment
      gets p = received-more-below queues new other without p sender (amount_to p payment) appended.count
          appended.sender_is (at_sender (amount_to p)).1 (λ s b ne. beginnings (amount_to p) s b ne)

      old_feasible : IsFeasible (raised (length queues) positions gains) queues without
      old_feasible = record {
        within = λ p b. omega arith;
        covered = λ p b. omega (
          arith,
          ints,
          feasible.covered p (in_new p b),
          sends p b,
          gets p,
          raised-balance (length queues) positions gains p b,
          raised-floor (length queues) positions gains p b,
        );
      }

      most : (p : ℕ) → p < length queues → without p ≤ choice p
      most = is.at_most (raised (length queues) positions gains)
          (λ p b. raised-below (length queues) positions gains p (limits p) b
          (omega (arith, ints, below p (in_new p b), less p b))) without old_feasible

      -- the sender has too little for the payment where all before it are chosen
      unchosen : other sender ≤ length (queue_of queues sender)
      unchosen =
          elim (cases_lt (length (queue_of queues sender)) (other sender)) [
            | inl more ↦ absurd (short more)
            | inr fewer ↦ fewer
          ]
        where
          short : length (queue_of queues sender) < other sender → ⊥
          short more =
              let inside = appended.sender_is in
              let all : without sender ≡ length (queue_of queues sender) = whole_queue more in
              let none : amount_to sender payment ≡ 0 = cond-false (eqb payment.receiver sender) _ _
              (ne_eqb payment.receiver sender apart) in
              let lower_is = first (omega (arith, all, most sender inside)) in
              omega (
                arith,
                ints,
                lower_is,
                none,
                below sender (in_new sender inside),
                feasible.covered sender (in_new sender inside),
                gets sender,
                received-le queues without choice sender most,
                pays more,
              )
            where
              whole_queue : length (queue_of queues sender) < other sender
                  → without sender ≡ length (queue_of queues sender)
              whole_queue more = omega (arith, more)

              pays : length (queue_of queues sender) < other sender
                  → sent queues choice sender + payment.amount ≤ sent new other sender
              pays more =
                  let here : sum_by (λ (x : Payment). x.amount) (take (other sender) (queue_of new sender))
                  ≡ sum_by (λ (x : Payment). x.amount) (queue_of queues sender) + payment.amount =
                  ap (λ (xs : List Payment). sum_by (λ (x : Payment). x.amount) (take
                  (other sender) xs)) appended.longer
                  ∙ ap (sum_by (λ (x : Payment). x.amount)) (take_all (other sender)
                  (queue_of queues sender ++ payment ∷ [])
                  (omega (arith, more, length-append (queue_of queues sender) (payment ∷ []))))
                  ∙ sum_by_push (λ (x : Payment). x.amount) (queue_of queues sender) payment in
                  omega (
                    arith,
                    here,
                    sent_is queues choice sender,
                    sent_is new other sender,
                    sum_by-take-le (λ (x : Payment). x.amount) (queue_of queues sender) (choice sender),
                  )

      within : (p : ℕ) → p < length new → other p ≤ choice p
      within p c =
          let b : p < length queues = omega (arith, c, appended.count) in
          elim (cases_eq p sender) [
            | inl at ↦ subst (λ (q : ℕ). other q ≤ choice q) (sym at)
                (omega (arith, most sender appended.sender_is, at_end unchosen))
            | inr ne ↦ omega (arith, most p b, unchanged p b ne)
          ]
        where
          at_end : other sender ≤ length (queue_of queues sender) → without sender ≡ other sender
          at_end fewer = omega (arith, fewer)

    pub appended_below : IsCeiling new choice lower
    appended_below = record { at_most = within }

-- the beginning of a queue with one payment more in it
unfoldable with_one : ℕ → ℕ → ℕ
with_one place k = cond (leb k place) k (suc k)

-- a beginning of a queue without a payment, against that of the queue
spliced : (f : Payment → ℕ) (earlier later : List Payment) (payment : Payment) (k : ℕ)
    → (sum_by f (take k (earlier ++ later))
    ≤ sum_by f (take (with_one (length earlier) k) (earlier ++ payment ∷ later)))
    × (sum_by f (take (with_one (length earlier) k) (earlier ++ payment ∷ later))
    ≤ sum_by f (take k (earlier ++ later)) + f payment)
unfolding with_one
spliced f earlier later payment k =
    elim (leb_tells k (length earlier)) [
      | inl fewer ↦
          let at : with_one (length earlier) k ≡ k = cond-true (leb k (length earlier)) k (suc k) fewer.0 in
          let old : sum_by f (take (with_one (length earlier) k) (earlier ++ payment ∷ later))
          ≡ sum_by f (take k earlier) = ap (λ (n : ℕ). sum_by f (take n (earlier ++ payment ∷ later))) at
          ∙ ap (sum_by f) (take-append-le k earlier (payment ∷ later) fewer.1) in
          let new : sum_by f (take k (earlier ++ later)) ≡ sum_by f (take k earlier) =
          ap (sum_by f) (take-append-le k earlier later fewer.1) in
          (omega (arith, old, new), omega (arith, old, new))
      | inr more ↦
          let j = k - length earlier in
          let at : with_one (length earlier) k ≡ length earlier + suc j =
          cond-false (leb k (length earlier)) k (suc k) more.0 ∙ omega (arith, more.1) in
          let is : k ≡ length earlier + j = omega (arith, more.1) in
          let old : sum_by f (take (with_one (length earlier) k) (earlier ++ payment ∷ later))
          ≡ sum_by f earlier + (f payment + sum_by f (take j later)) =
          ap (λ (n : ℕ). sum_by f (take n (earlier ++ payment ∷ later))) at
          ∙ ap (sum_by f) (take-append-add earlier (payment ∷ later) (suc j))
          ∙ sum_by-append f earlier (payment ∷ take j later)
          ∙ ap (λ (n : ℕ). sum_by f earlier + n) (sum_by-cons f payment (take j later)) in
          let new : sum_by f (take k (earlier ++ later)) ≡ sum_by f earlier + sum_by f (take j later) =
          ap (λ (n : ℕ). sum_by f (take n (earlier ++ later))) is
          ∙ ap (sum_by f) (take-append-add earlier later j)
          ∙ sum_by-append f earlier (take j later) in
          (omega (arith, old, new), omega (arith, old, new))
    ]

with_one-le : (place k : ℕ) → (k ≤ with_one place k) × (with_one place k ≤ k + 1)
unfolding with_one
with_one-le place k =
    elim (leb_tells k place) [
      | inl fewer ↦ let at = cond-true (leb k place) k (suc k) fewer.0 in (omega (arith, at), omega (arith, at))
      | inr more ↦ let at = cond-false (leb k place) k (suc k) more.0 in (omega (arith, at), omega (arith, at))
    ]

-- a payment is withdrawn
module _ (queues new : List (List Payment)) (sender : ℕ) (payment : Payment) (choice : ℕ → ℕ) (limits lower : ℕ → ℤ)
    (is : IsCeiling queues choice limits) (withdrawn : IsWithdrawn queues sender payment new)
    (less : (p : ℕ) → p < length queues → (lower p +ℤ pos (cond (eqb p sender) payment.amount 0)) ≤ℤ limits p)
  where
    module _ (positions : List Position) (below : AreBelow (length new) positions lower) (other : ℕ → ℕ)
        (feasible : IsFeasible positions new other) where
      -- the choice with the payment, where it stood among the chosen ones
      unfoldable with_it : ℕ → ℕ
      with_it p = cond (eqb p sender) (with_one (length withdrawn.earlier) (other p)) (other p)

      abbrev gains_back : ℕ → ℤ
      gains_back p = pos (cond (eqb p sender) payment.amount 0)

      inside_new : (p : ℕ) → p < length queues → p < length new
      inside_new p b = omega (arith, b, withdrawn.count)

      as_before : (p : ℕ) → (p ≡ sender → ⊥) → with_it p ≡ other p
      unfolding with_it
      as_before p ne = cond-false (eqb p sender) _ _ (ne_eqb p sender ne)

      of_sender : with_it sender ≡ with_one (length withdrawn.earlier) (other sender)
      unfolding with_it
      of_sender = cond-true (eqb sender sender) _ _ (eq-eqb sender sender refl)

      longer : (p : ℕ) → other p ≤ with_it p
      longer p =
          elim (cases_eq p sender) [
            | inl at ↦ subst (λ (q : ℕ). other q ≤ with_it q) (sym at)
                (omega (arith, of_sender, (with_one-le (length withdrawn.earlier) (other sender)).0))
            | inr ne ↦ omega (arith, as_before p ne)
          ]

      others_same : (f : Payment → ℕ) (p : ℕ) → (p ≡ sender → ⊥)
          → sum_by f (take (other p) (queue_of new p)) ≡ sum_by f (take (with_it p) (queue_of queues p))
      others_same f p ne =
          ap (λ (xs : List Payment). sum_by f (take (other p) xs)) (withdrawn.others p ne)
          ∙ ap (λ (n : ℕ). sum_by f (take n (queue_of queues p))) (sym (as_before p ne))

      sender_queue : (f : Payment → ℕ)
          → (sum_by f (take (other sender) (queue_of new sender))
          ≤ sum_by f (take (with_it sender) (queue_of queues sender)))
          × (sum_by f (take (with_it sender) (queue_of queues sender))
          ≤ sum_by f (take (other sender) (queue_of new sender)) + f payment)
      sender_queue f =
          let both = spliced f withdrawn.earlier withdrawn.later payment (other sender) in
          let new_is = ap (λ (xs : List Payment). sum_by f (take (other sender) xs)) withdrawn.after in
          let old_is : sum_by f (take (with_it sender) (queue_of queues sender))
          ≡ sum_by f (take (with_one (length withdrawn.earlier) (other sender))
          (withdrawn.earlier ++ payment ∷ withdrawn.later)) =
          ap (λ (xs : List Payment). sum_by f (take (with_it sender) xs)) withdrawn.before
          ∙ ap (λ (n : ℕ). sum_by f (take n (withdrawn.earlier ++ payment ∷ withdrawn.later))) of_sender in
          (omega (arith, both.0, new_is, old_is), omega (arith, both.1, new_is, old_is))

      pays_back : (p : ℕ) → sent queues with_it p ≤ sent new other p + cond (eqb p sender) payment.amount 0
      pays_back p =
          elim (cases_eq p sender) [
            | inl at ↦ subst (λ (q : ℕ). sent queues with_it q ≤ sent new other q
                + cond (eqb q sender) payment.amount 0)
                (sym at) (omega (
                  arith,
                  sent_is queues with_it sender,
                  sent_is new other sender,
                  (sender_queue (λ x. x.amount)).1,
                  cond-true (eqb sender sender) payment.amount 0 (eq-eqb sender sender refl),
                ))
            | inr ne ↦ omega (
              arith,
              sent_is queues with_it p,
              sent_is new other p,
              others_same (λ x. x.amount) p ne,
            )
          ]

      gets_back : (p : ℕ) → received new other p ≤ received queues with_it p + 0
      gets_back p = received-more-below queues new other with_it p sender 0 withdrawn.count withdrawn.sender_is
          (omega (arith, (sender_queue (amount_to p)).0)) (λ s _ ne. others_same (amount_to p) s ne)

      fits : IsWithin queues with_it
      fits p b =
          elim (cases_eq p sender) [
            | inl at ↦ subst (λ (q : ℕ). with_it q ≤ length (queue_of queues q)) (sym at)
                (omega (
                  arith,
                  of_sender,
                  (with_one-le (length withdrawn.earlier) (other sender)).1,
                  feasible.within sender (inside_new sender withdrawn.sender_is),
                  ap length withdrawn.before,
                  ap length withdrawn.after,
                  length-append withdrawn.earlier withdrawn.later,
                  length-append withdrawn.earlier (payment ∷ withdrawn.later),
                ))
            | inr ne ↦ omega (
              arith,
              as_before p ne,
              feasible.within p (inside_new p b),
              ap length (withdrawn.others p ne),
            )
          ]

      feasible_back : IsFeasible (raised (length queues) positions gains_back) queues with_it
      feasible_back = record {
        within = fits;
        covered = λ p b. omega (
          arith,
          ints,
          feasible.covered p (inside_new p b),
          pays_back p,
          gets_back p,
          raised-balance (length queues) positions gains_back p b,
          raised-floor (length queues) positions gains_back p b,
        );
      }

      at_most_choice : (p : ℕ) → p < length new → other p ≤ choice p
      at_most_choice p c =
          let b : p < length queues = omega (arith, c, withdrawn.count) in
          let most_back = is.at_most (raised (length queues) positions gains_back)
          (λ q d. raised-below (length queues) positions gains_back q (limits q) d
          (omega (arith, ints, below q (inside_new q d), less q d))) with_it feasible_back p b in
          omega (arith, most_back, longer p)

    pub withdrawn_below : IsCeiling new choice lower
    withdrawn_below = record { at_most = at_most_choice }

-- what a choice takes of each participant, and the positions from which settling it leads to these
abbrev taken_by : List (List Payment) → (ℕ → ℕ) → ℕ → ℤ
taken_by queues choice q = pos (sent queues choice q) -ℤ pos (received queues choice q)

abbrev unsettled : List (List Payment) → (ℕ → ℕ) → List Position → List Position
unsettled queues choice moved = raised (length queues) moved (taken_by queues choice)

-- the choice is settled
pub settled_slack : (positions rest_positions : List Position) (queues rest : List (List Payment)) (choice : ℕ → ℕ)
    (slacks : List ℕ) → IsWithin queues choice → HasSlack positions queues choice slacks
    → IsSettled positions queues choice rest_positions rest → HasSlack rest_positions rest (λ _. 0) slacks
settled_slack positions rest_positions queues rest choice slacks within has settled = record {
  count = omega (arith, has.count, settled.count);
  some = λ p b. has.some p (omega (arith, b, settled.count));
  ceiling = record { at_most = at_most };
}
  where
    at_most : (moved : List Position) → AreBelow (length rest) moved (risen rest_positions (slice_index slacks))
        → (other : ℕ → ℕ) → IsFeasible moved rest other → (p : ℕ) → p < length rest → other p ≤ 0
    at_most moved below other feasible p c =
        let most = has.ceiling.at_most (unsettled queues choice moved) below_before (λ s. choice s
        + other s) (IsFeasible-more (unsettled queues choice moved) moved queues
        rest choice other within again feasible) p (omega (arith, c, settled.count)) in
        omega (arith, most)
      where
        balance_is : (q : ℕ) → q < length queues → (position_of (unsettled queues choice moved) q).balance
            ≡ (position_of moved q).balance +ℤ (pos (sent queues choice q) -ℤ pos (received queues choice q))
        balance_is q b = raised-balance (length queues) moved (taken_by queues choice) q b

        floor_is : (q : ℕ) → q < length queues → (position_of (unsettled queues choice moved) q).floor
            ≡ (position_of moved q).floor
        floor_is q b = raised-floor (length queues) moved (taken_by queues choice) q b

        again : IsSettled (unsettled queues choice moved) queues choice moved rest
        again = record {
          count = settled.count;
          floors = λ q b. sym (floor_is q b);
          balances = λ q b. omega (arith, ints, balance_is q b);
          queues_left = settled.queues_left;
        }

        below_before : AreBelow (length queues) (unsettled queues choice moved) (risen positions (slice_index slacks))
        below_before q b =
            omega (
              arith,
              ints,
              below q (omega (arith, b, settled.count)),
              balance_is q b,
              floor_is q b,
              settled.balances q b,
              settled.floors q b,
            )

-- what brings one participant to its floor, and the positions where it is there
abbrev down : List Position → ℕ → ℕ → ℤ
down positions idle p = int_cond (eqb p idle) ((position_of positions p).floor -ℤ (position_of positions p).balance)

abbrev levelled : ℕ → List Position → ℕ → List Position
levelled n positions idle = raised n positions (down positions idle)

-- who has nothing queued
pub idle_ceiling : (queues : List (List Payment)) (idle : ℕ) (choice : ℕ → ℕ) (limits higher : ℕ → ℤ)
    → IsCeiling queues choice limits → queue_of queues idle ≡ [] → pos 0 <ℤ limits idle
    → ((p : ℕ) → p < length queues → (p ≡ idle → ⊥) → higher p ≤ℤ limits p) → IsCeiling queues choice higher
idle_ceiling queues idle choice limits higher is none above less = record { at_most = at_most }
  where
    at_most : (positions : List Position) → AreBelow (length queues) positions higher → (other : ℕ → ℕ)
        → IsFeasible positions queues other → (p : ℕ) → p < length queues → other p ≤ choice p
    at_most positions below other feasible =
        is.at_most (levelled (length queues) positions idle) below_level other
        (record { within = feasible.within; covered = covered })
      where
        level_floor : (p : ℕ) → p < length queues → (position_of (levelled (length queues) positions idle) p).floor
            ≡ (position_of positions p).floor
        level_floor p b = raised-floor (length queues) positions (down positions idle) p b

        level_balance : (p : ℕ) → p < length queues → (p ≡ idle → ⊥)
            → (position_of (levelled (length queues) positions idle) p).balance ≡ (position_of positions p).balance
        level_balance p b ne =
            let none_more = int_cond-false (eqb p idle) ((position_of positions p).floor
            -ℤ (position_of positions p).balance) (ne_eqb p idle ne) in
            omega (arith, ints, raised-balance (length queues) positions (down positions idle) p b, none_more)

        level_idle : idle < length queues → (position_of (levelled (length queues) positions idle) idle).balance
            ≡ (position_of positions idle).floor
        level_idle b =
            let more = int_cond-true (eqb idle idle) ((position_of positions idle).floor
            -ℤ (position_of positions idle).balance) (eq-eqb idle idle refl) in
            omega (arith, ints, raised-balance (length queues) positions (down positions idle) idle b, more)

        below_level : AreBelow (length queues) (levelled (length queues) positions idle) limits
        below_level p b =
            elim (cases_eq p idle) [
              | inl at ↦ subst (λ (q : ℕ). headroom_of (levelled (length queues) positions idle) q <ℤ limits q) (sym at)
                  (let c : idle < length queues = omega (arith, at, b) in
                  omega (arith, ints, above, level_idle c, level_floor idle c))
              | inr ne ↦ omega (arith, ints, below p b, less p b ne, level_balance p b ne, level_floor p b)
            ]

        covered : (p : ℕ) → p < length queues → IsCovered (levelled (length queues) positions idle) queues other p
        covered p b =
            elim (cases_eq p idle) [
              | inl at ↦ subst (λ (q : ℕ). IsCovered (levelled (length queues) positions idle) queues other q) (sym at)
                  (let c : idle < length queues = omega (arith, at, b) in
                  let nothing : sent queues other idle ≡ 0 = sent_is queues other idle
                  ∙ ap (sum_by (λ (x : Payment). x.amount)) (ap (take (other idle)) none ∙ take_none (other idle)) in
                  omega (arith, ints, nothing, level_idle c, level_floor idle c))
              | inr ne ↦ omega (arith, ints, feasible.covered p b, level_balance p b ne, level_floor p b)
            ]
