-- What holds between two turns of a resolution is kept by a turn.
use Rattle.std.proofs.Common.{[], ◌≡◌, ℕ, List, ◌+◌, ◌-◌, ◌*◌, ◌<◌, ◌≤◌, Bool, false, cond, eqb, length, set, refl, sym}
use Rattle.std.proofs.Common.{ap, ◌∙◌, subst, ◌⊎◌, inl, inr, arith, Vec, Global, slice_index, get_or, ◌≤ℤ◌, min}
use Rattle.std.proofs.lemmas.List.{get_or-set_other, get_or-take, length-take}
use Rattle.std.proofs.lemmas.Int.{ints}
use Rattle.std.proofs.lemmas.Bool.{cases_eq, cases_lt, cond-true, cond-false, eq-eqb, ne_eqb, false≢true}
use Rattle.rtgs_gridlock.specs.declared.queues.Payment.{Payment}
use Rattle.rtgs_gridlock.specs.declared.positions.Position.{Position}
use Rattle.rtgs_gridlock.specs.declared.fundings.Funding.{Funding}
use Rattle.rtgs_gridlock.specs.declared.workspace.Workspace.{Workspace}
use Rattle.rtgs_gridlock.specs.Choices.{sum_below, amount_to, position_of, queue_of, payment_count, IsCovered}
use Rattle.rtgs_gridlock.specs.Choices.{IsFeasible, IsGreatest, IsWithin, AreInRange}
use Rattle.rtgs_gridlock.specs.Fundings.{funds_of, owed_of, everything, HasEnough, AreFundings}
use Rattle.rtgs_gridlock.specs.Slack.{AreBelow, IsCeiling, HasSlack, risen}
use Rattle.rtgs_gridlock.specs.Workspaces.{reserved_participants, participants_of, lengths_of, slacks_of, choice_of}
use Rattle.rtgs_gridlock.specs.Workspaces.{slack_at, steps_of, steps_left, untested_count, newest, IsUntested}
use Rattle.rtgs_gridlock.specs.Workspaces.{IsFilled, IsTested}
use Rattle.rtgs_gridlock.specs.Workspaces.{CanTakeBack, IsTakenBack, SameButUntested}
use Rattle.rtgs_gridlock.specs.Resolving.{IsResolving}
use Rattle.rtgs_gridlock.specs.Listed.{on_count}
use Rattle.rtgs_gridlock.proofs.Sums.{sum_below-same, sum_below_changed}
use Rattle.rtgs_gridlock.proofs.ListedLemmas.{on_count-clear, none_is_on}
use Rattle.rtgs_gridlock.proofs.ChoiceLemmas.{short_has_fewer, short_has_one}
use Rattle.rtgs_gridlock.proofs.FundingLemmas.{AreFundings-same, AreFundings-taken, IsCovered-from_fundings}
use Rattle.rtgs_gridlock.proofs.FundingLemmas.{enough_from_IsCovered, received_taken, sent_taken, IsGreatest-same}

-- an index was taken out of the list of a workspace
abbrev pub IsTaken : ℕ → Workspace → Workspace → Type 0
IsTaken s old new = (s < reserved_participants old) × IsUntested old s × (new.untested ≡ set old.untested s false)

-- all that holds between two turns, but that the participant under test has enough
pub record IsTesting (positions : List Position) (queues : List (List Payment)) (workspace : Workspace) (s : ℕ) : Type 0
  where
    pub is_one : s < length queues
    pub participants : participants_of workspace ≡ length queues
    pub floored : (p : ℕ) → p < length queues → (position_of positions p).floor ≤ℤ (position_of positions p).balance
    pub within : IsWithin queues (choice_of workspace)
    pub slack : (p : ℕ) → p < length queues → 0 < slack_at workspace p
    pub ceiling : IsCeiling queues (choice_of workspace) (risen positions (slack_at workspace))
    pub fundings : AreFundings positions queues (choice_of workspace) workspace.fundings.list
    pub inside : (p : ℕ) → IsUntested workspace p → p < length queues
    pub tested : (p : ℕ) → p < length queues → (IsUntested workspace p → ⊥) → (p ≡ s → ⊥)
        → HasEnough workspace.fundings.list p

-- what is said of a choice and its slacks
abbrev pub IsBounded : List Position → List (List Payment) → (ℕ → ℕ) → (ℕ → ℕ) → Type 0
IsBounded positions queues choice slacks = IsWithin queues choice × ((p : ℕ) → p < length queues → 0 < slacks p)
    × IsCeiling queues choice (risen positions slacks)

-- what is said of a choice, its slacks and its fundings holds of equal ones
same_choice : (positions : List Position) (queues : List (List Payment)) (old new : Workspace)
    → new.lengths ≡ old.lengths → new.slacks ≡ old.slacks → IsBounded positions queues (choice_of old) (slack_at old)
    → IsBounded positions queues (choice_of new) (slack_at new)
same_choice positions queues old new d e is =
    subst (λ (x : Vec ℕ Global). IsBounded positions queues (slice_index x.items) (slack_at new)) (sym d)
    (subst (λ (y : Vec ℕ Global). IsBounded positions queues (choice_of old) (slice_index y.items)) (sym e) is)

same_fundings : (positions : List Position) (queues : List (List Payment)) (old new : Workspace)
    → new.lengths ≡ old.lengths → new.fundings.list ≡ old.fundings.list
    → AreFundings positions queues (choice_of old) old.fundings.list
    → AreFundings positions queues (choice_of new) new.fundings.list
same_fundings positions queues old new d e are =
    subst (λ (x : Vec ℕ Global). AreFundings positions queues (slice_index x.items) new.fundings.list) (sym d)
    (subst (λ (y : List Funding). AreFundings positions queues (choice_of old) y) (sym e) are)

-- with all payments chosen and all participants on the list
pub IsResolving-filled : (positions : List Position) (queues : List (List Payment)) (old filled listed : Workspace)
    → ((p : ℕ) → p < length queues → (position_of positions p).floor ≤ℤ (position_of positions p).balance)
    → IsFilled positions queues old filled → SameButUntested filled listed
    → ((p : ℕ) → p < participants_of filled → IsUntested listed p)
    → ((p : ℕ) → IsUntested listed p → p < participants_of filled) → IsResolving positions queues listed
IsResolving-filled positions queues old filled listed floored fill same all only =
    let choice = same_choice positions queues filled listed same.choice same.slacks (within, fill.slack, above) in
    record {
      participants = same.participants ∙ fill.participants;
      floored = floored;
      within = choice.0;
      slack = choice.1;
      ceiling = choice.2;
      fundings = same_fundings positions queues filled listed same.choice same.fundings stands;
      inside = λ p on. omega (arith, only p on, fill.participants);
      tested = λ p b off. absurd (off (all p (omega (arith, b, fill.participants))));
    }
  where
    within : IsWithin queues (choice_of filled)
    within p b = omega (arith, fill.choice p b)

    above : IsCeiling queues (choice_of filled) (risen positions (slack_at filled))
    above = record { at_most = λ moved _ other feasible p b. omega (arith, fill.choice p b, feasible.within p b) }

    stands : AreFundings positions queues (choice_of filled) filled.fundings.list
    stands = AreFundings-same positions queues (everything queues) (choice_of filled) filled.fundings.list
        (λ p b. sym (fill.choice p b)) fill.fundings

-- the bound: a test of each participant, and for each payment its removal and two more tests
pub steps_left-filled : (positions : List Position) (queues : List (List Payment)) (old filled listed : Workspace)
    → IsFilled positions queues old filled → SameButUntested filled listed
    → untested_count listed ≤ participants_of filled
    → steps_left queues listed ≤ length queues + 3 * payment_count queues
unfolding payment_count
steps_left-filled positions queues old filled listed fill same few =
    let all = sum_below-same (length queues) (choice_of listed) (everything queues)
    (λ p b. ap (λ (v : Vec ℕ Global). slice_index v.items p) same.choice ∙ fill.choice p b) in
    omega (arith, few, all, fill.participants)

-- the list without a participant
taken_off : (s : ℕ) (before taken : Workspace) → IsTaken s before taken → (p : ℕ) → (p ≡ s → ⊥)
    → (IsUntested taken p → IsUntested before p) × (IsUntested before p → IsUntested taken p)
taken_off s before taken take p ne =
    let e : get_or taken.untested p false ≡ get_or before.untested p false =
    ap (λ (xs : List Bool). get_or xs p false) take.2 ∙ get_or-set_other before.untested s p false false ne in
    (λ on. sym e ∙ on, λ on. e ∙ on)

-- a participant that was taken off the list and tested
pub IsTesting-tested : (positions : List Position) (queues : List (List Payment)) (s : ℕ)
    (before taken tested : Workspace) → IsResolving positions queues before → SameButUntested before taken
    → IsTaken s before taken → IsTested taken tested → IsTesting positions queues tested s
IsTesting-tested positions queues s before taken tested is same take test =
    let choice = same_choice positions queues before tested (test.choice ∙ same.choice) (test.slacks ∙ same.slacks)
    (is.within, is.slack, is.ceiling) in
    record {
      is_one = is.inside s take.1;
      participants = test.participants ∙ same.participants ∙ is.participants;
      floored = is.floored;
      within = choice.0;
      slack = choice.1;
      ceiling = choice.2;
      fundings = same_fundings positions queues before tested (test.choice ∙ same.choice)
          (test.fundings ∙ same.fundings) is.fundings;
      inside = inside;
      tested = rest;
    }
  where
    on_of : (p : ℕ) → get_or tested.untested p false ≡ get_or taken.untested p false
    on_of p = ap (λ (xs : List Bool). get_or xs p false) test.untested

    inside : (p : ℕ) → IsUntested tested p → p < length queues
    inside p on =
        elim (cases_eq p s) [
          | inl at ↦ subst (λ (q : ℕ). q < length queues) (sym at) (is.inside s take.1)
          | inr ne ↦ is.inside p ((taken_off s before taken take p ne).0 (sym (on_of p) ∙ on))
        ]

    rest : (p : ℕ) → p < length queues → (IsUntested tested p → ⊥) → (p ≡ s → ⊥) → HasEnough tested.fundings.list p
    rest p b off ne =
        subst (λ (xs : List Funding). HasEnough xs p) (sym (test.fundings ∙ same.fundings))
        (is.tested p b (λ on. off (on_of p ∙ (taken_off s before taken take p ne).1 on)))

by_short : {n m : ℕ} → (n < m) ⊎ (m ≤ n) → (m ≤ n → ⊥) → n < m
by_short (inl less) short = less
by_short (inr more) short = absurd (short more)

-- a participant that was tested and is short: its newest chosen payment is taken back
pub IsResolving-taken : (positions : List Position) (queues : List (List Payment)) (s : ℕ)
    (tested back after : Workspace) → IsTesting positions queues tested s → (HasEnough tested.fundings.list s → ⊥)
    → IsTakenBack queues s tested back → SameButUntested back after → IsUntested after s
    → IsUntested after (newest queues (choice_of tested) s).receiver
    → ((p : ℕ) → IsUntested back p → IsUntested after p) → ((p : ℕ) → IsUntested after p → p < participants_of back)
    → IsResolving positions queues after
IsResolving-taken positions queues s tested back after is short taken same sender receiver others only = record {
  participants = same.participants ∙ taken.participants ∙ is.participants;
  floored = is.floored;
  within = within;
  slack = some;
  ceiling = record { at_most = at_most };
  fundings = AreFundings-taken positions queues (choice_of tested) (choice_of after) tested.fundings.list
      after.fundings.list s is.is_one fewer (is.within s is.is_one) unchanged funds owed is.fundings;
  inside = λ p on. omega (arith, only p on, taken.participants, is.participants);
  tested = enough;
}
  where
    choice_is : (p : ℕ) → choice_of after p ≡ choice_of back p
    choice_is p = ap (λ (v : Vec ℕ Global). slice_index v.items p) same.choice

    fewer : choice_of after s + 1 ≡ choice_of tested s
    fewer = omega (arith, choice_is s, taken.fewer)

    unchanged : (p : ℕ) → (p ≡ s → ⊥) → choice_of after p ≡ choice_of tested p
    unchanged p ne = choice_is p ∙ taken.others p ne

    funds : (p : ℕ) → funds_of after.fundings.list p + amount_to p (newest queues (choice_of tested) s)
        ≡ funds_of tested.fundings.list p
    funds p = omega (arith, taken.funds p, ap (λ (xs : List Funding). funds_of xs p) same.fundings)

    owed : (p : ℕ) → owed_of after.fundings.list p + cond (eqb p s) (newest queues (choice_of tested) s).amount 0
        ≡ owed_of tested.fundings.list p
    owed p = omega (arith, taken.owed p, ap (λ (xs : List Funding). owed_of xs p) same.fundings)

    within : IsWithin queues (choice_of after)
    within p b =
        elim (cases_eq p s) [
          | inl at ↦ subst (λ (q : ℕ). choice_of after q ≤ length (queue_of queues q)) (sym at)
              (omega (arith, fewer, is.within s is.is_one))
          | inr ne ↦ omega (arith, unchanged p ne, is.within p b)
        ]

    lacks : funds_of tested.fundings.list s < owed_of tested.fundings.list s
    lacks = by_short (cases_lt (funds_of tested.fundings.list s) (owed_of tested.fundings.list s)) short

    slack_is : (p : ℕ) → slack_at after p ≡ slack_at back p
    slack_is p = ap (λ (v : Vec ℕ Global). slice_index v.items p) same.slacks

    -- the slack of who is short is at most what it lacks
    sender_slack : slack_at after s
        ≡ min (slack_at tested s) (owed_of tested.fundings.list s - funds_of tested.fundings.list s)
    sender_slack = slack_is s ∙ taken.slack

    some : (p : ℕ) → p < length queues → 0 < slack_at after p
    some p b =
        elim (cases_eq p s) [
          | inl at ↦ subst (λ (q : ℕ). 0 < slack_at after q) (sym at)
              (omega (arith, sender_slack, lacks, is.slack s is.is_one))
          | inr ne ↦ omega (arith, slack_is p, taken.other_slacks p ne, is.slack p b)
        ]

    less_slack : (p : ℕ) → slack_at after p ≤ slack_at tested p
    less_slack p =
        elim (cases_eq p s) [
          | inl at ↦ subst (λ (q : ℕ). slack_at after q ≤ slack_at tested q) (sym at) (omega (arith, sender_slack))
          | inr ne ↦ omega (arith, slack_is p, taken.other_slacks p ne)
        ]

    at_most : (moved : List Position) → AreBelow (length queues) moved (risen positions (slack_at after))
        → (other : ℕ → ℕ) → IsFeasible moved queues other → (p : ℕ) → p < length queues → other p ≤ choice_of after p
    at_most moved below other feasible p b =
        let before = λ (q : ℕ) (c : q < length queues). is.ceiling.at_most moved
        (λ r d. omega (arith, ints, below r d, less_slack r)) other feasible q c in
        elim (cases_eq p s) [
          | inl at ↦
              let less = short_has_fewer moved queues other
              (choice_of tested) s feasible before is.is_one still_short in
              subst (λ (q : ℕ). other q ≤ choice_of after q) (sym at) (omega (arith, less, fewer))
          | inr ne ↦ omega (arith, unchanged p ne, before p b)
        ]
      where
        -- what it may rise does not cover what it lacks
        still_short : IsCovered moved queues (choice_of tested) s → ⊥
        still_short covered =
            omega (
              arith,
              ints,
              covered,
              below s is.is_one,
              sender_slack,
              lacks,
              is.fundings.funds s is.is_one,
              is.fundings.owed s
                  is.is_one,
            )

    enough : (p : ℕ) → p < length queues → (IsUntested after p → ⊥) → HasEnough after.fundings.list p
    enough p b off =
        let not_sender : p ≡ s → ⊥ = λ at. off (subst (λ (q : ℕ). IsUntested after q) (sym at) sender) in
        let not_receiver : (newest queues (choice_of tested) s).receiver ≡ p
        → ⊥ = λ at. off (subst (λ (q : ℕ). IsUntested after q) at receiver) in
        let no_receipt : amount_to p (newest queues (choice_of tested) s)
        ≡ 0 = cond-false (eqb (newest queues (choice_of tested) s).receiver p) _ _ (ne_eqb _ _ not_receiver) in
        let no_sending : cond (eqb p s) (newest queues (choice_of tested) s).amount 0
        ≡ 0 = cond-false (eqb p s) _ _ (ne_eqb p s not_sender) in
        let was = is.tested p b (λ on. off (others p (ap (λ (xs : List Bool). get_or xs p false) taken.untested ∙ on)))
        not_sender in
        omega (arith, was, funds p, owed p, no_receipt, no_sending)

-- a participant off the list is one fewer
taken_count : (s : ℕ) (before taken tested : Workspace) → IsTaken s before taken → IsTested taken tested
    → untested_count tested + 1 ≡ untested_count before
taken_count s before taken tested take test =
    ap (λ (xs : List Bool). on_count xs + 1) (test.untested ∙ take.2)
    ∙ on_count-clear before.untested s (omega (arith, take.0, before.untested_sized)) take.1

kept_count : (queues : List (List Payment)) (old new : Workspace) → new.lengths ≡ old.lengths
    → sum_below (length queues) (choice_of new) ≡ sum_below (length queues) (choice_of old)
kept_count queues old new e = ap (λ (v : Vec ℕ Global). sum_below (length queues) (slice_index v.items)) e

-- a test, a removal and the two tests that it may add were among the steps left
pub steps_taken : (queues : List (List Payment)) (s : ℕ) (before taken tested back after : Workspace)
    → s < length queues → SameButUntested before taken → IsTaken s before taken → IsTested taken tested
    → IsTakenBack queues s tested back → SameButUntested back after
    → steps_of after + untested_count after ≤ steps_of back + untested_count back + 2
    → steps_left queues after + 2 ≤ steps_left queues before
steps_taken queues s before taken tested back after is_one same take test removed listed two =
    let fell = sum_below_changed (length queues) (choice_of tested) (choice_of back) s 1 is_one (sym removed.fewer)
    (λ p ne. sym (removed.others p ne)) in
    let waits = ap on_count removed.untested in
    omega (
      arith,
      two,
      listed.steps,
      fell,
      waits,
      kept_count queues back after listed.choice,
      taken_count s before
          taken tested take test,
      kept_count queues before tested (test.choice ∙ same.choice),
    )

-- when everybody is tested, the lengths are those of the greatest choice
pub IsGreatest-resolved : (positions : List Position) (queues : List (List Payment)) (workspace : Workspace)
    → untested_count workspace ≡ 0 → IsResolving positions queues workspace
    → IsGreatest positions queues (slice_index (lengths_of workspace))
IsGreatest-resolved positions queues workspace none is =
    IsGreatest-same positions queues (choice_of workspace) (slice_index (lengths_of workspace))
    (λ p b. sym (get_or-take workspace.participants workspace.lengths.items p 0
    (omega (arith, b, is.participants)))) (record {
      feasible = record {
        within = is.within;
        covered = λ p b. IsCovered-from_fundings positions queues (choice_of workspace) workspace.fundings.list p b
            is.fundings (is.tested p b (λ on. false≢true (sym (none_is_on workspace.untested none p) ∙ on)));
      };
      largest = is.ceiling.at_most positions (λ q c. omega (arith, ints, is.slack q c));
    })

-- when everybody is tested, what was kept beside the lengths is their slack
pub HasSlack-resolved : (positions : List Position) (queues : List (List Payment)) (workspace : Workspace)
    → IsResolving positions queues workspace
    → HasSlack positions queues (slice_index (lengths_of workspace)) (slacks_of workspace)
HasSlack-resolved positions queues workspace is = record {
  count = omega (
    arith,
    length-take {A = ℕ},
    is.participants,
    workspace.lengths_sized,
    workspace.slacks_sized,
    workspace.slacks.ok,
  );
  some = λ p b. omega (arith, slack_is p b, is.slack p b);
  ceiling = record {
    at_most = λ moved below other feasible p b. omega (
      arith,
      length_is p b,
      is.ceiling.at_most moved (λ q c. omega (arith, ints, below q c, slack_is q c)) other
          feasible p b,
    );
  };
}
  where
    slack_is : (p : ℕ) → p < length queues → slice_index (slacks_of workspace) p ≡ slack_at workspace p
    slack_is p b = get_or-take workspace.participants workspace.slacks.items p 0 (omega (arith, b, is.participants))

    length_is : (p : ℕ) → p < length queues → slice_index (lengths_of workspace) p ≡ choice_of workspace p
    length_is p b = get_or-take workspace.participants workspace.lengths.items p 0 (omega (arith, b, is.participants))

-- the choice with one payment less of a participant
abbrev pub less_one : (ℕ → ℕ) → ℕ → ℕ → ℕ
less_one choice s t = cond (eqb t s) (choice t - 1) (choice t)

-- the newest chosen payment is part of what its sender owes, and of what its receiver has
newest_is_within : (positions : List Position) (queues : List (List Payment)) (choice : ℕ → ℕ)
    (fundings : List Funding) (s : ℕ) → s < length queues → 0 < choice s → choice s ≤ length (queue_of queues s)
    → (newest queues choice s).receiver < length queues → (position_of positions
    (newest queues choice s).receiver).floor ≤ℤ (position_of positions (newest queues choice s).receiver).balance
    → AreFundings positions queues choice fundings → ((newest queues choice s).amount ≤ owed_of fundings s)
    × ((newest queues choice s).amount ≤ funds_of fundings (newest queues choice s).receiver)
newest_is_within positions queues choice fundings s inside some within receives floored are = (
  omega (arith, are.owed s inside, sent_taken queues choice (less_one choice s) s at within),
  omega (
    arith,
    ints,
    floored,
    are.funds (newest queues choice s).receiver receives,
    received_taken queues choice
        (less_one choice s) s (newest queues choice s).receiver inside at within off,
    gets,
  ),
)
  where
    at : cond (eqb s s) (choice s - 1) (choice s) + 1 ≡ choice s
    at = omega (arith, cond-true (eqb s s) (choice s - 1) (choice s) (eq-eqb s s refl))

    off : (t : ℕ) → (t ≡ s → ⊥) → cond (eqb t s) (choice t - 1) (choice t) ≡ choice t
    off t ne = cond-false (eqb t s) (choice t - 1) (choice t) (ne_eqb t s ne)

    gets : amount_to (newest queues choice s).receiver (newest queues choice s) ≡ (newest queues choice s).amount
    gets = cond-true (eqb (newest queues choice s).receiver (newest queues choice s).receiver) _ _ (eq-eqb _ _ refl)

-- a participant that is short has a payment to take back
pub CanTakeBack-short : (positions : List Position) (queues : List (List Payment)) (s : ℕ) (tested : Workspace)
    → AreInRange queues → IsTesting positions queues tested s → (HasEnough tested.fundings.list s → ⊥)
    → CanTakeBack queues s tested
CanTakeBack-short positions queues s tested in_range is short =
    let choice = choice_of tested in
    let some = short_has_one positions queues choice s (is.floored s is.is_one)
    (λ covered. short (enough_from_IsCovered positions queues choice tested.fundings.list s is.is_one is.fundings
    covered)) in
    let receives = in_range s [] is.is_one (choice s - 1) (record { receiver = 0; amount = 0 })
    (omega (arith, some, is.within s is.is_one)) in
    let parts = newest_is_within positions queues choice tested.fundings.list s is.is_one some (is.within s is.is_one)
    receives (is.floored _ receives) is.fundings in
    record {
      some = some;
      short = by_short (cases_lt (funds_of tested.fundings.list s) (owed_of tested.fundings.list s)) short;
      within = is.within s is.is_one;
      receiver = receives;
      owed = parts.0;
      funds = parts.1;
    }
