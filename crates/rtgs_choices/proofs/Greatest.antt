-- Feasible by index and feasible by code, and so the greatest choice.
use Rattle.std.proofs.Common.{◌≡◌, ℕ, ◌<◌, ◌≤◌, ◌≤ℤ◌, Bool, true, false, cond, List, [], length, refl, ap, arith}
use Rattle.std.proofs.lemmas.Int.{ints}
use Rattle.std.proofs.lemmas.List.Elements.{All-from_recursion, recursion_from_All, All-from_get_or}
use Rattle.std.specs.List.{AllByRecursion}
use Rattle.rtgs_book.specs.declared.book.Book.{Book}
use Rattle.rtgs_book.specs.Lookup.{codes_of, is_participant}
use Rattle.rtgs_book.specs.Balance.{floor}
use Rattle.rtgs_book.specs.Queue.{queue}
use Rattle.rtgs_book.specs.Choice.{Choice, balance_after, IsFeasible, IsGreatest}
use Rattle.rtgs_book.specs.Soundness.{IsSound}
use Rattle.rtgs_gridlock.specs.Choices as resolver
use Rattle.rtgs_choices.specs.ByIndex.{code_at, index_of, positions_of, queues_of, by_code}
use Rattle.rtgs_choices.proofs.Inputs.{length-queues, index_of-lt, code_at-index_of, by_code-at, no_queue}
use Rattle.rtgs_choices.proofs.Agree.{queue_length}
use Rattle.rtgs_choices.proofs.Chosen.{ChosenAreBeginnings, floor_is, after_is}

module _ (law : ChosenAreBeginnings) (book : Book) (sound : IsSound book) where
  is_below : (p : ℕ) → p < length (queues_of book) → p < length (codes_of book)
  is_below p less = let same = length-queues book in omega arith

  -- a choice of codes as one of indexes
  pub by_index : (other : Choice) → IsFeasible book other → resolver.IsFeasible (positions_of book) (queues_of book)
      (λ i. other (code_at book i))
  by_index other feasible = record {
    within = λ p less. let long = queue_length book p (is_below p less) in let fits = feasible.within (code_at book p)
        in omega arith;
    covered = λ p less. covered p (is_below p less);
  }
    where
      covered : (p : ℕ) → p < length (codes_of book) → resolver.IsCovered (positions_of book) (queues_of book)
          (λ i. other (code_at book i)) p
      covered p less =
          let floors = floor_is law book sound other (λ i. other (code_at book i)) (λ i _. refl) p less in
          let balances = after_is law book sound other (λ i. other (code_at book i)) (λ i _. refl) p less in
          let holds : floor book (code_at book p) ≤ℤ balance_after book other (code_at book p) =
          All-from_recursion (λ code. floor book code ≤ℤ balance_after book other code) (codes_of book)
          feasible.covered p [] less in
          omega (arith, ints)

  module _ (lengths : ℕ → ℕ) where
    within : resolver.IsWithin (queues_of book) lengths → (code : List ℕ)
        → by_code book lengths code ≤ length (queue book code)
    unfolding by_code
    within fits code = by (is_participant book code) refl
      where
        by : (b : Bool) → is_participant book code ≡ b → cond b (lengths (index_of book code)) 0
            ≤ length (queue book code)
        by true e =
            let less = index_of-lt book code e in
            let long = queue_length book (index_of book code) less in
            let same = ap (λ (c : List ℕ). length (queue book c)) (code_at-index_of book code e) in
            let here = fits (index_of book code) (let count = length-queues book in omega arith) in
            omega arith
        by false e = omega arith

    covered : resolver.IsFeasible (positions_of book) (queues_of book) lengths
        → AllByRecursion (λ code. floor book code ≤ℤ balance_after book (by_code book lengths) code) (codes_of book)
    covered feasible = recursion_from_All (λ code. floor book code ≤ℤ balance_after book (by_code book lengths) code)
        (codes_of book) (All-from_get_or (λ code. floor book code ≤ℤ balance_after book (by_code book lengths) code)
        (codes_of book) [] here)
      where
        here : (p : ℕ) → p < length (codes_of book) → floor book (code_at book p) ≤ℤ balance_after book
            (by_code book lengths) (code_at book p)
        here p less =
            let floors = floor_is law book sound (by_code book lengths) lengths
            (λ i below. by_code-at book lengths i sound below) p less in
            let balances = after_is law book sound (by_code book lengths) lengths
            (λ i below. by_code-at book lengths i sound below) p less in
            let holds = feasible.covered p (let count = length-queues book in omega arith) in
            omega (arith, ints)

    at_most : resolver.IsGreatest (positions_of book) (queues_of book) lengths → (other : Choice)
        → IsFeasible book other → (code : List ℕ) → other code ≤ by_code book lengths code
    unfolding by_code
    at_most greatest other feasible code = by (is_participant book code) refl
      where
        by : (b : Bool) → is_participant book code ≡ b → other code ≤ cond b (lengths (index_of book code)) 0
        by true e =
            let less = index_of-lt book code e in
            let same = ap other (code_at-index_of book code e) in
            let here = greatest.largest (λ i. other (code_at book i)) (by_index other feasible) (index_of book code)
            (let count = length-queues book in omega arith) in
            omega arith
        by false e = let none = no_queue book code sound e in let fits = feasible.within code in omega arith

    pub greatest_by_code : resolver.IsGreatest (positions_of book) (queues_of book) lengths
        → IsGreatest book (by_code book lengths)
    greatest_by_code greatest = record {
      feasible = record { within = within greatest.feasible.within; covered = covered greatest.feasible };
      largest = at_most greatest;
    }
