-- While each headroom is below its limit, nothing is chosen.
use Rattle.std.proofs.Common.{◌≡◌, ℕ, ◌<◌, ◌<ℤ◌, ◌&&◌, Bool, true, false, cond, List, [], ◌∷◌, filter, length}
use Rattle.std.proofs.Common.{refl, ap, ◌∙◌, true≢false, arith}
use Rattle.std.specs.Prelude.{nat_lt}
use Rattle.std.proofs.lemmas.Int.{ints}
use Rattle.std.proofs.lemmas.Bool.Decides.{nat_tests}
use Rattle.std.proofs.lemmas.List.Elements.{All-from_recursion}
use Rattle.rtgs_book.specs.declared.book.Book.{Book}
use Rattle.rtgs_book.specs.declared.order.Order.{Order}
use Rattle.rtgs_book.specs.Books.{is_empty, is_queued}
use Rattle.rtgs_book.specs.Calm.{IsCalm}
use Rattle.rtgs_book.specs.Lookup.{codes_of, is_participant}
use Rattle.rtgs_book.specs.Choice.{Choice, chosen, is_chosen, IsFeasible}
use Rattle.rtgs_book.specs.Queue.{orders_before}
use Rattle.rtgs_book.specs.Soundness.{IsSound}
use Rattle.rtgs_gridlock.specs.Slack as resolver_slack
use Rattle.rtgs_choices.specs.ByIndex.{code_at, index_of, positions_of, queues_of}
use Rattle.rtgs_choices.specs.Ceilings.{Limits, IsCeilingOf, AreBelow, headroom}
use Rattle.rtgs_choices.proofs.Chosen.{ChosenAreBeginnings}
use Rattle.rtgs_choices.proofs.Greatest.{by_index}
use Rattle.rtgs_lists.proofs.Bools.{and_right_false}
use Rattle.rtgs_choices.proofs.Inputs.{length-queues, position_at, index_of-lt, code_at-index_of, no_queue}

none_below : (n : ℕ) → nat_lt n 0 ≡ false
none_below n = grind (arith, nat_tests)

not_chosen : (book : Book) (choice : Choice) → ((code : List ℕ) → choice code ≡ 0) → (order : Order)
    → is_chosen book choice order ≡ false
unfolding is_chosen
not_chosen book choice zeros order =
    ap (λ (n : ℕ). is_queued order && nat_lt (orders_before book order) n) (zeros order.sender)
    ∙ and_right_false (is_queued order) _ (none_below (orders_before book order))

-- a choice of nothing has no order
none_chosen : (book : Book) (choice : Choice) → ((code : List ℕ) → choice code ≡ 0) → (orders : List Order)
    → filter (is_chosen book choice) orders ≡ []
none_chosen book choice zeros [] = refl
none_chosen book choice zeros (o ∷ orders) = by (is_chosen book choice o) (not_chosen book choice zeros o)
    (none_chosen book choice zeros orders)
  where
    by : (b : Bool) → b ≡ false → filter (is_chosen book choice) orders ≡ []
        → cond b (o ∷ filter (is_chosen book choice) orders) (filter (is_chosen book choice) orders) ≡ []
    by true e none = absurd (true≢false e)
    by false e none = none

-- where the resolver finds nothing to settle, there is nothing
module _ (law : ChosenAreBeginnings) (book : Book) (sound : IsSound book)
    (calm : resolver_slack.IsCalm (positions_of book) (queues_of book)) where
  zeros : (choice : Choice) → IsFeasible book choice → (code : List ℕ) → choice code ≡ 0
  zeros choice feasible code = by (is_participant book code) refl
    where
      by : (b : Bool) → is_participant book code ≡ b → choice code ≡ 0
      by true e =
          let less = index_of-lt book code e in
          let same = ap choice (code_at-index_of book code e) in
          let here = calm (λ i. choice (code_at book i)) (by_index law book sound choice feasible) (index_of book code)
          (let count = length-queues book in omega arith) in
          omega (arith, same, here)
      by false e = let none = no_queue book code sound e in let fits = feasible.within code in omega arith

  pub calm_book : IsCalm book
  unfolding chosen
  calm_book automatic choice greatest =
      ap is_empty (none_chosen book choice (zeros choice greatest.feasible) book.orders)

module _ (law : ChosenAreBeginnings) (book : Book) (sound : IsSound book) (limits : Limits)
    (ceiling : IsCeilingOf book limits) (below : AreBelow book limits) where
  below_at : resolver_slack.AreBelow (length (queues_of book)) (positions_of book) (λ i. limits (code_at book i))
  below_at p less =
      let inside : p < length (codes_of book) = let same = length-queues book in omega arith in
      let here : headroom book (code_at book p) <ℤ limits (code_at book p) =
      All-from_recursion (λ code. headroom book code <ℤ limits code) (codes_of book) below p [] inside in
      let at = position_at book p inside in
      omega (arith, ints, here, ap (λ x. x.balance) at, ap (λ x. x.floor) at)

  pub calm_below : IsCalm book
  calm_below = calm_book law book sound (λ other feasible p less. let most = ceiling.at_most
      (positions_of book) below_at
      other feasible p less in omega (arith, most))
