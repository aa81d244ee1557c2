-- The chosen orders as beginnings of the participants' queues.
use Rattle.std.proofs.Common.{◌≡◌, ℕ, ◌<◌, ◌==◌, pos, ◌-ℤ◌, Bool, true, false, cond, List, [], ◌∷◌, filter, length}
use Rattle.std.proofs.Common.{take, sum_by, refl, sym, ap, ◌∙◌, arith}
use Rattle.std.proofs.lemmas.Int.{ints}
use Rattle.std.proofs.lemmas.List.{take-map}
use Rattle.std.proofs.lemmas.List.Elements.{filter_agree}
use Rattle.std.proofs.lemmas.List.Sums.{sum_by-cons}
use Rattle.std.specs.List.{AllByRecursion}
use Rattle.std.specs.Str.{bytes_eq}
use Rattle.rtgs_book.specs.declared.book.Book.{Book}
use Rattle.rtgs_book.specs.declared.order.Order.{Order}
use Rattle.rtgs_book.specs.Lookup.{codes_of}
use Rattle.rtgs_book.specs.IntSum.{int_sum_by}
use Rattle.rtgs_book.specs.Balance.{balance, floor, gain}
use Rattle.rtgs_book.specs.Queue.{queue}
use Rattle.rtgs_book.specs.Choice.{Choice, chosen, balance_after}
use Rattle.rtgs_book.specs.Soundness.{IsSound, OrdersAreNumbered}
use Rattle.rtgs_gridlock.specs.Choices as resolver
use Rattle.rtgs_gridlock.specs.declared.queues.Payment.{Payment}
use Rattle.rtgs_gridlock.specs.Choices.{sum_below, queue_of, amount_to, sent, received, after}
use Rattle.rtgs_choices.specs.ByIndex.{code_at, index_of, positions_of, payment_of, queues_of}
use Rattle.rtgs_choices.proofs.Sums.{sum_below-same, sum_by-map, sum_by-same, sum_by-filter, sum_by-parts}
use Rattle.rtgs_choices.proofs.Inputs.{length-queues, position_at, queue_at, is_at, HasIndexes, parties_have_indexes}
use Rattle.rtgs_lists.proofs.Lists.{all_filter, all_weaker}

-- of each queue just the first orders are chosen, as many as the choice says
abbrev pub ChosenAreBeginnings : Type 0
ChosenAreBeginnings = (book : Book) (choice : Choice) (code : List ℕ) → OrdersAreNumbered book
    → filter (λ (o : Order). bytes_eq o.sender code) (chosen book choice) ≡ take (choice code) (queue book code)

-- what the order brings to the account, and what it takes from it
abbrev pub gets : List ℕ → Order → ℕ
gets code o = cond (bytes_eq o.receiver code) o.amount 0

abbrev pub gives : List ℕ → Order → ℕ
gives code o = cond (bytes_eq o.sender code) o.amount 0

gain_is : (code : List ℕ) (o : Order) → gain code o ≡ pos (gets code o) -ℤ pos (gives code o)
unfolding gain
gain_is code o = by (bytes_eq o.receiver code) (bytes_eq o.sender code)
  where
    by : (r s : Bool) → cond r (pos o.amount) (pos 0) -ℤ cond s (pos o.amount) (pos 0)
        ≡ pos (cond r o.amount 0) -ℤ pos (cond s o.amount 0)
    by true true = refl
    by true false = refl
    by false true = refl
    by false false = refl

pub gains_are : (code : List ℕ) (os : List Order) → int_sum_by (gain code) os
    ≡ pos (sum_by (gets code) os) -ℤ pos (sum_by (gives code) os)
gains_are code [] = refl
gains_are code (o ∷ os) =
    let here = gain_is code o in
    let rest = gains_are code os in
    let got = sum_by-cons (gets code) o os in
    let given = sum_by-cons (gives code) o os in
    omega (arith, ints)

chosen_have_indexes : (book : Book) (choice : Choice) → IsSound book
    → AllByRecursion (HasIndexes book) (chosen book choice)
unfolding chosen
chosen_have_indexes book choice sound = all_filter (HasIndexes book) _ book.orders (parties_have_indexes book sound)

-- a choice by index and one by code take as much of each participant's queue
abbrev pub Agree : Book → Choice → (ℕ → ℕ) → Type 0
Agree book choice lengths = (i : ℕ) → i < length (codes_of book) → choice (code_at book i) ≡ lengths i

-- a sum over orders between participants, sender by sender
pub sum_by-senders : (book : Book) (os : List Order) (part : List ℕ → List Order) → IsSound book
    → AllByRecursion (HasIndexes book) os
    → ((code : List ℕ) → filter (λ (o : Order). bytes_eq o.sender code) os ≡ part code)
    → (f : Order → ℕ) → sum_below (length (codes_of book)) (λ i. sum_by f (part (code_at book i))) ≡ sum_by f os
sum_by-senders book os part sound have is f =
    sum_below-same (length (codes_of book)) _ (λ i. sum_by f (filter (λ (o : Order). index_of book o.sender == i) os))
    (λ i less. ap (sum_by f) (sym (filter_agree (λ (o : Order). index_of book o.sender == i)
    (λ (o : Order). bytes_eq o.sender (code_at book i)) (λ (o : Order). is_at book o.sender i sound less) os
    ∙ is (code_at book i))))
    ∙ sum_by-parts f (λ (o : Order). index_of book o.sender) (length (codes_of book)) os
    (all_weaker (HasIndexes book) (λ (o : Order). index_of book o.sender < length (codes_of book)) (λ o h. h.0) os have)

module _ (law : ChosenAreBeginnings) (book : Book) (sound : IsSound book) (choice : Choice) where
  pub sum_by-chosen : (f : Order → ℕ) → sum_below (length (codes_of book))
      (λ i. sum_by f (take (choice (code_at book i)) (queue book (code_at book i)))) ≡ sum_by f (chosen book choice)
  sum_by-chosen = sum_by-senders book (chosen book choice) (λ code. take (choice code) (queue book code)) sound
      (chosen_have_indexes book choice sound) (λ code. law book choice code sound.orders_numbered)

  module _ (lengths : ℕ → ℕ) (agree : Agree book choice lengths) where
    -- what is chosen of a queue, as the resolver sees it
    pub sum_by-beginning : (f : Payment → ℕ) (i : ℕ) → i < length (codes_of book)
        → sum_by f (take (lengths i) (queue_of (queues_of book) i))
        ≡ sum_by (λ o. f (payment_of book o)) (take (choice (code_at book i)) (queue book (code_at book i)))
    sum_by-beginning f i less =
        ap (λ (q : List Payment). sum_by f (take (lengths i) q)) (queue_at book i less)
        ∙ ap (sum_by f) (take-map (payment_of book) (lengths i) (queue book (code_at book i)))
        ∙ sum_by-map f (payment_of book) (take (lengths i) (queue book (code_at book i)))
        ∙ ap (λ (n : ℕ). sum_by (λ o. f (payment_of book o)) (take n (queue book (code_at book i))))
        (sym (agree i less))

    received_is : (p : ℕ) → p < length (codes_of book) → received (queues_of book) lengths p
        ≡ sum_by (gets (code_at book p)) (chosen book choice)
    unfolding received
    received_is p less =
        ap (λ (n : ℕ). sum_below n (λ i. sum_by (amount_to p) (take (lengths i) (queue_of (queues_of book) i))))
        (length-queues book)
        ∙ sum_below-same (length (codes_of book)) _ _ (λ i below. sum_by-beginning (amount_to p) i below
        ∙ sum_by-same (λ o. amount_to p (payment_of book o)) (gets (code_at book p))
        (λ o. ap (λ (t : Bool). cond t o.amount 0) (is_at book o.receiver p sound less))
        (take (choice (code_at book i)) (queue book (code_at book i))))
        ∙ sum_by-chosen (gets (code_at book p))

    sent_is : (p : ℕ) → p < length (codes_of book) → sent (queues_of book) lengths p
        ≡ sum_by (gives (code_at book p)) (chosen book choice)
    unfolding sent
    sent_is p less =
        sum_by-beginning (λ payment. payment.amount) p less
        ∙ ap (sum_by (λ (o : Order). o.amount)) (sym (law book choice (code_at book p) sound.orders_numbered))
        ∙ sum_by-filter (λ (o : Order). o.amount) (λ (o : Order). bytes_eq o.sender (code_at book p))
        (chosen book choice)

    balance_is : (p : ℕ) → p < length (codes_of book) → (resolver.position_of (positions_of book) p).balance
        ≡ balance book (code_at book p)
    balance_is p less i = (position_at book p less i).balance

    pub floor_is : (p : ℕ) → p < length (codes_of book) → (resolver.position_of (positions_of book) p).floor
        ≡ floor book (code_at book p)
    floor_is p less i = (position_at book p less i).floor

    -- both judge by the same balance
    pub after_is : (p : ℕ) → p < length (codes_of book) → after (positions_of book) (queues_of book) lengths p
        ≡ balance_after book choice (code_at book p)
    unfolding balance_after
    after_is p less =
        let balances = balance_is p less in
        let gets_all = received_is p less in
        let gives_all = sent_is p less in
        let gains = gains_are (code_at book p) (chosen book choice) in
        omega (arith, ints)
