-- A choice by index and the same choice by code.
use Rattle.std.proofs.Common.{◌≡◌, ℕ, ◌<◌, ◌≤◌, true, ◌&&◌, List, [], ◌∷◌, length, take, sum_by, refl, sym, ap, ◌∙◌}
use Rattle.std.proofs.Common.{true≢false, arith}
use Rattle.std.proofs.lemmas.List.{length-map, length-take-le}
use Rattle.std.proofs.lemmas.List.Elements.{All-from_recursion}
use Rattle.std.proofs.lemmas.List.Sums.{sum_by-cons}
use Rattle.rtgs_book.specs.declared.book.Book.{Book}
use Rattle.rtgs_book.specs.declared.order.Order.{Order}
use Rattle.rtgs_book.specs.declared.limits.TheConstants.{MOST_PARTICIPANTS, LONGEST_QUEUE, MOST_QUEUED}
use Rattle.rtgs_book.specs.Lookup.{codes_of}
use Rattle.rtgs_book.specs.Queue.{queue, waiting}
use Rattle.rtgs_book.specs.declared.order_state.OrderState.{OrderState}
use Rattle.rtgs_book.specs.declared.order_state.OrderState.TheVariants.{Queued, Held, Settled, Withdrawn, Rejected}
use Rattle.rtgs_book.specs.Books.{is_queued, is_queued_state, is_waiting, is_waiting_state}
use Rattle.rtgs_lists.proofs.Bools.{and_left, and_right, and_true}
use Rattle.rtgs_lists.proofs.Filters.{filter_shorter}
use Rattle.std.specs.Str.{bytes_eq}
use Rattle.rtgs_book.specs.Choice.{chosen, balance_after}
use Rattle.rtgs_book.specs.Soundness.{IsSound}
use Rattle.rtgs_gridlock.specs.Choices.{sum_below, queue_of, payment_count, sent, after, IsWithin}
use Rattle.rtgs_gridlock.specs.Laws.{order_count, value_of}
use Rattle.rtgs_choices.specs.ByIndex.{code_at, positions_of, payment_of, queues_of, by_code}
use Rattle.rtgs_choices.proofs.Sums.{sum_below-same, sum_below-bound}
use Rattle.rtgs_choices.proofs.Inputs.{length-queues, queue_at, by_code-at}
use Rattle.rtgs_choices.proofs.Chosen.{ChosenAreBeginnings, Agree, sum_by-chosen, sum_by-beginning, after_is}

-- as many payments as the book has queued for the participant
pub queue_length : (book : Book) (i : ℕ) → i < length (codes_of book)
    → length (queue_of (queues_of book) i) ≡ length (queue book (code_at book i))
queue_length book i less = ap length (queue_at book i less) ∙ length-map (queue book (code_at book i)) (payment_of book)

queued_waits : (o : Order) (code : List ℕ) → (is_queued o && bytes_eq o.sender code) ≡ true
    → (is_waiting o && bytes_eq o.sender code) ≡ true
queued_waits o code e = and_true (is_waiting o) _ (by o.state (and_left (is_queued o) _ e)) (and_right (is_queued o) _
    e)
  where
    by : (s : OrderState) → is_queued_state s ≡ true → is_waiting_state s ≡ true
    by Queued e = refl
    by Held e = absurd (true≢false (sym e))
    by (Settled mark) e = absurd (true≢false (sym e))
    by Withdrawn e = absurd (true≢false (sym e))
    by Rejected e = absurd (true≢false (sym e))

-- a queue is no longer than what waits
queue_waits : (book : Book) (code : List ℕ) → length (queue book code) ≤ length (waiting book code)
unfolding queue waiting
queue_waits book code = filter_shorter (λ o. is_queued o && bytes_eq o.sender code)
    (λ o. is_waiting o && bytes_eq o.sender code) (λ o e. queued_waits o code e) book.orders

pub payments-le : (book : Book) → IsSound book → payment_count (queues_of book) ≤ MOST_QUEUED
unfolding payment_count
payments-le book sound =
    let count = length-queues book in
    let codes : length (codes_of book) ≤ MOST_PARTICIPANTS = sound.codes_rise.1 in
    let each = sum_below-bound (length (queues_of book)) (λ i. length (queue_of (queues_of book) i))
    (λ i less. short i (omega arith)) in
    omega arith
  where
    short : (i : ℕ) → i < length (codes_of book) → length (queue_of (queues_of book) i) ≤ LONGEST_QUEUE
    short i less =
        let long = queue_length book i less in
        let here : length (waiting book (code_at book i)) ≤ LONGEST_QUEUE =
        All-from_recursion (λ code. length (waiting book code) ≤ LONGEST_QUEUE) (codes_of book) sound.queues.short i
        [] less in
        let part = queue_waits book (code_at book i) in
        omega arith

pub length_is : {X : Type 0} (xs : List X) → sum_by (λ x. 1) xs ≡ length xs
length_is [] = refl
length_is (x ∷ xs) = let more = sum_by-cons (λ _. 1) x xs in let rest = length_is xs in omega arith

module _ (law : ChosenAreBeginnings) (book : Book) (lengths : ℕ → ℕ) (sound : IsSound book) where
  agree : Agree book (by_code book lengths) lengths
  agree i less = by_code-at book lengths i sound less

  pub balances_agree : (i : ℕ) → i < length (codes_of book) → balance_after book (by_code book lengths) (code_at book i)
      ≡ after (positions_of book) (queues_of book) lengths i
  balances_agree i less = sym (after_is law book sound (by_code book lengths) lengths agree i less)

  pub count_is : IsWithin (queues_of book) lengths → length (chosen book (by_code book lengths))
      ≡ order_count (queues_of book) lengths
  count_is within =
      sym (length_is (chosen book (by_code book lengths)))
      ∙ sym (sum_by-chosen law book sound (by_code book lengths) (λ o. 1))
      ∙ sum_below-same (length (codes_of book)) _ lengths here
      ∙ ap (λ (n : ℕ). sum_below n lengths) (sym (length-queues book))
    where
      here : (i : ℕ) → i < length (codes_of book) → sum_by (λ (o : Order). 1)
          (take (by_code book lengths (code_at book i)) (queue book (code_at book i))) ≡ lengths i
      here i less =
          let as_long = agree i less in
          let long = queue_length book i less in
          let count = length-queues book in
          let fits = within i (omega arith) in
          length_is (take (by_code book lengths (code_at book i)) (queue book (code_at book i)))
          ∙ length-take-le (by_code book lengths (code_at book i)) (queue book (code_at book i)) (omega arith)
          ∙ as_long

  pub value_is : sum_by (λ (o : Order). o.amount) (chosen book (by_code book lengths))
      ≡ value_of (queues_of book) lengths
  unfolding sent
  value_is =
      sym (sum_by-chosen law book sound (by_code book lengths) (λ (o : Order). o.amount))
      ∙ sum_below-same (length (codes_of book)) _ _ (λ i less. sym
      (sum_by-beginning law book sound (by_code book lengths) lengths agree (λ payment. payment.amount) i less))
      ∙ ap (λ (n : ℕ). sum_below n (sent (queues_of book) lengths)) (sym (length-queues book))
