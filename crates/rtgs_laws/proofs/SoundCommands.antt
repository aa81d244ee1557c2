-- Each command keeps a book sound.
use Rattle.std.proofs.Common.{◌≡◌, ℕ, ◌<◌, ◌+◌, pos, ◌+ℤ◌, ◌-ℤ◌, ◌≤ℤ◌, ◌≤◌, nat_le, Bool, true, false, cond, not, ◌&&◌}
use Rattle.std.proofs.Common.{List, [], ◌∷◌, ◌++◌, map, filter, length, Option, Some, None, is_some, refl, sym, ◌∙◌}
use Rattle.std.proofs.Common.{subst, true≢false, append-nil}
use Rattle.std.proofs.Common.{arith}
use Rattle.std.proofs.lemmas.Int.{ints}
use Rattle.std.proofs.lemmas.List.{map-append}
use Rattle.std.proofs.lemmas.List.Elements.{filter-append}
use Rattle.rtgs_book.specs.declared.order_state.OrderState.TheVariants.{Settled}
use Rattle.rtgs_book.specs.IntSum.{int_sum_by}
use Rattle.std.specs.List.{AllByRecursion}
use Rattle.std.specs.Str.{bytes_eq}
use Rattle.std.specs.Cmp.Lexicographic.{bytes_decides}
use Rattle.rtgs_book.specs.declared.limits.TheConstants.{LONGEST_QUEUE, LARGEST_NUMBER}
use Rattle.rtgs_book.specs.declared.book.Book.{Book}
use Rattle.rtgs_book.specs.declared.new_order.NewOrder.{NewOrder}
use Rattle.rtgs_book.specs.declared.order.Order.{Order}
use Rattle.rtgs_book.specs.Books.{is_closed, is_queued, is_waiting, is_empty}
use Rattle.rtgs_book.specs.Lookup.{codes_of, participant_of, credit_of, order_named}
use Rattle.rtgs_book.specs.Balance.{balance, floor, gain}
use Rattle.rtgs_book.specs.Queue.{waiting}
use Rattle.rtgs_book.specs.Choice.{Choice, is_chosen, chosen, balance_after, IsFeasible}
use Rattle.rtgs_book.specs.Settle.{in_state, settle, restated, next_mark}
use Rattle.rtgs_book.specs.Outcome.{Outcome}
use Rattle.rtgs_book.specs.Commands.{resolve, settles_at_once, settles_now, taken_order, with_order, has_number, takes}
use Rattle.rtgs_book.specs.Commands.{takes_due}
use Rattle.rtgs_book.specs.Commands.{is_due_too_early, is_due_on_a_weekend, order}
use Rattle.rtgs_book.specs.Soundness.{IsSound, has_parties}
use Rattle.rtgs_laws.proofs.BookLaws.{AreQueued, BookLaws}
use Rattle.rtgs_laws.proofs.ButLength.{FewWait, IsSoundButLength, with_length}
use Rattle.rtgs_laws.proofs.NewOrders.{with_due}
use Rattle.rtgs_laws.proofs.Outcomes.{sound_first_of}
use Rattle.rtgs_laws.proofs.Settling.{with_batch, settled_batch}
use Rattle.rtgs_laws.proofs.SoundDays.{open_not_closed}
use Rattle.rtgs_laws.proofs.SoundOrders.{few_with_order, sound_with_order, balance-with_order}
use Rattle.rtgs_laws.proofs.SoundPost.{lt_from_test}
use Rattle.rtgs_laws.proofs.SoundSettle.{batch_sound, sound_settle}
use Rattle.rtgs_lists.proofs.Bools.{and_left, and_right, from_not}
use Rattle.rtgs_lists.proofs.Filters.{filter_nothing, length-filter_changed}
use Rattle.rtgs_lists.proofs.Lists.{all_of, all_push, all_weaker}
use Rattle.rtgs_lists.proofs.Numbers.{eq_self, le_from_test, other_number, below_next}

-- ---- Resolve

pub chosen_queued : (book : Book) (choice : Choice) (o : Order) → is_chosen book choice o ≡ true → is_queued o ≡ true
unfolding is_chosen
chosen_queued book choice o e = and_left _ _ e

sound_settle_chosen : BookLaws → (book : Book) (choice : Choice) → IsSound book → is_closed book.day.phase ≡ false
    → IsFeasible book choice → IsSound (settle book (is_chosen book choice))
unfolding balance_after chosen
sound_settle_chosen laws book choice h not_closed feasible =
    sound_settle laws book (is_chosen book choice) (all_of (λ o. is_chosen book choice o ≡ true → is_queued o ≡ true)
    (chosen_queued book choice) book.orders) h not_closed feasible.covered

either : (b : Bool) (x y : Outcome) → IsSound x.book → IsSound y.book → IsSound (cond b x y).book
either true x y h k = h
either false x y h k = k

pub sound_resolve : BookLaws → (book : Book) (choice : Choice) → IsSound book → IsFeasible book choice
    → IsSound (resolve book choice).book
unfolding resolve
sound_resolve laws book choice h feasible = sound_first_of book _ _ h
    (λ passed. either (is_empty (chosen book choice)) _ _ h (sound_settle_chosen laws book choice h passed.0 feasible))

-- ---- Order

bytes_apart : (a b c : List ℕ) → bytes_eq a b ≡ false → a ≡ c → bytes_eq b c ≡ false
bytes_apart a b c e same = by (bytes_eq b c) refl
  where
    by : (t : Bool) → bytes_eq b c ≡ t → t ≡ false
    by true f = absurd (true≢false (sym ((bytes_decides a b).1 (same ∙ sym ((bytes_decides b c).0 f))) ∙ e))
    by false f = refl

choose : (b : Bool) (x y : Outcome) → (b ≡ true → IsSound x.book) → (b ≡ false → IsSound y.book)
    → IsSound (cond b x y).book
choose true x y h k = h refl
choose false x y h k = k refl

at_once_cover : (book : Book) (sender : List ℕ) (amount : ℕ) → settles_at_once book sender amount ≡ true
    → floor book sender ≤ℤ (balance book sender -ℤ pos amount)
unfolding settles_at_once
at_once_cover book sender amount e = le_from_test _ _ (and_right _ _ e)

still_short : (a b : Bool) → a ≡ false → (not a && b) ≡ false → b ≡ false
still_short true b e s = absurd (true≢false e)
still_short false b e s = s

all_three : (a b c : Bool) → a ≡ true → b ≡ true → c ≡ false → (a && b && not c) ≡ true
all_three a b c e f g = rw (e, f, g) refl

module _ (book : Book) (sender : List ℕ) (new_order : NewOrder) (h : IsSound book) where
  pub old_numbers : AllByRecursion (λ o. has_number (length book.orders + 1) o ≡ false) book.orders
  old_numbers = all_weaker (λ (o : Order). o.number < 1 + length book.orders)
      (λ o. has_number (length book.orders + 1) o ≡ false) (λ o less. other_number o.number (length book.orders) less)
      book.orders (below_next (λ (o : Order). o.number) 1 book.orders h.orders_numbered.0)

  batch_is : filter (has_number (length book.orders + 1)) (book.orders
      ++ taken_order book sender (with_due new_order None) ∷ [])
      ≡ taken_order book sender (with_due new_order None) ∷ []
  batch_is = filter-append (has_number (length book.orders + 1)) book.orders
      (taken_order book sender (with_due new_order None) ∷ [])
      ∙ rw (filter_nothing _ book.orders old_numbers, eq_self (length book.orders + 1)) refl

  covered_at : bytes_eq sender new_order.receiver ≡ false
      → floor book sender ≤ℤ (balance book sender -ℤ pos new_order.amount)
      → (code : List ℕ) → floor book code ≤ℤ balance book code
      → floor book code ≤ℤ (balance book code +ℤ
      (gain code (taken_order book sender (with_due new_order None)) +ℤ pos 0))
  unfolding gain
  covered_at apart cover code holds = by (bytes_eq sender code) refl (bytes_eq new_order.receiver code) refl
    where
      by : (s : Bool) → bytes_eq sender code ≡ s → (r : Bool) → bytes_eq new_order.receiver code ≡ r
          → floor book code ≤ℤ (balance book code +ℤ ((cond r (pos new_order.amount) (pos 0)
          -ℤ cond s (pos new_order.amount) (pos 0)) +ℤ pos 0))
      by true e true f = absurd (true≢false (sym f ∙ bytes_apart sender new_order.receiver code apart
          ((bytes_decides sender code).0 e)))
      by true e false f =
          let here : floor book code ≤ℤ (balance book code -ℤ pos new_order.amount) =
          subst (λ c. floor book c ≤ℤ (balance book c -ℤ pos new_order.amount)) ((bytes_decides sender code).0 e)
          cover in
          omega (arith, ints)
      by false e true f = omega (arith, ints)
      by false e false f = omega (arith, ints)

  -- the new order is settled, so no more orders wait than before
  few_settled : FewWait (with_batch (with_order book (taken_order book sender (with_due new_order None)))
      (has_number (length book.orders + 1)))
  unfolding codes_of waiting
  few_settled = all_weaker (λ code. length (waiting book code) ≤ LONGEST_QUEUE)
      (λ code. length (waiting (with_batch (with_order book (taken_order book sender (with_due new_order None)))
      (has_number (length book.orders + 1))) code) ≤ LONGEST_QUEUE) one (codes_of book) h.queues.short
    where
      one : (code : List ℕ) → length (filter (λ o. is_waiting o && bytes_eq o.sender code) book.orders) ≤ LONGEST_QUEUE
          → length (filter (λ o. is_waiting o && bytes_eq o.sender code)
          (map (restated (has_number (length book.orders + 1)) (Settled (next_mark book)))
          (book.orders ++ taken_order book sender (with_due new_order None) ∷ []))) ≤ LONGEST_QUEUE
      one code x =
          let le = length-filter_changed (λ o. is_waiting o && bytes_eq o.sender code)
          (has_number (length book.orders + 1)) (in_state (Settled (next_mark book))) (λ o. refl) book.orders in
          rw (
            map-append (restated (has_number (length book.orders + 1)) (Settled (next_mark book))) book.orders
                (taken_order book sender (with_due new_order None) ∷ []),
            eq_self (length book.orders + 1),
            filter-append (λ (o : Order). is_waiting o && bytes_eq o.sender code),
            append-nil,
          ) (omega arith)

  settled_sound : BookLaws → IsSoundButLength (with_order book (taken_order book sender (with_due new_order None)))
      → is_closed book.day.phase ≡ false → bytes_eq sender new_order.receiver ≡ false
      → floor book sender ≤ℤ (balance book sender -ℤ pos new_order.amount)
      → IsSound (settle (with_order book (taken_order book sender (with_due new_order None)))
      (has_number (length book.orders + 1)))
  unfolding codes_of floor credit_of participant_of
  settled_sound laws sound not_closed apart cover =
      let new : Order = taken_order book sender (with_due new_order None) in
      let queued : AreQueued (with_order book new) (has_number (length book.orders + 1)) =
      all_push (λ o. has_number (length book.orders + 1) o ≡ true → is_queued o ≡ true) book.orders new
      (all_weaker (λ o. has_number (length book.orders + 1) o ≡ false)
      (λ o. has_number (length book.orders + 1) o ≡ true → is_queued o ≡ true)
      (λ o e t. absurd (true≢false (sym t ∙ e))) book.orders old_numbers) (λ _. refl) in
      let some : 1 ≤ length (filter (has_number (length book.orders + 1)) (book.orders ++ new ∷ [])) =
      rw batch_is (omega arith) in
      settled_batch (λ b. ((code : List ℕ) → balance b code ≡ balance (with_order book new) code
      +ℤ int_sum_by (gain code) (filter (has_number (length book.orders + 1)) (book.orders ++ new ∷ []))) → IsSound b)
      (with_order book new) (has_number (length book.orders + 1)) some
      (λ balances. batch_sound laws (with_order book new) (has_number (length book.orders + 1)) queued sound not_closed
      some balances
      (rw batch_is (all_weaker (λ code. floor book code ≤ℤ balance book code)
      (λ code. floor book code ≤ℤ (balance (with_order book new) code +ℤ (gain code new +ℤ pos 0)))
      (λ code x. rw (balance-with_order book sender (with_due new_order None) code)
      (covered_at apart cover code x))
      (codes_of book) h.floors)) few_settled)
      (λ code. laws.settling (with_order book new) (has_number (length book.orders + 1)) code queued)

  takes_sound : BookLaws → length book.orders < LARGEST_NUMBER
      → is_some (order_named book sender new_order.reference) ≡ false
      → has_parties book (taken_order book sender (with_due new_order None)) ≡ true
      → bytes_eq sender new_order.receiver ≡ false
      → is_closed book.day.phase ≡ false → (not (settles_at_once book sender new_order.amount) && nat_le LONGEST_QUEUE
      (length (waiting book sender))) ≡ false → IsSound (takes book
      (taken_order book sender (with_due new_order None))).book
  unfolding takes
  takes_sound laws room fresh parties apart not_closed short =
      let sound = sound_with_order book sender (with_due new_order None) h room fresh parties not_closed refl refl
      in
      choose (settles_at_once book sender new_order.amount) _ _
      (λ e. settled_sound laws sound not_closed apart (at_once_cover book sender new_order.amount e))
      (λ e. with_length _ sound (few_with_order book sender (with_due new_order None)
      (lt_from_test _ _ (still_short _ _ e short)) h.queues.short))

  takes_due_sound : BookLaws → (due : Option ℕ) → length book.orders < LARGEST_NUMBER
      → is_some (order_named book sender new_order.reference) ≡ false
      → has_parties book (taken_order book sender (with_due new_order due)) ≡ true
      → bytes_eq sender new_order.receiver ≡ false
      → is_closed book.day.phase ≡ false → is_due_too_early book due ≡ false → is_due_on_a_weekend due ≡ false
      → (not (settles_now book sender (with_due new_order due))
      && nat_le LONGEST_QUEUE (length (waiting book sender))) ≡ false
      → IsSound (takes_due book (taken_order book sender (with_due new_order due)) due).book
  takes_due_sound laws None room fresh parties apart not_closed early weekend short =
      takes_sound laws room fresh parties apart not_closed short
  takes_due_sound laws (Some due) room fresh parties apart not_closed early weekend short =
      with_length _ (sound_with_order book sender (with_due new_order (Some due)) h room fresh parties not_closed
      early weekend) (few_with_order book sender (with_due new_order (Some due)) (lt_from_test _ _ short)
      h.queues.short)

pub sound_order : BookLaws → (book : Book) (sender : List ℕ) (new_order : NewOrder) → IsSound book
    → IsSound (order book sender new_order).book
unfolding order
sound_order laws book sender new_order h = sound_first_of book _ _ h
    (λ (
      sender_known,
      (
        _,
        (
          unused,
          (
            day_open,
            (
              receiver_known,
              (
                apart,
                (
                  early,
                  (
                    weekend,
                    (
                      numbers_left,
                      (
                        short,
                        _,
                      ),
                    ),
                  ),
                ),
              ),
            ),
          ),
        ),
      ),
    ). takes_due_sound book sender new_order h laws new_order.due (lt_from_test _ _ numbers_left) unused
    (all_three _ _ _ (from_not _ sender_known) (from_not _ receiver_known) apart) apart
    (open_not_closed book.day.phase (from_not _ day_open)) early weekend short)
