-- A batch that is settled keeps a book sound.
use Rattle.std.proofs.Common.{◌≡◌, ℕ, ◌≤◌, ◌<◌, ◌+◌, ◌==◌, pos, ◌+ℤ◌, ◌≤ℤ◌, Bool, true, false, not, ◌&&◌, List, [], ◌∷◌}
use Rattle.std.proofs.Common.{map}
use Rattle.std.proofs.Common.{filter, length, refl, sym, ap, ◌∙◌, true≢false, arith}
use Rattle.std.proofs.lemmas.Bool.Decides.{nat_tests}
use Rattle.std.proofs.lemmas.List.{length-map, map-append}
use Rattle.std.specs.List.{AllByRecursion}
use Rattle.std.specs.Str.{bytes_eq}
use Rattle.rtgs_money.specs.Date.{is_weekend}
use Rattle.rtgs_book.specs.declared.limits.TheConstants.{LONGEST_QUEUE}
use Rattle.rtgs_book.specs.declared.book.Book.{Book}
use Rattle.rtgs_book.specs.declared.mark.Mark.{Mark}
use Rattle.rtgs_book.specs.declared.order.Order.{Order}
use Rattle.rtgs_book.specs.declared.order_state.OrderState.{OrderState}
use Rattle.rtgs_book.specs.declared.order_state.OrderState.TheVariants.{Settled}
use Rattle.rtgs_book.specs.Books.{is_closed, is_queued, is_waiting, has_due}
use Rattle.rtgs_book.specs.Lookup.{codes_of, is_participant, participant_of, credit_of}
use Rattle.rtgs_book.specs.IntSum.{int_sum_by}
use Rattle.rtgs_book.specs.Balance.{balance, floor, total, issued, gain}
use Rattle.rtgs_book.specs.Queue.{waiting}
use Rattle.rtgs_book.specs.Settle.{in_state, restated, settle, mark_of, next_mark, today}
use Rattle.rtgs_book.specs.Soundness.{PartiesAreKnown, has_parties, is_state_under, FitsDue, CodesRise, CountsItsOrders}
use Rattle.rtgs_book.specs.Soundness.{IsSound}
use Rattle.rtgs_laws.proofs.BookLaws.{AreQueued, BookLaws, TotalIsIssued}
use Rattle.rtgs_laws.proofs.Batches.{all_from_filter, none_under_next, under_new, amounts_restated, marks_settled}
use Rattle.rtgs_laws.proofs.Batches.{marks_le}
use Rattle.rtgs_laws.proofs.ButLength.{FewWait, IsSoundButLength, but_length}
use Rattle.rtgs_laws.proofs.Lists.{numbered_after, never_fall_push}
use Rattle.rtgs_laws.proofs.Settling.{with_batch, settled_either}
use Rattle.rtgs_laws.proofs.SoundStates.{name}
use Rattle.rtgs_laws.proofs.States.{queued_not_under, kept_filtered, queued_settles}
use Rattle.rtgs_lists.proofs.Filters.{filter_changed, all_filter_changed, length-filter_changed}
use Rattle.rtgs_lists.proofs.Lists.{all_both, all_of, all_push, all_weaker, map_same, changed_same, all_changed}
use Rattle.rtgs_lists.proofs.Numbers.{below_next}

kept : {Y : Type 0} (g : Order → Y) (s : OrderState) → ((o : Order) → g (in_state s o) ≡ g o) → (is_in : Order → Bool)
    (os : List Order) → map g (map (restated is_in s) os) ≡ map g os
kept g s same is_in os = map_same g (restated is_in s) (changed_same g (in_state s) same is_in) os

not_equal : (a b : ℕ) → a < b → (b == a) ≡ false
not_equal a b less = grind (arith, nat_tests)

-- the orders of a batch are between participants still
parties_settled : (book : Book) (is_in : Order → Bool) → PartiesAreKnown book
    → PartiesAreKnown (with_batch book is_in)
unfolding is_participant codes_of
parties_settled book is_in h = (
  all_changed (λ o. has_parties book o ≡ true) is_in (in_state (Settled (next_mark book))) book.orders
      (all_of (λ o. is_in o ≡ true → has_parties book o ≡ true
      → has_parties book (in_state (Settled (next_mark book)) o) ≡ true) (λ o e x. x) book.orders) h.0,
  h.1,
)

pub total-with_batch : TotalIsIssued → (book : Book) (is_in : Order → Bool) → CodesRise book → PartiesAreKnown book
    → total (with_batch book is_in) ≡ total book
unfolding codes_of issued
total-with_batch issue book is_in rise parties =
    issue (with_batch book is_in) rise (parties_settled book is_in parties) ∙ sym (issue book rise parties)

module _ (laws : BookLaws) (book : Book) (is_in : Order → Bool) (queued : AreQueued book is_in)
    (h : IsSoundButLength book) (not_closed : is_closed book.day.phase ≡ false) where
  below : AllByRecursion (λ (m : Mark). m.number < next_mark book) book.marks
  below = all_weaker (λ (m : Mark). m.number < 1 + length book.marks) (λ (m : Mark). m.number < next_mark book)
      (λ m less. omega arith) book.marks (below_next (λ (m : Mark). m.number) 1 book.marks h.marks_numbered.0)

  -- an old mark has its orders still
  counts_old : (m : Mark) → m.number < next_mark book → CountsItsOrders book m
      → CountsItsOrders (with_batch book is_in) m
  counts_old m less c =
      let same : filter (λ (o : Order). is_state_under m.number o.state)
      (map (restated is_in (Settled (next_mark book))) book.orders)
      ≡ filter (λ (o : Order). is_state_under m.number o.state) book.orders =
      filter_changed (λ (o : Order). is_state_under m.number o.state) is_in
      (in_state (Settled (next_mark book)))
      (λ o. not_equal m.number (next_mark book) less) book.orders
      (all_weaker (λ o. is_in o ≡ true → is_queued o ≡ true)
      (λ o. is_in o ≡ true → is_state_under m.number o.state ≡ false)
      (λ o f e. queued_not_under m.number o.state (f e)) book.orders queued) in
      record { some = c.some; count = rw same c.count; value = rw same c.value }

  -- the new mark has the batch
  counts_new : 1 ≤ length (filter is_in book.orders) → CountsItsOrders (with_batch book is_in)
      (mark_of book (filter is_in book.orders))
  unfolding mark_of
  counts_new some =
      let same = under_new (next_mark book) is_in book.orders
      (none_under_next book.marks (next_mark book) book.orders below h.marks.0) in
      record {
        some = some;
        count = rw same (sym (length-map (filter is_in book.orders)
            (in_state (Settled (next_mark book)))));
        value = rw same (ap pos (sym (amounts_restated (next_mark book) (filter is_in book.orders))));
      }

  of_today : AllByRecursion (λ o. is_in o ≡ true → o.date ≡ today book) book.orders
  of_today = all_both (λ o. is_in o ≡ true → is_queued o ≡ true) (λ o. is_queued o ≡ true → o.date ≡ today book)
      (λ o. is_in o ≡ true → o.date ≡ today book) (λ o f g e. g (f e)) book.orders queued
      (all_from_filter (λ (o : Order). o.date ≡ today book) is_queued book.orders h.queues.of_the_day)

  pub batch_sound : 1 ≤ length (filter is_in book.orders) → ((code : List ℕ) → balance (with_batch book is_in) code
      ≡ balance book code +ℤ int_sum_by (gain code) (filter is_in book.orders)) → AllByRecursion
      (λ code. floor book code ≤ℤ (balance book code +ℤ int_sum_by (gain code) (filter is_in book.orders)))
      (codes_of book) → FewWait (with_batch book is_in) → IsSound (with_batch book is_in)
  unfolding mark_of codes_of is_participant floor credit_of participant_of
  batch_sound some balances covered short =
      let s : OrderState = Settled (next_mark book) in
      let mark = mark_of book (filter is_in book.orders) in
      let many = marks_le book is_in h.marks_numbered h.marks.1 queued in
      let enough = h.orders_numbered.1 in
      let long = length-map book.orders (λ (o : Order). o.number) in
      let date_same = kept (λ (o : Order). o.date) s (λ o. refl) is_in book.orders in
      record {
        orders_numbered = rw (kept (λ (o : Order). o.number) s (λ o. refl) is_in book.orders) h.orders_numbered;
        postings_numbered = h.postings_numbered;
        marks_numbered = numbered_after (λ (m : Mark). m.number) book.marks mark h.marks_numbered refl (omega arith);
        codes_rise = h.codes_rise;
        keys_distinct = h.keys_distinct;
        order_references = rw (kept name s (λ o. refl) is_in book.orders) h.order_references;
        posting_references = h.posting_references;
        parties = parties_settled book is_in h.parties;
        marks = (
          marks_settled book.marks mark is_in book.orders h.marks.0 of_today,
          all_push (CountsItsOrders (with_batch book is_in)) book.marks mark
              (all_both (λ (m : Mark). m.number < next_mark book) (CountsItsOrders book)
              (CountsItsOrders (with_batch book is_in)) counts_old book.marks below h.marks.1) (counts_new some),
        );
        queues = record {
          closed = λ e. absurd (true≢false (sym e ∙ not_closed));
          short = short;
          of_the_day = all_filter_changed is_queued is_in (in_state s) (λ o. refl) (λ o. o.date ≡ today book)
              book.orders h.queues.of_the_day;
        };
        dates = record {
          dated = h.dates.dated;
          weekday = h.dates.weekday;
          order_weekdays = rw date_same h.dates.order_weekdays;
          mark_weekdays = rw (map-append (λ (m : Mark). m.date) book.marks (mark ∷ []))
              (all_push (λ date. is_weekend date ≡ false) _ (today book) h.dates.mark_weekdays
              (h.dates.weekday (h.dates.dated not_closed)));
          orders = rw (kept_filtered (λ (o : Order). o.date) (λ o. not (has_due o)) (restated is_in s)
              (changed_same (λ (o : Order). o.date) (in_state s) (λ o. refl) is_in)
              (changed_same (λ o. not (has_due o)) (in_state s) (λ o. refl) is_in) book.orders) h.dates.orders;
          dues = all_changed (λ (o : Order). FitsDue (today book) o.due o.date o.state) is_in (in_state s) book.orders
              (all_weaker (λ o. is_in o ≡ true → is_queued o ≡ true)
              (λ (o : Order). is_in o ≡ true → FitsDue (today book) o.due o.date o.state
              → FitsDue (today book) o.due o.date s)
              (λ o f e. queued_settles (today book) o.due o.date (next_mark book) o.state (f e)) book.orders queued)
              h.dates.dues;
          marks = rw (map-append (λ (m : Mark). m.date) book.marks (mark ∷ [])) (never_fall_push _ _ h.dates.marks);
          postings = h.dates.postings;
        };
        floors = all_weaker (λ code. floor book code ≤ℤ (balance book code +ℤ int_sum_by (gain code)
            (filter is_in book.orders))) (λ code. floor book code ≤ℤ balance (with_batch book is_in) code)
            (λ code x. rw (balances code) x) (codes_of book) covered;
        total_fits = rw (total-with_batch laws.issue book is_in h.codes_rise h.parties) h.total_fits;
        automatic_fits = h.automatic_fits;
      }

-- fewer orders wait once a batch is settled
few_still : (book : Book) (is_in : Order → Bool) → FewWait book → FewWait (with_batch book is_in)
unfolding codes_of waiting
few_still book is_in h = all_weaker (λ code. length (waiting book code) ≤ LONGEST_QUEUE)
    (λ code. length (waiting (with_batch book is_in) code) ≤ LONGEST_QUEUE)
    (λ code x. let le = length-filter_changed (λ o. is_waiting o && bytes_eq o.sender code) is_in
    (in_state (Settled (next_mark book))) (λ o. refl) book.orders in omega arith) (codes_of book) h

pub sound_settle : BookLaws → (book : Book) (is_in : Order → Bool) → AreQueued book is_in → IsSound book
    → is_closed book.day.phase ≡ false → AllByRecursion (λ code. floor book code ≤ℤ
    (balance book code +ℤ int_sum_by (gain code) (filter is_in book.orders))) (codes_of book)
    → IsSound (settle book is_in)
sound_settle laws book is_in queued h not_closed covered =
    settled_either (λ new. ((code : List ℕ) → balance new code
    ≡ balance book code +ℤ int_sum_by (gain code) (filter is_in book.orders)) → IsSound new) book is_in (λ _. h)
    (λ some balances. batch_sound laws book is_in queued (but_length book h) not_closed some balances covered
    (few_still book is_in h.queues.short)) (λ code. laws.settling book is_in code queued)
