-- Withdrawing an order and closing a day keep a book sound.
use Rattle.std.proofs.Common.{◌≡◌, ℕ, ◌≤◌, ℤ, pos, ◌≤ℤ◌, int_lt, Bool, true, false, cond, not, ◌&&◌, List, [], ◌∷◌, map}
use Rattle.std.proofs.Common.{filter, length, Option, Some, None, refl, sym, ap, ◌∙◌, subst, true≢false, arith}
use Rattle.std.proofs.lemmas.Int.{ints}
use Rattle.std.specs.List.{AllByRecursion, range_with_len}
use Rattle.std.specs.Str.{bytes_eq}
use Rattle.rtgs_book.specs.declared.book.Book.{Book}
use Rattle.rtgs_book.specs.declared.mark.Mark.{Mark}
use Rattle.rtgs_book.specs.declared.order.Order.{Order}
use Rattle.rtgs_book.specs.declared.order_state.OrderState.{OrderState}
use Rattle.rtgs_book.specs.declared.order_state.OrderState.TheVariants.{Withdrawn, Rejected}
use Rattle.rtgs_book.specs.declared.phase.Phase.TheVariants.{Closed}
use Rattle.rtgs_book.specs.Books.{is_queued, is_queued_state, is_waiting, is_waiting_state, is_settled}
use Rattle.rtgs_book.specs.Books.{is_settled_state}
use Rattle.rtgs_book.specs.Books.{has_due, is_empty}
use Rattle.rtgs_book.specs.Lookup.{codes_of, is_participant, participant_of, credit_of, is_order_named, order_named}
use Rattle.rtgs_book.specs.IntSum.{int_sum_by}
use Rattle.rtgs_book.specs.Balance.{balance, floor, total}
use Rattle.rtgs_book.specs.Queue.{waiting}
use Rattle.rtgs_book.specs.Settle.{in_state, restated, today}
use Rattle.rtgs_book.specs.Choice.{Choice}
use Rattle.rtgs_book.specs.Commands.{with_state, with_day, has_number, number_of, is_waiting_order, withdraw, overdrawn}
use Rattle.rtgs_book.specs.Commands.{close_day}
use Rattle.rtgs_book.specs.Soundness.{HasMark, FitsDue, is_state_under, has_parties, CountsItsOrders, IsSound}
use Rattle.std.proofs.lemmas.List.{length-map}
use Rattle.rtgs_book.specs.declared.limits.TheConstants.{LONGEST_QUEUE, LARGEST_TOTAL}
use Rattle.rtgs_laws.proofs.BookLaws.{AreUnsettled, BookLaws}
use Rattle.rtgs_laws.proofs.Outcomes.{sound_first_of}
use Rattle.rtgs_laws.proofs.SoundDays.{sound_with_day}
use Rattle.rtgs_laws.proofs.States.{no_length, queued_not_settled, waiting_not_settled, unsettled_not_under}
use Rattle.rtgs_laws.proofs.States.{found_by_number, kept_filtered, queued_rejected, waiting_withdrawn}
use Rattle.rtgs_lists.proofs.Bools.{and_left_false, from_not}
use Rattle.rtgs_lists.proofs.Filters.{filter_changed, all_filter_changed, length-filter_changed}
use Rattle.rtgs_lists.proofs.Lists.{all_of, all_weaker, map_same, changed_same, all_changed}

abbrev pub name : Order → List ℕ × List ℕ
name o = (o.sender, o.reference)

-- orders that are not settled get a state in which they neither wait nor are settled
module _ (laws : BookLaws) (book : Book) (is_in : Order → Bool) (s : OrderState)
    (not_queued : is_queued_state s ≡ false) (not_waiting : is_waiting_state s ≡ false)
    (not_settled : is_settled_state s ≡ false)
    (no_mark : (ms : List Mark) (date : ℕ) → HasMark ms date s) (fresh : AreUnsettled book is_in) where
  pub balance-with_state : (code : List ℕ) → balance (with_state book is_in s) code ≡ balance book code
  balance-with_state code = laws.restating book is_in s code fresh not_settled

  under_same : (mark : ℕ) → filter (λ (o : Order). is_state_under mark o.state) (map (restated is_in s) book.orders)
      ≡ filter (λ (o : Order). is_state_under mark o.state) book.orders
  under_same mark = filter_changed (λ (o : Order). is_state_under mark o.state) is_in (in_state s)
      (λ o. unsettled_not_under mark s not_settled) book.orders
      (all_weaker (λ o. is_in o ≡ true → is_settled o ≡ false)
      (λ o. is_in o ≡ true → is_state_under mark o.state ≡ false) (λ o f e. unsettled_not_under mark o.state (f e))
      book.orders fresh)

  kept : {Y : Type 0} (g : Order → Y) → ((o : Order) → g (in_state s o) ≡ g o)
      → map g (map (restated is_in s) book.orders) ≡ map g book.orders
  kept g same = map_same g (restated is_in s) (changed_same g (in_state s) same is_in) book.orders

  -- an order keeps its due date
  undated_same : map (λ (o : Order). o.date) (filter (λ o. not (has_due o)) (map (restated is_in s) book.orders))
      ≡ map (λ (o : Order). o.date) (filter (λ o. not (has_due o)) book.orders)
  undated_same = kept_filtered (λ (o : Order). o.date) (λ o. not (has_due o)) (restated is_in s)
      (changed_same (λ (o : Order). o.date) (in_state s) (λ o. refl) is_in)
      (changed_same (λ o. not (has_due o)) (in_state s) (λ o. refl) is_in) book.orders

  pub sound_with_state : IsSound book → AllByRecursion (λ (o : Order). is_in o ≡ true
      → FitsDue (today book) o.due o.date o.state → FitsDue (today book) o.due o.date s) book.orders
      → IsSound (with_state book is_in s)
  unfolding with_state codes_of is_participant waiting total floor credit_of participant_of
  sound_with_state h dues = record {
    orders_numbered = rw (kept (λ (o : Order). o.number) (λ o. refl)) h.orders_numbered;
    postings_numbered = h.postings_numbered;
    marks_numbered = h.marks_numbered;
    codes_rise = h.codes_rise;
    keys_distinct = h.keys_distinct;
    order_references = rw (kept name (λ o. refl)) h.order_references;
    posting_references = h.posting_references;
    parties = (
      all_changed (λ o. has_parties book o ≡ true) is_in (in_state s) book.orders
          (all_of (λ o. is_in o ≡ true → has_parties book o ≡ true → has_parties book (in_state s o) ≡ true)
          (λ o e x. x) book.orders) h.parties.0,
      h.parties.1,
    );
    marks = (
      all_changed (λ (o : Order). HasMark book.marks o.date o.state) is_in (in_state s) book.orders
          (all_of (λ (o : Order). is_in o ≡ true → HasMark book.marks o.date o.state → HasMark book.marks o.date s)
          (λ o e x. no_mark book.marks o.date) book.orders) h.marks.0,
      all_weaker (CountsItsOrders book) (CountsItsOrders (with_state book is_in s))
          (λ (m : Mark) c. record {
            some = c.some;
            count = rw (under_same m.number) c.count;
            value = rw (under_same m.number) c.value;
          }) book.marks h.marks.1,
    );
    queues = record {
      closed = λ e.
          let le = length-filter_changed is_queued is_in (in_state s) (λ o. not_queued) book.orders in
          let none = ap length (h.queues.closed e) in
          no_length _ (omega arith);
      short = all_weaker (λ code. length (waiting book code) ≤ LONGEST_QUEUE)
          (λ code. length (waiting (with_state book is_in s) code) ≤ LONGEST_QUEUE)
          (λ code x. let le = length-filter_changed (λ o. is_waiting o && bytes_eq o.sender code) is_in (in_state s)
          (λ o. and_left_false _ _ not_waiting) book.orders in omega arith) (codes_of book) h.queues.short;
      of_the_day = all_filter_changed is_queued is_in (in_state s) (λ o. not_queued) (λ o. o.date ≡ today book)
          book.orders h.queues.of_the_day;
    };
    dates = record {
      dated = h.dates.dated;
      weekday = h.dates.weekday;
      order_weekdays = rw (kept (λ (o : Order). o.date) (λ o. refl)) h.dates.order_weekdays;
      mark_weekdays = h.dates.mark_weekdays;
      orders = rw undated_same h.dates.orders;
      dues = all_changed (λ (o : Order). FitsDue (today book) o.due o.date o.state) is_in (in_state s) book.orders dues
          h.dates.dues;
      marks = h.dates.marks;
      postings = h.dates.postings;
    };
    floors = all_weaker (λ code. floor book code ≤ℤ balance book code)
        (λ code. floor book code ≤ℤ balance (with_state book is_in s) code) (λ code x. rw (balance-with_state code) x)
        (codes_of book) h.floors;
    total_fits = subst (λ (f : List ℕ → ℤ). int_sum_by f (codes_of book) ≤ℤ pos LARGEST_TOTAL)
        (λ i code. sym (balance-with_state code) i) h.total_fits;
    automatic_fits = h.automatic_fits;
  }

pub sound_withdraw : BookLaws → (book : Book) (sender reference : List ℕ) → IsSound book
    → IsSound (withdraw book sender reference).book
unfolding withdraw order_named
sound_withdraw laws book sender reference h = sound_first_of book _ _ h
    (λ (_, (_, (_, (waits, _)))). by (order_named book sender reference) refl (from_not _ waits))
  where
    by_number : (P : Order → Type 0) (o : Order) → order_named book sender reference ≡ Some o → P o
        → AllByRecursion (λ other. has_number o.number other ≡ true → P other) book.orders
    by_number P o e holds = found_by_number P (is_order_named sender reference) 1
        book.orders o (h.orders_numbered.0 ∙ ap (range_with_len 1) (length-map book.orders (λ (o : Order). o.number))) e
        holds

    by : (found : Option Order) → order_named book sender reference ≡ found → is_waiting_order found ≡ true
        → IsSound (with_state book (has_number (number_of found)) Withdrawn)
    by None e q = absurd (true≢false (sym q))
    by (Some o) e q = sound_with_state laws book (has_number o.number) Withdrawn refl refl refl (λ _ _. tt)
        (by_number (λ other. is_settled other ≡ false) o e (waiting_not_settled o.state q)) h
        (by_number (λ (other : Order). FitsDue (today book) other.due other.date other.state
        → FitsDue (today book) other.due other.date Withdrawn) o e
        (waiting_withdrawn (today book) o.due o.date o.state q))

none_pass : {X : Type 0} (p : X → Bool) (xs : List X) → not (is_empty (filter p xs)) ≡ false
    → AllByRecursion (λ x. p x ≡ false) xs
none_pass p [] e = tt
none_pass p (x ∷ xs) e = by (p x) refl e (none_pass p xs)
  where
    by : (b : Bool) → p x ≡ b → not (is_empty (cond b (x ∷ filter p xs) (filter p xs))) ≡ false
        → (not (is_empty (filter p xs)) ≡ false → AllByRecursion (λ x. p x ≡ false) xs)
        → AllByRecursion (λ x. p x ≡ false) (x ∷ xs)
    by true f k rest = absurd (true≢false k)
    by false f k rest = (f, rest k)

none_queued : (os : List Order) → filter is_queued (map (restated is_queued Rejected) os) ≡ []
none_queued [] = refl
none_queued (o ∷ os) = by (is_queued o) refl (none_queued os)
  where
    by : (b : Bool) → is_queued o ≡ b → filter is_queued (map (restated is_queued Rejected) os) ≡ []
        → cond (is_queued (cond b (in_state Rejected o) o))
        (cond b (in_state Rejected o) o ∷ filter is_queued (map (restated is_queued Rejected) os))
        (filter is_queued (map (restated is_queued Rejected) os)) ≡ []
    by true e rest = rest
    by false e rest = rw e rest

pub queued_unsettled : (book : Book) → AreUnsettled book is_queued
queued_unsettled book = all_of (λ o. is_queued o ≡ true → is_settled o ≡ false)
    (λ o e. queued_not_settled o.state e) book.orders

not_negative : (a : ℤ) → int_lt a (pos 0) ≡ false → pos 0 ≤ℤ a
not_negative a e = grind (arith, ints)

close_sound : BookLaws → (book : Book) → IsSound book
    → AllByRecursion (λ code. int_lt (balance book code) (pos 0) ≡ false) (codes_of book) → IsSound (with_day
    (with_state book is_queued Rejected) (record book.day { phase = Closed; automatic = false }))
unfolding with_state codes_of waiting floor balance
close_sound laws book h positive =
    let rejected = with_state book is_queued Rejected in
    let sound = sound_with_state laws book is_queued Rejected refl refl refl (λ _ _. tt) (queued_unsettled book) h
    (all_of (λ (o : Order). is_queued o ≡ true → FitsDue (today book) o.due o.date o.state
    → FitsDue (today book) o.due o.date Rejected) (λ o e. queued_rejected (today book) o.due o.date o.state e)
    book.orders) in
    sound_with_day rejected (record book.day { phase = Closed; automatic = false }) sound
    (record {
      closed = λ _. none_queued book.orders;
      short = sound.queues.short;
      of_the_day = rw (none_queued book.orders) tt;
    })
    (record {
      dated = λ e. absurd (true≢false e);
      weekday = sound.dates.weekday;
      order_weekdays = sound.dates.order_weekdays;
      mark_weekdays = sound.dates.mark_weekdays;
      orders = sound.dates.orders;
      dues = sound.dates.dues;
      marks = sound.dates.marks;
      postings = sound.dates.postings;
    })
    (all_weaker (λ code. int_lt (balance book code) (pos 0) ≡ false)
    (λ code. floor (with_day rejected (record book.day { phase = Closed; automatic = false })) code ≤ℤ balance
    (with_day rejected (record book.day { phase = Closed; automatic = false })) code)
    (λ code e. rw (balance-with_state laws book is_queued Rejected refl refl refl (λ _ _. tt)
    (queued_unsettled book) code) (not_negative _ e)) (codes_of book) positive) (λ _. refl)

pub sound_close_day : BookLaws → (book : Book) (choice : Choice) (date : ℕ) → IsSound book
    → IsSound (close_day book choice date).book
unfolding close_day overdrawn
sound_close_day laws book choice date h = sound_first_of book _ _ h
    (λ (_, (_, (_, (_, (none_overdrawn, _))))). close_sound laws book h (none_pass _ _ none_overdrawn))
