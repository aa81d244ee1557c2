-- Opening a day, on which held orders enter their queues, keeps a book sound.
use Rattle.std.proofs.Common.{◌≡◌, ◌⊎◌, ℕ, ◌≤◌, ◌<◌, pos, ◌≤ℤ◌, ℤ, Bool, true, false, cond, not, ◌&&◌, nat_le, List, []}
use Rattle.std.proofs.Common.{◌∷◌}
use Rattle.std.proofs.Common.{map, filter, length, Option, Some, None, unwrap_or, inl, inr, refl, sym, ap}
use Rattle.std.proofs.Common.{◌∙◌, subst, true≢false, arith}
use Rattle.std.proofs.lemmas.Int.{ints}
use Rattle.std.proofs.lemmas.Bool.Decides.{nat_tests}
use Rattle.std.proofs.lemmas.List.{length-map}
use Rattle.std.specs.List.{AllByRecursion}
use Rattle.std.specs.Str.{bytes_eq}
use Rattle.rtgs_money.specs.Date.{is_weekend}
use Rattle.rtgs_book.specs.declared.limits.TheConstants.{LONGEST_QUEUE, LARGEST_TOTAL}
use Rattle.rtgs_book.specs.declared.book.Book.{Book}
use Rattle.rtgs_book.specs.declared.mark.Mark.{Mark}
use Rattle.rtgs_book.specs.declared.new_day.NewDay.{NewDay}
use Rattle.rtgs_book.specs.declared.order.Order.{Order}
use Rattle.rtgs_book.specs.declared.order_state.OrderState.{OrderState}
use Rattle.rtgs_book.specs.declared.order_state.OrderState.TheVariants.{Queued, Held, Settled, Withdrawn, Rejected}
use Rattle.rtgs_book.specs.declared.phase.Phase.TheVariants.{Open}
use Rattle.rtgs_book.specs.Books.{is_closed, is_queued, is_held_state, is_waiting, is_settled, has_due}
use Rattle.rtgs_book.specs.Lookup.{participant_of, credit_of, codes_of, is_participant}
use Rattle.rtgs_book.specs.IntSum.{int_sum_by}
use Rattle.rtgs_book.specs.Balance.{balance, floor, total}
use Rattle.rtgs_book.specs.Queue.{waiting}
use Rattle.rtgs_book.specs.Settle.{altered, today}
use Rattle.rtgs_book.specs.Commands.{with_day, is_later, is_due, is_due_by, entered, let_in, open_day}
use Rattle.rtgs_book.specs.Soundness.{HasMark, FitsDue, NeverFall, has_parties, is_state_under, CountsItsOrders}
use Rattle.rtgs_book.specs.Soundness.{IsSound}
use Rattle.rtgs_laws.proofs.BookLaws.{AreUnsettled, BookLaws}
use Rattle.rtgs_laws.proofs.Outcomes.{sound_first_of}
use Rattle.rtgs_laws.proofs.SoundStates.{name}
use Rattle.rtgs_laws.proofs.States.{held_waits, waiting_not_settled, unsettled_not_under, DuesFit}
use Rattle.rtgs_lists.proofs.Bools.{and_left, and_right, from_not}
use Rattle.rtgs_lists.proofs.Filters.{filter_changed, filter_of}
use Rattle.rtgs_lists.proofs.Lists.{all_changed, all_of, all_weaker, map_same, changed_same}

later_le : (date : ℕ) (last : Option ℕ) → is_later date last ≡ true → unwrap_or last 0 ≤ date
later_le date None e = omega arith
later_le date (Some last) e = grind (arith, nat_tests)

NeverFall-later : (last later : ℕ) → last ≤ later → (dates : List ℕ) → NeverFall last dates → NeverFall later dates
NeverFall-later last later le [] h = tt
NeverFall-later last later le (date ∷ dates) h = let b = h.1
    in (h.0, omega arith, NeverFall-later last later le dates h.2)

due_waits : (date : ℕ) (o : Order) → is_due date o ≡ true → is_waiting o ≡ true
due_waits date o e = held_waits o.state (and_left _ _ e)

-- what enters a queue was not settled
pub due_unsettled : (book : Book) (date : ℕ) → AreUnsettled book (is_due date)
due_unsettled book date = all_of (λ o. is_due date o ≡ true → is_settled o ≡ false)
    (λ o e. waiting_not_settled o.state (due_waits date o e)) book.orders

le_from_nat_test : (a b : ℕ) → nat_le a b ≡ true → a ≤ b
le_from_nat_test a b e = grind (arith, nat_tests)

lt_from_nat_test : (a b : ℕ) → nat_le a b ≡ false → b < a
lt_from_nat_test a b e = grind (arith, nat_tests)

-- an order that enters its queue
enters_fits : (last date : ℕ) (due : Option ℕ) (old : ℕ) (s : OrderState)
    → (is_held_state s && is_due_by date due) ≡ true
    → FitsDue last due old s → FitsDue date due date Queued
enters_fits last date None old s e h = refl
enters_fits last date (Some due) old s e h = (h.0, le_from_nat_test due date (and_right _ _ e), omega arith)

-- an order that the day leaves as it is
stays_fit : (last date : ℕ) → last ≤ date → (due : Option ℕ) (old : ℕ) (s : OrderState)
    → (is_held_state s && is_due_by date due) ≡ false → FitsDue last due old s → FitsDue date due old s
stays_fit last date le None old s e h = h
stays_fit last date le (Some due) old Queued e h = let b = h.2 in (h.0, h.1, omega arith)
stays_fit last date le (Some due) old Held e h =
    let same = h.2.0 in let less = lt_from_nat_test due date e in (h.0, h.1, (same, omega arith))
stays_fit last date le (Some due) old (Settled m) e h = let b = h.2 in (h.0, h.1, omega arith)
stays_fit last date le (Some due) old Withdrawn e h = (h.0, h.1, by h.2)
  where
    by : (old ≡ due) ⊎ (old ≤ last) → (old ≡ due) ⊎ (old ≤ date)
    by (inl same) = inl same
    by (inr before) = inr (omega arith)
stays_fit last date le (Some due) old Rejected e h = let b = h.2 in (h.0, h.1, omega arith)

dues_entered : (last date : ℕ) → last ≤ date → (os : List Order) → DuesFit last os
    → DuesFit date (map (altered (is_due date) (entered date)) os)
dues_entered last date le [] h = tt
dues_entered last date le (o ∷ os) h = (by (is_due date o) refl, dues_entered last date le os h.1)
  where
    by : (b : Bool) → is_due date o ≡ b → FitsDue date (cond b (entered date o) o).due (cond b (entered date o) o).date
        (cond b (entered date o) o).state
    by true e = enters_fits last date o.due o.date o.state e h.0
    by false e = stays_fit last date le o.due o.date o.state e h.0

-- each date is an old one, or the day's
dates_entered : (P : ℕ → Type 0) (date : ℕ) → P date → (os : List Order)
    → AllByRecursion P (map (λ (o : Order). o.date) os)
    → AllByRecursion P (map (λ (o : Order). o.date) (map (altered (is_due date) (entered date)) os))
dates_entered P date day [] h = tt
dates_entered P date day (o ∷ os) h = (by (is_due date o), dates_entered P date day os h.1)
  where
    by : (b : Bool) → P (cond b (entered date o) o).date
    by true = day
    by false = h.0

-- an order without a due date is left alone
undated_alone : (date : ℕ) (os : List Order)
    → map (λ (o : Order). o.date) (filter (λ o. not (has_due o)) (map (altered (is_due date) (entered date)) os))
    ≡ map (λ (o : Order). o.date) (filter (λ o. not (has_due o)) os)
undated_alone date [] = refl
undated_alone date (o ∷ os) = by (is_due date o) refl o.due refl (undated_alone date os)
  where
    by : (b : Bool) → is_due date o ≡ b → (due : Option ℕ) → o.due ≡ due
        → map (λ (o : Order). o.date) (filter (λ o. not (has_due o)) (map (altered (is_due date) (entered date)) os))
        ≡ map (λ (o : Order). o.date) (filter (λ o. not (has_due o)) os)
        → map (λ (o : Order). o.date) (cond (not (has_due (cond b (entered date o) o))) (cond b (entered date o) o
        ∷ filter (λ o. not (has_due o)) (map (altered (is_due date) (entered date)) os))
        (filter (λ o. not (has_due o)) (map (altered (is_due date) (entered date)) os)))
        ≡ map (λ (o : Order). o.date) (cond (not (has_due o)) (o ∷ filter (λ o. not (has_due o)) os)
        (filter (λ o. not (has_due o)) os))
    by true e None is rest = absurd (true≢false (sym (and_right _ _ e) ∙ ap (is_due_by date) is))
    by true e (Some due) is rest = rw is rest
    by false e None is rest = rw is (ap (λ ds. o.date ∷ ds) rest)
    by false e (Some due) is rest = rw is rest

-- what is queued then is of the day, where nothing was queued before
entered_of_day : (date : ℕ) (os : List Order) → filter is_queued os ≡ []
    → AllByRecursion (λ (o : Order). o.date ≡ date) (filter is_queued (map (altered (is_due date) (entered date)) os))
entered_of_day date [] e = tt
entered_of_day date (o ∷ os) e = by (is_due date o) (is_queued o) refl e (entered_of_day date os)
  where
    by : (b q : Bool) → is_queued o ≡ q → cond q (o ∷ filter is_queued os) (filter is_queued os) ≡ []
        → (filter is_queued os ≡ [] → AllByRecursion (λ (o : Order). o.date ≡ date)
        (filter is_queued (map (altered (is_due date) (entered date)) os)))
        → AllByRecursion (λ (o : Order). o.date ≡ date) (cond (is_queued (cond b (entered date o) o))
        (cond b (entered date o) o ∷ filter is_queued (map (altered (is_due date) (entered date)) os))
        (filter is_queued (map (altered (is_due date) (entered date)) os)))
    by b true q none rest = let long = ap length none in absurd (omega arith)
    by true false q none rest = (refl, rest none)
    by false false q none rest = rw q (rest none)

module _ (laws : BookLaws) (book : Book) (date : ℕ) (automatic : Bool) (h : IsSound book) where
  abbrev lets_in : Order → Order
  lets_in = altered (is_due date) (entered date)

  abbrev opened : Book
  opened = with_day (let_in book (is_due date) date) (record { date = Some date; phase = Open; automatic = automatic })

  balance_opened : (code : List ℕ) → balance opened code ≡ balance book code
  unfolding balance
  balance_opened code = laws.entering book (is_due date) date code (due_unsettled book date)

  under_opened : (mark : ℕ) → filter (λ (o : Order). is_state_under mark o.state) (map lets_in book.orders)
      ≡ filter (λ (o : Order). is_state_under mark o.state) book.orders
  under_opened mark = filter_changed (λ (o : Order). is_state_under mark o.state) (is_due date) (entered date)
      (λ o. refl) book.orders (all_weaker (λ o. is_due date o ≡ true → is_settled o ≡ false)
      (λ o. is_due date o ≡ true → is_state_under mark o.state ≡ false)
      (λ o f e. unsettled_not_under mark o.state (f e)) book.orders (due_unsettled book date))

  still_waits : (code : List ℕ) (o : Order) → (is_waiting (lets_in o) && bytes_eq (lets_in o).sender code)
      ≡ (is_waiting o && bytes_eq o.sender code)
  still_waits code o = by (is_due date o) refl
    where
      by : (b : Bool) → is_due date o ≡ b
          → (is_waiting (cond b (entered date o) o) && bytes_eq (cond b (entered date o) o).sender code)
          ≡ (is_waiting o && bytes_eq o.sender code)
      by true e = rw (due_waits date o e) refl
      by false e = refl

  as_many_wait : (code : List ℕ) → length (waiting opened code) ≡ length (waiting book code)
  unfolding waiting let_in
  as_many_wait code = ap length (filter_of lets_in (λ o. is_waiting o && bytes_eq o.sender code)
      (λ o. is_waiting o && bytes_eq o.sender code) (still_waits code) book.orders)
      ∙ length-map (filter (λ o. is_waiting o && bytes_eq o.sender code) book.orders) lets_in

  open_day_sound : is_closed book.day.phase ≡ true → today book ≤ date → is_weekend date ≡ false → IsSound opened
  unfolding let_in codes_of is_participant total floor credit_of participant_of
  open_day_sound closed le weekday = record {
    orders_numbered = rw (map_same (λ (o : Order). o.number) lets_in
        (changed_same (λ (o : Order). o.number) (entered date) (λ o. refl) (is_due date)) book.orders)
        h.orders_numbered;
    postings_numbered = h.postings_numbered;
    marks_numbered = h.marks_numbered;
    codes_rise = h.codes_rise;
    keys_distinct = h.keys_distinct;
    order_references = rw (map_same name lets_in (changed_same name (entered date) (λ o. refl) (is_due date))
        book.orders) h.order_references;
    posting_references = h.posting_references;
    parties = (
      all_changed (λ o. has_parties book o ≡ true) (is_due date) (entered date) book.orders
          (all_of (λ o. is_due date o ≡ true → has_parties book o ≡ true → has_parties book (entered date o) ≡ true)
          (λ o e x. x) book.orders) h.parties.0,
      h.parties.1,
    );
    marks = (
      all_changed (λ (o : Order). HasMark book.marks o.date o.state) (is_due date) (entered date) book.orders
          (all_of (λ (o : Order). is_due date o ≡ true → HasMark book.marks o.date o.state
          → HasMark book.marks date Queued) (λ o e x. tt) book.orders) h.marks.0,
      all_weaker (CountsItsOrders book) (CountsItsOrders opened)
          (λ (m : Mark) c. record {
            some = c.some;
            count = rw (under_opened m.number) c.count;
            value = rw (under_opened m.number) c.value;
          }) book.marks h.marks.1,
    );
    queues = record {
      closed = λ e. absurd (true≢false (sym e));
      short = all_weaker (λ code. length (waiting book code) ≤ LONGEST_QUEUE)
          (λ code. length (waiting opened code) ≤ LONGEST_QUEUE) (λ code x. rw (as_many_wait code) x) (codes_of book)
          h.queues.short;
      of_the_day = entered_of_day date book.orders (h.queues.closed closed);
    };
    dates = record {
      dated = λ _. refl;
      weekday = λ _. weekday;
      order_weekdays = dates_entered (λ d. is_weekend d ≡ false) date weekday book.orders h.dates.order_weekdays;
      mark_weekdays = h.dates.mark_weekdays;
      orders = rw (undated_alone date book.orders) (NeverFall-later _ _ le _ h.dates.orders);
      dues = dues_entered (today book) date le book.orders h.dates.dues;
      marks = NeverFall-later _ _ le _ h.dates.marks;
      postings = NeverFall-later _ _ le _ h.dates.postings;
    };
    floors = all_weaker (λ code. floor book code ≤ℤ balance book code)
        (λ code. floor opened code ≤ℤ balance opened code)
        (λ code x. let y = rw closed at x in rw (balance_opened code) (omega (arith, ints))) (codes_of book) h.floors;
    total_fits = subst (λ (f : List ℕ → ℤ). int_sum_by f (codes_of book) ≤ℤ pos LARGEST_TOTAL)
        (λ i code. sym (balance_opened code) i) h.total_fits;
    automatic_fits = λ e. absurd (true≢false (sym e));
  }

pub sound_open_day : BookLaws → (book : Book) (new_day : NewDay) → IsSound book
    → IsSound (open_day book new_day).book
unfolding open_day
sound_open_day laws book new_day h = sound_first_of book _ _ h (λ (_, (closed, (later, (weekday, _)))).
    open_day_sound laws book new_day.date new_day.automatic h (from_not _ closed)
    (later_le new_day.date book.day.date (from_not _ later)) weekday)
