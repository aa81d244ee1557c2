-- An order that joins its queue, or is held, keeps a book sound.
use Rattle.std.proofs.Common.{◌≡◌, ℕ, ◌≤◌, ◌<◌, ℤ, pos, ◌≤ℤ◌, Bool, true, false, cond, ◌&&◌, List, [], ◌∷◌, ◌++◌, map}
use Rattle.std.proofs.Common.{filter, length, Option, Some, None, unwrap_or, not, is_some, length-append, append-nil}
use Rattle.std.proofs.Common.{refl, sym, ap, ◌∙◌, subst, true≢false}
use Rattle.std.proofs.Common.{arith}
use Rattle.std.proofs.lemmas.Bool.Decides.{nat_tests}
use Rattle.std.proofs.lemmas.List.{map-append}
use Rattle.std.proofs.lemmas.List.Elements.{filter-append}
use Rattle.std.specs.Str.{bytes_eq}
use Rattle.std.specs.Cmp.Lexicographic.{bytes_decides}
use Rattle.rtgs_money.specs.Date.{is_weekend}
use Rattle.rtgs_book.specs.declared.limits.TheConstants.{LONGEST_QUEUE, LARGEST_NUMBER, LARGEST_TOTAL}
use Rattle.rtgs_book.specs.declared.book.Book.{Book}
use Rattle.rtgs_book.specs.declared.mark.Mark.{Mark}
use Rattle.rtgs_book.specs.declared.new_order.NewOrder.{NewOrder}
use Rattle.rtgs_book.specs.declared.order.Order.{Order}
use Rattle.rtgs_book.specs.Books.{is_closed, is_queued, is_queued_state, is_waiting, is_waiting_state, is_settled}
use Rattle.rtgs_book.specs.Books.{is_settled_state, has_due}
use Rattle.rtgs_book.specs.Lookup.{codes_of, is_participant, participant_of, credit_of, order_named}
use Rattle.rtgs_book.specs.IntSum.{int_sum_by}
use Rattle.rtgs_book.specs.Balance.{balance, floor, total}
use Rattle.rtgs_book.specs.Queue.{waiting}
use Rattle.rtgs_book.specs.Settle.{today}
use Rattle.rtgs_book.specs.Commands.{first_state, is_later, is_due_too_early, is_due_on_a_weekend, taken_order}
use Rattle.rtgs_book.specs.Commands.{with_order}
use Rattle.rtgs_book.specs.Soundness.{HasMark, FitsDue, NeverFall, has_parties, is_state_under, is_same_name}
use Rattle.rtgs_book.specs.Soundness.{CountsItsOrders, IsSound}
use Rattle.rtgs_laws.proofs.ButLength.{FewWait, IsSoundButLength}
use Rattle.rtgs_laws.proofs.Lists.{distinct_push, numbered_after, find_none, never_fall_push}
use Rattle.rtgs_laws.proofs.SoundStates.{name}
use Rattle.rtgs_lists.proofs.Bools.{from_not}
use Rattle.rtgs_lists.proofs.Lists.{all_append, all_map, all_push, all_weaker}
use Rattle.std.specs.List.{AllByRecursion}

-- ---- how an order stands that is taken

first_not_settled : (due : Option ℕ) → is_settled_state (first_state due) ≡ false
first_not_settled None = refl
first_not_settled (Some due) = refl

first_waits : (due : Option ℕ) → is_waiting_state (first_state due) ≡ true
first_waits None = refl
first_waits (Some due) = refl

first_not_under : (mark : ℕ) (due : Option ℕ) → is_state_under mark (first_state due) ≡ false
first_not_under mark None = refl
first_not_under mark (Some due) = refl

first_has_mark : (ms : List Mark) (date : ℕ) (due : Option ℕ) → HasMark ms date (first_state due)
first_has_mark ms date None = tt
first_has_mark ms date (Some due) = tt

first_queued : (P : Order → Type 0) (o : Order) (due : Option ℕ) → o.state ≡ first_state due → (due ≡ None → P o)
    → AllByRecursion P (filter is_queued (o ∷ []))
first_queued P o due e h = by (is_queued o) due (λ i. is_queued_state (e i)) h
  where
    by : (q : Bool) (due : Option ℕ) → q ≡ is_queued_state (first_state due) → (due ≡ None → P o)
        → AllByRecursion P (cond q (o ∷ []) [])
    by true None e h = (h refl, tt)
    by true (Some due) e h = absurd (true≢false e)
    by false due e h = tt

later_lt : (due : ℕ) (last : Option ℕ) → is_some last ≡ true → is_later due last ≡ true → unwrap_or last 0 < due
later_lt due None there e = absurd (true≢false (sym there))
later_lt due (Some last) there e = grind (arith, nat_tests)

first_weekday : (today : ℕ) (due : Option ℕ) → is_weekend today ≡ false → is_due_on_a_weekend due ≡ false
    → is_weekend (unwrap_or due today) ≡ false
first_weekday today None h k = h
first_weekday today (Some due) h k = k

first_fits : (book : Book) (due : Option ℕ) → is_some book.day.date ≡ true → is_due_too_early book due ≡ false
    → is_due_on_a_weekend due ≡ false
    → FitsDue (today book) due (unwrap_or due (today book)) (first_state due)
first_fits book None there early weekend = refl
first_fits book (Some due) there early weekend =
    (weekend, omega arith, (refl, later_lt due book.day.date there (from_not _ early)))

-- the dates of the orders without a due date
plain_push : (today : ℕ) (os : List Order) (o : Order) (due : Option ℕ) → o.due ≡ due → (due ≡ None → o.date ≡ today)
    → NeverFall today (map (λ (o : Order). o.date) (filter (λ o. not (has_due o)) os))
    → NeverFall today (map (λ (o : Order). o.date) (filter (λ o. not (has_due o)) (os ++ o ∷ [])))
plain_push today os o due is at h =
    rw (filter-append (λ o. not (has_due o)) os (o ∷ [])) (by (not (has_due o)) due (λ i. not (is_some (is i))) at)
  where
    by : (b : Bool) (due : Option ℕ) → b ≡ not (is_some due) → (due ≡ None → o.date ≡ today)
        → NeverFall today (map (λ (o : Order). o.date) (filter (λ o. not (has_due o)) os ++ cond b (o ∷ []) []))
    by true None e at = rw (map-append (λ (o : Order). o.date) (filter (λ o. not (has_due o)) os) (o ∷ []), at refl)
        (never_fall_push _ _ h)
    by true (Some due) e at = absurd (true≢false e)
    by false due e at = rw (append-nil (filter (λ o. not (has_due o)) os)) h

new_date : (due : Option ℕ) (today : ℕ) → due ≡ None → unwrap_or due today ≡ today
new_date None today e = refl
new_date (Some due) today e = absurd (true≢false (ap is_some e))

module _ (book : Book) (sender : List ℕ) (new_order : NewOrder) where
  pub balance-with_order : (code : List ℕ)
      → balance (with_order book (taken_order book sender new_order)) code ≡ balance book code
  unfolding balance
  balance-with_order code = rw (
    filter-append is_settled book.orders
        (taken_order book sender new_order ∷ []),
    first_not_settled new_order.due,
    append-nil,
  ) refl

  under-with_order : (mark : ℕ) → filter (λ (o : Order). is_state_under mark o.state)
      (book.orders ++ taken_order book sender new_order ∷ [])
      ≡ filter (λ (o : Order). is_state_under mark o.state) book.orders
  under-with_order mark = filter-append (λ (o : Order). is_state_under mark o.state) book.orders
      (taken_order book sender new_order ∷ []) ∙ rw (first_not_under mark new_order.due) (append-nil _)

  waiting-with_order : (code : List ℕ)
      → waiting (with_order book (taken_order book sender new_order)) code
      ≡ waiting book code ++ cond (bytes_eq sender code) (taken_order book sender new_order ∷ []) []
  unfolding waiting
  waiting-with_order code = filter-append (λ (o : Order). is_waiting o && bytes_eq o.sender code) book.orders
      (taken_order book sender new_order ∷ []) ∙ rw (first_waits new_order.due) refl

  short_still : length (waiting book sender) < LONGEST_QUEUE → (code : List ℕ)
      → length (waiting book code) ≤ LONGEST_QUEUE
      → length (waiting (with_order book (taken_order book sender new_order)) code) ≤ LONGEST_QUEUE
  short_still room code short = rw (waiting-with_order code) (by (bytes_eq sender code) refl)
    where
      by : (b : Bool) → bytes_eq sender code ≡ b → length (waiting book code
          ++ cond b (taken_order book sender new_order ∷ []) []) ≤ LONGEST_QUEUE
      by true e =
          let same : sender ≡ code = (bytes_decides sender code).0 e in
          let here : length (waiting book code) < LONGEST_QUEUE =
          subst (λ c. length (waiting book c) < LONGEST_QUEUE) same room in
          rw (length-append (waiting book code) (taken_order book sender new_order ∷ []))
          (omega arith)
      by false e = rw (append-nil (waiting book code)) short

  pub few_with_order : length (waiting book sender) < LONGEST_QUEUE → FewWait book
      → FewWait (with_order book (taken_order book sender new_order))
  unfolding codes_of
  few_with_order room h = all_weaker (λ code. length (waiting book code) ≤ LONGEST_QUEUE)
      (λ code. length (waiting (with_order book (taken_order book sender new_order)) code)
      ≤ LONGEST_QUEUE) (short_still room) (codes_of book) h

  pub sound_with_order : IsSound book → length book.orders < LARGEST_NUMBER
      → is_some (order_named book sender new_order.reference) ≡ false → has_parties book
      (taken_order book sender new_order) ≡ true
      → is_closed book.day.phase ≡ false → is_due_too_early book new_order.due ≡ false
      → is_due_on_a_weekend new_order.due ≡ false
      → IsSoundButLength (with_order book (taken_order book sender new_order))
  unfolding codes_of is_participant floor credit_of participant_of total order_named
  sound_with_order h room fresh parties not_closed early weekend =
      let new : Order = taken_order book sender new_order in
      record {
        orders_numbered = numbered_after (λ (o : Order). o.number) book.orders new h.orders_numbered refl room;
        postings_numbered = h.postings_numbered;
        marks_numbered = h.marks_numbered;
        codes_rise = h.codes_rise;
        keys_distinct = h.keys_distinct;
        order_references = rw (map-append name book.orders (new ∷ []))
            (distinct_push is_same_name (map name book.orders) (sender, new_order.reference)
            h.order_references
            (all_map (λ (n : List ℕ × List ℕ). is_same_name n (sender, new_order.reference) ≡ false) name book.orders
            (find_none _ book.orders fresh)));
        posting_references = h.posting_references;
        parties = (all_push (λ o. has_parties book o ≡ true) book.orders new h.parties.0 parties, h.parties.1);
        marks = (
          all_push _ book.orders new h.marks.0 (first_has_mark book.marks new.date new_order.due),
          all_weaker (CountsItsOrders book) (CountsItsOrders (with_order book new))
              (λ (m : Mark) c. record {
                some = c.some;
                count = rw (under-with_order m.number) c.count;
                value = rw (under-with_order m.number) c.value;
              }) book.marks h.marks.1,
        );
        queues = record {
          closed = λ e. absurd (true≢false (sym e ∙ not_closed));
          of_the_day = rw (filter-append is_queued book.orders (new ∷ []))
              (all_append (λ (o : Order). o.date ≡ today book) (filter is_queued book.orders)
              (filter is_queued (new ∷ [])) h.queues.of_the_day
              (first_queued (λ (o : Order). o.date ≡ today book) new new_order.due refl
              (new_date new_order.due (today book))));
        };
        dates = record {
          dated = h.dates.dated;
          weekday = h.dates.weekday;
          mark_weekdays = h.dates.mark_weekdays;
          order_weekdays = rw (map-append (λ (o : Order). o.date) book.orders (new ∷ []))
              (all_push (λ date. is_weekend date ≡ false) _ (unwrap_or new_order.due (today book))
              h.dates.order_weekdays
              (first_weekday (today book) new_order.due (h.dates.weekday (h.dates.dated not_closed)) weekend));
          orders = plain_push (today book) book.orders new new_order.due refl (new_date new_order.due (today book))
              h.dates.orders;
          dues = all_push (λ (o : Order). FitsDue (today book) o.due o.date o.state) book.orders new h.dates.dues
              (first_fits book new_order.due (h.dates.dated not_closed) early weekend);
          marks = h.dates.marks;
          postings = h.dates.postings;
        };
        floors = all_weaker (λ code. floor book code ≤ℤ balance book code)
            (λ code. floor book code ≤ℤ balance (with_order book new) code) (λ code x. rw (balance-with_order code) x)
            (codes_of book) h.floors;
        total_fits = subst (λ (f : List ℕ → ℤ). int_sum_by f (codes_of book) ≤ℤ pos LARGEST_TOTAL)
            (λ i code. sym (balance-with_order code) i) h.total_fits;
        automatic_fits = h.automatic_fits;
      }
