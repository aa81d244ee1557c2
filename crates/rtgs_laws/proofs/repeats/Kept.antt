-- What each change to a book keeps of its records.
use Rattle.std.proofs.Common.{◌≡◌, ℕ, ◌<◌, ◌+◌, Bool, true, false, cond, not, List, [], ◌∷◌, ◌++◌, map, filter}
use Rattle.std.proofs.Common.{length, Some, find, is_some, refl, sym, ap, ◌∙◌, true≢false}
use Rattle.std.proofs.lemmas.Bool.{and_parts}
use Rattle.std.proofs.lemmas.List.{length-map}
use Rattle.std.specs.List.{AllByRecursion, range_with_len}
use Rattle.std.specs.Option.{option_map}
use Rattle.std.specs.Cmp.Lexicographic.{bytes_decides}
use Rattle.rtgs_book.specs.declared.book.Book.{Book}
use Rattle.rtgs_book.specs.declared.participant.Participant.{Participant}
use Rattle.rtgs_book.specs.declared.posting.Posting.{Posting}
use Rattle.rtgs_book.specs.declared.order.Order.{Order}
use Rattle.rtgs_book.specs.declared.mark.Mark.{Mark}
use Rattle.rtgs_book.specs.declared.order_state.OrderState.{OrderState}
use Rattle.rtgs_book.specs.declared.order_state.OrderState.TheVariants.{Queued, Held, Settled, Withdrawn, Rejected}
use Rattle.rtgs_book.specs.Books.{is_queued_state, is_held_state, is_waiting_state, is_waiting, is_held, is_empty}
use Rattle.rtgs_book.specs.Commands.{is_before, has_number, is_due, entered}
use Rattle.rtgs_book.specs.Lookup.{has_code, participant_of, is_order_named, order_named, is_posting_named}
use Rattle.rtgs_book.specs.Lookup.{posting_named}
use Rattle.rtgs_book.specs.Settle.{altered, in_state, restated, settle, mark_of, next_mark}
use Rattle.rtgs_book.specs.Soundness.{OrdersAreNumbered}
use Rattle.rtgs_laws.specs.repeats.Kept.{IsKeptParticipant, IsKeptOrder, AreKept}
use Rattle.rtgs_laws.proofs.repeats.Finds.{find_left, find_right, find_mapped, find_kept, find_dropped}
use Rattle.rtgs_laws.proofs.repeats.Finds.{find_none_in, found, all_below}
use Rattle.rtgs_lists.proofs.Lists.{all_weaker, changed_same}
use Rattle.rtgs_lists.proofs.Numbers.{other_number}

-- ---- orders

abbrev pub OrdersKept : List Order → List Order → Type 0
OrdersKept old new = (sender reference : List ℕ) (o : Order) → find (is_order_named sender reference) old ≡ Some o
    → (later : Order) × (find (is_order_named sender reference) new ≡ Some later) × IsKeptOrder o later

pub itself : (o : Order) → IsKeptOrder o o
itself o = record {
  number = refl;
  said = refl;
  state = λ _. refl;
  date = λ _. refl;
  held = λ e. e;
}

pub queued_waits : (s : OrderState) → is_queued_state s ≡ true → is_waiting_state s ≡ true
queued_waits Queued e = refl
queued_waits Held e = refl
queued_waits (Settled mark) e = absurd (true≢false (sym e))
queued_waits Withdrawn e = absurd (true≢false (sym e))
queued_waits Rejected e = absurd (true≢false (sym e))

held_waits : (s : OrderState) → is_held_state s ≡ true → is_waiting_state s ≡ true
held_waits Queued e = refl
held_waits Held e = refl
held_waits (Settled mark) e = absurd (true≢false (sym e))
held_waits Withdrawn e = absurd (true≢false (sym e))
held_waits Rejected e = absurd (true≢false (sym e))

-- queued and held orders alone get another state
abbrev pub WaitingAlone : (Order → Bool) → List Order → Type 0
WaitingAlone is_in os = AllByRecursion (λ o. is_in o ≡ true → is_waiting o ≡ true) os

pub restated_kept : (is_in : Order → Bool) (s : OrderState) (o : Order) → is_held_state s ≡ false
    → (is_in o ≡ true → is_waiting o ≡ true) → IsKeptOrder o (restated is_in s o)
restated_kept is_in s o not_held waits = by (is_in o) waits
  where
    by : (b : Bool) → (b ≡ true → is_waiting o ≡ true) → IsKeptOrder o (cond b (in_state s o) o)
    by true w = record {
      number = refl;
      said = refl;
      state = λ e. absurd (true≢false (sym (w refl) ∙ e));
      date = λ _. refl;
      held = λ _. not_held;
    }
    by false w = itself o

pub found_restated : (sender reference : List ℕ) (is_in : Order → Bool) (s : OrderState) (os : List Order) (o : Order)
    → find (is_order_named sender reference) os ≡ Some o → find (is_order_named sender reference)
    (map (restated is_in s) os) ≡ Some (restated is_in s o)
found_restated sender reference is_in s os o e = find_mapped (is_order_named sender reference) (restated is_in s)
    (changed_same (is_order_named sender reference) (in_state s) (λ o. refl) is_in) os
    ∙ ap (option_map (restated is_in s)) e

pub orders_restated : (is_in : Order → Bool) (s : OrderState) (os : List Order) → is_held_state s ≡ false
    → WaitingAlone is_in os → OrdersKept os (map (restated is_in s) os)
orders_restated is_in s os not_held waits sender reference o e = (
  restated is_in s o,
  found_restated sender reference is_in s os o e,
  restated_kept is_in s o not_held
      (found (is_order_named sender reference) (λ o. is_in o ≡ true → is_waiting o ≡ true) os o waits e).0,
)

-- an order that enters its queue was held, and keeps all but its date and its state
entered_kept : (date : ℕ) (o : Order) → IsKeptOrder o (altered (is_due date) (entered date) o)
entered_kept date o = by (is_due date o) refl
  where
    by : (b : Bool) → is_due date o ≡ b → IsKeptOrder o (cond b (entered date o) o)
    by true e =
        let held : is_held o ≡ true = (and_parts (is_held o) _ e).0 in
        record {
          number = refl;
          said = refl;
          state = λ f. absurd (true≢false (sym (held_waits o.state held) ∙ f));
          date = λ f. absurd (true≢false (sym held ∙ f));
          held = λ _. refl;
        }
    by false e = itself o

pub orders_entered : (date : ℕ) (os : List Order) → OrdersKept os (map (altered (is_due date) (entered date)) os)
orders_entered date os sender reference o e = (
  altered (is_due date) (entered date) o,
  find_mapped (is_order_named sender reference) (altered (is_due date) (entered date))
      (changed_same (is_order_named sender reference) (entered date) (λ o. refl) (is_due date)) os
      ∙ ap (option_map (altered (is_due date) (entered date))) e,
  entered_kept date o,
)

pub orders_grown : (os later : List Order) → OrdersKept os (os ++ later)
orders_grown os later sender reference o e = (o, find_left (is_order_named sender reference) os later o e, itself o)

pub orders_same : (os : List Order) → OrdersKept os os
orders_same os sender reference o e = (o, e, itself o)

waiting_as : (old new : Order) → IsKeptOrder old new → is_waiting old ≡ false → is_waiting new ≡ false
waiting_as old new k e = by (k.state e)
  where
    by : new.state ≡ old.state → is_waiting new ≡ false
    by same = (λ i. is_waiting (record new { state = same i })) ∙ e

pub orders_through : (old mid new : List Order) → OrdersKept old mid → OrdersKept mid new → OrdersKept old new
orders_through old mid new h k sender reference o e =
    let one = h sender reference o e in
    let two = k sender reference one.0 one.1 in (
      two.0,
      two.1,
      record {
        number = two.2.number ∙ one.2.number;
        said = two.2.said ∙ one.2.said;
        state = λ f. two.2.state (waiting_as o one.0 one.2 f) ∙ one.2.state f;
        date = λ f. two.2.date (one.2.held f) ∙ one.2.date f;
        held = λ f. two.2.held (one.2.held f);
      },
    )

-- no order has the next number
pub none_numbered : (book : Book) → OrdersAreNumbered book → AllByRecursion
    (λ o. has_number (length book.orders + 1) o ≡ false) book.orders
none_numbered book h = all_weaker (λ (o : Order). o.number < 1 + length book.orders)
    (λ o. has_number (length book.orders + 1) o ≡ false) (λ o less. other_number o.number (length book.orders) less)
    book.orders
    (all_below 1 book.orders (h.0 ∙ ap (range_with_len 1) (length-map book.orders (λ (o : Order). o.number))))

-- ---- settling

-- what holds of the book, and of the book with these orders settled, holds of the book that is settled
pub by_settling : (P : Book → Type 0) (book : Book) (is_in : Order → Bool) → P book
    → ((marks : List Mark) → P (record book {
      orders = map (restated is_in (Settled (next_mark book))) book.orders;
      marks = marks;
    })) → P (settle book is_in)
unfolding settle
by_settling P book is_in h k = by (is_empty (filter is_in book.orders))
  where
    by : (b : Bool) → P (cond b book (record book {
      orders =
          map (restated is_in (Settled (next_mark book))) book.orders;
      marks = book.marks ++ mark_of book (filter is_in book.orders) ∷ [];
    }))
    by true = h
    by false = k (book.marks ++ mark_of book (filter is_in book.orders) ∷ [])

-- ---- participants

abbrev pub ParticipantsKept : List Participant → List Participant → Type 0
ParticipantsKept old new = (code : List ℕ) (p : Participant) → find (has_code code) old ≡ Some p
    → (q : Participant) × (find (has_code code) new ≡ Some q) × IsKeptParticipant p q

pub participants_same : (ps : List Participant) → ParticipantsKept ps ps
participants_same ps code p e = (p, e, record { name = refl; key = refl })

-- the participant that is put in at its place, where no other has its code
pub find_added : (new : Participant) (ps : List Participant) → is_some (find (has_code new.code) ps) ≡ false
    → find (has_code new.code) (filter (λ (p : Participant). is_before p.code new.code) ps ++ new
    ∷ filter (λ (p : Participant). not (is_before p.code new.code)) ps) ≡ Some new
find_added new ps none =
    find_right (has_code new.code) (filter (λ (p : Participant). is_before p.code new.code) ps)
    (new ∷ filter (λ (p : Participant). not (is_before p.code new.code)) ps)
    (find_none_in (has_code new.code) (λ (p : Participant). is_before p.code new.code) ps none)
    ∙ rw ((bytes_decides new.code new.code).1 refl) refl

pub participants_added : (new : Participant) (ps : List Participant) → is_some (find (has_code new.code) ps) ≡ false
    → ParticipantsKept ps (filter (λ (p : Participant). is_before p.code new.code) ps ++ new
    ∷ filter (λ (p : Participant). not (is_before p.code new.code)) ps)
participants_added new ps none code p e = by (is_before code new.code) refl
  where
    side : (b : Bool) → is_before code new.code ≡ b → (q : Participant) → has_code code q ≡ true
        → is_before q.code new.code ≡ b
    side b f q t = ap (λ c. is_before c new.code) ((bytes_decides q.code code).0 t) ∙ f

    another : has_code code new ≡ false
    another = at (has_code code new) refl
      where
        at : (b : Bool) → has_code code new ≡ b → b ≡ false
        at true t = absurd (true≢false (ap is_some (sym e ∙ ap (λ c. find (has_code c) ps)
            (sym ((bytes_decides new.code code).0 t))) ∙ none))
        at false t = refl

    by : (b : Bool) → is_before code new.code ≡ b → (q : Participant)
        × (find (has_code code) (filter (λ (p : Participant). is_before p.code new.code) ps ++ new
        ∷ filter (λ (p : Participant). not (is_before p.code new.code)) ps) ≡ Some q) × IsKeptParticipant p q
    by true f = (
      p,
      find_left (has_code code) (filter (λ (p : Participant). is_before p.code new.code) ps)
          (new ∷ filter (λ (p : Participant). not (is_before p.code new.code)) ps) p
          (find_kept (has_code code) (λ (p : Participant). is_before p.code new.code) (side true f) ps ∙ e),
      record { name = refl; key = refl },
    )
    by false f = (
      p,
      find_right (has_code code) (filter (λ (p : Participant). is_before p.code new.code) ps)
          (new ∷ filter (λ (p : Participant). not (is_before p.code new.code)) ps)
          (find_dropped (has_code code) (λ (p : Participant). is_before p.code new.code) (side false f) ps)
          ∙ rw another (find_kept (has_code code) (λ (p : Participant). not (is_before p.code new.code))
          (λ q t. ap not (side false f q t)) ps ∙ e),
      record { name = refl; key = refl },
    )

pub participants_credited : (code : List ℕ) (credit : ℕ) (ps : List Participant)
    → ParticipantsKept ps (map (λ (p : Participant). cond (has_code code p) (record p { credit = credit }) p) ps)
participants_credited code credit ps other p e =
    let f : Participant → Participant = λ p. cond (has_code code p) (record p { credit = credit }) p in (
      f p,
      find_mapped (has_code other) f (λ q. same q (has_code code q)) ps
          ∙ ap (option_map f) e,
      kept (has_code code p),
    )
  where
    same : (q : Participant) (b : Bool) → has_code other (cond b (record q { credit = credit }) q) ≡ has_code other q
    same q true = refl
    same q false = refl

    kept : (b : Bool) → IsKeptParticipant p (cond b (record p { credit = credit }) p)
    kept true = record { name = refl; key = refl }
    kept false = record { name = refl; key = refl }

-- ---- books

pub kept_by : (old new : Book) → ParticipantsKept old.participants new.participants
    → ((reference : List ℕ) (p : Posting) → find (is_posting_named reference) old.postings ≡ Some p
    → find (is_posting_named reference) new.postings ≡ Some p)
    → OrdersKept old.orders new.orders → AreKept old new
unfolding participant_of posting_named order_named
kept_by old new ps qs os = record { participants = ps; postings = qs; orders = os }

pub kept_through : (old mid new : Book) → AreKept old mid → AreKept mid new → AreKept old new
unfolding order_named
kept_through old mid new h k = record {
  participants = λ code p e.
      let one = h.participants code p e in
      let two = k.participants code one.0 one.1 in
      (two.0, two.1, record { name = two.2.name ∙ one.2.name; key = two.2.key ∙ one.2.key });
  postings = λ reference p e. k.postings reference p (h.postings reference p e);
  orders = orders_through old.orders mid.orders new.orders h.orders k.orders;
}
