-- A new credit limit keeps a book sound.
use Rattle.std.proofs.Common.{◌≡◌, ℕ, ℤ, pos, neg_ℤ, ◌≤ℤ◌, int_lt, Bool, true, false, cond, not, ◌&&◌, ◌||◌, List, []}
use Rattle.std.proofs.Common.{◌∷◌, map, Some, find, option_map, unwrap_or, refl, sym, ◌∙◌, subst, true≢false, arith}
use Rattle.std.proofs.lemmas.Int.{ints}
use Rattle.std.specs.List.{AllByRecursion, list_any}
use Rattle.std.specs.Str.{bytes_eq}
use Rattle.std.specs.Cmp.Lexicographic.{bytes_decides}
use Rattle.rtgs_book.specs.declared.book.Book.{Book}
use Rattle.rtgs_book.specs.declared.order.Order.{Order}
use Rattle.rtgs_book.specs.declared.participant.Participant.{Participant}
use Rattle.rtgs_book.specs.declared.posting.Posting.{Posting}
use Rattle.rtgs_book.specs.Books.{is_closed}
use Rattle.rtgs_book.specs.Lookup.{has_code, participant_of, credit_of, codes_of, is_participant}
use Rattle.rtgs_book.specs.Balance.{balance, floor, total}
use Rattle.rtgs_book.specs.Queue.{waiting}
use Rattle.rtgs_book.specs.Commands.{with_credit, set_credit}
use Rattle.rtgs_book.specs.Soundness.{IsSound}
use Rattle.rtgs_laws.proofs.Outcomes.{sound_first_of}
use Rattle.rtgs_lists.proofs.Codes.{bytes_eq_comm}
use Rattle.rtgs_lists.proofs.Lists.{all_weaker, map_same}
use Rattle.rtgs_lists.proofs.Bools.{from_not}

right_true : (a b : Bool) → a ≡ false → (a || b) ≡ true → b ≡ true
right_true true b e h = absurd (true≢false e)
right_true false b e h = h

-- the participant with a new limit, if it is this one
abbrev limited : List ℕ → ℕ → Participant → Participant
limited code credit p = cond (has_code code p) (record p { credit = credit }) p

limited-code : (code : List ℕ) (credit : ℕ) (p : Participant) → (limited code credit p).code ≡ p.code
limited-code code credit p = by (has_code code p)
  where
    by : (b : Bool) → (cond b (record p { credit = credit }) p).code ≡ p.code
    by true = refl
    by false = refl

limited-key : (code : List ℕ) (credit : ℕ) (p : Participant) → (limited code credit p).key ≡ p.key
limited-key code credit p = by (has_code code p)
  where
    by : (b : Bool) → (cond b (record p { credit = credit }) p).key ≡ p.key
    by true = refl
    by false = refl

pub accounts-with_credit : (book : Book) (code : List ℕ) (credit : ℕ)
    → codes_of (with_credit book code credit) ≡ codes_of book
unfolding codes_of with_credit
accounts-with_credit book code credit = map_same (λ (p : Participant). p.code) (limited code credit)
    (limited-code code credit) book.participants

-- the limit of the first participant with a code
abbrev pub limit : List ℕ → List Participant → ℕ
limit code ps = unwrap_or (option_map (λ (p : Participant). p.credit) (find (has_code code) ps)) 0

limit-own : (code : List ℕ) (credit : ℕ) (ps : List Participant)
    → list_any (bytes_eq code) (map (λ (p : Participant). p.code) ps) ≡ true
    → limit code (map (limited code credit) ps) ≡ credit
limit-own code credit [] e = absurd (true≢false (sym e))
limit-own code credit (p ∷ ps) e = by (has_code code p) refl (limit-own code credit ps)
  where
    by : (b : Bool) → has_code code p ≡ b → (list_any (bytes_eq code) (map (λ (p : Participant). p.code) ps) ≡ true
        → limit code (map (limited code credit) ps) ≡ credit)
        → unwrap_or (option_map (λ (p : Participant). p.credit)
        (cond (bytes_eq (cond b (record p { credit = credit }) p).code code)
        (Some (cond b (record p { credit = credit }) p)) (find (has_code code) (map (limited code credit) ps)))) 0
        ≡ credit
    by true f rest = rw f refl
    by false f rest = rw f (rest (right_true _ _ (bytes_eq_comm code p.code ∙ f) e))

limit-other : (code : List ℕ) (credit : ℕ) (other : List ℕ) → bytes_eq other code ≡ false → (ps : List Participant)
    → limit other (map (limited code credit) ps) ≡ limit other ps
limit-other code credit other apart [] = refl
limit-other code credit other apart (p ∷ ps) = by (has_code code p) refl (has_code other p) refl
    (limit-other code credit other apart ps)
  where
    by : (b : Bool) → has_code code p ≡ b → (d : Bool) → has_code other p ≡ d
        → limit other (map (limited code credit) ps) ≡ limit other ps
        → unwrap_or (option_map (λ (p : Participant). p.credit)
        (cond (bytes_eq (cond b (record p { credit = credit }) p).code other)
        (Some (cond b (record p { credit = credit }) p)) (find (has_code other) (map (limited code credit) ps)))) 0
        ≡ unwrap_or (option_map (λ (p : Participant). p.credit) (cond d (Some p) (find (has_code other) ps))) 0
    by true e true f rest = absurd (true≢false (sym ((bytes_decides other code).1
        (sym ((bytes_decides p.code other).0 f) ∙ (bytes_decides p.code code).0 e)) ∙ apart))
    by true e false f rest = rw f rest
    by false e true f rest = rw f refl
    by false e false f rest = rw f rest

lt_from_test_false : (a b : ℤ) → int_lt a b ≡ false → b ≤ℤ a
lt_from_test_false a b e = grind (arith, ints)

floor_covered : (book : Book) (code : List ℕ) (credit : ℕ) → is_participant book code ≡ true
    → (not (is_closed book.day.phase) && int_lt (balance book code) (neg_ℤ (pos credit))) ≡ false → (other : List ℕ)
    → floor book other ≤ℤ balance book other → floor (with_credit book code credit) other ≤ℤ balance
    (with_credit book code credit) other
unfolding floor credit_of participant_of with_credit balance is_participant codes_of
floor_covered book code credit known enough other holds = by (is_closed book.day.phase) enough holds
    (bytes_eq other code) refl
  where
    old : ℤ
    old = neg_ℤ (pos (limit other book.participants))

    new : ℤ
    new = neg_ℤ (pos (limit other (map (limited code credit) book.participants)))

    by : (closed : Bool) → (not closed && int_lt (balance book code) (neg_ℤ (pos credit))) ≡ false
        → cond closed (pos 0) old ≤ℤ balance book other → (b : Bool) → bytes_eq other code ≡ b
        → cond closed (pos 0) new ≤ℤ balance book other
    by true e h b f = h
    by false e h true f =
        let same : other ≡ code = (bytes_decides other code).0 f in
        let here : neg_ℤ (pos (limit code (map (limited code credit) book.participants))) ≤ℤ balance book code =
        rw (limit-own code credit book.participants known) (lt_from_test_false _ _ e) in
        subst (λ c. neg_ℤ (pos (limit c (map (limited code credit) book.participants))) ≤ℤ balance book c) (sym same)
        here
    by false e h false f = rw (limit-other code credit other f book.participants) h

pub credit_sound : (book : Book) (code : List ℕ) (credit : ℕ) → IsSound book → is_participant book code ≡ true
    → (not (is_closed book.day.phase) && int_lt (balance book code) (neg_ℤ (pos credit))) ≡ false
    → IsSound (with_credit book code credit)
unfolding with_credit is_participant waiting balance total
credit_sound book code credit h known enough =
    let same = accounts-with_credit book code credit in
    record {
      orders_numbered = h.orders_numbered;
      postings_numbered = h.postings_numbered;
      marks_numbered = h.marks_numbered;
      codes_rise = rw same h.codes_rise;
      keys_distinct = rw (map_same (λ (p : Participant). p.key) (limited code credit) (limited-key code credit)
          book.participants) h.keys_distinct;
      order_references = h.order_references;
      posting_references = h.posting_references;
      parties = subst (λ (codes : List (List ℕ)).
          AllByRecursion (λ (o : Order). (list_any (bytes_eq o.sender) codes && list_any (bytes_eq o.receiver) codes &&
          not (bytes_eq o.sender o.receiver)) ≡ true) book.orders
          × AllByRecursion (λ (p : Posting). list_any (bytes_eq p.code) codes ≡ true) book.postings) (sym same)
          h.parties;
      marks = (
        h.marks.0,
        all_weaker _ _ (λ m c. record { some = c.some; count = c.count; value = c.value }) book.marks
            h.marks.1,
      );
      queues = record { closed = h.queues.closed; short = rw same h.queues.short; of_the_day = h.queues.of_the_day };
      dates = record {
        dated = h.dates.dated;
        weekday = h.dates.weekday;
        order_weekdays = h.dates.order_weekdays;
        mark_weekdays = h.dates.mark_weekdays;
        orders = h.dates.orders;
        dues = h.dates.dues;
        marks = h.dates.marks;
        postings = h.dates.postings;
      };
      floors = rw same (all_weaker (λ other. floor book other ≤ℤ balance book other)
          (λ other. floor (with_credit book code credit) other ≤ℤ balance (with_credit book code credit) other)
          (floor_covered book code credit known enough) (codes_of book) h.floors);
      total_fits = rw same h.total_fits;
      automatic_fits = h.automatic_fits;
    }

pub sound_set_credit : (book : Book) (code : List ℕ) (credit : ℕ) → IsSound book
    → IsSound (set_credit book code credit).book
unfolding set_credit
sound_set_credit book code credit h = sound_first_of book _ _ h
    (λ passed. credit_sound book code credit h (from_not _ passed.0) passed.1.0)
