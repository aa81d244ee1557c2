-- A new participant keeps a book sound.
use Rattle.std.proofs.Common.{◌≡◌, ℕ, ◌≤◌, ◌<◌, ◌+◌, ℤ, pos, neg_ℤ, ◌+ℤ◌, ◌≤ℤ◌, Bool, true, false, cond, not, ◌&&◌}
use Rattle.std.proofs.Common.{List, [], ◌∷◌, ◌++◌, filter, length, Some, find, option_map, unwrap_or, refl, sym, ap}
use Rattle.std.proofs.Common.{◌∙◌, true≢false, arith}
use Rattle.std.proofs.Common.{subst}
use Rattle.std.proofs.lemmas.Int.{ints}
use Rattle.std.proofs.lemmas.List.{length-map, map-append}
use Rattle.std.specs.List.{AllByRecursion, list_any}
use Rattle.std.specs.Str.{bytes_eq}
use Rattle.std.specs.Cmp.Lexicographic.{bytes_decides}
use Rattle.rtgs_book.specs.declared.limits.TheConstants.{MOST_PARTICIPANTS, LONGEST_QUEUE}
use Rattle.rtgs_book.specs.declared.book.Book.{Book}
use Rattle.rtgs_book.specs.declared.mark.Mark.{Mark}
use Rattle.rtgs_book.specs.declared.order.Order.{Order}
use Rattle.rtgs_book.specs.declared.participant.Participant.{Participant}
use Rattle.rtgs_book.specs.declared.posting.Posting.{Posting}
use Rattle.rtgs_book.specs.Books.{is_closed, is_waiting}
use Rattle.rtgs_book.specs.Choice.{Choice, is_chosen, chosen, balance_after, IsFeasible}
use Rattle.rtgs_book.specs.Lookup.{has_code, participant_of, credit_of, codes_of, is_participant}
use Rattle.rtgs_book.specs.IntSum.{int_sum_by}
use Rattle.rtgs_book.specs.Balance.{balance, floor, total}
use Rattle.rtgs_book.specs.Queue.{queue, orders_before, waiting}
use Rattle.rtgs_book.specs.Commands.{is_before, with_participant, add}
use Rattle.rtgs_book.specs.Soundness.{has_parties, CountsItsOrders, IsSound}
use Rattle.rtgs_laws.proofs.Insertions.{length-put_in, sum-put_in, any-put_in, distinct_put_in}
use Rattle.rtgs_laws.proofs.BookLaws.{BookLaws}
use Rattle.rtgs_laws.proofs.Lists.{find_none}
use Rattle.rtgs_laws.proofs.Outcomes.{sound_first_of}
use Rattle.rtgs_laws.proofs.SoundCredit.{limit}
use Rattle.rtgs_laws.proofs.SoundPost.{lt_from_test}
use Rattle.rtgs_lists.proofs.Bools.{and_left}
use Rattle.rtgs_lists.proofs.Codes.{apart_from, bytes_eq_comm, sorted_put_in}
use Rattle.rtgs_lists.proofs.Filters.{all_put_in, map-filter, put_in}
use Rattle.rtgs_lists.proofs.Finds.{none_any}
use Rattle.rtgs_lists.proofs.Lists.{all_both, all_map, all_weaker}

abbrev comes_before : List ℕ → Participant → Bool
comes_before code p = is_before p.code code

-- ---- the credit limits of the others

skips : (code : List ℕ) (front back : List Participant) → AllByRecursion (λ p. has_code code p ≡ false) front
    → limit code (front ++ back) ≡ limit code back
skips code [] back h = refl
skips code (p ∷ front) back h = rw h.0 (skips code front back h.1)

skips_one : (code : List ℕ) (p : Participant) (front back : List Participant) → has_code code p ≡ false
    → limit code (front ++ p ∷ back) ≡ limit code (front ++ back)
skips_one code p [] back e = rw e refl
skips_one code p (q ∷ front) back e = by (has_code code q) (skips_one code p front back e)
  where
    by : (b : Bool) → limit code (front ++ p ∷ back) ≡ limit code (front ++ back)
        → unwrap_or (option_map (λ (p : Participant). p.credit)
        (cond b (Some q) (find (has_code code) (front ++ p ∷ back)))) 0
        ≡ unwrap_or (option_map (λ (p : Participant). p.credit)
        (cond b (Some q) (find (has_code code) (front ++ back)))) 0
    by true r = refl
    by false r = r

-- where the test fails at a code, nobody with that code passes it
none_with_code : (code new : List ℕ) → is_before code new ≡ false → (ps : List Participant)
    → AllByRecursion (λ p. has_code code p ≡ false) (filter (comes_before new) ps)
none_with_code code new e [] = tt
none_with_code code new e (p ∷ ps) = by (comes_before new p) refl (has_code code p) refl (none_with_code code new e ps)
  where
    by : (b : Bool) → comes_before new p ≡ b → (d : Bool) → has_code code p ≡ d
        → AllByRecursion (λ p. has_code code p ≡ false) (filter (comes_before new) ps)
        → AllByRecursion (λ p. has_code code p ≡ false) (cond b (p ∷ filter (comes_before new) ps)
        (filter (comes_before new) ps))
    by true f true g rest = absurd (true≢false (sym f ∙ ap (λ c. is_before c new) ((bytes_decides p.code code).0 g)
        ∙ e))
    by true f false g rest = (g, rest)
    by false f d g rest = rest

limit-put_in : (new : Participant) (code : List ℕ) → has_code code new ≡ false → (ps : List Participant)
    → limit code (put_in (comes_before new.code) new ps) ≡ limit code ps
limit-put_in new code apart [] = rw apart refl
limit-put_in new code apart (p ∷ ps) = by (comes_before new.code p) refl (has_code code p) refl
    (limit-put_in new code apart ps)
  where
    before : List Participant
    before = filter (comes_before new.code) ps

    after : List Participant
    after = filter (λ q. not (comes_before new.code q)) ps

    by : (b : Bool) → comes_before new.code p ≡ b → (d : Bool) → has_code code p ≡ d
        → limit code (put_in (comes_before new.code) new ps) ≡ limit code ps
        → limit code (cond b (p ∷ before) before ++ new ∷ cond (not b) (p ∷ after) after)
        ≡ unwrap_or (option_map (λ (p : Participant). p.credit) (cond d (Some p) (find (has_code code) ps))) 0
    by true f true g rest = rw g refl
    by true f false g rest = rw g rest
    by false f true g rest =
        let none = none_with_code code new.code (ap (λ c. is_before c new.code) (sym ((bytes_decides p.code code).0 g))
        ∙ f) ps in
        skips code before (new ∷ p ∷ after) none ∙ rw (apart, g) refl
    by false f false g rest = skips_one code new before (p ∷ after) apart ∙ skips_one code p before after g
        ∙ sym (skips_one code new before after apart) ∙ rest

-- ---- a code that nobody has

none_wait : (code : List ℕ) (os : List Order) → AllByRecursion
    (λ (o : Order). bytes_eq o.sender code ≡ false) os
    → length (filter (λ (o : Order). is_waiting o && bytes_eq o.sender code) os) ≤ LONGEST_QUEUE
none_wait code [] h = omega arith
none_wait code (o ∷ os) h = rw (h.0, and_false (is_waiting o)) (none_wait code os h.1)
  where
    and_false : (b : Bool) → (b && false) ≡ false
    and_false true = refl
    and_false false = refl

all_filters : {X : Type 0} (P : X → Type 0) (p : X → Bool) (xs : List X) → AllByRecursion P (filter p xs)
    → AllByRecursion P (filter (λ x. not (p x)) xs) → AllByRecursion P xs
all_filters P p [] a b = tt
all_filters P p (x ∷ xs) a b = by (p x) (all_filters P p xs) a b
  where
    by : (t : Bool)
        → (AllByRecursion P (filter p xs) → AllByRecursion P (filter (λ y. not (p y)) xs) → AllByRecursion P xs)
        → AllByRecursion P (cond t (x ∷ filter p xs) (filter p xs))
        → AllByRecursion P (cond (not t) (x ∷ filter (λ y. not (p y)) xs) (filter (λ y. not (p y)) xs))
        → AllByRecursion P (x ∷ xs)
    by true rest a b = (a.0, rest a.1 b)
    by false rest a b = (b.0, rest a b.1)

all_front : {X : Type 0} (P : X → Type 0) (xs ys : List X) → AllByRecursion P (xs ++ ys) → AllByRecursion P xs
all_front P [] ys h = tt
all_front P (x ∷ xs) ys h = (h.0, all_front P xs ys h.1)

all_back : {X : Type 0} (P : X → Type 0) (xs ys : List X) → AllByRecursion P (xs ++ ys) → AllByRecursion P ys
all_back P [] ys h = h
all_back P (x ∷ xs) ys h = all_back P xs ys h.1

all_put_out : {X : Type 0} (P : X → Type 0) (p : X → Bool) (x : X) (xs : List X)
    → AllByRecursion P (put_in p x xs) → AllByRecursion P xs
all_put_out P p x xs h = all_filters P p xs (all_front P (filter p xs) (x ∷ filter (λ y. not (p y)) xs) h)
    (all_back P (filter p xs) (x ∷ filter (λ y. not (p y)) xs) h).1

module _ (laws : BookLaws) (book : Book) (code full key : List ℕ) (h : IsSound book)
    (free : AllByRecursion (λ (p : Participant). bytes_eq p.code code ≡ false) book.participants) where
  abbrev new : Participant
  new = record { code = code; name = full; key = key; credit = 0 }

  unused : AllByRecursion (λ c. bytes_eq c code ≡ false) (codes_of book)
  unfolding codes_of
  unused = all_map (λ c. bytes_eq c code ≡ false) (λ (p : Participant). p.code) book.participants free

  accounts-with_participant : codes_of (with_participant book new)
      ≡ put_in (λ c. is_before c code) code (codes_of book)
  unfolding codes_of with_participant
  accounts-with_participant =
      map-append (λ (p : Participant). p.code) (filter (comes_before code) book.participants)
      (new ∷ filter (λ p. not (comes_before code p)) book.participants)
      ∙ (λ i. map-filter (λ (p : Participant). p.code) (λ c. is_before c code) book.participants i ++ code
      ∷ map-filter (λ (p : Participant). p.code) (λ c. not (is_before c code)) book.participants i)

  -- nobody with the new code has sent an order
  unsent : AllByRecursion (λ (o : Order). bytes_eq o.sender code ≡ false) book.orders
  unfolding is_participant
  unsent = all_weaker (λ o. has_parties book o ≡ true) (λ (o : Order). bytes_eq o.sender code ≡ false)
      (λ o e. apart_from o.sender code (codes_of book) unused (and_left _ _ (and_left _ _ e))) book.orders
      h.parties.0

  balance_none : balance book code ≡ pos 0
  unfolding is_participant
  balance_none = laws.unknown book code h (nobody (codes_of book) unused)
    where
      nobody : (codes : List (List ℕ)) → AllByRecursion (λ c. bytes_eq c code ≡ false) codes
          → list_any (bytes_eq code) codes ≡ false
      nobody [] a = refl
      nobody (c ∷ codes) a = rw (bytes_eq_comm code c, a.0) (nobody codes a.1)

  still_known : (c : List ℕ) → is_participant book c ≡ true → is_participant (with_participant book new) c ≡ true
  unfolding is_participant
  still_known c e = rw accounts-with_participant (any-put_in (bytes_eq c) (λ c. is_before c code) code (codes_of book)
      e)

  balance_same : (c : List ℕ) → balance (with_participant book new) c ≡ balance book c
  unfolding balance with_participant
  balance_same c = refl

  few : length book.participants < MOST_PARTICIPANTS → length (put_in (λ c. is_before c code) code (codes_of book))
      ≡ length (codes_of book) + 1 → length (put_in (λ c. is_before c code) code (codes_of book)) ≤ MOST_PARTICIPANTS
  unfolding codes_of
  few room many = let long = length-map book.participants (λ (p : Participant). p.code) in omega arith

  floor_low : floor (with_participant book new) code ≤ℤ pos 0
  unfolding floor with_participant
  floor_low = by (is_closed book.day.phase) (credit_of (with_participant book new) code)
    where
      by : (b : Bool) (n : ℕ) → cond b (pos 0) (neg_ℤ (pos n)) ≤ℤ pos 0
      by true n = omega (arith, ints)
      by false n = omega (arith, ints)

  floor_same : (c : List ℕ) → bytes_eq c code ≡ false → floor (with_participant book new) c ≡ floor book c
  unfolding floor credit_of participant_of with_participant
  floor_same c apart = ap (λ n. cond (is_closed book.day.phase) (pos 0) (neg_ℤ (pos n)))
      (limit-put_in new c (bytes_eq_comm code c ∙ apart) book.participants)

  -- who was there before is covered by no less without the newcomer
  pub feasible_before : (choice : Choice) → IsFeasible (with_participant book new) choice → IsFeasible book choice
  unfolding balance_after chosen is_chosen orders_before queue balance with_participant
  feasible_before choice f = record {
    within = f.within;
    covered = all_both (λ c. bytes_eq c code ≡ false)
        (λ c. floor (with_participant book new) c ≤ℤ balance_after (with_participant book new) choice c)
        (λ c. floor book c ≤ℤ balance_after book choice c)
        (λ c e x. subst (λ z. z ≤ℤ balance_after book choice c) (floor_same c e) x) (codes_of book) unused
        (all_put_out (λ c. floor (with_participant book new) c ≤ℤ balance_after (with_participant book new) choice c)
        (λ c. is_before c code) code (codes_of book)
        (subst (AllByRecursion (λ c. floor (with_participant book new) c
        ≤ℤ balance_after (with_participant book new) choice c)) accounts-with_participant f.covered));
  }

  parties_lifted : (o : Order) → has_parties book o ≡ true → has_parties (with_participant book new) o ≡ true
  parties_lifted o e = lift _ _ (not (bytes_eq o.sender o.receiver)) _ _ (still_known o.sender) (still_known o.receiver)
      e
    where
      lift : (a b c d f : Bool) → (a ≡ true → d ≡ true) → (b ≡ true → f ≡ true) → (a && b && c) ≡ true
          → (d && f && c) ≡ true
      lift true true c d f g k e = rw (g refl, k refl) e
      lift true false c d f g k e = absurd (true≢false (sym e))
      lift false b c d f g k e = absurd (true≢false (sym e))

  -- the balances of the accounts are what they were
  total_same : total (with_participant book new) ≡ total book
  unfolding total
  total_same = ap (λ (codes : List (List ℕ)). int_sum_by (balance (with_participant book new)) codes)
      accounts-with_participant
      ∙ ap (λ (f : List ℕ → ℤ). int_sum_by f (put_in (λ c. is_before c code) code (codes_of book))) (λ i c. same c i)
      ∙ sum-put_in (balance book) (λ c. is_before c code) code (codes_of book)
      ∙ zero_first _ _ balance_none
    where
      same : (c : List ℕ) → balance (with_participant book new) c ≡ balance book c
      same c = balance_same c

      zero_first : (a b : ℤ) → a ≡ pos 0 → a +ℤ b ≡ b
      zero_first a b e = omega (arith, ints)

  participant_sound : AllByRecursion (λ (p : Participant). bytes_eq p.key key ≡ false) book.participants
      → length book.participants < MOST_PARTICIPANTS → IsSound (with_participant book new)
  unfolding with_participant waiting
  participant_sound keys room =
      let same = accounts-with_participant in
      let many = length-put_in (λ c. is_before c code) code (codes_of book) in
      record {
        orders_numbered = h.orders_numbered;
        postings_numbered = h.postings_numbered;
        marks_numbered = h.marks_numbered;
        codes_rise = rw same (sorted_put_in code (codes_of book) h.codes_rise.0 unused, few room many);
        keys_distinct = distinct_put_in bytes_eq bytes_eq_comm (λ (p : Participant). p.key) (comes_before code) new
            book.participants h.keys_distinct keys;
        order_references = h.order_references;
        posting_references = h.posting_references;
        parties = (
          all_weaker (λ o. has_parties book o ≡ true) (λ o. has_parties (with_participant book new) o ≡ true)
              parties_lifted book.orders h.parties.0,
          all_weaker (λ (p : Posting). is_participant book p.code ≡ true)
              (λ (p : Posting). is_participant (with_participant book new) p.code ≡ true) (λ p e. still_known p.code e)
              book.postings h.parties.1,
        );
        marks = (
          h.marks.0,
          all_weaker (CountsItsOrders book) (CountsItsOrders (with_participant book new))
              (λ (m : Mark) c. record { some = c.some; count = c.count; value = c.value }) book.marks h.marks.1,
        );
        queues = record {
          closed = h.queues.closed;
          short = rw same (all_put_in (λ c. length (waiting book c) ≤ LONGEST_QUEUE) (λ c. is_before c code) code
              (codes_of book) h.queues.short (none_wait code book.orders unsent));
          of_the_day = h.queues.of_the_day;
        };
        dates = record {
          dated = h.dates.dated;
          weekday = h.dates.weekday;
          order_weekdays = h.dates.order_weekdays;
          mark_weekdays = h.dates.mark_weekdays;
          orders = h.dates.orders;
          dues = h.dates.dues;
          marks = h.dates.marks;
          postings = h.dates.postings;
        };
        floors = rw same (all_put_in (λ c. floor (with_participant book new) c ≤ℤ balance (with_participant book new) c)
            (λ c. is_before c code) code (codes_of book)
            (all_both (λ c. bytes_eq c code ≡ false) (λ c. floor book c ≤ℤ balance book c)
            (λ c. floor (with_participant book new) c ≤ℤ balance (with_participant book new) c)
            (λ c e x. rw (floor_same c e, balance_same c) x) (codes_of book) unused h.floors)
            (rw (balance_same code, balance_none) floor_low));
        total_fits = rw total_same h.total_fits;
        automatic_fits = h.automatic_fits;
      }

pub sound_add : BookLaws → (book : Book) (code full key : List ℕ) → IsSound book → IsSound (add book code full key).book
unfolding add participant_of
sound_add laws book code full key h = sound_first_of book _ _ h (λ (_, (code_unused, (key_unused, (places_left, _)))).
    participant_sound laws book code full key h (find_none (has_code code) book.participants code_unused)
    (none_any _ book.participants key_unused) (lt_from_test _ _ places_left))
