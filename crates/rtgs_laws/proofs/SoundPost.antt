-- A posting keeps a book sound.
use Rattle.std.proofs.Common.{◌≡◌, ℕ, ◌<◌, ◌+◌, nat_le, ℤ, pos, ◌+ℤ◌, ◌≤ℤ◌, int_lt, Bool, true, false, cond, ◌&&◌, List}
use Rattle.std.proofs.Common.{[], ◌∷◌, ◌++◌, length, unwrap_or, is_some, refl, ap, ◌∙◌, subst, arith}
use Rattle.std.proofs.lemmas.Int.{ints}
use Rattle.std.proofs.lemmas.Bool.Decides.{nat_tests}
use Rattle.std.proofs.lemmas.List.{map-append}
use Rattle.std.specs.Str.{bytes_eq}
use Rattle.std.specs.Cmp.Lexicographic.{bytes_decides}
use Rattle.rtgs_book.specs.declared.limits.TheConstants.{LARGEST_NUMBER, LARGEST_TOTAL}
use Rattle.rtgs_book.specs.declared.book.Book.{Book}
use Rattle.rtgs_book.specs.declared.mark.Mark.{Mark}
use Rattle.rtgs_book.specs.declared.posting.Posting.{Posting}
use Rattle.rtgs_book.specs.Lookup.{codes_of, is_participant, participant_of, credit_of, posting_named}
use Rattle.rtgs_book.specs.IntSum.{int_sum_by}
use Rattle.rtgs_book.specs.Balance.{balance, floor, total}
use Rattle.rtgs_book.specs.Queue.{waiting}
use Rattle.rtgs_book.specs.Commands.{post}
use Rattle.rtgs_book.specs.Soundness.{CountsItsOrders, IsSound}
use Rattle.rtgs_laws.proofs.BookLaws.{BookLaws}
use Rattle.rtgs_laws.proofs.Lists.{distinct_push, numbered_after, find_none, never_fall_push}
use Rattle.rtgs_laws.proofs.Outcomes.{sound_first_of}
use Rattle.rtgs_lists.proofs.Lists.{all_map, all_push, all_weaker}
use Rattle.rtgs_lists.proofs.Sums.{at_code, int_sum_by-both, sum_at_code}
use Rattle.rtgs_lists.proofs.Bools.{from_not}

abbrev with_posting : Book → Posting → Book
with_posting book posting = record book { postings = book.postings ++ posting ∷ [] }

total-with_posting : BookLaws → (book : Book) (posting : Posting) → IsSound book
    → is_participant book posting.code ≡ true
    → total (with_posting book posting) ≡ total book +ℤ posting.cents
unfolding total codes_of is_participant
total-with_posting laws book posting h known =
    let codes = codes_of book in
    ap (λ (f : List ℕ → ℤ). int_sum_by f codes) (λ i code. laws.posting book posting code i)
    ∙ int_sum_by-both (balance book) (at_code posting.code posting.cents) codes
    ∙ ap (λ v. total book +ℤ v) (sum_at_code posting.code posting.cents codes h.codes_rise.0 known)

pub lt_from_test : (a b : ℕ) → nat_le b a ≡ false → a < b
lt_from_test a b e = grind (arith, nat_tests)

total_fits : (total cents : ℤ) → total ≤ℤ pos LARGEST_TOTAL → (int_lt (pos 0) cents && int_lt (pos LARGEST_TOTAL)
    (total +ℤ cents)) ≡ false → (total +ℤ cents) ≤ℤ pos LARGEST_TOTAL
total_fits total cents h e = by (int_lt (pos 0) cents) refl e
  where
    by : (b : Bool) → int_lt (pos 0) cents ≡ b → (b && int_lt (pos LARGEST_TOTAL) (total +ℤ cents)) ≡ false
        → (total +ℤ cents) ≤ℤ pos LARGEST_TOTAL
    by true f k = grind (arith, ints)
    by false f k = let low : cents ≤ℤ pos 0 = grind (arith, ints) in omega (arith, ints)

covered : (floor balance cents : ℤ) → floor ≤ℤ balance → (int_lt cents (pos 0) && int_lt (balance +ℤ cents) floor)
    ≡ false → floor ≤ℤ (balance +ℤ cents)
covered floor balance cents h e = by (int_lt cents (pos 0)) refl e
  where
    by : (b : Bool) → int_lt cents (pos 0) ≡ b → (b && int_lt (balance +ℤ cents) floor) ≡ false
        → floor ≤ℤ (balance +ℤ cents)
    by true f k = grind (arith, ints)
    by false f k = let high : pos 0 ≤ℤ cents = grind (arith, ints) in omega (arith, ints)

covered_all : (book : Book) (code : List ℕ) (cents : ℤ) → (int_lt cents (pos 0) && int_lt (balance book code +ℤ cents)
    (floor book code)) ≡ false → (other : List ℕ) → floor book other ≤ℤ balance book other
    → floor book other ≤ℤ (balance book other +ℤ at_code code cents other)
covered_all book code cents enough other h = by (bytes_eq code other) refl
  where
    by : (b : Bool) → bytes_eq code other ≡ b → floor book other ≤ℤ (balance book other +ℤ cond b cents (pos 0))
    by true e =
        let same : code ≡ other = (bytes_decides code other).0 e in
        covered (floor book other) (balance book other) cents h
        (subst (λ c. (int_lt cents (pos 0) && int_lt (balance book c +ℤ cents) (floor book c)) ≡ false) same enough)
    by false e = omega (arith, ints)

post_sound : BookLaws → (book : Book) (code reference : List ℕ) (cents : ℤ) → IsSound book
    → is_participant book code ≡ true
    → is_some (posting_named book reference) ≡ false → nat_le LARGEST_NUMBER (length book.postings) ≡ false
    → (int_lt (pos 0) cents && int_lt (pos LARGEST_TOTAL) (total book +ℤ cents)) ≡ false
    → (int_lt cents (pos 0) && int_lt (balance book code +ℤ cents) (floor book code)) ≡ false
    → IsSound (with_posting book (record {
      number = length book.postings + 1;
      code = code;
      reference = reference;
      cents = cents;
      date = book.day.date;
    }))
unfolding codes_of is_participant waiting floor credit_of participant_of posting_named
post_sound laws book code reference cents h known new room fits enough =
    let posting : Posting = record {
      number = length book.postings + 1;
      code = code;
      reference = reference;
      cents = cents;
      date = book.day.date;
    } in
    record {
      orders_numbered = h.orders_numbered;
      postings_numbered = numbered_after (λ (p : Posting). p.number) book.postings posting h.postings_numbered refl
          (lt_from_test _ _ room);
      marks_numbered = h.marks_numbered;
      codes_rise = h.codes_rise;
      keys_distinct = h.keys_distinct;
      order_references = h.order_references;
      posting_references = rw (map-append (λ (p : Posting). p.reference) book.postings (posting ∷ []))
          (distinct_push bytes_eq _ _ h.posting_references (all_map (λ r. bytes_eq r reference ≡ false)
          (λ (p : Posting). p.reference) book.postings (find_none _ book.postings new)));
      parties = (h.parties.0, all_push _ book.postings posting h.parties.1 known);
      marks = (
        h.marks.0,
        all_weaker (CountsItsOrders book) (CountsItsOrders (with_posting book posting))
            (λ (m : Mark) c. record { some = c.some; count = c.count; value = c.value }) book.marks h.marks.1,
      );
      queues = record { closed = h.queues.closed; short = h.queues.short; of_the_day = h.queues.of_the_day };
      dates = record {
        dated = h.dates.dated;
        weekday = h.dates.weekday;
        order_weekdays = h.dates.order_weekdays;
        mark_weekdays = h.dates.mark_weekdays;
        orders = h.dates.orders;
        dues = h.dates.dues;
        marks = h.dates.marks;
        postings = rw (map-append (λ (p : Posting). unwrap_or p.date 0) book.postings (posting ∷ []))
            (never_fall_push _ _ h.dates.postings);
      };
      floors = all_weaker (λ other. floor book other ≤ℤ balance book other)
          (λ other. floor (with_posting book posting) other ≤ℤ balance (with_posting book posting) other)
          (λ other x. rw (laws.posting book posting other) (covered_all book code cents enough other x))
          (codes_of book) h.floors;
      total_fits = rw (total-with_posting laws book posting h known) (total_fits (total book) cents h.total_fits fits);
      automatic_fits = h.automatic_fits;
    }

pub sound_post : BookLaws → (book : Book) (code reference : List ℕ) (cents : ℤ) → IsSound book
    → IsSound (post book code reference cents).book
unfolding post
sound_post laws book code reference cents h = sound_first_of book _ _ h
    (λ (known, (_, (unused, (numbers_left, (total_fits, (covered, _)))))).
    post_sound laws book code reference cents h (from_not _ known) unused numbers_left total_fits covered)
