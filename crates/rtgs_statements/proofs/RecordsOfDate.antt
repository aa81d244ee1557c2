-- The records of a date, as they are read one after another, and the rows of those that a participant is shown.
use Rattle.std.proofs.Common.{◌≡◌, ◌<◌, ◌≤◌, ◌+◌, ℕ, ◌++◌, take, slice_get, arith, Bool, true, false, cond, ◌&&◌, ◌+ℤ◌}
use Rattle.std.proofs.Common.{pos, List, [], ◌∷◌, map, filter, length, Some, None, refl, sym, ap, subst, ◌∙◌}
use Rattle.std.proofs.lemmas.List.{length-map, take_more}
use Rattle.std.proofs.lemmas.Option.{slice_get_within, get_or_from_slice_get}
use Rattle.std.specs.List.{range_with_len}
use Rattle.std.specs.Str.{bytes_eq}
use Rattle.rtgs_book.specs.Books.{is_settled}
use Rattle.rtgs_book.specs.declared.book.Book.{Book}
use Rattle.rtgs_book.specs.declared.posting.Posting.{Posting}
use Rattle.rtgs_book.specs.declared.order.Order.{Order}
use Rattle.rtgs_book.specs.declared.mark.Mark.{Mark}
use Rattle.rtgs_book.specs.Soundness.{IsSound, AreNumbered}
use Rattle.rtgs_book.specs.cores.Nexts.{AreNumberedInOrder, posting_after, order_after, is_posting_after}
use Rattle.rtgs_book.specs.cores.Nexts.{is_order_after, mark_after, is_mark_after}
use Rattle.rtgs_statements.specs.Lines.{row_of_posting, row_of_order, row_text}
use Rattle.rtgs_statements.specs.declared.line.Line.TheVariants.{Record}
use Rattle.rtgs_statements.specs.Records.{is_posted_on, is_ordered_on, is_marked_on, postings_on, orders_on, marks_on}
use Rattle.rtgs_statements.specs.Records.{postings_on_statement, orders_on_statement}
use Rattle.rtgs_statements.specs.Rows.{is_to, is_shown_to, posting_row, order_row, posting_rows, order_rows, settled_by}
use Rattle.rtgs_statements.specs.declared.party.Party.{Party}
use Rattle.rtgs_statements.specs.Sums.{cents_of, amount_of, party_code, posted, settled_for}
use Rattle.rtgs_statements.specs.Texts.{text_of}
use Rattle.rtgs_statements.proofs.Terms.{sum-cons}
use Rattle.rtgs_statements.proofs.Nexts.{next_splits, next_ends, next_above, all_left}
use Rattle.rtgs_lists.proofs.Filters.{filter_twice}

numbers_from_one : {A : Type 0} (number : A → ℕ) (xs : List A) → AreNumbered (map number xs)
    → map number xs ≡ range_with_len 1 (length xs)
numbers_from_one number xs numbered =
    subst (λ n. map number xs ≡ range_with_len 1 n) (length-map xs number) numbered.0

-- ---- postings

-- those of the date above a number
abbrev pub postings_left : ℕ → ℕ → Book → List Posting
postings_left date number book = filter (is_posting_after date number) book.postings

pub postings_begin : (date : ℕ) (book : Book) → IsSound book → postings_left date 0 book
    ≡ postings_on date book.postings
postings_begin date book sound = all_left (λ (p : Posting). p.number) (is_posted_on date) book.postings
    (numbers_from_one (λ (p : Posting). p.number) book.postings sound.postings_numbered)

module _ (date number : ℕ) (book : Book) where
  pub posting_splits : (next : Posting) → AreNumberedInOrder (λ (p : Posting). p.number) book.postings
      → posting_after book date number ≡ Some next
      → postings_left date number book ≡ next ∷ postings_left date next.number book
  unfolding posting_after
  posting_splits next numbers is = next_splits (λ (p : Posting). p.number) (is_posted_on date)
      number next book.postings numbers is

  pub postings_end : posting_after book date number ≡ None → postings_left date number book ≡ []
  unfolding posting_after
  postings_end is = next_ends (λ (p : Posting). p.number) (is_posted_on date) number book.postings is

  pub posting_is_above : (next : Posting) → posting_after book date number ≡ Some next → number < next.number
  unfolding posting_after
  posting_is_above next is = next_above (λ (p : Posting). p.number) (is_posted_on date) number next
      book.postings is

pub posting_rows_cons : (code : List ℕ) (p : Posting) (ps : List Posting) → posting_rows code (p ∷ ps)
    ≡ posting_row code p ++ posting_rows code ps
posting_rows_cons code p ps = by (is_to code p)
  where
    by : (b : Bool) → text_of (map (λ posting. Record (row_of_posting posting))
        (cond b (p ∷ filter (is_to code) ps) (filter (is_to code) ps)))
        ≡ cond b (row_text (row_of_posting p)) [] ++ posting_rows code ps
    by true = refl
    by false = refl

-- what was written and the rows that are left, with the next posting's row apart; and so the sum
module _ (code : List ℕ) (date number : ℕ) (book : Book) (next : Posting) (numbers : AreNumberedInOrder
    (λ (p : Posting). p.number) book.postings) (is : posting_after book date number ≡ Some next) where
  pub posting_rows_split : (written whole : List ℕ)
      → written ++ posting_rows code (postings_left date number book) ≡ whole
      → written ++ (posting_row code next ++ posting_rows code (postings_left date next.number book)) ≡ whole
  posting_rows_split written whole joined =
      ap (λ t. written ++ t) (sym (posting_rows_cons code next (postings_left date next.number book))
      ∙ ap (posting_rows code) (sym (posting_splits date number book next numbers is))) ∙ joined

  pub posted_split : posted code (postings_left date number book)
      ≡ cond (is_to code next) next.cents (pos 0) +ℤ posted code (postings_left date next.number book)
  posted_split = ap (posted code) (posting_splits date number book next numbers is)
      ∙ sum-cons cents_of (is_to code) next (postings_left date next.number book)

pub postings_of_are : (code : List ℕ) (date : ℕ) (ps : List Posting) → filter (is_to code) (postings_on date ps)
    ≡ postings_on_statement code date ps
postings_of_are code date ps = filter_twice (is_posted_on date) (is_to code) ps

-- ---- orders

abbrev pub orders_left : ℕ → ℕ → Book → List Order
orders_left date number book = filter (is_order_after date number) book.orders

pub orders_begin : (date : ℕ) (book : Book) → IsSound book → orders_left date 0 book ≡ orders_on date book.orders
orders_begin date book sound = all_left (λ (o : Order). o.number) (is_ordered_on date)
    book.orders (numbers_from_one (λ (o : Order). o.number) book.orders sound.orders_numbered)

module _ (date number : ℕ) (book : Book) where
  pub order_splits : (next : Order) → AreNumberedInOrder (λ (o : Order). o.number) book.orders
      → order_after book date number ≡ Some next
      → orders_left date number book ≡ next ∷ orders_left date next.number book
  unfolding order_after
  order_splits next numbers is = next_splits (λ (o : Order). o.number) (is_ordered_on date)
      number next book.orders numbers is

  pub orders_end : order_after book date number ≡ None → orders_left date number book ≡ []
  unfolding order_after
  orders_end is = next_ends (λ (o : Order). o.number) (is_ordered_on date) number book.orders
      is

  pub order_is_above : (next : Order) → order_after book date number ≡ Some next → number < next.number
  unfolding order_after
  order_is_above next is = next_above (λ (o : Order). o.number) (is_ordered_on date) number
      next book.orders is

pub order_rows_cons : (code : List ℕ) (o : Order) (os : List Order) → order_rows code (o ∷ os)
    ≡ order_row code o ++ order_rows code os
order_rows_cons code o os = by (is_shown_to code o)
  where
    by : (b : Bool) → text_of (map (λ order. Record (row_of_order code order))
        (cond b (o ∷ filter (is_shown_to code) os) (filter (is_shown_to code) os)))
        ≡ cond b (row_text (row_of_order code o)) [] ++ order_rows code os
    by true = refl
    by false = refl

-- what was written and the rows that are left, with the next order's row apart; and so the sums
module _ (code : List ℕ) (date number : ℕ) (book : Book) (next : Order) (numbers : AreNumberedInOrder
    (λ (o : Order). o.number) book.orders) (is : order_after book date number ≡ Some next) where
  pub order_rows_split : (written whole : List ℕ)
      → written ++ order_rows code (orders_left date number book) ≡ whole
      → written ++ (order_row code next ++ order_rows code (orders_left date next.number book)) ≡ whole
  order_rows_split written whole joined =
      ap (λ t. written ++ t) (sym (order_rows_cons code next (orders_left date next.number book))
      ∙ ap (order_rows code) (sym (order_splits date number book next numbers is))) ∙ joined

  pub settled_split : (party : Party) → settled_for party code (orders_left date number book)
      ≡ settled_by party code next +ℤ settled_for party code (orders_left date next.number book)
  settled_split party = ap (settled_for party code) (order_splits date number book next numbers is)
      ∙ sum-cons amount_of (λ order. is_settled order && bytes_eq (party_code party order) code) next
      (orders_left date next.number book)

pub orders_of_are : (code : List ℕ) (date : ℕ) (os : List Order) → filter (is_shown_to code) (orders_on date os)
    ≡ orders_on_statement code date os
orders_of_are code date os = filter_twice (is_ordered_on date) (is_shown_to code) os

-- ---- marks

abbrev pub marks_left : ℕ → ℕ → Book → List Mark
marks_left date number book = filter (is_mark_after date number) book.marks

pub marks_begin : (date : ℕ) (book : Book) → IsSound book → marks_left date 0 book ≡ marks_on date book.marks
marks_begin date book sound = all_left (λ (m : Mark). m.number) (is_marked_on date)
    book.marks (numbers_from_one (λ (m : Mark). m.number) book.marks sound.marks_numbered)

module _ (date number : ℕ) (book : Book) where
  pub mark_splits : (next : Mark) → AreNumberedInOrder (λ (m : Mark). m.number) book.marks
      → mark_after book date number ≡ Some next
      → marks_left date number book ≡ next ∷ marks_left date next.number book
  unfolding mark_after
  mark_splits next numbers is = next_splits (λ (m : Mark). m.number) (is_marked_on date)
      number next book.marks numbers is

  pub marks_end : mark_after book date number ≡ None → marks_left date number book ≡ []
  unfolding mark_after
  marks_end is = next_ends (λ (m : Mark). m.number) (is_marked_on date) number book.marks is

  pub mark_is_above : (next : Mark) → mark_after book date number ≡ Some next → number < next.number
  unfolding mark_after
  mark_is_above next is = next_above (λ (m : Mark). m.number) (is_marked_on date) number
      next book.marks is

-- ---- codes

pub one_code_more : (codes all more : List (List ℕ)) (i : ℕ) (code : List ℕ) → slice_get all i ≡ Some code
    → codes ≡ take i all → more ≡ codes ++ code ∷ [] → (more ≡ take (i + 1) all) × (i + 1 ≤ length all)
one_code_more codes all more i code there before is =
    let less = slice_get_within all i code there in (
      is ∙ ap (λ t. t ++ code ∷ []) before
          ∙ ap (λ c. take i all ++ c ∷ []) (sym (get_or_from_slice_get all i code code there))
          ∙ sym (take_more all i code less),
      omega (arith, less),
    )
