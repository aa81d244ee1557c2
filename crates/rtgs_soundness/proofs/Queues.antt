-- What a test of queues says of a book.
use Rattle.std.proofs.Common.{◌≡◌, ℕ, ◌≤◌, pos, ◌≤ℤ◌, Bool, true, false, not, ◌&&◌, ◌||◌, ◌==◌, cond, List, [], ◌∷◌}
use Rattle.std.proofs.Common.{filter, length, ◌↔◌, refl, sym, ap, ◌∙◌, true≢false, arith}
use Rattle.std.proofs.lemmas.Int.{ints}
use Rattle.std.proofs.lemmas.Bool.{eqb-true, eq-eqb}
use Rattle.std.specs.List.{AllByRecursion, list_all}
use Rattle.rtgs_book.specs.declared.limits.TheConstants.{LONGEST_QUEUE}
use Rattle.rtgs_book.specs.declared.book.Book.{Book}
use Rattle.rtgs_book.specs.declared.participant.Participant.{Participant}
use Rattle.rtgs_book.specs.declared.order.Order.{Order}
use Rattle.rtgs_book.specs.Books.{is_closed, is_queued}
use Rattle.rtgs_book.specs.Lookup.{codes_of}
use Rattle.rtgs_book.specs.Queue.{waiting}
use Rattle.rtgs_book.specs.Settle.{today}
use Rattle.rtgs_book.specs.Soundness.{QueuesFit}
use Rattle.rtgs_lists.proofs.Bools.{and_left, and_right, from_not}
use Rattle.rtgs_lists.proofs.Lists.{all_map, all_weaker, all_unmap}

-- the test of one order
abbrev pub is_queued_on : Bool → ℕ → Order → Bool
is_queued_on is_open date o = not (is_queued o) || (is_open && (o.date == date))

all_on : (is_open : Bool) (date : ℕ) (os : List Order) → list_all (is_queued_on is_open date) os ≡ true
    → (is_open ≡ false → filter is_queued os ≡ []) × AllByRecursion (λ (o : Order). o.date ≡ date) (filter is_queued os)
all_on is_open date [] e = (λ _. refl, tt)
all_on is_open date (o ∷ os) e = by (is_queued o) (and_left _ _ e)
    (all_on is_open date os (and_right (is_queued_on is_open date o) _ e))
  where
    by : (q : Bool) → (not q || (is_open && (o.date == date))) ≡ true
        → (is_open ≡ false → filter is_queued os ≡ []) × AllByRecursion (λ (o : Order). o.date ≡ date)
        (filter is_queued os)
        → (is_open ≡ false → cond q (o ∷ filter is_queued os) (filter is_queued os) ≡ [])
        × AllByRecursion (λ (o : Order). o.date ≡ date) (cond q (o ∷ filter is_queued os) (filter is_queued os))
    by true t rest = (
      λ closed. absurd (true≢false (sym (and_left is_open (o.date == date) t) ∙ closed)),
      (eqb-true o.date date (and_right is_open (o.date == date) t), rest.1),
    )
    by false t rest = rest

on_all : (is_open : Bool) (date : ℕ) (os : List Order) → (is_open ≡ false → filter is_queued os ≡ [])
    → AllByRecursion (λ (o : Order). o.date ≡ date) (filter is_queued os)
    → list_all (is_queued_on is_open date) os ≡ true
on_all is_open date [] none dated = refl
on_all is_open date (o ∷ os) none dated = by (is_queued o) none dated (on_all is_open date os)
  where
    at_open : (b : Bool) → (b ≡ false → o ∷ filter is_queued os ≡ []) → b ≡ true
    at_open true f = refl
    at_open false f = absurd (let e : o ∷ filter is_queued os ≡ [] = f refl in cc)

    by : (q : Bool) → (is_open ≡ false → cond q (o ∷ filter is_queued os) (filter is_queued os) ≡ [])
        → AllByRecursion (λ (o : Order). o.date ≡ date) (cond q (o ∷ filter is_queued os) (filter is_queued os))
        → ((is_open ≡ false → filter is_queued os ≡ []) → AllByRecursion (λ (o : Order). o.date ≡ date)
        (filter is_queued os) → list_all (is_queued_on is_open date) os ≡ true)
        → ((not q || (is_open && (o.date == date))) && list_all (is_queued_on is_open date) os) ≡ true
    by true none dated rest =
        let opened : is_open ≡ true = at_open is_open none in
        rw (rest (λ closed. absurd (true≢false (sym opened ∙ closed))) dated.1, opened, eq-eqb o.date date dated.0) refl
    by false none dated rest = rest none dated

short_length : (n : ℕ) → pos n ≤ℤ pos LONGEST_QUEUE → n ≤ LONGEST_QUEUE
short_length n h = omega (arith, ints)

length_short : (n : ℕ) → n ≤ LONGEST_QUEUE → pos n ≤ℤ pos LONGEST_QUEUE
length_short n h = omega (arith, ints)

pub queues_of : (book : Book) (b : Bool) → AllByRecursion (λ (p : Participant). pos (length (waiting book p.code))
    ≤ℤ pos LONGEST_QUEUE) book.participants → b ≡ list_all (is_queued_on (not (is_closed book.day.phase)) (today book))
    book.orders → (b ≡ true) ↔ QueuesFit book
unfolding codes_of
queues_of book b short is = (
  λ e. let on = all_on (not (is_closed book.day.phase)) (today book) book.orders (sym is ∙ e) in
      record {
        closed = λ closed. on.0 (ap not closed);
        short = all_map (λ code. length (waiting book code) ≤ LONGEST_QUEUE) (λ (p : Participant). p.code)
            book.participants (all_weaker (λ (p : Participant). pos (length (waiting book p.code)) ≤ℤ pos LONGEST_QUEUE)
            (λ (p : Participant). length (waiting book p.code) ≤ LONGEST_QUEUE) (λ p h. short_length _ h)
            book.participants short);
        of_the_day = on.1;
      },
  λ fit. is ∙ on_all (not (is_closed book.day.phase)) (today book) book.orders (λ e. fit.closed (from_not _ e))
      fit.of_the_day,
)

pub long_queue : (book : Book) → QueuesFit book → AllByRecursion
    (λ (p : Participant). pos (length (waiting book p.code)) ≤ℤ pos LONGEST_QUEUE) book.participants
unfolding codes_of
long_queue book fit = all_weaker (λ (p : Participant). length (waiting book p.code) ≤ LONGEST_QUEUE)
    (λ (p : Participant). pos (length (waiting book p.code)) ≤ℤ pos LONGEST_QUEUE) (λ p h. length_short _ h)
    book.participants (all_unmap (λ code. length (waiting book code) ≤ LONGEST_QUEUE) (λ (p : Participant). p.code)
    book.participants fit.short)
