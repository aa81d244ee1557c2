-- Cutting off a day keeps a book sound.
use Rattle.std.proofs.Common.{◌≡◌, ℕ, true, false, refl, sym}
use Rattle.std.proofs.Common.{true≢false}
use Rattle.rtgs_book.specs.declared.book.Book.{Book}
use Rattle.rtgs_book.specs.declared.day.Day.{Day}
use Rattle.rtgs_book.specs.declared.phase.Phase.{Phase}
use Rattle.rtgs_book.specs.declared.phase.Phase.TheVariants.{Closed, Open, CutOff}
use Rattle.rtgs_book.specs.Books.{is_closed, is_open}
use Rattle.rtgs_book.specs.Lookup.{participant_of, credit_of, codes_of, is_participant}
use Rattle.rtgs_book.specs.Balance.{balance, floor, total}
use Rattle.rtgs_book.specs.Queue.{waiting}
use Rattle.rtgs_book.specs.Commands.{with_day, cut_off}
use Rattle.rtgs_book.specs.Soundness.{QueuesFit, DatesFit, FloorsHold, AutomaticFits, IsSound}
use Rattle.rtgs_laws.proofs.Outcomes.{sound_first_of}
use Rattle.rtgs_lists.proofs.Lists.{all_weaker}
use Rattle.rtgs_lists.proofs.Bools.{from_not}

-- what the day does not touch stays
pub sound_with_day : (book : Book) (day : Day) → IsSound book → QueuesFit (with_day book day)
    → DatesFit (with_day book day) → FloorsHold (with_day book day) → AutomaticFits (with_day book day)
    → IsSound (with_day book day)
unfolding codes_of is_participant balance total
sound_with_day book day h queues dates floors choice = record {
  orders_numbered = h.orders_numbered;
  postings_numbered = h.postings_numbered;
  marks_numbered = h.marks_numbered;
  codes_rise = h.codes_rise;
  keys_distinct = h.keys_distinct;
  order_references = h.order_references;
  posting_references = h.posting_references;
  parties = h.parties;
  marks = (
    h.marks.0,
    all_weaker _ _ (λ m c. record { some = c.some; count = c.count; value = c.value }) book.marks
        h.marks.1,
  );
  queues = queues;
  dates = dates;
  floors = floors;
  total_fits = h.total_fits;
  automatic_fits = choice;
}

pub open_not_closed : (p : Phase) → is_open p ≡ true → is_closed p ≡ false
open_not_closed Closed e = absurd (true≢false (sym e))
open_not_closed Open e = refl
open_not_closed CutOff e = refl

cut_off_sound : (book : Book) → IsSound book → is_closed book.day.phase ≡ false
    → IsSound (with_day book (record book.day { phase = CutOff }))
unfolding waiting floor credit_of participant_of codes_of balance
cut_off_sound book h e = sound_with_day book (record book.day { phase = CutOff }) h
    (record { closed = λ c. absurd (true≢false (sym c)); short = h.queues.short; of_the_day = h.queues.of_the_day })
    (record {
      dated = λ _. h.dates.dated e;
      weekday = h.dates.weekday;
      order_weekdays = h.dates.order_weekdays;
      mark_weekdays = h.dates.mark_weekdays;
      orders = h.dates.orders;
      dues = h.dates.dues;
      marks = h.dates.marks;
      postings = h.dates.postings;
    })
    (all_weaker _ _ (λ code x. rw e at x) (codes_of book) h.floors) (λ c. absurd (true≢false (sym c)))

pub sound_cut_off : (book : Book) (date : ℕ) → IsSound book → IsSound (cut_off book date).book
unfolding cut_off
sound_cut_off book date h = sound_first_of book _ _ h (λ passed. cut_off_sound book h
    (open_not_closed book.day.phase (from_not _ passed.1.0)))
