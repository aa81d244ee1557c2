use Rattle.std.proofs.Common.{◌≡◌, Bool, true, false, refl, arith}
use Rattle.std.proofs.lemmas.Int.{ints}
use Rattle.std.specs.List.{IsDistinct}
use Rattle.std.specs.List.Sorted.{IsStrictlySortedBy}
use Rattle.rtgs_book.specs.Lookup.{codes_of}
use Rattle.rtgs_book.specs.Balance.{total}
use Rattle.rtgs_book.proofs.laws.new_book_is_sound.Goals as goal

pub returns : goal.returns
unfolding codes_of total IsDistinct IsStrictlySortedBy
returns c = record {
  orders_numbered = (refl, omega arith);
  postings_numbered = (refl, omega arith);
  marks_numbered = (refl, omega arith);
  codes_rise = (tt, omega arith);
  keys_distinct = tt;
  order_references = tt;
  posting_references = tt;
  parties = (tt, tt);
  marks = (tt, tt);
  queues = record { closed = λ _. refl; short = tt; of_the_day = tt };
  dates = record {
    dated = λ e. absurd (let clash : ◌≡◌ {A = Bool} true false = e in cc);
    weekday = λ e. absurd (let clash : ◌≡◌ {A = Bool} false true = e in cc);
    order_weekdays = tt;
    mark_weekdays = tt;
    orders = tt;
    dues = tt;
    marks = tt;
    postings = tt;
  };
  floors = tt;
  total_fits = omega (arith, ints);
  automatic_fits = λ _. refl;
}
