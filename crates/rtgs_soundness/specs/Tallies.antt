-- What a check adds up for each mark, and compares it with.
use Rattle.std.specs.Prelude.{◌≡◌, ℕ, ◌+◌, ◌<◌, ◌≤◌, pos, ◌+ℤ◌, List, filter, length, slice_index_or}
use Rattle.rtgs_soundness.specs.declared.rules.mark_tally.MarkTally.{MarkTally}
use Rattle.rtgs_book.specs.declared.order.Order.{Order}
use Rattle.rtgs_book.specs.declared.mark.Mark.{Mark}
use Rattle.rtgs_book.specs.IntSum.{int_sum_by}
use Rattle.rtgs_book.specs.Soundness.{is_state_under}
use Rattle.rtgs_book.specs.Totals.{Within}

-- one order more, of this amount
abbrev pub with_amount : ℕ → MarkTally → MarkTally
with_amount amount tally = record { count = tally.count +ℤ pos 1; value = tally.value +ℤ pos amount }

-- neither number is past the bound
abbrev pub IsTallyWithin : ℕ → MarkTally → Type 0
IsTallyWithin bound tally = Within bound tally.count × Within bound tally.value

-- what the orders of the mark with this number add up to
abbrev pub tally_of_mark : List Order → ℕ → MarkTally
tally_of_mark orders mark = record {
  count = int_sum_by (λ (o : Order). pos 1) (filter (λ (o : Order). is_state_under mark o.state) orders);
  value = int_sum_by (λ (o : Order). pos o.amount) (filter (λ (o : Order). is_state_under mark o.state) orders);
}

-- the tally of the mark that stands at this place
abbrev pub tally_at : List MarkTally → ℕ → MarkTally
tally_at tallies place = slice_index_or tallies place (record { count = pos 0; value = pos 0 })

-- the tallies are of these orders, for the marks 1, 2, 3 and so on
abbrev pub AreTallies : List Order → List MarkTally → Type 0
AreTallies orders tallies = (place : ℕ) → place < length tallies
    → tally_at tallies place ≡ tally_of_mark orders (place + 1)

-- the mark has this count, which is not 0, and this value
pub record IsCounted (mark : Mark) (tally : MarkTally) : Type 0 where
  pub some : 1 ≤ mark.count
  pub count : pos mark.count ≡ tally.count
  pub value : mark.value ≡ tally.value
