use Rattle.std.proofs.Common.{List, take}
use Rattle.std.specs.List.{AllByRecursion}
use Rattle.rtgs_book.specs.declared.mark.Mark.{Mark}
use Rattle.rtgs_book.specs.declared.order.Order.{Order}
use Rattle.rtgs_soundness.specs.Tallies.{AreTallies, IsCounted, tally_of_mark}
use Rattle.rtgs_soundness.proofs.rules.marks.are_counted.Given as goal

abbrev pub invariant-loop-place : goal.invariant-loop-place
invariant-loop-place l = (orders : List Order) → AreTallies orders l.tallies
    → AllByRecursion (λ (m : Mark). IsCounted m (tally_of_mark orders m.number)) (take l.place l.marks)
