use Rattle.rtgs_book.specs.declared.mark.Mark.{Mark}
use Rattle.rtgs_soundness.proofs.Loops.{weekdays}
use Rattle.rtgs_soundness.proofs.rules.dates.are_mark_weekdays.Goals as goal

pub returns : goal.returns
returns c = rw c.each_mark_is_on_a_weekday.ensures (weekdays (λ (x : Mark). x.date) c.args.marks.now)
