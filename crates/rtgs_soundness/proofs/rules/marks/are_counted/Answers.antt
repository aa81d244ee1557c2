use Rattle.std.proofs.Common.{true≢false, sym, ◌∙◌, subst}
use Rattle.rtgs_book.specs.declared.mark.Mark.{Mark}
use Rattle.rtgs_soundness.specs.Tallies.{IsCounted, tally_of_mark}
use Rattle.rtgs_soundness.proofs.Marks.{tally_here}
use Rattle.rtgs_soundness.proofs.Totals.{all_more}
use Rattle.rtgs_soundness.proofs.rules.marks.are_counted.Goals as goal
use Rattle.rtgs_lists.proofs.Lists.{all_get}

pub loop-place-preserved : goal.loop-place-preserved
loop-place-preserved c = λ orders are.
    let mark = c.index-marks-place.result in
    let here = tally_here orders c.args.tallies.now c.args.marks.now c.loop-place.place mark c.requires.numbered
    c.requires.length c.loop-place-test.true c.index-marks-place.is are in
    all_more (λ (m : Mark). IsCounted m (tally_of_mark orders m.number)) c.args.marks.now c.loop-place.place mark
    c.loop-place-test.true c.index-marks-place.is (c.loop-place.invariant orders are)
    (subst (IsCounted mark) here (c.agrees_with.ensures.0 c.if-not-agrees_with.false))

pub returns-then-not-agrees_with : goal.returns-then-not-agrees_with
returns-then-not-agrees_with c = λ orders are.
    let mark = c.index-marks-place.result in
    let here = tally_here orders c.args.tallies.now c.args.marks.now c.loop-place.place mark c.requires.numbered
    c.requires.length c.loop-place-test.true c.index-marks-place.is are in (
      λ e. absurd (true≢false (sym e)),
      λ all. absurd (true≢false (sym (c.agrees_with.ensures.1 (subst (IsCounted mark) (sym here)
          (all_get (λ (m : Mark). IsCounted m (tally_of_mark orders m.number)) c.args.marks.now c.loop-place.place mark
          c.loop-place-test.true c.index-marks-place.is all))) ∙ c.if-not-agrees_with.true)),
    )
