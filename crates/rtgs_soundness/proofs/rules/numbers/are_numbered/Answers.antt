use Rattle.std.proofs.Common.{sym, ◌∙◌, true≢false}
use Rattle.rtgs_soundness.proofs.Loops.{count_more, miscounted, counted_all}
use Rattle.rtgs_soundness.proofs.rules.numbers.are_numbered.Goals as goal

pub loop-index-preserved : goal.loop-index-preserved
loop-index-preserved g c = count_more g.T.Recorded.number_of c.args.rows.now c.loop-index.index
    c.index-rows-index.result c.loop-index.invariant c.loop-index-test.true c.index-rows-index.is
    (sym c.number.ensures ∙ c.if-number-index.false)

pub returns-then-number-index : goal.returns-then-number-index
returns-then-number-index g c = (
  λ e. absurd (true≢false (sym e)),
  λ h. absurd (miscounted g.T.Recorded.number_of c.args.rows.now c.loop-index.index c.index-rows-index.result
      c.loop-index.invariant c.loop-index-test.true c.index-rows-index.is
      (λ e. c.if-number-index.true (c.number.ensures ∙ e)) h),
)

pub returns : goal.returns
returns g c = counted_all g.T.Recorded.number_of c.args.rows.now c.loop-index.index c.loop-index-test.false
    c.loop-index.invariant
