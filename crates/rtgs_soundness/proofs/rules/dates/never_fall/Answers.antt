use Rattle.std.proofs.Common.{sym, true≢false}
use Rattle.rtgs_soundness.proofs.Loops.{rise_more, fallen, risen_all}
use Rattle.rtgs_soundness.proofs.rules.dates.never_fall.Goals as goal

pub loop-row-preserved : goal.loop-row-preserved
loop-row-preserved g c = rise_more g.T.Recorded.date_of c.args.rows.now c.args.last c.loop-row.latest
    c.loop-row.row-index c.date_number-date.result c.row-item.result c.loop-row.invariant c.loop-row-test.true
    c.row-item.is c.date_number-date.ensures c.if-date-latest.false

pub returns-then-date-latest : goal.returns-then-date-latest
returns-then-date-latest g c = (
  λ e. absurd (true≢false (sym e)),
  λ h. absurd (fallen g.T.Recorded.date_of c.args.rows.now c.args.last c.loop-row.latest c.loop-row.row-index
      c.date_number-date.result c.row-item.result c.loop-row.invariant c.loop-row-test.true c.row-item.is
      c.date_number-date.ensures c.if-date-latest.true h),
)

pub returns : goal.returns
returns g c = risen_all g.T.Recorded.date_of c.args.rows.now c.args.last c.loop-row.latest c.loop-row.row-index
    c.loop-row-test.false c.loop-row.invariant
