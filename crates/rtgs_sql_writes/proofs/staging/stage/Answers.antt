use Rattle.std.proofs.Common.{◌∙◌, arith, subst, take_all}
use Rattle.std.specs.List.{AllByRecursion}
use Rattle.rtgs_rows.specs.Fitting.{FitsRow}
use Rattle.rtgs_rows.specs.Content.{Content, AreInOrder}
use Rattle.rtgs_sql_writes.specs.Staging.{ChangesTables}
use Rattle.rtgs_sql_writes.proofs.Leading.{leads_on}
use Rattle.rtgs_sql_writes.proofs.Changing.{more_changes, formed_more, order_at, order_after}
use Rattle.sqlite.specs.State.{HasCleanDisk}
use Rattle.sqlite.specs.Held.{state}
use Rattle.rtgs_sql_writes.proofs.Keeps.{survives_on, keeps_on}
use Rattle.rtgs_sql_writes.proofs.staging.stage.Goals as goal

pub loop-row-preserved : goal.loop-row-preserved
loop-row-preserved g c =
    let old = state g.S.Store c.args.tx.now.conn.now in
    let mid = state g.S.Store c.loop-row.tx.conn.now in
    let now = state g.S.Store c.stage_row.new.tx.conn.now in
    let inv = c.loop-row.invariant in
    let step = c.in_ok-stage_row.ensures in
    record {
      same_reference = step.same_reference ∙ inv.same_reference;
      survives = survives_on old mid now inv.survives step.survives;
      kept = λ (clean : HasCleanDisk now). keeps_on old mid now (inv.kept (omega (arith, step.survives.clean)))
          (step.kept clean);
      formed = formed_more c.args.rows.now c.loop-row.row-index c.row-item.result (omega arith) c.row-item.is inv.formed
          step.formed;
      made = λ (content : Content) (order : AreInOrder content c.args.rows.now).
          let at = order_at c.args.rows.now c.loop-row.row-index c.row-item.result content (omega arith) c.row-item.is
          order in
          let after = order_after c.args.rows.now c.loop-row.row-index c.row-item.result content (omega arith)
          c.row-item.is order in
          subst (ChangesTables old now content) (more_changes c.args.rows.now c.loop-row.row-index c.row-item.result
          content
          (omega arith) c.row-item.is)
          (leads_on old mid now content _ _ step.survives (inv.made content order) (step.made _ at after));
    }

pub returns-in_err-stage_row-clause-same_reference : goal.returns-in_err-stage_row-clause-same_reference
returns-in_err-stage_row-clause-same_reference g c = c.in_err-stage_row.ensures.same_reference
    ∙ c.loop-row.invariant.same_reference

pub returns-in_err-stage_row-clause-kept : goal.returns-in_err-stage_row-clause-kept
returns-in_err-stage_row-clause-kept g c clean =
    keeps_on (state g.S.Store c.args.tx.now.conn.now) (state g.S.Store c.loop-row.tx.conn.now)
    (state g.S.Store c.stage_row.new.tx.conn.now)
    (c.loop-row.invariant.kept (omega (arith, c.in_err-stage_row.ensures.survives.clean)))
    (c.in_err-stage_row.ensures.kept clean)

pub returns-in_err-stage_row-clause-survives : goal.returns-in_err-stage_row-clause-survives
returns-in_err-stage_row-clause-survives g c =
    survives_on (state g.S.Store c.args.tx.now.conn.now) (state g.S.Store c.loop-row.tx.conn.now)
    (state g.S.Store c.stage_row.new.tx.conn.now) c.loop-row.invariant.survives c.in_err-stage_row.ensures.survives

pub returns-clause-made : goal.returns-clause-made
returns-clause-made g c content order =
    rw (take_all c.loop-row.row-index c.args.rows.now (omega arith)) at (c.loop-row.invariant.made content order)

pub returns-clause-formed : goal.returns-clause-formed
returns-clause-formed g c = subst (AllByRecursion FitsRow) (take_all c.loop-row.row-index c.args.rows.now (omega arith))
    c.loop-row.invariant.formed
