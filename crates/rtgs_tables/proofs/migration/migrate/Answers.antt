use Rattle.std.proofs.Common.{Err, true≢false, sym, ap, ◌∙◌}
use Rattle.sqlite.specs.Held.{state}
use Rattle.rtgs_book.specs.declared.fault.Fault.TheVariants.{StoreFault}
use Rattle.rtgs_rows.specs.Migrating.{Migrates}
use Rattle.rtgs_tables.proofs.Migrating.{explained_migrates, failed_migrates, wrote_migrates, stayed_migrates}
use Rattle.rtgs_tables.proofs.Judging.{passed_as}
use Rattle.rtgs_tables.proofs.Settling.{leaves_on}
use Rattle.rtgs_tables.proofs.Migrating.{of_fault, written, unwritten, was_clean, keeps_then, newest_judged}
use Rattle.rtgs_tables.proofs.Migrating.{memory_of}
use Rattle.rtgs_tables.proofs.migration.migrate.Goals as goal

pub returns-in_err-version-clause-migrates : goal.returns-in_err-version-clause-migrates
returns-in_err-version-clause-migrates g c clean =
    let old = c.args.conn.now in
    let new = c.judged_version.new.conn in
    of_fault (Migrates g.S.Store old new) c.from_residual.result _ c.from_residual.ensures.1
    (explained_migrates g.S.Store c.records_stand_in_order.ensures old new (g.met.S.Store.settled old.store)
    (unwritten (state g.S.Store old) (state g.S.Store new) c.judged_version.ensures.survives) clean _
    (c.in_err-version.ensures.explained clean))

pub returns-in_err-upgrade-clause-migrates : goal.returns-in_err-upgrade-clause-migrates
returns-in_err-upgrade-clause-migrates g c clean =
    let old = c.args.conn.now in
    let mid = c.judged_version.new.conn in
    let new = c.upgrade.new.conn in
    let survives = written (state g.S.Store old) (state g.S.Store mid) (state g.S.Store new) c.in_ok-version.version
    c.in_ok-version.ensures.judged (λ is. c.in_ok-version.ensures.same is (λ e. cc)) c.if-version-lt-VERSION.true
    c.judged_version.ensures.survives c.upgrade.ensures.crash in
    of_fault (Migrates g.S.Store old new) c.from_residual-in_err-upgrade.result _
    c.from_residual-in_err-upgrade.ensures.1
    (failed_migrates g.S.Store c.records_stand_in_order.ensures old new (g.met.S.Store.settled old.store) survives clean
    _ c.in_err-upgrade.ensures.kinds)

pub returns-in_err-upgrade-clause-only : goal.returns-in_err-upgrade-clause-only
returns-in_err-upgrade-clause-only g c clean written other =
    let old = state g.S.Store c.args.conn.now in
    let mid = state g.S.Store c.judged_version.new.conn in
    let was = was_clean mid (state g.S.Store c.upgrade.new.conn) c.upgrade.ensures.crash clean in
    let memory = memory_of c.in_err-upgrade.field-0.0 c.in_err-upgrade.ensures.kinds (λ store. other (passed_as
    c.upgrade.result _ StoreFault c.from_residual-in_err-upgrade.result c.in_err-upgrade.was
    c.from_residual-in_err-upgrade.ensures.1 (c.in_err-upgrade.was ∙ ap Err store))) in
    let kept = c.upgrade.ensures.memory clean (c.in_err-upgrade.was ∙ ap Err memory) in (
      keeps_then old mid _ (c.in_ok-version.ensures.same was (λ e. cc)) kept.0,
      λ trees left. leaves_on old mid c.judged_version.ensures.survives was trees (kept.1 trees left),
    )

pub returns-in_ok-upgrade-clause-migrates : goal.returns-in_ok-upgrade-clause-migrates
returns-in_ok-upgrade-clause-migrates g c clean =
    let old = c.args.conn.now in
    let mid = c.judged_version.new.conn in
    let new = c.upgrade.new.conn in
    let survives = written (state g.S.Store old) (state g.S.Store mid) (state g.S.Store new) c.in_ok-version.version
    c.in_ok-version.ensures.judged (λ is. c.in_ok-version.ensures.same is (λ e. cc)) c.if-version-lt-VERSION.true
    c.judged_version.ensures.survives c.upgrade.ensures.crash in
    let was = was_clean (state g.S.Store mid) (state g.S.Store new) c.upgrade.ensures.crash clean in
    let it = c.in_ok-version.ensures.judged was in
    wrote_migrates g.S.Store c.records_stand_in_order.ensures old new (g.met.S.Store.settled old.store) survives clean
    c.in_ok-version.version it.0 it.1 c.if-version-lt-VERSION.true
    (λ content rests none. c.in_ok-upgrade.ensures.done clean content
    ((c.in_ok-version.ensures.same was (λ e. cc)).rests c.in_ok-version.version content rests) none)

pub returns-else-version-lt-VERSION-clause-migrates : goal.returns-else-version-lt-VERSION-clause-migrates
returns-else-version-lt-VERSION-clause-migrates g c clean =
    let old = c.args.conn.now in
    let new = c.judged_version.new.conn in
    let it = c.in_ok-version.ensures.judged clean in
    stayed_migrates g.S.Store c.records_stand_in_order.ensures old new (g.met.S.Store.settled old.store)
    (unwritten (state g.S.Store old) (state g.S.Store new) c.judged_version.ensures.survives) clean
    c.in_ok-version.version it.0 it.1 c.if-version-lt-VERSION.false (c.in_ok-version.ensures.same clean (λ e. cc))

pub returns-else-version-lt-VERSION-clause-given : goal.returns-else-version-lt-VERSION-clause-given
returns-else-version-lt-VERSION-clause-given g c clean =
    let it = c.in_ok-version.ensures.judged clean in
    record {
      version = c.in_ok-version.version;
      book = it.0;
      judged = it.1;
      older = λ e. absurd (true≢false (sym e));
      newest = λ e. newest_judged (state g.S.Store c.args.conn.now) c.in_ok-version.version it.0 it.1
          c.if-version-lt-VERSION.false;
    }
