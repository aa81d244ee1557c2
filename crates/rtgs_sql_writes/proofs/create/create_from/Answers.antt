use Rattle.std.proofs.Common.{◌≡◌, ◌∙◌, ◌-◌, ◌<◌, [], ◌++◌, replicate, length, arith, subst}
use Rattle.sqlite.specs.State.{HasCleanDisk}
use Rattle.sqlite.specs.Effect.{Database}
use Rattle.sqlite.specs.Held.{state}
use Rattle.rtgs_rows.specs.Content.{Tables}
use Rattle.rtgs_rows.specs.Tables.{table_count}
use Rattle.rtgs_rows.specs.declared.numbers.TheConstants.{VERSION}
use Rattle.rtgs_sql_writes.specs.Building.{IsBuilt}
use Rattle.rtgs_sql_writes.specs.declared.create.TheConstants.{TABLES}
use Rattle.rtgs_sql_writes.proofs.CreateLemmas.{was_clean, built_on}
use Rattle.rtgs_sql_writes.proofs.CreateTexts.{made_at, all_made}
use Rattle.rtgs_sql_writes.proofs.Keeps.{survives_on, keeps_on}
use Rattle.rtgs_sql_writes.proofs.create.create_from.Goals as goal

pub loop-at-preserved : goal.loop-at-preserved
loop-at-preserved g c =
    let old = state g.S.Store c.args.tx.now.conn.now in
    let mid = state g.S.Store c.loop-at.tx.conn.now in
    let now = state g.S.Store c.create_table.new.tx.conn.now in
    let inv = c.loop-at.invariant in
    let step = c.in_ok-create_table.ensures in
    record {
      same_reference = step.same_reference ∙ inv.same_reference;
      survives = survives_on old mid now inv.survives step.survives;
      kept = λ (clean : HasCleanDisk now). keeps_on old mid now (inv.kept (was_clean mid now step.survives clean))
          (step.kept clean);
      made = λ (clean : HasCleanDisk now) (was : Database) (rows : Tables) (is : IsBuilt was c.args.from rows old).
          let low : c.loop-at.at < length TABLES = omega (arith, c.loop-at-test.true) in
          built_on was c.args.from c.loop-at.at rows now (omega (arith, c.loop-at.auto.at)) (step.made clean was
          c.loop-at.at (rows ++ replicate (c.loop-at.at - c.args.from) [])
          (inv.made (was_clean mid now step.survives clean) was rows is) (search (made_at, all_made, low)));
    }

pub returns-clause-made : goal.returns-clause-made
returns-clause-made g c clean was rows is =
    let mid = state g.S.Store c.loop-at.tx.conn.now in
    let all : c.loop-at.at ≡ table_count VERSION =
    omega (arith, c.loop-at-test.false, c.requires, c.loop-at.auto.at-end) in
    subst (λ n. IsBuilt was n (rows ++ replicate (n - c.args.from) []) mid) all
    (c.loop-at.invariant.made clean was rows is)
