use Rattle.std.proofs.Common.{◌≡◌, arith, rules, subst}
use Rattle.sqlite.specs.State.{HasCleanDisk, Survives}
use Rattle.sqlite.specs.Held.{state}
use Rattle.rtgs_rows.specs.Content.{Rests, with_changes}
use Rattle.rtgs_sql_writes.specs.Staging.{HoldsChange}
use Rattle.rtgs_sql_writes.proofs.StateLemmas.{stands_begun, rests_committed, survives_commit}
use Rattle.rtgs_sql_writes.proofs.staging.write.Goals as goal

pub returns-in-Ok-commit-clause-done : goal.returns-in-Ok-commit-clause-done
returns-in-Ok-commit-clause-done g c clean content rests order =
    let old = c.args.conn.now in
    let mid = c.stage.new.tx.conn.now in
    let end = c.commit.new.self.0 in
    let same : end ≡ c.conn-2-1.given.0 = search rules in
    let late : HasCleanDisk (state g.S.Store end) = search rules in
    let begun = stands_begun g.S.Store old content rests in
    let staged = c.in-Ok.ensures.made content order (omega (arith, c.commit.ensures.survives.clean))
    (state g.S.Store old).committed (rw c.transaction-tx.ensures.begun begun) in
    subst (λ h. Rests (with_changes content c.args.rows.now) (state g.S.Store h)) same
    (rests_committed _ (state g.S.Store mid) (state g.S.Store end) _ staged (c.in-Ok-commit.ensures.ok late).1)

pub returns-in-Ok-commit-clause-crash : goal.returns-in-Ok-commit-clause-crash
returns-in-Ok-commit-clause-crash g c =
    let old = c.args.conn.now in
    let mid = c.stage.new.tx.conn.now in
    let end = c.commit.new.self.0 in
    let same : end ≡ c.conn-2-1.given.0 = search rules in
    let P = HoldsChange (state g.S.Store old) c.args.rows.now in
    let made : HasCleanDisk (state g.S.Store end) → P (state g.S.Store mid).now.trees = λ clean. record {
      formed = c.in-Ok.ensures.formed;
      holds = λ content rests order.
          let begun = stands_begun g.S.Store old content rests in
          (c.in-Ok.ensures.made content order (omega (arith, c.commit.ensures.survives.clean))
          (state g.S.Store old).committed (rw c.transaction-tx.ensures.begun begun)).holds;
    } in
    subst (λ h. Survives (state g.S.Store old) (state g.S.Store h) P) same
    (survives_commit g.S.Store old (state g.S.Store mid) (state g.S.Store end) P made
    (rw c.transaction-tx.ensures.begun at c.stage.ensures.survives) c.commit.ensures.survives)

pub returns-in-Err-commit-clause-crash : goal.returns-in-Err-commit-clause-crash
returns-in-Err-commit-clause-crash g c =
    let old = c.args.conn.now in
    let mid = c.stage.new.tx.conn.now in
    let end = c.commit.new.self.0 in
    let same : end ≡ c.conn-2-1.given.0 = search rules in
    let P = HoldsChange (state g.S.Store old) c.args.rows.now in
    let made : HasCleanDisk (state g.S.Store end) → P (state g.S.Store mid).now.trees = λ clean. record {
      formed = c.in-Ok.ensures.formed;
      holds = λ content rests order.
          let begun = stands_begun g.S.Store old content rests in
          (c.in-Ok.ensures.made content order (omega (arith, c.commit.ensures.survives.clean))
          (state g.S.Store old).committed (rw c.transaction-tx.ensures.begun begun)).holds;
    } in
    subst (λ h. Survives (state g.S.Store old) (state g.S.Store h) P) same
    (survives_commit g.S.Store old (state g.S.Store mid) (state g.S.Store end) P made
    (rw c.transaction-tx.ensures.begun at c.stage.ensures.survives) c.commit.ensures.survives)
