use Rattle.std.proofs.Common.{◌≡◌, arith, rules, subst}
use Rattle.sqlite.specs.State.{HasCleanDisk, Survives}
use Rattle.sqlite.specs.Tree.{Trees}
use Rattle.sqlite.specs.Held.{state}
use Rattle.rtgs_rows.specs.Content.{Content, Holds, Rests, RestsIn}
use Rattle.rtgs_rows.specs.Migrating.{HasNoMore}
use Rattle.rtgs_sql_writes.proofs.StateLemmas.{rests_committed, survives_commit}
use Rattle.rtgs_sql_writes.proofs.UpgradeLemmas.{built_before}
use Rattle.rtgs_sql_writes.proofs.upgrade.upgrade_tables.Goals as goal

pub returns-in-Ok-commit-clause-done : goal.returns-in-Ok-commit-clause-done
returns-in-Ok-commit-clause-done g c clean content rests none =
    let old = c.args.conn.now in
    let mid = c.upgrade.new.tx.conn.now in
    let end = c.commit.new.self.0 in
    let same : end ≡ c.conn-2-1.given.0 = search rules in
    let late : HasCleanDisk (state g.S.Store end) = search rules in
    let begun = built_before g.S.Store old c.args.version content rests in
    let staged = c.in-Ok.ensures.made (omega (arith, c.commit.ensures.survives.clean)) (state g.S.Store old).committed
    content rests.known none (rw c.transaction-tx.ensures.begun begun) in
    subst (λ h. Rests content (state g.S.Store h)) same
    (rests_committed _ (state g.S.Store mid) (state g.S.Store end) _ staged (c.in-Ok-commit.ensures.ok late).1)

pub returns-in-Ok-commit-clause-crash : goal.returns-in-Ok-commit-clause-crash
returns-in-Ok-commit-clause-crash g c =
    let old = c.args.conn.now in
    let mid = c.upgrade.new.tx.conn.now in
    let end = c.commit.new.self.0 in
    let same : end ≡ c.conn-2-1.given.0 = search rules in
    let P = λ (trees : Trees). (content : Content) → RestsIn c.args.version content (state g.S.Store old)
    → HasNoMore c.args.version content → Holds content trees in
    let made : HasCleanDisk (state g.S.Store end) → P (state g.S.Store mid).now.trees = λ clean content rests none.
    (c.in-Ok.ensures.made (omega (arith, c.commit.ensures.survives.clean)) (state g.S.Store old).committed content
    rests.known none (rw c.transaction-tx.ensures.begun (built_before g.S.Store old c.args.version content
    rests))).holds in
    subst (λ h. Survives (state g.S.Store old) (state g.S.Store h) P) same
    (survives_commit g.S.Store old (state g.S.Store mid) (state g.S.Store end) P made
    (rw c.transaction-tx.ensures.begun at c.upgrade.ensures.survives) c.commit.ensures.survives)

pub returns-in-Err-commit-clause-crash : goal.returns-in-Err-commit-clause-crash
returns-in-Err-commit-clause-crash g c =
    let old = c.args.conn.now in
    let mid = c.upgrade.new.tx.conn.now in
    let end = c.commit.new.self.0 in
    let same : end ≡ c.conn-2-1.given.0 = search rules in
    let P = λ (trees : Trees). (content : Content) → RestsIn c.args.version content (state g.S.Store old)
    → HasNoMore c.args.version content → Holds content trees in
    let made : HasCleanDisk (state g.S.Store end) → P (state g.S.Store mid).now.trees = λ clean content rests none.
    (c.in-Ok.ensures.made (omega (arith, c.commit.ensures.survives.clean)) (state g.S.Store old).committed content
    rests.known none (rw c.transaction-tx.ensures.begun (built_before g.S.Store old c.args.version content
    rests))).holds in
    subst (λ h. Survives (state g.S.Store old) (state g.S.Store h) P) same
    (survives_commit g.S.Store old (state g.S.Store mid) (state g.S.Store end) P made
    (rw c.transaction-tx.ensures.begun at c.upgrade.ensures.survives) c.commit.ensures.survives)
