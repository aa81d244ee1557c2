use Rattle.std.proofs.Common.{◌≡◌, arith, rules, subst}
use Rattle.sqlite.specs.State.{HasCleanDisk, Survives}
use Rattle.sqlite.specs.Tree.{Trees}
use Rattle.sqlite.specs.Held.{state}
use Rattle.rtgs_rows.specs.Content.{Holds, Rests}
use Rattle.rtgs_sql_columns.specs.Blank.{IsBlank}
use Rattle.rtgs_rows.specs.Keeping.{first_content}
use Rattle.rtgs_sql_writes.proofs.StateLemmas.{rests_committed, survives_commit}
use Rattle.rtgs_sql_writes.proofs.CreateLemmas.{built_begun}
use Rattle.rtgs_sql_writes.proofs.create.create_tables.Goals as goal

pub returns-in-Ok-commit-clause-done : goal.returns-in-Ok-commit-clause-done
returns-in-Ok-commit-clause-done g c clean blank =
    let old = c.args.conn.now in
    let mid = c.build.new.tx.conn.now in
    let end = c.commit.new.self.0 in
    let same : end ≡ c.conn-2-1.given.0 = search rules in
    let late : HasCleanDisk (state g.S.Store end) = search rules in
    let staged = c.in-Ok.ensures.made (omega (arith, c.commit.ensures.survives.clean)) (state g.S.Store old).committed
    (rw c.transaction-tx.ensures.begun (built_begun g.S.Store old blank)) in
    subst (λ h. Rests first_content (state g.S.Store h)) same
    (rests_committed _ (state g.S.Store mid) (state g.S.Store end) _ staged (c.in-Ok-commit.ensures.ok late).1)

pub returns-in-Ok-commit-clause-crash : goal.returns-in-Ok-commit-clause-crash
returns-in-Ok-commit-clause-crash g c =
    let old = c.args.conn.now in
    let mid = c.build.new.tx.conn.now in
    let end = c.commit.new.self.0 in
    let same : end ≡ c.conn-2-1.given.0 = search rules in
    let P = λ (trees : Trees). IsBlank (state g.S.Store old) → Holds first_content trees in
    let made = λ (clean : HasCleanDisk (state g.S.Store end)) (blank : IsBlank (state g.S.Store old)).
    (c.in-Ok.ensures.made (omega (arith, c.commit.ensures.survives.clean)) (state g.S.Store old).committed
    (rw c.transaction-tx.ensures.begun (built_begun g.S.Store old blank))).holds in
    subst (λ h. Survives (state g.S.Store old) (state g.S.Store h) P) same
    (survives_commit g.S.Store old (state g.S.Store mid) (state g.S.Store end) P made
    (rw c.transaction-tx.ensures.begun at c.build.ensures.survives) c.commit.ensures.survives)

pub returns-in-Err-commit-clause-crash : goal.returns-in-Err-commit-clause-crash
returns-in-Err-commit-clause-crash g c =
    let old = c.args.conn.now in
    let mid = c.build.new.tx.conn.now in
    let end = c.commit.new.self.0 in
    let same : end ≡ c.conn-2-1.given.0 = search rules in
    let P = λ (trees : Trees). IsBlank (state g.S.Store old) → Holds first_content trees in
    let made = λ (clean : HasCleanDisk (state g.S.Store end)) (blank : IsBlank (state g.S.Store old)).
    (c.in-Ok.ensures.made (omega (arith, c.commit.ensures.survives.clean)) (state g.S.Store old).committed
    (rw c.transaction-tx.ensures.begun (built_begun g.S.Store old blank))).holds in
    subst (λ h. Survives (state g.S.Store old) (state g.S.Store h) P) same
    (survives_commit g.S.Store old (state g.S.Store mid) (state g.S.Store end) P made
    (rw c.transaction-tx.ensures.begun at c.build.ensures.survives) c.commit.ensures.survives)
