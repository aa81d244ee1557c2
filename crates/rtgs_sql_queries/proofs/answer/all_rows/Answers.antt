use Rattle.std.proofs.Common.{ℕ, List, [], refl, rules, arith}
use Rattle.sqlite.specs.State.{State, HasCleanDisk, Survives, CommitsShowing}
use Rattle.sqlite.specs.Held.{state}
use Rattle.sqlite.proofs.StateLemmas.{survives_weaker}
use Rattle.sqlite_resolve.specs.Compile.{first}
use Rattle.rtgs_sql_queries.specs.Answering.{Returnless}
use Rattle.rtgs_sql_queries.proofs.Answering.{begun_query, shown_from, fails_from}
use Rattle.rtgs_sql_queries.proofs.ReadingAlone.{commits_nothing}
use Rattle.rtgs_sql_queries.proofs.answer.all_rows.Goals as goal

survives_query : (text : List ℕ) (old new : State) → Returnless (first text)
    → Survives old new (CommitsShowing text [] old) → Survives old new (λ _. ⊥)
survives_query text old new is = survives_weaker old new _ _ (λ _ db. commits_nothing text [] old db is)

pub returns-in_err-rows-clause-survives : goal.returns-in_err-rows-clause-survives
returns-in_err-rows-clause-survives g c =
    let old = state g.S.Store c.args.conn.now in
    let new = state g.S.Store c.query.follows.lender-at-none in
    let held = c.query.follows.holds-at-none in
    let kept : Survives old new (CommitsShowing c.args.text.now [] old) = search rules in
    survives_query c.args.text.now old new c.requires kept

pub rows-init : goal.rows-init
rows-init g c =
    let made = c.in_ok-rows.ensures in (
      refl,
      made.mode,
      survives_query _ _ _ c.requires made.survives,
      omega arith,
      λ clean. rw c.new-all.ensures.items (begun_query g.S.Store _ c.args.conn.now _ c.requires (made.begun clean)),
    )

pub returns-in_default-clause-ok : goal.returns-in_default-clause-ok
returns-in_default-clause-ok g c clean =
    let moved = c.next.follows.holds-at-none in
    let now = c.next.follows.lender-at-none.conn.now in
    let late : HasCleanDisk (state g.S.Store now) = search rules in
    let was = c.rows.invariant.4 (omega (arith, moved.survives.clean)) in
    let shown = (rw (c.in_ok-row.was, c.in_default.is) at (moved.ok late)) c.args.text.now [] c.rows.all.items was.0 in
    let whole = shown_from c.args.text.now (state g.S.Store c.args.conn.now) _ (state g.S.Store now) _ c.requires was.1
    shown in
    search rules

pub returns-in_err-row-clause-err : goal.returns-in_err-row-clause-err
returns-in_err-row-clause-err g c clean =
    let moved = c.next.follows.holds-at-none in
    let now = c.next.follows.lender-at-none.conn.now in
    let late : HasCleanDisk (state g.S.Store now) = search rules in
    let was = c.rows.invariant.4 (omega (arith, moved.survives.clean)) in
    let failed = (rw c.in_err-row.was at (moved.err late)) c.args.text.now [] c.rows.all.items was.0 in
    let whole = fails_from c.args.text.now (state g.S.Store c.args.conn.now) _ (state g.S.Store now) _ was.1 c.requires
    c.rows.invariant.2 failed in
    search rules

pub unreachable-requires : goal.unreachable-requires
unreachable-requires g c = omega (arith, c.rows-test.false, c.rows.invariant.3, c.rows.all.ok.1, c.rows.all.small)
