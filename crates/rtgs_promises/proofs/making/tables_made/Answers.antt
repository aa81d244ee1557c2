use Rattle.std.proofs.Common.{arith}
use Rattle.sqlite.specs.Held.{state}
use Rattle.sqlite_trees.specs.View.{IsClean}
use Rattle.rtgs_promises.proofs.Anew.{new_is_blank, none_had}
use Rattle.rtgs_promises.proofs.making.tables_made.Goals as goal

pub returns-in-Ok-clause-held : goal.returns-in-Ok-clause-held
returns-in-Ok-clause-held g c clean empty =
    let it = c.in-Ok.ensures.made clean (new_is_blank (state g.S.Store c.args.conn) empty) in
    (it.1.is_open, (it.0, it.1.holds, it.2))

pub returns-in-Err-clause-ended : goal.returns-in-Err-clause-ended
returns-in-Err-clause-ended g c clean empty given =
    let quiet = c.into_store.ensures.quiet in
    let was : IsClean (g.S.Store.view c.in-Err.left.store) = omega (arith, quiet.clean, clean) in
    let it = c.in-Err.ensures.refused was (new_is_blank (state g.S.Store c.args.conn) empty) in
    rw c.new-none.ensures.items (none_had (record {
      run = c.life_is_a_run.ensures.run;
      stands = c.life_is_a_run.ensures.stands;
      calm = c.life_is_a_run.ensures.calm;
      resolutions = c.each_resolution_settles_the_greatest_choice.ensures.each;
      in_time = c.nothing_settles_early.ensures.sound;
    }) c.stored_balances_are_the_postings.ensures given _ (g.S.Store.recovers c.into_store.result) it.cause
    (λ trees left. it.leaves trees (quiet.outcomes trees left)))
