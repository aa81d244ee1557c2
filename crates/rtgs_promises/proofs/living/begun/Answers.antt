use Rattle.std.proofs.Common.{[], sym, subst}
use Rattle.rtgs_promises.specs.Headline.{AreExactly}
use Rattle.rtgs_promises.proofs.Lives.{ends_early, no_life}
use Rattle.rtgs_promises.proofs.living.begun.Goals as goal

pub returns-in-Err-clause-ended : goal.returns-in-Err-clause-ended
returns-in-Err-clause-ended g c clean is_open start tables calm given =
    let last = c.in-Err.ensures.refused clean is_open in
    rw c.new-none.ensures.items (ends_early (record {
      run = c.life_is_a_run.ensures.run;
      stands = c.life_is_a_run.ensures.stands;
      calm = c.life_is_a_run.ensures.calm;
      resolutions = c.each_resolution_settles_the_greatest_choice.ensures.each;
      in_time = c.nothing_settles_early.ensures.sound;
    }) start given [] _ (g.S.Store.recovers c.in-Err.store) tables.2.sound calm (last.cause start tables calm)
    (λ trees may. (
      start,
      subst (AreExactly start) (sym (last.leaves trees may)) (record {
        content = tables.0;
        rows = tables.1;
        records = tables.2;
        money = c.stored_balances_are_the_postings.ensures start tables.0 tables.2;
      }),
      no_life start,
    )))

pub returns-in-Err-with_capacity-clause-ended : goal.returns-in-Err-with_capacity-clause-ended
returns-in-Err-with_capacity-clause-ended g c clean is_open start tables calm given =
    let held = (c.in-Ok.ensures.held (c.abandoned.ensures.honest clean) is_open start tables).0 in
    rw c.new-none.ensures.items (ends_early (record {
      run = c.life_is_a_run.ensures.run;
      stands = c.life_is_a_run.ensures.stands;
      calm = c.life_is_a_run.ensures.calm;
      resolutions = c.each_resolution_settles_the_greatest_choice.ensures.each;
      in_time = c.nothing_settles_early.ensures.sound;
    }) start given [] _ (g.S.Store.recovers c.abandoned.result) tables.2.sound calm tt
    (λ trees may. (start, c.abandoned.ensures.tables clean start held trees may, no_life start)))

pub returns-in-Err-clause-back : goal.returns-in-Err-clause-back
returns-in-Err-clause-back g c clean = c.in-Err.ensures.back clean

pub returns-in-Err-with_capacity-clause-back : goal.returns-in-Err-with_capacity-clause-back
returns-in-Err-with_capacity-clause-back g c clean = c.in-Ok.ensures.honest (c.abandoned.ensures.honest clean)
