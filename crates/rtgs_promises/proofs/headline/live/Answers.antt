use Rattle.std.proofs.Common.{◌≡◌, ◌∙◌, ◌+◌, [], ◌∷◌, ◌++◌, length, take, sym, ap, arith, rules}
use Rattle.std.proofs.lemmas.List.{take_more}
use Rattle.std.proofs.lemmas.Grind.{common_steps}
use Rattle.std.proofs.lemmas.Result.{err_from_is_err_and}
use Rattle.rtgs_promises.proofs.Headlines.{headline}
use Rattle.rtgs_promises.proofs.Lives.{at_first, one_more, as_counted, all_given, ends_early}
use Rattle.rtgs_promises.proofs.headline.live.Goals as goal

pub loop-session-init : goal.loop-session-init
loop-session-init g c =
    let it = c.in_ok-said.ensures in
    let none : c.in_ok-said.said.items ≡ [] = it.none.0 in
    record {
      counted = rw none (search rules);
      room = it.none.1;
      so_far = rw none (at_first _ _ _ _ it.honest (λ clean start held. it.held clean held.0 start held.1));
    }

pub loop-session-preserved : goal.loop-session-preserved
loop-session-preserved g c =
    let i = c.loop-session.invariant in
    let ran = c.in-Ok.ensures in
    let found = c.in-Ok-found_again.ensures in
    let sessions = c.args.sessions.now in
    let at = c.loop-session.session-index in
    let taken : take (at + 1) sessions ≡ take at sessions ++ c.session-item.result ∷ [] =
    take_more sessions at c.session-item.result c.loop-session-test.true
    ∙ ap (λ x. take at sessions ++ x ∷ []) (sym c.session-item.is) in
    record {
      counted = grind (arith, common_steps, c.push_reserved.ensures.items, i.counted);
      room = grind (arith, common_steps, c.push_reserved.ensures.capacity, i.room);
      so_far = record {
        honest = λ clean. i.so_far.honest (ran.honest (found.honest clean));
        calm = λ clean. i.so_far.calm (ran.honest (found.honest clean));
        lived = λ clean start first.
            let stopped = found.honest clean in
            let was = i.so_far.lived (ran.honest stopped) start first in
            let next = found.found clean in
            let left = ran.left stopped was.0 was.1 next.0 next.1 in (
              left.found,
              next.2 left.found (left.content, left.holds, left.records),
              one_more _ _ start was.0 left.found (take at sessions) (take (at + 1) sessions) c.loop-session.said.items
                  c.push_reserved.new.self.items c.session-item.result c.in-Ok.replies c.as_slice.result.now
                  c.as_slice.ensures.value taken c.push_reserved.ensures.items was.2 left.session,
            );
      };
    }

pub returns-in_err-said-clause-ended : goal.returns-in_err-said-clause-ended
returns-in_err-said-clause-ended g c =
    let passed_on = err_from_is_err_and c.from_residual.result c.from_residual.ensures.1 in
    rw (passed_on.1, passed_on.2) (λ clean is_open start tables calm.
    c.in_err-said.ensures.ended clean is_open start tables calm _)

pub returns-in_err-said-clause-back : goal.returns-in_err-said-clause-back
returns-in_err-said-clause-back g c =
    let passed_on = err_from_is_err_and c.from_residual.result c.from_residual.ensures.1 in
    rw (passed_on.1, passed_on.2) c.in_err-said.ensures.back

pub returns-in-Err-clause-ended : goal.returns-in-Err-clause-ended
returns-in-Err-clause-ended g c clean is_open start tables calm =
    let i = c.loop-session.invariant in
    let same = c.in-Err.ensures.err in
    let so = i.so_far.lived (rw same at (c.abandoned.ensures.honest clean)) start (is_open, tables) in
    ends_early (record {
      run = c.life_is_a_run.ensures.run;
      stands = c.life_is_a_run.ensures.stands;
      calm = c.life_is_a_run.ensures.calm;
      resolutions = c.each_resolution_settles_the_greatest_choice.ensures.each;
      in_time = c.nothing_settles_early.ensures.sound;
    }) start _ _ _ (g.S.Store.recovers c.abandoned.result) tables.2.sound calm tt (λ trees may. (
      so.0,
      c.abandoned.ensures.tables clean so.0 (rw same so.1) trees may,
      as_counted _ _ start so.0 c.args.sessions.now c.loop-session.said.items c.loop-session.session-index i.counted
          so.2,
    ))

pub returns-in-Err-clause-back : goal.returns-in-Err-clause-back
returns-in-Err-clause-back g c clean =
    let same = c.in-Err.ensures.err in
    c.loop-session.invariant.so_far.honest (rw same at (c.abandoned.ensures.honest clean))

pub returns-in-Err-found_again-clause-ended : goal.returns-in-Err-found_again-clause-ended
returns-in-Err-found_again-clause-ended g c clean is_open start tables calm =
    let i = c.loop-session.invariant in
    let ran = c.in-Ok.ensures in
    let lost = c.in-Err-found_again.ensures in
    let stop = lost.lost clean in
    let sessions = c.args.sessions.now in
    let at = c.loop-session.session-index in
    let so = i.so_far.lived (ran.honest stop.0) start (is_open, tables) in
    let taken : take (at + 1) sessions ≡ take at sessions ++ c.session-item.result ∷ [] =
    take_more sessions at c.session-item.result c.loop-session-test.true
    ∙ ap (λ x. take at sessions ++ x ∷ []) (sym c.session-item.is) in
    let counted : length c.push_reserved.new.self.items ≡ at + 1 =
    grind (arith, common_steps, c.push_reserved.ensures.items, i.counted) in
    ends_early (record {
      run = c.life_is_a_run.ensures.run;
      stands = c.life_is_a_run.ensures.stands;
      calm = c.life_is_a_run.ensures.calm;
      resolutions = c.each_resolution_settles_the_greatest_choice.ensures.each;
      in_time = c.nothing_settles_early.ensures.sound;
    }) start _ _ _ (g.S.Store.recovers c.in-Err-found_again.store) tables.2.sound calm (lost.cause clean (λ trees may.
    let left = ran.left stop.0 so.0 so.1 trees may in
    (left.found, (left.content, left.holds, left.records), left.calm)))
    (λ trees may.
    let left = ran.left stop.0 so.0 so.1 trees (stop.1 trees may) in (
      left.found,
      record {
        content = left.content;
        rows = left.holds;
        records = left.records;
        money = left.adds_up;
      },
      as_counted _ _ start left.found sessions c.push_reserved.new.self.items (at + 1) counted
          (one_more _ _ start so.0 left.found (take at sessions) (take (at + 1) sessions) c.loop-session.said.items
          c.push_reserved.new.self.items c.session-item.result c.in-Ok.replies c.as_slice.result.now
          c.as_slice.ensures.value taken c.push_reserved.ensures.items so.2 left.session),
    ))

pub returns-in-Err-found_again-clause-back : goal.returns-in-Err-found_again-clause-back
returns-in-Err-found_again-clause-back g c clean =
    c.loop-session.invariant.so_far.honest (c.in-Ok.ensures.honest (c.in-Err-found_again.ensures.lost clean).0)

pub returns-clause-honest : goal.returns-clause-honest
returns-clause-honest g c = c.loop-session.invariant.so_far.honest

pub returns-clause-lived : goal.returns-clause-lived
returns-clause-lived g c clean is_open start tables =
    let so_far = c.loop-session.invariant.so_far in
    let so = so_far.lived clean start (is_open, tables) in
    let life = so.2 in (
      so.0,
      so.1,
      c.tables_are_exactly_the_book.ensures so.0 so.1,
      headline (record {
        run = c.life_is_a_run.ensures.run;
        stands = c.life_is_a_run.ensures.stands;
        calm = c.life_is_a_run.ensures.calm;
        resolutions = c.each_resolution_settles_the_greatest_choice.ensures.each;
        in_time = c.nothing_settles_early.ensures.sound;
      }) start so.0 _ _ tables.2.sound (so_far.calm clean start (is_open, tables)) (record {
        sessions = life.sessions;
        commands = life.commands
            ∙ all_given _ c.loop-session.session-index c.args.sessions.now c.loop-session-test.false;
        replies = life.replies;
        life = life.life;
      }),
    )
