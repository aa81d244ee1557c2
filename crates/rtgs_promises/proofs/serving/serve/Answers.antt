use Rattle.std.proofs.Common.{length, subst}
use Rattle.rtgs_rows.specs.Keeping.{MayLeave}
use Rattle.rtgs_promises.proofs.Headlines.{headline}
use Rattle.rtgs_promises.proofs.OneRequest.{given_are_allowed, one_life, serves_more}
use Rattle.rtgs_promises.proofs.serving.serve.Goals as goal

pub returns-clause-comes : goal.returns-clause-comes
returns-clause-comes g c clean start held trees may =
    let e = c.serve_one.ensures in
    let some = (e.works clean start held).2.whole_after_a_crash trees may in
    let found = some.0 in
    let sound = (c.holds_a_sound_book.ensures.sound start held).sound in
    let operator = c.args.operator.now in (
      found,
      record {
        content = some.1.0;
        rows = some.1.1;
        records = some.1.2;
        money = c.stored_balances_are_the_postings.ensures found some.1.0 some.1.2;
      },
      (
        serves_more _ _ (λ input sent exchanged.
            let handles = exchanged.handles clean start held in
            record {
              desk = c.serve_one.new.desk;
              handles = handles;
              replies = handles.works.0;
              allowed = given_are_allowed operator start input handles.answer (length handles.works.0) handles.allowed;
              headline = headline (record {
                run = c.life_is_a_run.ensures.run;
                stands = c.life_is_a_run.ensures.stands;
                calm = c.life_is_a_run.ensures.calm;
                resolutions = c.each_resolution_settles_the_greatest_choice.ensures.each;
                in_time = c.nothing_settles_early.ensures.sound;
              }) start found _ _ sound (c.holds_a_sound_book.ensures.calm start held)
                  (one_life start found _ handles.works.0 (handles.works.1.session found (trees, may, some.1)));
            }) _ _ _ c.serve_one.result e.served,
        λ failed is. (c.holds_a_sound_book.ensures.after_a_crash start found held).0
            (subst (λ desk. MayLeave g.S.Store desk.keeper.conn found) (e.read_fault failed is) (trees, may, some.1)),
      ),
    )
