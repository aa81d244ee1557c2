use Rattle.rtgs_promises.proofs.Programs.{run_is_session}
use Rattle.rtgs_promises.proofs.program.a_run_is_a_session.Goals as goal

pub returns : goal.returns
returns g c writers ends touched run = run_is_session _ g.S.Start (λ keeper. keeper.conn) (record {
  honest = λ keeper clean. clean;
  whole = λ keeper whole trees may. let it = whole trees may in (it.0, it.1, (trees, may, it.1));
  stays = c.what_is_committed_is_left.ensures.stays;
  settled = c.what_is_committed_is_left.ensures.settled;
  no_book = c.no_tables_hold_no_book.ensures;
}) writers touched ends run
