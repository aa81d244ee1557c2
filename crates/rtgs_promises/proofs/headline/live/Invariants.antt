use Rattle.std.proofs.Common.{◌≡◌, ◌≤◌, length, map, take, vec_capacity, IsTrue}
use Rattle.sqlite.specs.Held.{state}
use Rattle.sqlite.specs.State.{HasCleanDisk}
use Rattle.rtgs_desk.specs.Holding.{Holds}
use Rattle.rtgs_book_file.specs.stored_desk.Stored.{AreTablesOf}
use Rattle.rtgs_tables.specs.contracts.sql_keeper.SqlKeeperKeeper.TheImpl as keeper
use Rattle.rtgs_promises.proofs.Lives.{SoFar}
use Rattle.rtgs_promises.proofs.headline.live.Given as goal

abbrev pub invariant-loop-session : goal.invariant-loop-session
invariant-loop-session g l =
    let first = state g.S.Store l.fn.conn in
    let k = keeper.ghosts g.row.S g.S.Alter g.S.Alter-dict g.S.Store g.S.Store-dict g.S.Destruct-dict in
    record {
      counted : length l.said.items ≡ l.session-index;
      room : length l.sessions ≤ vec_capacity l.said;
      so_far : SoFar (HasCleanDisk first) (HasCleanDisk (state g.S.Store l.desk.keeper.conn))
          (λ start. IsTrue first.is_open × AreTablesOf start first.committed.trees) (Holds k l.desk)
          (map (λ session. session.commands.items) (take l.session-index l.sessions))
          (map (λ replies. replies.items) l.said.items);
    }
