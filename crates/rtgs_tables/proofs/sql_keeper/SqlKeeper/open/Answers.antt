use Rattle.sqlite.specs.Held.{state}
use Rattle.rtgs_tables.proofs.Settling.{opened}
use Rattle.rtgs_tables.proofs.NewBook.{opened_blank}
use Rattle.rtgs_tables.proofs.sql_keeper.SqlKeeper.open.Goals as goal

pub returns-clause-found : goal.returns-clause-found
returns-clause-found g c opens live book content holds is = opened c.tables_of_a_desk_are_read_as_such.ensures g.S.Store
    c.args.conn book content opens live holds is

pub returns-clause-none : goal.returns-clause-none
returns-clause-none g c opens live none = opened_blank c.no_tables_are_read_as_none.ensures
    (state g.S.Store c.args.conn) opens live none
