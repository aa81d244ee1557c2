use Rattle.std.proofs.Common.{sym, subst}
use Rattle.sqlite_catalog.specs.Listing.{IsSound}
use Rattle.sqlite.specs.Held.{state}
use Rattle.rtgs_rows.specs.Content.{HasNoTables}
use Rattle.rtgs_tables.proofs.sql_keeper.leaves_no_tables.Goals as goal

pub returns : goal.returns
returns g c blank trees left =
    let conn = c.args.conn.now in
    let was = (state g.S.Store conn).committed in
    let none = subst (λ s. IsSound s was.trees) blank.schema (c.schema.ensures.live blank.is_open).1 in
    subst HasNoTables (sym (g.met.S.Store.settled conn.store trees blank.is_open left)) none
