use Rattle.sqlite.specs.Held.{state}
use Rattle.rtgs_sql_writes.proofs.CreateLemmas.{was_clean}
use Rattle.rtgs_sql_writes.proofs.upgrade.upgrade.Goals as goal

pub returns-clause-made : goal.returns-clause-made
returns-clause-made g c clean was content known none is =
    let mid = state g.S.Store c.add_tables.new.tx.conn.now in
    c.in_ok-set_version.ensures.made clean was c.args.version content
    (c.in_ok-add_tables.ensures.made (was_clean mid _ c.set_version.ensures.survives clean) was content known none is)
