use Rattle.sqlite.specs.Held.{state}
use Rattle.rtgs_sql_writes.proofs.CreateLemmas.{builds}
use Rattle.rtgs_sql_writes.proofs.create.create_table.Goals as goal

pub returns-clause-made : goal.returns-clause-made
returns-clause-made g c clean was at rows is it =
    builds was at rows (state g.S.Store c.args.tx.now.conn.now) (state g.S.Store c.execute.new.self.conn.now)
    c.args.text.now c.execute.result is it (c.execute.ensures.runs clean (rw is.inside))
