use Rattle.sqlite.specs.Held.{state}
use Rattle.rtgs_sql_writes.proofs.CreateLemmas.{chooses}
use Rattle.rtgs_sql_writes.proofs.create.first_choice.Goals as goal

pub returns-clause-made : goal.returns-clause-made
returns-clause-made g c clean was rows none is =
    chooses was rows (state g.S.Store c.args.tx.now.conn.now) (state g.S.Store c.execute.new.self.conn.now)
    c.execute.result none is (c.execute.ensures.runs clean (rw is.inside))
