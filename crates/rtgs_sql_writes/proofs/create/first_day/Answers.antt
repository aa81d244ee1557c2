use Rattle.std.proofs.Common.{[], ◌∷◌, ap}
use Rattle.sqlite.specs.Values.{bound_value}
use Rattle.sqlite.specs.Held.{state}
use Rattle.rtgs_sql_writes.proofs.CreateLemmas.{begins}
use Rattle.rtgs_sql_writes.proofs.create.first_day.Goals as goal

pub returns-clause-made : goal.returns-clause-made
returns-clause-made g c clean was is =
    let version = ap bound_value c.number_value.ensures in
    begins was (state g.S.Store c.args.tx.now.conn.now) (state g.S.Store c.execute.new.self.conn.now) c.execute.result
    _ (λ i. version i ∷ []) is (c.execute.ensures.runs clean (rw is.inside))
