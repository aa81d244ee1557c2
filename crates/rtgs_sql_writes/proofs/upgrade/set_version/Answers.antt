use Rattle.std.proofs.Common.{[], ◌∷◌, ap}
use Rattle.sqlite.specs.Values.{bound_value}
use Rattle.sqlite.specs.Held.{state}
use Rattle.rtgs_sql_writes.proofs.UpgradeLemmas.{sets_version}
use Rattle.rtgs_sql_writes.proofs.upgrade.set_version.Goals as goal

pub returns-clause-made : goal.returns-clause-made
returns-clause-made g c clean was version content grown =
    let value = ap bound_value c.number_value.ensures in
    sets_version c.one_table_answers.ensures was version content (state g.S.Store c.args.tx.now.conn.now)
    (state g.S.Store c.execute.new.self.conn.now) c.execute.result _ (λ i. value i ∷ []) grown
    (c.execute.ensures.runs clean (rw grown.inside))
