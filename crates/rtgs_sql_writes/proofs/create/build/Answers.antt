use Rattle.std.proofs.Common.{[], refl}
use Rattle.sqlite.specs.Held.{state}
use Rattle.rtgs_sql_writes.proofs.CreateLemmas.{was_clean}
use Rattle.rtgs_sql_writes.proofs.create.build.Goals as goal

pub returns-clause-made : goal.returns-clause-made
returns-clause-made g c clean was is =
    let one = state g.S.Store c.create_from.new.tx.conn.now in
    let two = state g.S.Store c.first_choice.new.tx.conn.now in
    let three = state g.S.Store c.first_day.new.tx.conn.now in
    let later = was_clean two three c.first_day.ensures.survives clean in
    let sooner = was_clean one two c.first_choice.ensures.survives later in
    c.in_ok-first_day.ensures.made clean was
    (c.in_ok-first_choice.ensures.made later was _ refl (c.in_ok-create_from.ensures.made sooner was [] is))
