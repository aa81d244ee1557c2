use Rattle.sqlite.specs.Held.{state}
use Rattle.rtgs_sql_writes.specs.Staging.{with_date}
use Rattle.rtgs_sql_writes.proofs.Leading.{leads_then}
use Rattle.rtgs_sql_writes.proofs.statements.updates.set_day.Goals as goal

pub returns-clause-made : goal.returns-clause-made
returns-clause-made g c content order =
    let old = state g.S.Store c.args.tx.now.conn.now in
    let mid = state g.S.Store c.set_date.new.tx.conn.now in
    let new = state g.S.Store c.set_choice.new.tx.conn.now in
    let dated = with_date content c.args.day in
    leads_then old mid new content dated _ c.set_choice.result c.set_choice.ensures.survives
    (c.in_ok-set_date.ensures.made content) (c.set_choice.ensures.made dated)
