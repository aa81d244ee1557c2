use Rattle.std.proofs.Common.{sym, subst}
use Rattle.sqlite.specs.Held.{state}
use Rattle.rtgs_rows.specs.Content.{IsInOrder}
use Rattle.rtgs_sql_writes.specs.Staging.{ChangesTables, with_order_row}
use Rattle.rtgs_sql_writes.proofs.ForwardLemmas.{one_row, two_rows}
use Rattle.rtgs_sql_writes.proofs.Leading.{leads_then}
use Rattle.rtgs_sql_writes.proofs.statements.inserts.add_order.Goals as goal

pub returns-in-None-clause-made : goal.returns-in-None-clause-made
returns-in-None-clause-made g c content order =
    let old = state g.S.Store c.args.tx.now.conn.now in
    let new = state g.S.Store c.add_order_row.new.tx.conn.now in
    subst (ChangesTables old new content) (one_row content c.args.order.now c.in-None.is)
    (c.in_ok-rows.ensures.made content order)

pub returns-in-Some-clause-made : goal.returns-in-Some-clause-made
returns-in-Some-clause-made g c content order =
    let old = state g.S.Store c.args.tx.now.conn.now in
    let mid = state g.S.Store c.add_order_row.new.tx.conn.now in
    let new = state g.S.Store c.add_forward.new.tx.conn.now in
    let o = c.args.order.now in
    let both = two_rows content o c.in-Some.due c.in-Some.is in
    leads_then old mid new content (with_order_row content o) _ c.add_forward.result c.add_forward.ensures.survives
    (c.in_ok-rows.ensures.made content order)
    (rw both at (c.add_forward.ensures.made (with_order_row content o) (subst IsInOrder (sym both) order)))
