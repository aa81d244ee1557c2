use Rattle.rtgs_book.specs.Lookup.{order_named, is_order_named}
use Rattle.rtgs_sql_look_ups.proofs.FindingLemmas.{look_then, was_clean, holds_after}
use Rattle.rtgs_sql_look_ups.proofs.orders.find_order.Goals as goal

pub returns-in-Ok-clause-looks : goal.returns-in-Ok-clause-looks
returns-in-Ok-clause-looks g c = look_then g.S.Store c.args.conn.now c.named_undated.new.conn c.with_due.new.conn _
    c.with_due.result c.in-Ok.ensures.looks c.with_due.ensures.looks

pub returns-in-Ok-clause-found : goal.returns-in-Ok-clause-found
unfolding order_named
returns-in-Ok-clause-found g c clean book held =
    let was = was_clean g.S.Store c.named_undated.new.conn c.with_due.new.conn c.with_due.result
    c.with_due.ensures.looks clean in
    let mid = holds_after g.S.Store c.args.conn.now c.named_undated.new.conn _ book c.in-Ok.ensures.looks was held in
    c.with_due.ensures.found clean book mid (is_order_named c.args.sender.now c.args.reference.now)
    (c.in-Ok.ensures.found was book held)
