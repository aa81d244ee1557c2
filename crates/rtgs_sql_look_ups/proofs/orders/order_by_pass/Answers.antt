use Rattle.rtgs_book.specs.cores.Nexts.{order_after, is_order_after}
use Rattle.rtgs_sql_look_ups.proofs.FindingLemmas.{look_then, was_clean, holds_after}
use Rattle.rtgs_sql_look_ups.proofs.orders.order_by_pass.Goals as goal

pub returns-in-Ok-clause-looks : goal.returns-in-Ok-clause-looks
returns-in-Ok-clause-looks g c = look_then g.S.Store c.args.conn.now c.undated_after.new.conn c.with_due.new.conn _
    c.with_due.result c.in-Ok.ensures.looks c.with_due.ensures.looks

pub returns-in-Ok-clause-found : goal.returns-in-Ok-clause-found
unfolding order_after
returns-in-Ok-clause-found g c clean book held =
    let was = was_clean g.S.Store c.undated_after.new.conn c.with_due.new.conn c.with_due.result
    c.with_due.ensures.looks clean in
    let mid = holds_after g.S.Store c.args.conn.now c.undated_after.new.conn _ book c.in-Ok.ensures.looks was held in
    c.with_due.ensures.found clean book mid (is_order_after c.args.date c.args.number)
    (c.in-Ok.ensures.found was book held)
