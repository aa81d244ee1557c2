use Rattle.std.proofs.Common.{◌≡◌, ◌∙◌}
use Rattle.std.proofs.lemmas.Result.{IfOk-weaker}
use Rattle.rtgs_book.specs.cores.Nexts.{order_after}
use Rattle.rtgs_sql_look_ups.proofs.FindingLemmas.{look_then, was_clean, holds_after}
use Rattle.rtgs_sql_look_ups.proofs.SkippingLemmas.{moved}
use Rattle.rtgs_sql_look_ups.proofs.next_orders.later_order.Goals as goal

pub returns-in-Ok-clause-looks : goal.returns-in-Ok-clause-looks
returns-in-Ok-clause-looks g c = look_then g.S.Store c.args.conn.now c.pass_over.new.conn c.order_by_pass.new.conn _
    c.order_by_pass.result c.in-Ok.ensures.looks c.order_by_pass.ensures.looks

pub returns-in-Ok-clause-found : goal.returns-in-Ok-clause-found
unfolding order_after
returns-in-Ok-clause-found g c clean book held =
    let was = was_clean g.S.Store c.pass_over.new.conn c.order_by_pass.new.conn c.order_by_pass.result
    c.order_by_pass.ensures.looks clean in
    let mid = holds_after g.S.Store c.args.conn.now c.pass_over.new.conn _ book c.in-Ok.ensures.looks was held in
    IfOk-weaker c.order_by_pass.result (λ found. found ≡ order_after book c.args.date c.in-Ok.at)
    (λ found. found ≡ order_after book c.args.date c.args.number)
    (λ found is. is ∙ moved c.args.date c.args.number c.in-Ok.at book.orders c.in-Ok.ensures.rises
    (c.in-Ok.ensures.found was book held))
    (c.order_by_pass.ensures.found clean book mid)
