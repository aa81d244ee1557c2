use Rattle.std.proofs.Common.{sym, arith, ◌∙◌}
use Rattle.rtgs_statements.proofs.RecordsOfDate.{order_is_above}
use Rattle.rtgs_statements.proofs.next_records.later_order.Goals as goal

pub returns-else-number-order-clause-found : goal.returns-else-number-order-clause-found
returns-else-number-order-clause-found g c honest book held = absurd (
    let up = order_is_above c.args.date c.args.number book c.in-Ok-Some.order
    (sym (c.in-Ok-Some.ensures.found honest book held) ∙ c.in-Ok-Some.field-0-is) in omega
    (arith, up, c.if-number-order.false))
