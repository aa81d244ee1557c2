use Rattle.std.proofs.Common.{sym, arith, ◌∙◌}
use Rattle.rtgs_statements.proofs.RecordsOfDate.{mark_is_above}
use Rattle.rtgs_statements.proofs.next_records.later_mark.Goals as goal

pub returns-else-number-mark-clause-found : goal.returns-else-number-mark-clause-found
returns-else-number-mark-clause-found g c honest book held = absurd (
    let up = mark_is_above c.args.date c.args.number book c.in-Ok-Some.mark
    (sym (c.in-Ok-Some.ensures.found honest book held) ∙ c.in-Ok-Some.field-0-is) in omega
    (arith, up, c.if-number-mark.false))
