use Rattle.std.proofs.Common.{sym, arith, ◌∙◌}
use Rattle.rtgs_statements.proofs.RecordsOfDate.{posting_is_above}
use Rattle.rtgs_statements.proofs.next_records.later_posting.Goals as goal

pub returns-else-number-posting-clause-found : goal.returns-else-number-posting-clause-found
returns-else-number-posting-clause-found g c honest book held = absurd (
    let up = posting_is_above c.args.date c.args.number book c.in-Ok-Some.posting
    (sym (c.in-Ok-Some.ensures.found honest book held) ∙ c.in-Ok-Some.field-0-is) in omega
    (arith, up, c.if-number-posting.false))
