use Rattle.std.proofs.Common.{◌∙◌, sym, true≢false}
use Rattle.rtgs_records.specs.Records.{core_in}
use Rattle.rtgs_book.specs.cores.Following.{core_after_row}
use Rattle.rtgs_ledger.proofs.ledger.limits.Limits.follow.Goals as goal

pub returns-then-not-self : goal.returns-then-not-self
returns-then-not-self c = λ _ known. absurd (true≢false (sym known ∙ c.if-not-self.true))

pub returns-in-Some : goal.returns-in-Some
returns-in-Some c = c.lower.ensures (core_in c.args.records.now)
    (core_after_row (core_in c.args.records.now) c.args.row.now) c.in-Some.ensures
