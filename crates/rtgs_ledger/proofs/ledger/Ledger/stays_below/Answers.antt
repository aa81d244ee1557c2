use Rattle.std.proofs.Common.{subst}
use Rattle.rtgs_records.specs.Held.{Held}
use Rattle.rtgs_ledger.specs.Limits.{LeaveCalm}
use Rattle.rtgs_ledger.proofs.ledger.Ledger.stays_below.Goals as goal

pub returns : goal.returns
returns c = λ below. subst (λ (h : Held). LeaveCalm h.core c.args.rows.now) c.self.view_is
    (c.leave_calm.ensures c.self.invariant.1 below)
