use Rattle.std.proofs.Common.{subst}
use Rattle.rtgs_records.specs.Held.{Held}
use Rattle.rtgs_ledger.specs.Limits.{LeaveCalm}
use Rattle.rtgs_ledger.proofs.Limits.{calm_after}
use Rattle.rtgs_ledger.proofs.ledger.Ledger.stays_calm.Goals as goal

pub returns-then-stays_below-clause-calm : goal.returns-then-stays_below-clause-calm
returns-then-stays_below-clause-calm c = λ old new is leads after _ calm.
    calm_after c.calm_means_calm.ensures c.queues_are_of_the_waiting.ensures new c.args.self.now c.args.change.now after
    (subst (LeaveCalm c.args.self.now.core) c.as_slice-rows.ensures (c.stays_below.ensures c.if-stays_below.true))

pub returns-clause-calm : goal.returns-clause-calm
returns-clause-calm c = λ old new is leads after below calm.
    calm_after c.calm_means_calm.ensures c.queues_are_of_the_waiting.ensures new c.args.self.now c.args.change.now after
    (subst (λ (h : Held). LeaveCalm h.core c.args.change.now) c.find_limits.ensures
    (subst (LeaveCalm c.find_limits.new.self.core) c.as_slice-rows.ensures (c.stays_below-2.ensures below)))
