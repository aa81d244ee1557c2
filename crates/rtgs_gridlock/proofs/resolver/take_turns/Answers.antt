use Rattle.std.proofs.Common.{refl}
use Rattle.rtgs_gridlock.proofs.Resolving.{IsGreatest-resolved, HasSlack-resolved}
use Rattle.rtgs_gridlock.proofs.resolver.take_turns.Goals as goal

pub returns-clause-greatest : goal.returns-clause-greatest
returns-clause-greatest c positions is =
    IsGreatest-resolved positions c.args.queues.now c.turn.new.workspace (c.loop-test.ensures.ended refl).0
    (c.loop-test.ensures.resolving positions (c.loop.invariant.resolving positions is))

pub returns-clause-within_slack : goal.returns-clause-within_slack
returns-clause-within_slack c positions is =
    HasSlack-resolved positions c.args.queues.now c.turn.new.workspace
    (c.loop-test.ensures.resolving positions (c.loop.invariant.resolving positions is))
