use Rattle.std.proofs.Common.{pos, arith}
use Rattle.rtgs_gridlock.proofs.Resolving.{IsResolving-filled, steps_left-filled}
use Rattle.rtgs_gridlock.proofs.resolver.begin.Goals as goal

pub returns-clause-resolving : goal.returns-clause-resolving
returns-clause-resolving c =
    let listed = c.list_all.ensures in
    IsResolving-filled c.args.positions.now c.args.queues.now c.args.workspace.now c.fill.new.self c.list_all.new.self
    (λ p b. c.requires.resolvable.floored p (record { balance = pos 0; floor = pos 0 }) (omega arith))
    c.fill.ensures.filled listed.same listed.all listed.inside

pub returns-clause-left : goal.returns-clause-left
returns-clause-left c =
    steps_left-filled c.args.positions.now c.args.queues.now c.args.workspace.now c.fill.new.self c.list_all.new.self
    c.fill.ensures.filled c.list_all.ensures.same c.list_all.ensures.few
