use Rattle.std.proofs.Common.{List, ◌+◌, ◌≤◌}
use Rattle.rtgs_gridlock.specs.declared.positions.Position.{Position}
use Rattle.rtgs_gridlock.specs.Workspaces.{steps_of, steps_left, KeepsRoom}
use Rattle.rtgs_gridlock.specs.Resolving.{IsResolving}
use Rattle.rtgs_gridlock.proofs.resolver.take_turns.Given as goal

abbrev pub invariant-loop : goal.invariant-loop
invariant-loop l = record {
  resolving : (positions : List Position) → IsResolving positions l.queues l.fn.workspace
      → IsResolving positions l.queues l.workspace;
  steps : steps_of l.workspace + steps_left l.queues l.workspace
      ≤ steps_of l.fn.workspace + steps_left l.queues l.fn.workspace;
  counted : steps_of l.fn.workspace ≤ steps_of l.workspace;
  room : KeepsRoom l.fn.workspace l.workspace;
}

abbrev pub decreases-loop : goal.decreases-loop
decreases-loop l = steps_left l.queues l.workspace
