use Rattle.rtgs_gridlock.specs.Workspaces.{KeepsRoom}
use Rattle.desk_bench.proofs.resolver.measure.Given as goal

abbrev pub invariant-loop : goal.invariant-loop
invariant-loop g l = record {
  room : KeepsRoom l.initial.workspace l.workspace;
}
