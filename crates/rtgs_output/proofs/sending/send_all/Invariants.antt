use Rattle.std.proofs.Common.{◌≤◌, length, take}
use Rattle.std.specs.Io.KnownBytes.{Appends}
use Rattle.rtgs_output.proofs.sending.send_all.Given as goal

abbrev pub invariant-loop : goal.invariant-loop
invariant-loop g l = (l.counter ≤ l.at) × (l.at ≤ length l.bytes)
    × Appends (g.W.Write.contents l.initial.out) (g.W.Write.contents l.out) (take l.at l.bytes)
