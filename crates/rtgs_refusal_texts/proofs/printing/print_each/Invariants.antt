use Rattle.std.proofs.Common.{take}
use Rattle.std.specs.Io.KnownBytes.{Appends}
use Rattle.std.specs.List.{flat_map}
use Rattle.rtgs_refusal_texts.specs.Texts.{text_of}
use Rattle.rtgs_refusal_texts.specs.declared.kinds.TheConstants.{KINDS}
use Rattle.rtgs_refusal_texts.proofs.printing.print_each.Given as goal

abbrev pub invariant-loop-kind : goal.invariant-loop-kind
invariant-loop-kind g l =
    Appends (g.O.Write.contents l.initial.out) (g.O.Write.contents l.out) (flat_map text_of (take l.kind-index KINDS))
