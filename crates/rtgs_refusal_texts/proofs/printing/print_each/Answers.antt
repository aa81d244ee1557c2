use Rattle.std.proofs.Common.{rules, subst}
use Rattle.std.proofs.lemmas.List.{take_all}
use Rattle.std.specs.Io.KnownBytes.{Appends}
use Rattle.std.specs.List.{flat_map}
use Rattle.rtgs_output.specs.Sent.{AppendsPart}
use Rattle.rtgs_refusal_texts.specs.Texts.{text_of}
use Rattle.rtgs_refusal_texts.specs.declared.kinds.TheConstants.{KINDS}
use Rattle.rtgs_refusal_texts.proofs.Growing.{part_appended, text_appended}
use Rattle.rtgs_refusal_texts.proofs.printing.print_each.Goals as goal

pub returns-in_err-print_text-clause-begun : goal.returns-in_err-print_text-clause-begun
returns-in_err-print_text-clause-begun g c =
    let begun : AppendsPart (g.O.Write.contents c.args.out.now) (g.O.Write.contents c.print_text.new.out)
    (flat_map text_of KINDS) = part_appended text_of KINDS c.loop-kind.kind-index _ c.loop-kind-test.true _ _ _
    c.loop-kind.invariant c.in_err-print_text.ensures.begun in
    search rules

pub loop-kind-preserved : goal.loop-kind-preserved
loop-kind-preserved g c = text_appended text_of KINDS c.loop-kind.kind-index _ c.loop-kind-test.true _ _ _
    c.loop-kind.invariant c.in_ok-print_text.ensures.sent

pub returns-clause-sent : goal.returns-clause-sent
returns-clause-sent g c =
    subst (λ kinds. Appends (g.O.Write.contents c.args.out.now) (g.O.Write.contents c.loop-kind.out)
    (flat_map text_of kinds)) (take_all c.loop-kind.kind-index KINDS c.loop-kind-test.false) c.loop-kind.invariant
