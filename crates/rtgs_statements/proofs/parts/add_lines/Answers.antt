use Rattle.std.proofs.Common.{◌≡◌, ◌++◌, sym, subst, ◌∙◌}
use Rattle.std.specs.Prelude.{string_bytes}
use Rattle.std.proofs.lemmas.List.{take_all, append-nil}
use Rattle.rtgs_statements.specs.Texts.{text_of}
use Rattle.rtgs_statements.proofs.Growth.{line-added}
use Rattle.rtgs_statements.proofs.parts.add_lines.Goals as goal

pub loop-line-init : goal.loop-line-init
loop-line-init c = sym (append-nil (string_bytes c.args.text.now))

pub loop-line-preserved : goal.loop-line-preserved
loop-line-preserved c =
    line-added c.args.lines.now c.loop-line.line-index c.line-item.result c.loop-line-test.true c.line-item.is _ _ _
    c.as_str.result.now (c.as_str.ensures.value ∙ c.in_ok-more.ensures) c.loop-line.invariant
    c.in_ok-push_str.ensures.bytes

pub returns : goal.returns
returns c = subst (λ lines. string_bytes c.loop-line.text ≡ string_bytes c.args.text.now ++ text_of lines)
    (take_all c.loop-line.line-index c.args.lines.now c.loop-line-test.false) c.loop-line.invariant
