use Rattle.std.proofs.Common.{◌≡◌, arith, rules, ◌<◌, length, List, [], ◌∷◌}
use Rattle.rtgs_statements.specs.declared.line.Line.{Line}
use Rattle.rtgs_statements.specs.Texts.{text_of}
use Rattle.rtgs_statements.proofs.Growth.{none-begun, lines-have_bytes}
use Rattle.rtgs_statements.proofs.lines.write_four.Goals as goal

lines_have_bytes : (lines : List Line) → length lines ≡ 4 → 0 < length (text_of lines)
lines_have_bytes [] four = absurd (omega (arith, four))
lines_have_bytes (line ∷ lines) four = lines-have_bytes line lines

pub returns-in-Err-clause-begun : goal.returns-in-Err-clause-begun
returns-in-Err-clause-begun g c = none-begun (g.W.Write.contents c.args.out.now) _
    (lines_have_bytes c.args.lines.now (search rules))
