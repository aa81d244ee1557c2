use Rattle.std.proofs.Common.{rules, append_assoc}
use Rattle.rtgs_statements.specs.Texts.{sum_columns}
use Rattle.rtgs_statements.proofs.Pads.{text_left, text_right}
use Rattle.rtgs_statements.proofs.line.sum_columns.Goals as goal

pub returns : goal.returns
unfolding sum_columns
returns c =
    rw (
      ← text_left 10 c.args.label.now c.requires.label (search rules),
      ← text_right 30 c.args.sum.now c.requires.sum (search rules),
    ) (simp append_assoc (search rules))
