use Rattle.std.proofs.Common.{rules, append_assoc}
use Rattle.rtgs_statements.specs.Texts.{value_columns}
use Rattle.rtgs_statements.proofs.Pads.{text_left, text_right, to_right}
use Rattle.rtgs_statements.proofs.line.value_columns.Goals as goal

pub returns : goal.returns
unfolding value_columns
returns c =
    rw (
      ← text_left 10 c.args.label.now c.requires.label (search rules),
      ← to_right 9 c.args.count,
      ← text_right 30 c.args.value.now c.requires.value (search rules),
    ) (simp append_assoc (search rules))
