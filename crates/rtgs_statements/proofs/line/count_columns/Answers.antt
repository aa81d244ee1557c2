use Rattle.std.proofs.Common.{rules, append_assoc}
use Rattle.rtgs_statements.specs.Texts.{count_columns}
use Rattle.rtgs_statements.proofs.Pads.{text_left, to_right}
use Rattle.rtgs_statements.proofs.line.count_columns.Goals as goal

pub returns : goal.returns
unfolding count_columns
returns c =
    rw (
      ← text_left 10 c.args.label.now c.requires (search rules),
      ← to_right 9 c.args.count,
    ) (simp append_assoc (search rules))
