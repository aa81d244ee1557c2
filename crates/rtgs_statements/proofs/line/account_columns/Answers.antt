use Rattle.std.proofs.Common.{◌≡◌, ◌++◌, ◌∷◌, [], rules, append_assoc, string_bytes}
use Rattle.rtgs_statements.specs.Columns.{left_in, right_in}
use Rattle.rtgs_statements.specs.Texts.{account_columns}
use Rattle.rtgs_statements.proofs.Pads.{text_left, text_right}
use Rattle.rtgs_statements.proofs.line.account_columns.Goals as goal

pub returns : goal.returns
unfolding account_columns
returns c =
    let one : string_bytes c.write.new.self ≡ left_in 8 c.args.code.now
    ++ (32 ∷ (right_in 30 c.args.posted.now ++ (32 ∷ []))) =
    rw (
      ← text_left 8 c.args.code.now c.requires.code (search rules),
      ← text_right 30 c.args.posted.now
          c.requires.posted (search rules),
    ) (search rules) in
    let two : string_bytes c.writeln.new.self ≡ string_bytes c.write.new.self
    ++ (right_in 30 c.args.sent.now ++ (32 ∷ (right_in 30 c.args.received.now ++ (10 ∷ [])))) =
    rw (
      ← text_right 30 c.args.sent.now c.requires.sent (search rules),
      ← text_right 30 c.args.received.now
          c.requires.received (search rules),
    ) (search rules) in
    rw (two, one) (simp append_assoc)
