use Rattle.std.proofs.Common.{◌≡◌, ◌++◌, ◌∷◌, [], ℕ, List, sym, ap, ◌∙◌, rules, append_assoc, string_bytes}
use Rattle.rtgs_statements.specs.Columns.{left_in, right_in, zeros_in}
use Rattle.rtgs_statements.specs.Lines.{row_columns}
use Rattle.rtgs_statements.proofs.Pads.{zeros, text_left, text_right}
use Rattle.rtgs_statements.proofs.row.columns.Goals as goal

joined : (a b c d e f : List ℕ)
    → (((a ++ (32 ∷ (b ++ (32 ∷ [])))) ++ (c ++ (32 ∷ (d ++ (32 ∷ []))))) ++ (e ++ (32 ∷ (f ++ (10 ∷ [])))))
    ≡ a ++ 32 ∷ b ++ 32 ∷ c ++ 32 ∷ d ++ 32 ∷ e ++ 32 ∷ f ++ 10 ∷ []
joined a b c d e f =
    let end : List ℕ = 32 ∷ (f ++ (10 ∷ [])) in
    let rest : (b ++ (32 ∷ (c ++ (32 ∷ (d ++ (32 ∷ e)))))) ++ end ≡ b ++ (32 ∷ (c ++ (32 ∷ (d ++ (32 ∷ (e ++ end)))))) =
    append_assoc b (32 ∷ (c ++ (32 ∷ (d ++ (32 ∷ e))))) end
    ∙ ap (λ t. b ++ (32 ∷ t)) (append_assoc c (32 ∷ (d ++ (32 ∷ e))) end
    ∙ ap (λ t. c ++ (32 ∷ t)) (append_assoc d (32 ∷ e) end)) in
    simp append_assoc (ap (λ t. a ++ (32 ∷ t)) (sym rest))

pub returns : goal.returns
unfolding row_columns
returns c =
    let one : string_bytes c.write.new.self ≡ left_in 10 c.args.kind.now
    ++ (32 ∷ (zeros_in 9 c.args.number ++ (32 ∷ []))) =
    rw (← text_left 10 c.args.kind.now c.requires.kind (search rules), ← zeros 9 c.args.number) (search rules) in
    let two : string_bytes c.write-2.new.self ≡ string_bytes c.write.new.self
    ++ (left_in 16 c.args.reference.now ++ (32 ∷ (left_in 8 c.args.party.now ++ (32 ∷ [])))) =
    rw (
      ← text_left 16 c.args.reference.now c.requires.reference (search rules),
      ← text_left 8 c.args.party.now
          c.requires.party (search rules),
    ) (search rules) in
    let three : string_bytes c.writeln.new.self ≡ string_bytes c.write-2.new.self
    ++ (right_in 20 c.args.amount.now ++ (32 ∷ (right_in 9 c.args.mark.now ++ (10 ∷ [])))) =
    rw (
      ← text_right 20 c.args.amount.now c.requires.amount (search rules),
      ← text_right 9 c.args.mark.now
          c.requires.mark (search rules),
    ) (search rules) in
    rw (three, two, one) (joined _ _ _ _ _ _)
