use Rattle.std.proofs.Common.{◌≡◌, ◌∙◌, ap, refl, [], Option, Some, None, Bor, option_map}
use Rattle.std.specs.Prelude.{unwrap_or}
use Rattle.clap.specs.Words.{Text, found_of}
use Rattle.clap.proofs.WalkLemmas.{first_value-rows}
use Rattle.rtgs_cli_arguments.proofs.word.Goals as goal

-- the text behind what stands for a missing word
text_or : (word : Option (Bor Text)) (missing : Bor Text)
    → (unwrap_or word missing).now ≡ unwrap_or (option_map (λ s. s.now) word) missing.now
text_or None missing = refl
text_or (Some w) missing = refl

pub returns : goal.returns
returns c =
    ap (λ r. r.now) c.unwrap_or.ensures ∙ text_or c.get_str.result _
    ∙ ap (λ t. unwrap_or t []) (c.get_str.ensures ∙ first_value-rows (found_of c.args.matches.now) c.args.id.now)
