use Rattle.std.proofs.Common.{◌∙◌}
use Rattle.std.specs.Str.Parse.{ParsesUnsigned, ExplainsUnsignedError, HasUnsignedDigitsIfOk}
use Rattle.clap.specs.Words.{found_of, rows_of}
use Rattle.clap.proofs.WalkLemmas.{one_text-rows}
use Rattle.rtgs_cli_arguments.proofs.Numbers.{number_given}
use Rattle.rtgs_cli_arguments.proofs.refusals.refusal_number.Goals as goal

pub returns : goal.returns
returns c =
    let read = one_text-rows (found_of c.args.given.now) _ in
    number_given 8 (λ bs r. ParsesUnsigned 8 10 bs r × ExplainsUnsignedError 10 bs r × HasUnsignedDigitsIfOk bs r)
    (λ t r g. g.0) (rows_of (found_of c.args.given.now)) _ c.get_one.result
    (λ e. c.get_one.ensures.none (read ∙ e)) (λ t e. c.get_one.ensures.value t (read ∙ e))
