use Rattle.std.proofs.lemmas.Result.{IfOk-weaker}
use Rattle.rtgs_cli_arguments.proofs.Commands.{meets_one}
use Rattle.rtgs_cli_arguments.proofs.read_words.Goals as goal

pub returns : goal.returns
returns c =
    let is = c.in_ok-desk_command.ensures in
    let parse = c.in_ok-matches.ensures in
    let met = meets_one _ c.in_ok-matches.matches is parse.parsed (parse.subcommand is.1) in
    IfOk-weaker c.invocation_of.result _ _ (λ asked it. (c.in_ok-matches.matches, met, it)) c.invocation_of.ensures
