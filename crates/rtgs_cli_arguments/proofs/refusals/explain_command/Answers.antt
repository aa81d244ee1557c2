use Rattle.rtgs_cli_arguments.specs.CommandLine as line
use Rattle.rtgs_cli_arguments.proofs.refusals.explain_command.Goals as goal

pub returns : goal.returns
returns c =
    c.with_argument.ensures _ line.refusal c.bare_subcommand-explain.ensures c.number_argument.ensures
