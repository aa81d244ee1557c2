use Rattle.rtgs_cli_arguments.specs.CommandLine as line
use Rattle.rtgs_cli_arguments.proofs.days.open_command.Goals as goal

pub returns : goal.returns
returns c =
    c.with_argument.ensures _ line.automatic c.dated_command-open.ensures c.automatic_argument.ensures
