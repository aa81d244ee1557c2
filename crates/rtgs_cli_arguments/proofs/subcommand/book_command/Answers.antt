use Rattle.rtgs_cli_arguments.specs.CommandLine as line
use Rattle.rtgs_cli_arguments.proofs.subcommand.book_command.Goals as goal

pub returns : goal.returns
returns c =
    c.with_argument.ensures _ line.file c.bare_subcommand.ensures c.needed_argument-file.ensures
