use Rattle.std.proofs.Common.{Ok}
use Rattle.rtgs_book.specs.declared.command.Command.TheVariants.{CutOff}
use Rattle.rtgs_cli_arguments.proofs.DayCommands.{reads_command}
use Rattle.rtgs_cli_arguments.proofs.requests.spelling.read_cut_off.Goals as goal

pub returns : goal.returns
returns c = reads_command CutOff (Ok c.in_ok-read_date.field-0) c.in_ok-read_date.ensures
