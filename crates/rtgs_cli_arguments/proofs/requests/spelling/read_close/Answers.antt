use Rattle.std.proofs.Common.{Ok}
use Rattle.rtgs_book.specs.declared.command.Command.TheVariants.{CloseDay}
use Rattle.rtgs_cli_arguments.proofs.DayCommands.{reads_command}
use Rattle.rtgs_cli_arguments.proofs.requests.spelling.read_close.Goals as goal

pub returns : goal.returns
returns c = reads_command CloseDay (Ok c.in_ok-read_date.field-0) c.in_ok-read_date.ensures
