use Rattle.std.proofs.Common.{Ok}
use Rattle.rtgs_cli_arguments.specs.requests.Words.{opens_day}
use Rattle.rtgs_cli_arguments.proofs.DayCommands.{reads_command}
use Rattle.rtgs_cli_arguments.proofs.requests.spelling.read_open.Goals as goal

pub returns : goal.returns
returns c = reads_command (opens_day c.args.automatic) (Ok c.in_ok-date.date) c.in_ok-date.ensures
