use Rattle.rtgs_cli_arguments.specs.CommandLine as line
use Rattle.rtgs_cli_arguments.proofs.with_participants.Goals as goal

pub returns : goal.returns
returns c =
    let init = c.joined-desk.ensures _ line.init c.bare_command.ensures c.init_command.ensures in
    let migrate = c.joined-desk-2.ensures _ line.migrate init c.migrate_command.ensures in
    let add = c.joined-desk-3.ensures _ line.add migrate c.add_command.ensures in
    let credit = c.joined-desk-4.ensures _ line.credit add c.credit_command.ensures in
    c.joined.ensures _ line.post credit c.post_command.ensures
