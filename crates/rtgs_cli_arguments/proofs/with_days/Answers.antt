use Rattle.rtgs_cli_arguments.specs.CommandLine as line
use Rattle.rtgs_cli_arguments.proofs.with_days.Goals as goal

pub returns : goal.returns
returns c =
    let opened = c.joined-desk.ensures _ line.open_day c.with_participants.ensures c.open_command.ensures in
    let imported = c.joined-desk-2.ensures _ line.import_orders opened c.import_command.ensures in
    let withdrawn = c.joined-desk-3.ensures _ line.withdraw imported c.withdraw_command.ensures in
    let resolved = c.joined-desk-4.ensures _ line.resolve withdrawn c.resolve_command.ensures in
    let cut_off = c.joined-desk-5.ensures _ line.cut_off resolved c.cut_off_command.ensures in
    c.joined.ensures _ line.close_day cut_off c.close_command.ensures
