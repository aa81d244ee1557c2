use Rattle.rtgs_cli_arguments.specs.CommandLine as line
use Rattle.rtgs_cli_arguments.proofs.desk_command.Goals as goal

pub returns : goal.returns
returns c =
    let statement = c.joined-desk.ensures _ line.statement c.with_readings.ensures c.statement_command.ensures in
    let report = c.joined-desk-2.ensures _ line.report statement c.report_command.ensures in
    let orders = c.joined-desk-3.ensures _ line.orders report c.orders_command.ensures in
    let marks = c.joined-desk-4.ensures _ line.marks orders c.marks_command.ensures in
    let serve = c.joined-desk-5.ensures _ line.serve marks c.serve_command.ensures in
    c.joined.ensures _ line.explain serve c.explain_command.ensures
