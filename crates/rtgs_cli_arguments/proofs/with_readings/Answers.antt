use Rattle.rtgs_cli_arguments.specs.CommandLine as line
use Rattle.rtgs_cli_arguments.proofs.with_readings.Goals as goal

pub returns : goal.returns
returns c =
    let status = c.joined-desk.ensures _ line.status c.with_days.ensures c.status_command.ensures in
    let account = c.joined-desk-2.ensures _ line.account status c.account_command.ensures in
    let accounts = c.joined-desk-3.ensures _ line.accounts account c.accounts_command.ensures in
    let queue = c.joined-desk-4.ensures _ line.queue accounts c.queue_command.ensures in
    let queues = c.joined-desk-5.ensures _ line.queues queue c.queues_command.ensures in
    let waiting = c.joined-desk-6.ensures _ line.waiting queues c.waiting_command.ensures in
    let held = c.joined-desk-7.ensures _ line.held waiting c.held_command.ensures in
    c.joined.ensures _ line.order held c.order_command.ensures
