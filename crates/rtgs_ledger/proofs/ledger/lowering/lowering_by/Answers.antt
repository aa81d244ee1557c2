use Rattle.std.proofs.Common.{IfSome, subst, sym}
use Rattle.rtgs_book.specs.declared.change.RowChange.{RowChange}
use Rattle.rtgs_book.specs.cores.Following.{core_after_row}
use Rattle.rtgs_records.specs.Records.{core_in}
use Rattle.rtgs_ledger.specs.Limits.{Lowers}
use Rattle.rtgs_ledger.proofs.Leaving.{nothing_falls}
use Rattle.rtgs_ledger.proofs.Limits.{row_keeps_queues}
use Rattle.rtgs_ledger.proofs.ledger.lowering.lowering_by.Goals as goal

pub returns-in-AddOrder : goal.returns-in-AddOrder
returns-in-AddOrder c = subst (λ (row : RowChange). IfSome c.appending.result (Lowers (core_in c.args.records.now)
    (core_after_row (core_in c.args.records.now) row))) (sym c.in-AddOrder.is) c.appending.ensures

pub returns-in-SetState : goal.returns-in-SetState
returns-in-SetState c = subst (λ (row : RowChange). IfSome c.leaving.result (Lowers (core_in c.args.records.now)
    (core_after_row (core_in c.args.records.now) row))) (sym c.in-SetState.is) (c.leaving.ensures c.in-SetState.state)

pub returns-else-changes_queues : goal.returns-else-changes_queues
returns-else-changes_queues c =
    let core = core_in c.args.records.now in
    let later = core_after_row core c.args.row.now in
    subst (Lowers core later) (sym c.nothing.ensures)
    (nothing_falls core later (row_keeps_queues c.args.row.now core
    (c.changes_queues.ensures c.if-changes_queues.false)))
