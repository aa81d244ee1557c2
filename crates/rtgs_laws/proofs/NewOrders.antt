-- What an order says, with another due date.
use Rattle.std.proofs.Common.{ℕ, Option}
use Rattle.rtgs_book.specs.declared.new_order.NewOrder.{NewOrder}

abbrev pub with_due : NewOrder → Option ℕ → NewOrder
with_due new_order due = record new_order { due = due }
