use Rattle.std.proofs.Common.{◌∙◌, [], ◌∷◌, subst, sym}
use Rattle.rtgs_book.specs.Changes.{Leads}
use Rattle.rtgs_book.specs.declared.change.RowChange.{RowChange}
use Rattle.rtgs_ledger.proofs.Freeing.{rows_free_nothing}
use Rattle.rtgs_ledger.proofs.Reach.{last_frees_nothing, order_frees_nothing, waiting_in_core}
use Rattle.rtgs_lists.proofs.Bools.{from_not}
use Rattle.rtgs_ledger.proofs.ledger.Ledger.row_can_free.Goals as goal

pub returns-in-AddOrder : goal.returns-in-AddOrder
returns-in-AddOrder c old new is leads sound none =
    order_frees_nothing old new c.in-AddOrder.order (sym c.is_queued.ensures ∙ c.if-is_queued.true) sound
    (c.can_be_paid.ensures old is none)
    (subst (λ (row : RowChange). Leads old (row ∷ []) new) c.in-AddOrder.is leads)

pub returns-in-SetState : goal.returns-in-SetState
returns-in-SetState c old new is leads sound none =
    last_frees_nothing old c.in-SetState.number c.in-SetState.state
    (sym c.is_waiting.ensures ∙ c.if-not-is_waiting.true) c.numbers_lead_to_orders.ensures
    c.queues_are_of_the_waiting.ensures c.queues_rise.ensures is.sound.orders_numbered c.args.self.now.core.waiting
    (waiting_in_core old c.args.self.now.core is) (c.is_last.ensures (from_not _ none)) new
    (subst (λ (row : RowChange). Leads old (row ∷ []) new) c.in-SetState.is leads)

pub returns-in_default : goal.returns-in_default
returns-in_default c old new is leads sound none =
    rows_free_nothing c.new_credit_leaves_the_accounts.ensures old new _ leads (c.row_may_give.ensures old is none, tt)
