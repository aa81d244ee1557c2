-- A due date among the members that tell of an order.
use Rattle.std.proofs.Common.{◌≡◌, ◌∙◌, ℕ, Option, Some, None, codes, refl, sym, ap}
use Rattle.serde_json.specs.Data.{Members, object, put, string}
use Rattle.rtgs_money.specs.Date.{date_text}
use Rattle.rtgs_book.specs.declared.order.Order.{Order}
use Rattle.rtgs_book.specs.declared.order_state.OrderState.{OrderState}
use Rattle.rtgs_book.specs.declared.order_state.OrderState.TheVariants as state
use Rattle.rtgs_http_bodies.specs.Readings.{order_data, order_in, undated}

abbrev due_on : Order → Option ℕ → Order
due_on order due = record order { due = due }

pub is_undated : (order : Order) → order.due ≡ None → order_data (undated order) ≡ order_data order
is_undated order none = ap (λ due. order_data (due_on order due)) (sym none)

-- the value of the order without its due date, and how the date is added to it
abbrev pub GainsDue : Order → Order → ℕ → Type 0
GainsDue plain order due = (members : Members) × (order_data plain ≡ object members)
    × (object (put (codes "due") (string (date_text due)) members) ≡ order_data order)

in_state : (state : OrderState) (order : Order) (due : ℕ) → (members : Members)
    × (order_in state (undated order) ≡ object members)
    × (object (put (codes "due") (string (date_text due)) members) ≡ order_in state (due_on order (Some due)))
in_state (state.Settled mark) order due = (_, refl, refl)
in_state state.Queued order due = (_, refl, refl)
in_state state.Held order due = (_, refl, refl)
in_state state.Withdrawn order due = (_, refl, refl)
in_state state.Rejected order due = (_, refl, refl)

pub is_dated : (order : Order) (due : ℕ) → order.due ≡ Some due → GainsDue (undated order) order due
is_dated order due some =
    let gained = in_state order.state order due in
    (gained.0, gained.1, gained.2 ∙ ap (λ due. order_data (due_on order due)) (sym some))
