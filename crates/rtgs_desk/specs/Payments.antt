-- Orders by their receivers, as contracts see them.
use Rattle.std.specs.Prelude.{ℕ, List, [], filter}
use Rattle.std.specs.BTreeMap.{get}
use Rattle.std.specs.Cmp.Lexicographic.{slice_cmp}
use Rattle.std.specs.Option.{option_map_or}
use Rattle.std.specs.Ordering.{nat_cmp}
use Rattle.std.specs.Str.{bytes_eq}
use Rattle.rtgs_book.specs.declared.order.Order.{Order}
use Rattle.rtgs_desk.specs.declared.payments.Payments.{Payments}

-- those of the orders that pay the participant with this code
abbrev pub paid_to : List ℕ → List Order → List Order
paid_to code orders = filter (λ (o : Order). bytes_eq o.receiver code) orders

-- the orders that stand there for the participant with this code
abbrev pub paid_in : Payments → List ℕ → List Order
paid_in payments code = option_map_or (λ orders. orders.items) (get (slice_cmp nat_cmp) payments.orders code) []
