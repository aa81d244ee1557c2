use Rattle.rtgs_sql_loading.proofs.Joining.{Halfway}
use Rattle.rtgs_sql_loading.proofs.orders.join.Given as goal

abbrev pub invariant-loop-order : goal.invariant-loop-order
invariant-loop-order l = Halfway l.initial.orders l.forwards l.order-index l.place l.orders
