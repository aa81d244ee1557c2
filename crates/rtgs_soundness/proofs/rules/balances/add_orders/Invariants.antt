use Rattle.std.proofs.Common.{ℕ, List, ℤ, ◌+◌, ◌*◌, ◌^◌, ◌+ℤ◌, take, nat_cmp}
use Rattle.std.specs.Cmp.Lexicographic.{slice_cmp}
use Rattle.std.specs.List.{AllByRecursion}
use Rattle.rtgs_money.specs.declared.amount.TheConstants.Amount as Amount
use Rattle.rtgs_money.specs.Amounts.{IsAmount}
use Rattle.rtgs_book.specs.declared.order.Order.{Order}
use Rattle.rtgs_book.specs.Books.{is_settled}
use Rattle.rtgs_book.specs.Balance.{gain}
use Rattle.rtgs_book.specs.Totals.{Totals, AreWithin}
use Rattle.rtgs_soundness.proofs.Totals.{sum_first}
use Rattle.rtgs_soundness.proofs.rules.balances.add_orders.Given as goal

abbrev pub invariant-loop-order : goal.invariant-loop-order
invariant-loop-order l = record {
  sums : (codes : List (List ℕ)) (sum_of : List ℕ → ℤ) → Totals (slice_cmp nat_cmp) codes sum_of l.fn.totals →
      Totals (slice_cmp nat_cmp) codes (λ code. sum_of code +ℤ sum_first is_settled (gain code) l.orders l.order-index)
      l.totals;
  within : AreWithin (slice_cmp nat_cmp) (10 ^ 27 + l.order-index * (2 * Amount.MAX)) l.totals;
  amounts : AllByRecursion (λ (o : Order). IsAmount o.amount) (take l.order-index l.orders);
}
