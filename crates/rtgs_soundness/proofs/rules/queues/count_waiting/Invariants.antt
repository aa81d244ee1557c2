use Rattle.std.proofs.Common.{ℕ, List, ℤ, pos, ◌&&◌, ◌+ℤ◌, nat_cmp}
use Rattle.std.specs.Cmp.Lexicographic.{slice_cmp}
use Rattle.std.specs.Str.{bytes_eq}
use Rattle.rtgs_book.specs.declared.order.Order.{Order}
use Rattle.rtgs_book.specs.Books.{is_waiting}
use Rattle.rtgs_book.specs.Totals.{Totals, AreWithin}
use Rattle.rtgs_soundness.proofs.Totals.{sum_first}
use Rattle.rtgs_soundness.proofs.rules.queues.count_waiting.Given as goal

abbrev pub invariant-loop-order : goal.invariant-loop-order
invariant-loop-order l = record {
  sums : (codes : List (List ℕ)) (length_of : List ℕ → ℤ) → Totals (slice_cmp nat_cmp) codes length_of l.fn.lengths →
      Totals (slice_cmp nat_cmp) codes (λ code. length_of code +ℤ sum_first
      (λ (o : Order). is_waiting o && bytes_eq o.sender code) (λ o. pos 1) l.orders l.order-index) l.lengths;
  within : AreWithin (slice_cmp nat_cmp) l.order-index l.lengths;
}
