use Rattle.std.proofs.Common.{◌≡◌, pos, ◌+ℤ◌, true, nat_cmp, arith, rules}
use Rattle.std.proofs.lemmas.Int.{ints}
use Rattle.std.specs.Cmp.Lexicographic.{slice_cmp}
use Rattle.rtgs_book.specs.Books.{is_waiting}
use Rattle.rtgs_soundness.proofs.Totals.{fits_wide, within_added, order_counted}
use Rattle.rtgs_soundness.proofs.rules.queues.count_order.Goals as goal

pub add-requires : goal.add-requires
add-requires c = λ total e.
    let r = c.requires c.args.order.now.sender total e in
    let low = r.0 in let high = r.1 in
    fits_wide (total +ℤ pos 1) (omega (arith, ints), omega (arith, ints))

pub returns-then-is_waiting-clause-sums : goal.returns-then-is_waiting-clause-sums
returns-then-is_waiting-clause-sums c = λ codes length_of holds.
    let waits : is_waiting c.args.order.now ≡ true = search rules in
    order_counted codes length_of c.args.lengths.now c.add.new.totals c.args.order.now waits holds c.add.ensures

pub returns-then-is_waiting-clause-within : goal.returns-then-is_waiting-clause-within
returns-then-is_waiting-clause-within c = λ bound holds. within_added (slice_cmp nat_cmp) bound 1 c.args.lengths.now
    c.add.new.totals c.args.order.now.sender (pos 1) (omega (arith, ints), omega (arith, ints)) holds c.add.ensures

pub returns-else-is_waiting-clause-within : goal.returns-else-is_waiting-clause-within
returns-else-is_waiting-clause-within c = λ bound holds key total e.
    let r = holds key total e in
    let low = r.0 in let high = r.1 in
    (omega (arith, ints), omega (arith, ints))
