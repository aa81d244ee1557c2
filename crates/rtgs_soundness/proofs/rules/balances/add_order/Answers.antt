use Rattle.std.proofs.Common.{◌≡◌, ℕ, ◌^◌, ◌+◌, ◌≤◌, ℤ, pos, neg_ℤ, ◌+ℤ◌, ◌-ℤ◌, to_z, of_z, ap, ◌∙◌, nat_cmp, arith}
use Rattle.std.proofs.lemmas.Int.{ints}
use Rattle.std.specs.Int.{w128}
use Rattle.std.specs.Cmp.Lexicographic.{slice_cmp}
use Rattle.rtgs_money.specs.declared.amount.TheConstants.Amount as Amount
use Rattle.rtgs_book.specs.Books.{is_settled_state}
use Rattle.rtgs_book.specs.Totals.{Within}
use Rattle.rtgs_soundness.proofs.Totals.{fits_wide, wide, within_added, order_added, not_settled}
use Rattle.rtgs_soundness.proofs.rules.balances.add_order.Goals as goal

amount_is : (amount : ℕ) (cents : ℕ) (a : ℤ) → a ≡ pos cents → cents ≡ amount → amount ≤ Amount.MAX
    → (to_z w128 (of_z w128 a) ≡ pos amount) × (to_z w128 (of_z w128 (pos 0 -ℤ to_z w128 (of_z w128 a)))
    ≡ neg_ℤ (pos amount))
amount_is amount cents a e f few =
    let same : a ≡ pos amount = e ∙ ap pos f in
    let forth : to_z w128 (of_z w128 a) ≡ pos amount = wide a (omega (arith, ints), omega (arith, ints)) ∙ same in
    let back : pos 0 -ℤ to_z w128 (of_z w128 a) ≡ neg_ℤ (pos amount) = omega (arith, ints) in
    (forth, wide (pos 0 -ℤ to_z w128 (of_z w128 a)) (omega (arith, ints), omega (arith, ints)) ∙ back)

pub add-requires : goal.add-requires
add-requires c = λ total e.
    let is = amount_is c.args.order.now.amount c.cents.result c.from-amount.result c.from-amount.ensures
    c.cents.ensures.value c.cents.ensures.in_range in
    let few = c.cents.ensures.in_range in
    let r = c.requires c.args.order.now.receiver total e in
    let low = r.0 in let high = r.1 in
    rw is.0 (fits_wide (total +ℤ pos c.args.order.now.amount) (omega (arith, ints), omega (arith, ints)))

pub add-requires-in-Settled : goal.add-requires-in-Settled
add-requires-in-Settled c = λ total e.
    let is = amount_is c.args.order.now.amount c.cents.result c.from-amount.result c.from-amount.ensures
    c.cents.ensures.value c.cents.ensures.in_range in
    let few = c.cents.ensures.in_range in
    let more : Within Amount.MAX (pos c.args.order.now.amount) = (omega (arith, ints), omega (arith, ints)) in
    let r = within_added (slice_cmp nat_cmp) (10 ^ 28) Amount.MAX c.args.totals.now c.add.new.totals
    c.args.order.now.receiver (pos c.args.order.now.amount) more c.requires (rw is.0 at c.add.ensures)
    c.args.order.now.sender total e in
    let low = r.0 in let high = r.1 in
    rw is.1 (fits_wide (total +ℤ neg_ℤ (pos c.args.order.now.amount)) (omega (arith, ints), omega (arith, ints)))

pub returns-in-Settled-clause-sums : goal.returns-in-Settled-clause-sums
returns-in-Settled-clause-sums c = λ codes sum_of holds.
    let is = amount_is c.args.order.now.amount c.cents.result c.from-amount.result c.from-amount.ensures
    c.cents.ensures.value c.cents.ensures.in_range in
    order_added codes sum_of c.args.totals.now c.add.new.totals c.add-in-Settled.new.totals c.args.order.now _ _
    (ap is_settled_state c.in-Settled.is) is.0 is.1 holds c.add.ensures c.add-in-Settled.ensures

pub returns-in-Settled-clause-within : goal.returns-in-Settled-clause-within
returns-in-Settled-clause-within c = λ bound holds key total e.
    let is = amount_is c.args.order.now.amount c.cents.result c.from-amount.result c.from-amount.ensures
    c.cents.ensures.value c.cents.ensures.in_range in
    let few = c.cents.ensures.in_range in
    let forth : Within Amount.MAX (pos c.args.order.now.amount) = (omega (arith, ints), omega (arith, ints)) in
    let back : Within Amount.MAX (neg_ℤ (pos c.args.order.now.amount)) = (omega (arith, ints), omega (arith, ints)) in
    let one = within_added (slice_cmp nat_cmp) bound Amount.MAX c.args.totals.now c.add.new.totals
    c.args.order.now.receiver (pos c.args.order.now.amount) forth holds (rw is.0 at c.add.ensures) in
    let r = within_added (slice_cmp nat_cmp) (bound + Amount.MAX) Amount.MAX c.add.new.totals
    c.add-in-Settled.new.totals c.args.order.now.sender (neg_ℤ (pos c.args.order.now.amount)) back one
    (rw is.1 at c.add-in-Settled.ensures) key total e in
    let low = r.0 in let high = r.1 in
    (omega (arith, ints), omega (arith, ints))

pub returns-in_default : goal.returns-in_default
returns-in_default c = record {
  sums = λ codes sum_of holds. not_settled codes sum_of c.args.totals.now c.args.order.now c.in_default.not-Settled
      holds;
  within = λ bound holds key total e. let r = holds key total e in let low = r.0 in let high = r.1
      in (omega (arith, ints), omega (arith, ints));
  amount = (c.cents.ensures.at_least_one, c.cents.ensures.in_range);
}
