use Rattle.std.proofs.Common.{◌≡◌, ◌+◌, ◌*◌, ◌++◌, ◌∷◌, [], take, All, sym, ap, ◌∙◌, subst, arith}
use Rattle.std.proofs.lemmas.List.{take_more}
use Rattle.rtgs_money.specs.declared.amount.TheConstants.Amount as Amount
use Rattle.rtgs_soundness.specs.Tallies.{AreTallies, IsTallyWithin}
use Rattle.rtgs_soundness.proofs.rules.marks.add_orders.Goals as goal

pub loop-order-preserved : goal.loop-order-preserved
loop-order-preserved c =
    let i = c.loop-order.order-index in
    let more = take_more c.args.orders.now i c.order-item.result c.loop-order-test.true
    ∙ ap (λ o. take i c.args.orders.now ++ o ∷ []) (sym c.order-item.is) in
    let bound : i * Amount.MAX + Amount.MAX ≡ (i + 1) * Amount.MAX = omega arith in
    record {
      places = c.add_order.ensures.length ∙ c.loop-order.invariant.places;
      sums = subst (λ orders. AreTallies orders c.add_order.new.tallies) (sym more)
          (c.add_order.ensures.sums (take i c.args.orders.now) c.loop-order.invariant.sums);
      within = subst (λ n. All (IsTallyWithin n) c.add_order.new.tallies) bound
          (c.add_order.ensures.within (i * Amount.MAX) c.loop-order.invariant.within);
    }
