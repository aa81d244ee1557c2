use Rattle.std.proofs.Common.{◌≡◌, ◌∙◌, ◌+◌, ◌≤◌, ◌++◌, ◌∷◌, [], sym, ap, subst, map, take, arith}
use Rattle.std.proofs.lemmas.List.{take_more, take_all}
use Rattle.rtgs_book.specs.declared.limits.TheConstants.{MOST_QUEUED}
use Rattle.rtgs_records.specs.accounts.Accounts.{after_order}
use Rattle.rtgs_records.specs.Held.{Held}
use Rattle.rtgs_ledger.specs.Resolving.{after_orders}
use Rattle.rtgs_ledger.proofs.Settling.{AreNear, all_after_none, all_after_more, near_small, near_more, near_is_small}
use Rattle.rtgs_ledger.proofs.ledger.Ledger.accounts_after.Goals as goal

pub loop-order-init : goal.loop-order-init
loop-order-init c small few =
    let same : c.in_ok-settled.settled.accounts ≡ c.args.self.now.core.accounts = c.in_ok-settled.ensures
    ∙ ap (λ (h : Held). h.core.accounts) c.self.view_is in (
      same ∙ all_after_none c.args.self.now.core.accounts,
      subst (AreNear 0) (sym same) (near_small c.args.self.now.core.accounts small),
    )

pub loop-order-preserved : goal.loop-order-preserved
loop-order-preserved c small few =
    let orders = c.args.orders.now in
    let i = c.loop-order.order-index in
    let o = c.order-item.result in
    let next : take (i + 1) orders ≡ take i orders ++ o ∷ [] = take_more orders i o c.loop-order-test.true
    ∙ ap (λ x. take i orders ++ x ∷ []) (sym c.order-item.is) in
    let amount = c.settle.ensures.amount in
    let so_far = c.loop-order.invariant small few in
    let within : i ≤ MOST_QUEUED = (let test = c.loop-order-test.true in omega (arith, test, few)) in
    let made = c.settle.ensures.accounts (near_is_small i within c.loop-order.settled.accounts so_far.1) in (
      made ∙ ap (map (after_order o)) so_far.0
          ∙ all_after_more (take i orders) o c.args.self.now.core.accounts
          ∙ ap (λ os. map (after_orders os) c.args.self.now.core.accounts) (sym next),
      subst (AreNear (i + 1)) (sym made) (near_more i o amount.1 c.loop-order.settled.accounts so_far.1),
    )

pub returns : goal.returns
returns c small few = (c.loop-order.invariant small few).0
    ∙ ap (λ os. map (after_orders os) c.args.self.now.core.accounts)
    (take_all c.loop-order.order-index c.args.orders.now c.loop-order-test.false)
