use Rattle.std.proofs.Common.{◌≡◌, ◌<◌, ◌≤◌, ◌^◌, Option, Some, None, rules, refl, sym, ◌∙◌, arith}
use Rattle.rtgs_money.specs.declared.amount.TheConstants.Amount as Amount
use Rattle.rtgs_book.specs.declared.order.Order.{Order}
use Rattle.rtgs_book.specs.cores.Nexts.{order_after}
use Rattle.rtgs_statements.specs.Records.{orders_on}
use Rattle.rtgs_statements.proofs.Days.{none_within, none_with_all, more_with_left, more_within, within_is_roomy}
use Rattle.rtgs_statements.proofs.Days.{comes_to_all}
use Rattle.rtgs_statements.proofs.Leaving.{no_fault, nothing_read, read_more}
use Rattle.rtgs_statements.proofs.RecordsOfDate.{orders_left, orders_begin, order_splits, orders_end}
use Rattle.rtgs_statements.proofs.records_of_date.ordered_on.Goals as goal

none_else : (o : Option Order) → ((p : Order) → o ≡ Some p → ⊥) → o ≡ None
none_else None not = refl
none_else (Some p) not = absurd (not p refl)

pub loop-next-init : goal.loop-next-init
loop-next-init g c = record {
  fits = omega arith;
  within = none_within c.none-ordered.result c.none-ordered.ensures;
  read = nothing_read g.S.Source.holds g.S.Source.leaves g.S.Source.is_honest g.S.Source.has_failed c.args.source.now
      (g.met.S.Source.left c.args.source.now);
  sums = λ honest book held.
      none_with_all c.none-ordered.result _ _ c.none-ordered.ensures
      (orders_begin c.args.date book (c.reads_a_sound_book.ensures book held));
}

pub loop-next-preserved : goal.loop-next-preserved
loop-next-preserved g c =
    let inv = c.loop-next.invariant in
    let next = c.in-Some.order in
    let up : c.loop-next.last < next.number = search rules in
    let most : next.amount ≤ Amount.MAX = omega arith in
    let fits = inv.fits in
    record {
      fits = search rules;
      within = more_within c.loop-next.ordered c.add.new.self next c.in_ok-add.ensures c.loop-next.last next.number up
          most inv.within;
      read = read_more g.S.Source.holds g.S.Source.leaves g.S.Source.is_honest g.S.Source.has_failed c.args.source.now
          c.loop-next.source c.later_order.new.source None inv.read c.in-Ok.ensures.read;
      sums = λ honest book held.
          let back = c.later_order.ensures.read.honest honest in
          let now = inv.read.held back book held no_fault in
          let numbers = c.records_are_listed.ensures.orders book (c.reads_a_sound_book.ensures book held) in
          let is : order_after book c.args.date c.loop-next.last ≡ Some next =
          sym (c.in-Ok.ensures.found honest book now) ∙ c.in-Some.is in
          more_with_left c.loop-next.ordered c.add.new.self next c.in_ok-add.ensures
          (orders_left c.args.date c.loop-next.last book) (orders_left c.args.date next.number book)
          (orders_on c.args.date book.orders) (order_splits c.args.date c.loop-next.last book next numbers is)
          (inv.sums back book held);
    }

pub add-requires : goal.add-requires
add-requires g c =
    let inv = c.loop-next.invariant in
    let up : c.loop-next.last < c.in-Some.order.number = search rules in
    let wide : c.in-Some.order.number < 2 ^ 64 = search rules in
    within_is_roomy c.loop-next.last c.loop-next.ordered (omega arith) inv.within

pub returns-in_default-clause-sums : goal.returns-in_default-clause-sums
returns-in_default-clause-sums g c honest book held =
    let inv = c.loop-next.invariant in
    let back = c.later_order.ensures.read.honest honest in
    let now = inv.read.held back book held no_fault in
    comes_to_all c.loop-next.ordered (orders_left c.args.date c.loop-next.last book) _
    (orders_end c.args.date c.loop-next.last book
    (sym (c.in-Ok.ensures.found honest book now) ∙ none_else c.in-Ok.next c.in_default.not-Some))
    (inv.sums back book held)
