use Rattle.std.proofs.Common.{sym, ◌∙◌, arith}
use Rattle.rtgs_book.specs.Settle.{today}
use Rattle.rtgs_book.specs.declared.limits.TheConstants.{LARGEST_NUMBER}
use Rattle.rtgs_sql_look_ups.specs.Skipping.{IsPlainOff}
use Rattle.rtgs_sql_look_ups.proofs.SkippingLemmas.{between_then, early_off, late_off, plain_in_order, strictly_later}
use Rattle.rtgs_sql_look_ups.proofs.skipping.passed_plain.Goals as goal

pub returns-then-number : goal.returns-then-number
returns-then-number c = record {
  right = λ book sound first plain off. early_off c.args.date c.args.at book.orders c.args.order.now
      (c.records_are_listed.ensures.orders book sound)
      (plain_in_order (today book) book.orders sound.dates.orders) first plain
      (omega (arith, c.if-number.true, c.number.ensures.value, c.number-2.ensures.value));
}

pub returns-else-eq : goal.returns-else-eq
returns-else-eq c = record {
  right = λ book sound first plain off.
      let late = strictly_later c.args.order.now.date c.args.date
      (omega (arith, c.if-number.false, c.number.ensures.value, c.number-2.ensures.value))
      (sym c.eq.ensures ∙ c.if-eq.false) in
      between_then (IsPlainOff c.args.date) c.args.number c.args.at LARGEST_NUMBER book.orders off
      (late_off c.args.date c.args.at LARGEST_NUMBER book.orders c.args.order.now
      (plain_in_order (today book) book.orders sound.dates.orders) first plain late);
}
