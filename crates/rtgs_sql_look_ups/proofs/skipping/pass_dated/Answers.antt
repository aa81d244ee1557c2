use Rattle.std.proofs.Common.{sym, ◌∙◌}
use Rattle.rtgs_sql_look_ups.specs.Skipping.{IsOff}
use Rattle.rtgs_sql_look_ups.proofs.SkippingLemmas.{row_off, none_between}
use Rattle.rtgs_sql_look_ups.proofs.skipping.pass_dated.Goals as goal

pub returns-else-eq-clause-found : goal.returns-else-eq-clause-found
returns-else-eq-clause-found g c clean book held = row_off c.args.date c.args.below book.orders c.in-Ok-Some.order
    (c.records_are_listed.ensures.orders book held.2.sound)
    (sym c.in-Ok-Some.field-0-is ∙ c.in-Ok-Some.ensures.found clean book held) (sym c.eq.ensures ∙ c.if-eq.false)

pub returns-in-Ok-None-clause-found : goal.returns-in-Ok-None-clause-found
returns-in-Ok-None-clause-found g c clean book held = none_between (IsOff c.args.date) c.args.below book.orders
