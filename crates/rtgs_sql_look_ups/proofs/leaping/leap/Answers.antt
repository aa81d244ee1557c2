use Rattle.std.proofs.Common.{◌≤◌, arith}
use Rattle.rtgs_sql_look_ups.specs.Skipping.{IsPlainOff}
use Rattle.rtgs_sql_look_ups.proofs.FindingLemmas.{look_as, look_then, look_failed, was_clean, holds_after}
use Rattle.rtgs_sql_look_ups.proofs.SkippingLemmas.{between_from}
use Rattle.rtgs_sql_look_ups.proofs.leaping.leap.Goals as goal

pub returns-in-Ok-land-clause-looks : goal.returns-in-Ok-land-clause-looks
returns-in-Ok-land-clause-looks g c = look_as g.S.Store c.args.conn.now c.land.new.conn _ _
    (look_then g.S.Store c.args.conn.now c.pass_plain.new.conn c.land.new.conn _ _ c.in-Ok.ensures.looks
    c.in-Ok-land.ensures.looks)

pub returns-in-Ok-land-clause-found : goal.returns-in-Ok-land-clause-found
returns-in-Ok-land-clause-found g c clean book held =
    let was = was_clean g.S.Store c.pass_plain.new.conn c.land.new.conn _ c.in-Ok-land.ensures.looks clean in
    let mid = holds_after g.S.Store c.args.conn.now c.pass_plain.new.conn _ book c.in-Ok.ensures.looks was held in
    let from : c.in-Ok.passed.0 ≤ c.args.at = omega (arith, c.if-from-at.false) in
    c.in-Ok-land.ensures.found clean book mid
    (between_from (IsPlainOff c.args.date) c.in-Ok.passed.0 c.args.at c.in-Ok.passed.1 book.orders from
    (c.in-Ok.ensures.found was book held))

pub returns-in-Err-land-clause-looks : goal.returns-in-Err-land-clause-looks
returns-in-Err-land-clause-looks g c = look_failed g.S.Store c.args.conn.now c.land.new.conn _
    (look_then g.S.Store c.args.conn.now c.pass_plain.new.conn c.land.new.conn _ _ c.in-Ok.ensures.looks
    c.in-Err-land.ensures.looks)
