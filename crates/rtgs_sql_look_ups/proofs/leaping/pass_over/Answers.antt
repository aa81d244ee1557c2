use Rattle.std.proofs.Common.{arith}
use Rattle.rtgs_sql_look_ups.specs.Skipping.{IsOff}
use Rattle.rtgs_sql_look_ups.proofs.FindingLemmas.{look_as, look_then, look_failed, was_clean, holds_after}
use Rattle.rtgs_sql_look_ups.proofs.SkippingLemmas.{between_then}
use Rattle.rtgs_sql_look_ups.proofs.leaping.pass_over.Goals as goal

pub returns-in-Last-clause-looks : goal.returns-in-Last-clause-looks
returns-in-Last-clause-looks g c = look_as g.S.Store c.args.conn.now c.leap.new.conn _ _
    (look_then g.S.Store c.args.conn.now c.loop-leap.conn c.leap.new.conn _ _ c.loop-leap.invariant.looks
    c.in-Ok.ensures.looks)

pub returns-in-Last-clause-found : goal.returns-in-Last-clause-found
returns-in-Last-clause-found g c clean book held =
    let inv = c.loop-leap.invariant in
    let was = was_clean g.S.Store c.loop-leap.conn c.leap.new.conn _ c.in-Ok.ensures.looks clean in
    let mid = holds_after g.S.Store c.args.conn.now c.loop-leap.conn _ book inv.looks was held in
    between_then (IsOff c.args.date) c.args.number c.loop-leap.at c.in-Ok.to book.orders (inv.found was book held)
    (c.in-Ok.ensures.found clean book mid)

pub returns-in-Err-clause-looks : goal.returns-in-Err-clause-looks
returns-in-Err-clause-looks g c = look_failed g.S.Store c.args.conn.now c.leap.new.conn _
    (look_then g.S.Store c.args.conn.now c.loop-leap.conn c.leap.new.conn _ _ c.loop-leap.invariant.looks
    c.in-Err.ensures.looks)

pub loop-leap-preserved : goal.loop-leap-preserved
loop-leap-preserved g c =
    let inv = c.loop-leap.invariant in
    record {
      rises = let old = inv.rises in let new = c.in-Ok.ensures.rises in omega (arith, old, new);
      looks = look_as g.S.Store c.args.conn.now c.leap.new.conn _ _
          (look_then g.S.Store c.args.conn.now c.loop-leap.conn c.leap.new.conn _ _ inv.looks c.in-Ok.ensures.looks);
      found = λ clean book held.
          let was = was_clean g.S.Store c.loop-leap.conn c.leap.new.conn _ c.in-Ok.ensures.looks clean in
          let mid = holds_after g.S.Store c.args.conn.now c.loop-leap.conn _ book inv.looks was held in
          between_then (IsOff c.args.date) c.args.number c.loop-leap.at c.in-Ok.to book.orders
          (inv.found was book held) (c.in-Ok.ensures.found clean book mid);
    }
