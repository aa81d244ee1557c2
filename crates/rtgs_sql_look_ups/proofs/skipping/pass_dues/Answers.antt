use Rattle.rtgs_sql_look_ups.specs.Skipping.{IsDueOff}
use Rattle.rtgs_sql_look_ups.proofs.FindingLemmas.{look_as, look_then, look_failed, was_clean, holds_after}
use Rattle.rtgs_sql_look_ups.proofs.SkippingLemmas.{between_then}
use Rattle.rtgs_sql_look_ups.proofs.skipping.pass_dues.Goals as goal

pub returns-then-not-more-clause-looks : goal.returns-then-not-more-clause-looks
returns-then-not-more-clause-looks g c = look_as g.S.Store c.args.conn.now c.pass_due.new.conn _ _
    (look_then g.S.Store c.args.conn.now c.loop-looks.conn c.pass_due.new.conn _ _ c.loop-looks.invariant.looks
    c.in-Ok.ensures.looks)

pub returns-then-not-more-clause-found : goal.returns-then-not-more-clause-found
returns-then-not-more-clause-found g c clean book held =
    let inv = c.loop-looks.invariant in
    let was = was_clean g.S.Store c.loop-looks.conn c.pass_due.new.conn _ c.in-Ok.ensures.looks clean in
    let mid = holds_after g.S.Store c.args.conn.now c.loop-looks.conn _ book inv.looks was held in
    between_then (IsDueOff c.args.date) c.args.low c.loop-looks.at c.in-Ok.upto book.orders (inv.found was book held)
    (c.in-Ok.ensures.found clean book mid)

pub returns-in-Err-clause-looks : goal.returns-in-Err-clause-looks
returns-in-Err-clause-looks g c = look_failed g.S.Store c.args.conn.now c.pass_due.new.conn _
    (look_then g.S.Store c.args.conn.now c.loop-looks.conn c.pass_due.new.conn _ _ c.loop-looks.invariant.looks
    c.in-Err.ensures.looks)

pub loop-looks-preserved : goal.loop-looks-preserved
loop-looks-preserved g c =
    let inv = c.loop-looks.invariant in
    record {
      looks = look_as g.S.Store c.args.conn.now c.pass_due.new.conn _ _
          (look_then g.S.Store c.args.conn.now c.loop-looks.conn c.pass_due.new.conn _ _ inv.looks
          c.in-Ok.ensures.looks);
      found = λ clean book held.
          let was = was_clean g.S.Store c.loop-looks.conn c.pass_due.new.conn _ c.in-Ok.ensures.looks clean in
          let mid = holds_after g.S.Store c.args.conn.now c.loop-looks.conn _ book inv.looks was held in
          between_then (IsDueOff c.args.date) c.args.low c.loop-looks.at c.in-Ok.upto book.orders
          (inv.found was book held) (c.in-Ok.ensures.found clean book mid);
    }
