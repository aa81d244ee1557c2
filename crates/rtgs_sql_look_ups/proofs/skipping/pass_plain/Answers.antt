use Rattle.std.proofs.Common.{not, ap, sym, ◌∙◌}
use Rattle.rtgs_book.specs.declared.limits.TheConstants.{LARGEST_NUMBER}
use Rattle.rtgs_sql_look_ups.specs.Skipping.{IsPlainOff}
use Rattle.rtgs_sql_look_ups.proofs.FindingLemmas.{look_as, look_then, look_failed, was_clean, holds_after}
use Rattle.rtgs_sql_look_ups.proofs.SeekingLemmas.{clash}
use Rattle.rtgs_sql_look_ups.proofs.SkippingLemmas.{between_then, none_above, one_above}
use Rattle.rtgs_sql_look_ups.proofs.skipping.pass_plain.Goals as goal

pub returns-then-is_none-clause-looks : goal.returns-then-is_none-clause-looks
returns-then-is_none-clause-looks g c = look_as g.S.Store c.args.conn.now c.order_above.new.conn _ _
    (look_then g.S.Store c.args.conn.now c.loop-look.conn c.order_above.new.conn _ _ c.loop-look.invariant.looks
    c.in-Ok-Some.ensures.looks)

pub returns-then-is_none-clause-found : goal.returns-then-is_none-clause-found
returns-then-is_none-clause-found g c clean book held =
    let inv = c.loop-look.invariant in
    let was = was_clean g.S.Store c.loop-look.conn c.order_above.new.conn _ c.in-Ok-Some.ensures.looks clean in
    let mid = holds_after g.S.Store c.args.conn.now c.loop-look.conn _ book inv.looks was held in
    c.passed_plain.ensures.right book held.2.sound
    (sym (c.in-Ok-Some.ensures.found clean book mid) ∙ c.in-Ok-Some.field-0-is)
    (c.is_none.ensures ∙ ap not c.if-is_none.true) (inv.found was book held)

pub returns-in-Ok-None-clause-looks : goal.returns-in-Ok-None-clause-looks
returns-in-Ok-None-clause-looks g c = look_as g.S.Store c.args.conn.now c.order_above.new.conn _ _
    (look_then g.S.Store c.args.conn.now c.loop-look.conn c.order_above.new.conn _ _ c.loop-look.invariant.looks
    c.in-Ok-None.ensures.looks)

pub returns-in-Ok-None-clause-found : goal.returns-in-Ok-None-clause-found
returns-in-Ok-None-clause-found g c clean book held =
    let inv = c.loop-look.invariant in
    let was = was_clean g.S.Store c.loop-look.conn c.order_above.new.conn _ c.in-Ok-None.ensures.looks clean in
    let mid = holds_after g.S.Store c.args.conn.now c.loop-look.conn _ book inv.looks was held in
    between_then (IsPlainOff c.args.date) c.args.number c.loop-look.at LARGEST_NUMBER book.orders
    (inv.found was book held)
    (none_above (IsPlainOff c.args.date) c.loop-look.at LARGEST_NUMBER book.orders
    (sym (c.in-Ok-None.ensures.found clean book mid) ∙ c.in-Ok-None.field-0-is))

pub returns-in-Err-clause-looks : goal.returns-in-Err-clause-looks
returns-in-Err-clause-looks g c = look_failed g.S.Store c.args.conn.now c.order_above.new.conn _
    (look_then g.S.Store c.args.conn.now c.loop-look.conn c.order_above.new.conn _ _ c.loop-look.invariant.looks
    c.in-Err.ensures.looks)

pub loop-look-preserved : goal.loop-look-preserved
loop-look-preserved g c =
    let inv = c.loop-look.invariant in
    record {
      looks = look_as g.S.Store c.args.conn.now c.order_above.new.conn _ _
          (look_then g.S.Store c.args.conn.now c.loop-look.conn c.order_above.new.conn _ _ inv.looks
          c.in-Ok-Some.ensures.looks);
      found = λ clean book held.
          let was = was_clean g.S.Store c.loop-look.conn c.order_above.new.conn _ c.in-Ok-Some.ensures.looks clean in
          let mid = holds_after g.S.Store c.args.conn.now c.loop-look.conn _ book inv.looks was held in
          let first = sym (c.in-Ok-Some.ensures.found clean book mid) ∙ c.in-Ok-Some.field-0-is in
          between_then (IsPlainOff c.args.date) c.args.number c.loop-look.at c.in-Ok-Some.order.number book.orders
          (inv.found was book held)
          (one_above (IsPlainOff c.args.date) c.loop-look.at book.orders c.in-Ok-Some.order
          (c.records_are_listed.ensures.orders book held.2.sound) first
          (λ none. absurd (clash _ (c.is_none.ensures ∙ ap not c.if-is_none.false) none)));
    }
