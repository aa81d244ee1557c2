use Rattle.std.proofs.Common.{◌<◌, ◌-◌, IfSome, sym, subst, ◌∙◌, arith}
use Rattle.std.proofs.lemmas.Result.{IfOk-weaker}
use Rattle.rtgs_book.specs.Settle.{today}
use Rattle.rtgs_rows.specs.declared.forward.Forward.{Forward}
use Rattle.rtgs_sql_look_ups.specs.Skipping.{Between, IsOff, IsDueOff}
use Rattle.rtgs_sql_look_ups.proofs.FindingLemmas.{look_then, was_clean, holds_after}
use Rattle.rtgs_sql_look_ups.proofs.SkippingLemmas.{between_then, between_weaker, none_between, no_due, due_later}
use Rattle.rtgs_sql_look_ups.proofs.skipping.pass_due.Goals as goal

pub returns-then-forward-high-clause-found : goal.returns-then-forward-high-clause-found
returns-then-forward-high-clause-found g c clean book held = no_due c.args.date c.args.at c.args.high book.orders
    (c.records_are_listed.ensures.orders book held.2.sound)
    (subst (λ due. IfSome due (λ (f : Forward). c.args.high < f.number))
    (sym c.in-Ok-Some.field-0-is ∙ c.in-Ok-Some.ensures.found clean book held) c.if-forward-high.true)

pub returns-then-number-clause-found : goal.returns-then-number-clause-found
returns-then-number-clause-found g c clean book held = due_later (today book) c.args.date c.args.at book.orders
    c.in-Ok-Some.forward (c.records_are_listed.ensures.orders book held.2.sound) held.2.sound.dates.dues
    (sym (c.in-Ok-Some.ensures.found clean book held) ∙ c.in-Ok-Some.field-0-is)
    (omega (arith, c.if-number.true, c.number.ensures.value, c.number-else-forward-high.ensures.value))

pub returns-then-forward-gt0-clause-looks : goal.returns-then-forward-gt0-clause-looks
returns-then-forward-gt0-clause-looks g c = look_then g.S.Store c.args.conn.now c.forward_above.new.conn
    c.pass_dated.new.conn _ c.pass_dated.result c.in-Ok-Some.ensures.looks c.pass_dated.ensures.looks

pub returns-then-forward-gt0-clause-found : goal.returns-then-forward-gt0-clause-found
returns-then-forward-gt0-clause-found g c clean book held =
    let date = c.args.date in
    let below = c.in-Ok-Some.forward.number - 1 in
    let was = was_clean g.S.Store c.forward_above.new.conn c.pass_dated.new.conn c.pass_dated.result
    c.pass_dated.ensures.looks clean in
    let mid = holds_after g.S.Store c.args.conn.now c.forward_above.new.conn _ book c.in-Ok-Some.ensures.looks was
    held in
    let none = no_due date c.args.at below book.orders (c.records_are_listed.ensures.orders book held.2.sound)
    (subst (λ due. IfSome due (λ (f : Forward). below < f.number))
    (sym c.in-Ok-Some.field-0-is ∙ c.in-Ok-Some.ensures.found was book held)
    (omega (arith, c.if-forward-gt0.true))) in
    IfOk-weaker c.pass_dated.result (λ it. Between (IsOff date) below it.0 book.orders)
    (λ it. Between (IsDueOff date) c.args.at it.0 book.orders)
    (λ it off. between_then (IsDueOff date) c.args.at below it.0 book.orders none
    (between_weaker (IsOff date) (IsDueOff date) below it.0 book.orders (λ o is_off _. is_off) off))
    (c.pass_dated.ensures.found clean book mid)

pub returns-else-forward-gt0-clause-found : goal.returns-else-forward-gt0-clause-found
returns-else-forward-gt0-clause-found g c clean book held = none_between (IsDueOff c.args.date) c.args.at book.orders

pub returns-in-Ok-None-clause-found : goal.returns-in-Ok-None-clause-found
returns-in-Ok-None-clause-found g c clean book held = no_due c.args.date c.args.at c.args.high book.orders
    (c.records_are_listed.ensures.orders book held.2.sound)
    (subst (λ due. IfSome due (λ (f : Forward). c.args.high < f.number))
    (sym c.in-Ok-None.field-0-is ∙ c.in-Ok-None.ensures.found clean book held) tt)
