use Rattle.std.proofs.Common.{◌≡◌, ◌∙◌, ap, sym, subst}
use Rattle.rtgs_book.specs.declared.cores.cores.Core.{Core}
use Rattle.rtgs_ledger.specs.Limits.{AreLimitsOf}
use Rattle.rtgs_records.specs.Held.{Held}
use Rattle.rtgs_records.specs.Records.{held_of, core_in}
use Rattle.rtgs_ledger.proofs.RecordLemmas.{arrived, core-after}
use Rattle.rtgs_ledger.proofs.ledger.Ledger.apply.Goals as goal

pub returns : goal.returns
returns c =
    let there = arrived c.args.self.now (held_of c.loop-row.self-inside.records) c.as_slice-row-items.result.now
    c.args.change.now c.loop-row.row-index c.loop-row-test.false c.loop-row.invariant.rest c.as_slice-row-items.ensures
    in
    let now : core_in c.loop-row.self-inside.records ≡ _ = ap (λ (h : Held). h.core) there
    ∙ core-after c.args.self.now c.args.change.now in
    (λ i. record (core_in c.loop-row.self-inside.records) {
      waiting = c.sweep.ensures.orders i;
      next_order = c.sweep.ensures.next i;
    }) ∙ now

pub invariant_of-self : goal.invariant_of-self
invariant_of-self c =
    let swept : record (core_in c.loop-row.self-inside.records) {
      waiting = c.sweep.new.self.orders;
      next_order = c.sweep.new.self.next;
    } ≡ core_in c.loop-row.self-inside.records = λ i. record (core_in c.loop-row.self-inside.records) {
      waiting = c.sweep.ensures.orders i;
      next_order = c.sweep.ensures.next i;
    } in (
      c.sweep.ensures.tidy,
      subst (λ (core : Core). AreLimitsOf core c.loop-row.self-inside.limits) (sym swept) c.loop-row.invariant.limits,
    )
