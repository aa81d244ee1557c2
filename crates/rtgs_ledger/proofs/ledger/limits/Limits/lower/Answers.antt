use Rattle.std.proofs.Common.{◌≡◌, ◌∙◌, ℕ, ℤ, ◌<◌, pos, ◌+ℤ◌, ◌≤ℤ◌, cond, eqb, List, [], length, Option, Some, None}
use Rattle.std.proofs.Common.{IfSome, sym, arith, to_z, of_z}
use Rattle.std.specs.Int.{w128}
use Rattle.std.proofs.lemmas.Int.{ints}
use Rattle.rtgs_gridlock.specs.declared.queues.Payment.{Payment}
use Rattle.rtgs_gridlock.specs.Choices.{queue_of}
use Rattle.rtgs_ledger.specs.Choosing.{queues_in}
use Rattle.rtgs_ledger.specs.Limits.{limit_at}
use Rattle.rtgs_ledger.proofs.ledger.limits.Limits.lower.Goals as goal

-- who begins its queue had none
had_none : (queues : List (List Payment)) (account : Option ℕ)
    → IfSome account (λ s. (s < length queues) × (queue_of queues s ≡ []))
    → IfSome account (λ s. queue_of queues s ≡ [])
had_none queues None there = tt
had_none queues (Some s) there = there.1

-- what is at most this is so once it is lowered
still : (limits lower : ℕ → ℤ) (index cents : ℕ) (most : ℤ) (account : Option ℕ) → most ≡ pos cents
    → ((p : ℕ) → (lower p +ℤ pos (cond (eqb index p) cents 0)) ≤ℤ limits p)
    → IfSome account (λ s. limits s ≤ℤ most) → IfSome account (λ s. lower s ≤ℤ pos cents)
still limits lower index cents most None is lowered at_most = tt
still limits lower index cents most (Some s) is lowered at_most = omega (arith, ints, is, lowered s, at_most)

pub returns : goal.returns
returns c = λ core later lowers are known.
    let l = c.args.lowering.now in
    let limits = limit_at c.set_idle.new.self.list.items in
    let lower = limit_at c.lower_by.new.self.list.items in
    let fits : to_z w128 (of_z w128 c.from.result) ≡ c.from.result = omega (arith, ints, c.from.ensures) in
    let was_known = sym c.set_idle.ensures.known ∙ sym c.lower_by.ensures.known ∙ sym c.set_idle-2.ensures.known
    ∙ known in
    let before = c.set_idle.ensures.idle (queues_in core) (had_none (queues_in core) l.begins lowers.begins)
    (are was_known) in
    let lowered : (p : ℕ) → (lower p +ℤ pos (cond (eqb l.index p) l.cents 0)) ≤ℤ limits p =
    c.lower_by.ensures.lower c.if-not-lower_by.false in
    c.set_idle-2.ensures.idle (queues_in later) lowers.empties
    (lowers.ceiling limits lower before (λ p _. lowered p)
    (still limits lower l.index l.cents (to_z w128 (of_z w128 c.from.result)) l.begins (fits ∙ c.from.ensures) lowered
    (c.set_idle.ensures.most (omega (arith, ints, fits, c.from.ensures)))))
