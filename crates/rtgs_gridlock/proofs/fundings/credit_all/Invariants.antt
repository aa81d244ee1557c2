use Rattle.std.proofs.Common.{length, ◌≡◌, ℕ, ◌<◌, ◌≤◌, ◌+◌, ◌*◌}
use Rattle.rtgs_gridlock.specs.declared.queues.TheConstants.{LARGEST_AMOUNT}
use Rattle.rtgs_gridlock.specs.Fundings.{funds_of, owed_of, everything}
use Rattle.rtgs_gridlock.proofs.ChoiceLemmas.{payments_below, received_from}
use Rattle.rtgs_gridlock.proofs.fundings.credit_all.Given as goal

abbrev pub invariant-loop-index : goal.invariant-loop-index
invariant-loop-index l = record {
  funds : (p : ℕ) → p < length l.queues → funds_of l.fundings p
      ≡ funds_of l.initial.fundings p + received_from l.index l.queues (everything l.queues) p;
  small : (p : ℕ) → p < length l.queues → received_from l.index l.queues (everything l.queues) p
      ≤ payments_below l.index l.queues * LARGEST_AMOUNT;
  owed : (p : ℕ) → owed_of l.fundings p ≡ owed_of l.initial.fundings p;
}
