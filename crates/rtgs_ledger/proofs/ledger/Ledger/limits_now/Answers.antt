use Rattle.std.proofs.Common.{◌≡◌, ℕ, ap, length, subst, sym, List, slice_index, arith}
use Rattle.std.proofs.lemmas.List.{length-map}
use Rattle.rtgs_gridlock.specs.Slack.{AreAtMost, IsCeiling, risen}
use Rattle.rtgs_gridlock.specs.Workspaces.{lengths_of, slacks_of}
use Rattle.rtgs_ledger.specs.Choosing.{payments_in, positions_in, queues_in}
use Rattle.rtgs_records.specs.accounts.Accounts.{code_of}
use Rattle.rtgs_ledger.specs.Limits.{limit_at}
use Rattle.rtgs_ledger.proofs.Limits.{ceiling_of_nothing}
use Rattle.rtgs_ledger.proofs.ledger.Ledger.limits_now.Goals as goal

pub limits_from-requires : goal.limits_from-requires
limits_from-requires c =
    let core = c.args.self.now.core in
    let count : length (queues_in core) ≡ length core.accounts =
    length-map core.accounts (λ a. payments_in core (code_of a)) in
    omega (
      arith,
      count,
      ap length c.in_ok-queues.ensures,
      c.greatest.ensures.within_slack.count,
      ap length c.slacks.ensures,
    )

pub returns : goal.returns
returns c = λ _.
    let core = c.args.self.now.core in
    let slacks = slacks_of c.greatest.new.workspace in
    let count : length (queues_in core) ≡ length core.accounts =
    length-map core.accounts (λ a. payments_in core (code_of a)) in
    let zeros = c.are_zero.ensures.0 c.if-not-are_zero.false in
    let ceiling = ceiling_of_nothing c.in_ok-queues.queues (lengths_of c.greatest.new.workspace)
    (risen c.in_ok-positions.positions (slice_index slacks)) c.greatest.ensures.length
    (rw c.lengths.ensures at zeros) c.greatest.ensures.within_slack.ceiling in
    let here : IsCeiling (queues_in core) (λ _. 0) (risen (positions_in core) (slice_index slacks)) =
    rw (c.in_ok-queues.ensures, c.in_ok-positions.ensures) at ceiling in
    c.calm_below_limits.ensures.lower (queues_in core) (λ _. 0) (risen (positions_in core) (slice_index slacks))
    (limit_at c.in_ok-list.list.items) here
    (subst (λ (n : ℕ). AreAtMost n (limit_at c.in_ok-list.list.items) (risen (positions_in core) (slice_index slacks)))
    (sym count) (subst (λ (xs : List ℕ). AreAtMost (length core.accounts) (limit_at c.in_ok-list.list.items)
    (risen (positions_in core) (slice_index xs))) c.slacks.ensures c.in_ok-list.ensures))
