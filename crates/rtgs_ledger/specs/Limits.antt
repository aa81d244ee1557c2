-- For how long nothing that is queued can settle, as a ledger keeps it.
use Rattle.std.specs.Prelude.{◌≡◌, ⊤, ℕ, ℤ, pos, ◌<◌, ◌+ℤ◌, ◌<ℤ◌, ◌≤ℤ◌, ◌==◌, true, false, if◌then◌else◌}
use Rattle.std.specs.Prelude.{List, [], ◌∷◌, length, slice_index_or, IfSome}
use Rattle.rtgs_book.specs.declared.account.Account.{Account}
use Rattle.rtgs_book.specs.declared.change.RowChange.{RowChange}
use Rattle.rtgs_book.specs.declared.change.RowChange.TheVariants.{AddParticipant, AddOrder, SetCredit, SetBalance}
use Rattle.rtgs_book.specs.declared.change.RowChange.TheVariants.{SetState, EnterQueue, SetDay}
use Rattle.rtgs_book.specs.declared.cores.cores.Core.{Core}
use Rattle.rtgs_book.specs.cores.Following.{core_after, limited, rebalanced}
use Rattle.rtgs_book.specs.Books.{is_queued}
use Rattle.rtgs_gridlock.specs.Choices.{queue_of}
use Rattle.rtgs_gridlock.specs.Slack.{IsCalm, IsCeiling}
use Rattle.rtgs_ledger.specs.declared.ledger.limits.Limits.{Limits}
use Rattle.rtgs_ledger.specs.declared.ledger.lowering.Lowering.{Lowering}
use Rattle.rtgs_ledger.specs.Choosing.{positions_in, queues_in}

-- the row leaves all queues as they are
abbrev pub KeepsQueues : RowChange → Type 0
KeepsQueues (AddParticipant participant) = ⊥
KeepsQueues (AddOrder order) = is_queued order ≡ false
KeepsQueues (SetState number state) = ⊥
KeepsQueues (EnterQueue number date) = ⊥
KeepsQueues row = ⊤

-- the row leaves the day, and the accounts except their balances and credit limits
abbrev pub KeepsAccounts : RowChange → Type 0
KeepsAccounts (AddParticipant participant) = ⊥
KeepsAccounts (SetDay day) = ⊥
KeepsAccounts row = ⊤

-- an account as such a row leaves it
abbrev pub account_after_row : RowChange → Account → Account
account_after_row (SetCredit code credit) a = limited code credit a
account_after_row (SetBalance code balance) a = rebalanced code balance a
account_after_row row a = a

abbrev pub account_after : List RowChange → Account → Account
account_after [] a = a
account_after (row ∷ rows) a = account_after rows (account_after_row row a)

-- what the headroom of the account at an index has to stay below; where there is no limit, nothing is below it
abbrev pub limit_at : List ℤ → ℕ → ℤ
limit_at limits i = slice_index_or limits i (pos 0)

-- where limits are known, nothing of the core's queues can settle while each headroom is below its limit
abbrev pub AreLimitsOf : Core → Limits → Type 0
AreLimitsOf core limits = limits.known ≡ true → IsCeiling (queues_in core) (λ _. 0) (limit_at limits.list.items)

-- Limits of the one core's queues, lowered so, are limits of the other's. The account that begins its queue had none
-- before, and the one that empties it has none after.
pub record Lowers (core later : Core) (l : Lowering) : Type 0 where
  pub count : length (queues_in later) ≡ length (queues_in core)
  pub ceiling : (limits lower : ℕ → ℤ) → IsCeiling (queues_in core) (λ _. 0) limits
      → ((p : ℕ) → p < length (queues_in core)
      → (lower p +ℤ pos (if l.index == p then l.cents else 0)) ≤ℤ limits p)
      → IfSome l.begins (λ s. lower s ≤ℤ pos l.cents) → IsCeiling (queues_in later) (λ _. 0) lower
  pub begins : IfSome l.begins (λ s. (s < length (queues_in core)) × (queue_of (queues_in core) s ≡ []))
  pub empties : IfSome l.empties (λ s. queue_of (queues_in later) s ≡ [])

-- the headroom of the account at an index is below its limit, lowered so
abbrev pub IsBelow : List ℤ → Lowering → ℕ → ℤ → Type 0
IsBelow limits l p headroom = ((headroom +ℤ pos (if l.index == p then l.cents else 0)) <ℤ limit_at limits p)
    × IfSome l.begins (λ s. s ≡ p → headroom <ℤ pos l.cents)

-- nothing can settle after the rows
abbrev pub LeaveCalm : Core → List RowChange → Type 0
LeaveCalm core rows = IsCalm (positions_in (core_after core rows)) (queues_in (core_after core rows))
