-- A resolution: the orders of the greatest choice, and the balances that they move.
use Rattle.std.specs.Prelude.{◌≡◌, ◌≤◌, ℤ, ◌+ℤ◌, Bool, true, not, List, ◌∷◌, ◌++◌, map, filter, length, Option, Some}
use Rattle.std.specs.Prelude.{None}
use Rattle.std.specs.Ordering.{int_eq}
use Rattle.std.specs.List.{AllByRecursion, find}
use Rattle.rtgs_book.specs.declared.limits.TheConstants.{MOST_QUEUED, LARGEST_BALANCE}
use Rattle.rtgs_book.specs.Totals.{Within}
use Rattle.rtgs_book.specs.declared.answer.Answer.TheVariants.{Resolved}
use Rattle.rtgs_book.specs.declared.book.Book.{Book}
use Rattle.rtgs_book.specs.declared.command.Command.TheVariants.{Resolve}
use Rattle.rtgs_book.specs.declared.mark.Mark.{Mark}
use Rattle.rtgs_book.specs.declared.order.Order.{Order}
use Rattle.rtgs_book.specs.declared.order_state.OrderState.TheVariants.{Settled}
use Rattle.rtgs_book.specs.declared.change.RowChange.{RowChange}
use Rattle.rtgs_book.specs.declared.change.RowChange.TheVariants.{AddMark, SetBalance, SetState}
use Rattle.rtgs_book.specs.Balance.{gain}
use Rattle.rtgs_book.specs.Choice.{Choice, IsGreatest}
use Rattle.rtgs_book.specs.IntSum.{int_sum_by}
use Rattle.rtgs_book.specs.declared.cores.cores.Core.{Core}
use Rattle.rtgs_book.specs.cores.Following.{AreBalanced}
use Rattle.rtgs_gridlock.specs.declared.positions.Position.{Position}
use Rattle.rtgs_gridlock.specs.declared.queues.Payment.{Payment}
use Rattle.rtgs_gridlock.specs.Choices.{AreFloored, AreInRange, payment_count}
use Rattle.rtgs_choices.specs.Settling.{orders_taken}
use Rattle.rtgs_book.specs.declared.account.Account.{Account}
use Rattle.rtgs_records.specs.accounts.Accounts.{code_of, is_of}
use Rattle.rtgs_ledger.specs.Kept.{IsPreparedByItself}

-- the orders are those of the book's greatest choice, account by account
pub record AreGreatest (book : Book) (orders : List Order) : Type 0 where
  pub choice : Choice
  pub greatest : IsGreatest book choice
  pub taken : orders ≡ orders_taken book choice
  pub few : length orders ≤ MOST_QUEUED

-- the account with what it gains where these orders are settled
abbrev pub after_orders : List Order → Account → Account
after_orders orders a = record a { balance = a.balance +ℤ int_sum_by (gain (code_of a)) orders }

-- this is the account's balance, where there was such an account
abbrev pub is_still : ℤ → Option Account → Bool
is_still balance None = true
is_still balance (Some a) = int_eq a.balance balance

-- an account that was there has another balance
abbrev pub has_moved : List Account → Account → Bool
has_moved old a = not (is_still a.balance (find (is_of (code_of a)) old))

-- the balances that are not what they were, account by account
abbrev pub moved_between : List Account → List Account → List RowChange
moved_between old new = map (λ (a : Account). SetBalance (code_of a) a.balance) (filter (has_moved old) new)

-- the rows that settle the orders under the mark: their states, the mark, and the balances that are not what they were
abbrev pub settling : List Order → Mark → List Account → List Account → List RowChange
settling orders mark old new =
    map (λ (o : Order). SetState o.number (Settled mark.number)) orders ++ AddMark mark ∷ moved_between old new

-- A resolution settles the orders under the mark, and leaves these accounts.
pub record IsSettlement (book : Book) (core : Core) (orders : List Order) (mark : Mark) (accounts : List Account)
    : Type 0 where
  pub prepared : IsPreparedByItself book core Resolve (Resolved mark.number mark.count mark.value)
      (settling orders mark core.accounts accounts)
  pub balanced : AreBalanced prepared.book accounts
  pub same : map code_of accounts ≡ map code_of core.accounts

-- what the resolver asks of positions and queues
pub record CanResolve (positions : List Position) (queues : List (List Payment)) : Type 0 where
  pub floored : AreFloored positions
  pub same : length positions ≡ length queues
  pub receivers : AreInRange queues
  pub few : payment_count queues ≤ MOST_QUEUED

-- no balance is past what a sound book can have
abbrev pub AreSmall : List Account → Type 0
AreSmall accounts = AllByRecursion (λ (a : Account). Within LARGEST_BALANCE a.balance) accounts
