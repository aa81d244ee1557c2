-- A core after a change, row by row.
use Rattle.std.specs.Prelude.{◌≡◌, ℕ, ◌+◌, ℤ, pos, Bool, false, not, List, [], ◌∷◌, ◌++◌, map, filter, if◌then◌else◌, ⊤}
use Rattle.std.specs.List.{AllByRecursion}
use Rattle.std.specs.Str.{bytes_eq}
use Rattle.rtgs_book.specs.declared.account.Account.{Account}
use Rattle.rtgs_book.specs.declared.book.Book.{Book}
use Rattle.rtgs_book.specs.declared.participant.Participant.{Participant}
use Rattle.rtgs_book.specs.declared.change.RowChange.{RowChange}
use Rattle.rtgs_book.specs.declared.change.RowChange.TheVariants.{AddParticipant, AddPosting, AddOrder, AddMark}
use Rattle.rtgs_book.specs.declared.change.RowChange.TheVariants.{SetCredit, SetBalance, SetState, EnterQueue, SetDay}
use Rattle.rtgs_book.specs.Balance.{balance}
use Rattle.rtgs_book.specs.Books.{is_waiting, is_waiting_state}
use Rattle.rtgs_book.specs.Commands.{is_before, has_number, is_held_with, entered}
use Rattle.rtgs_book.specs.Settle.{altered}
use Rattle.rtgs_book.specs.declared.cores.cores.Core.{Core}

-- ---- accounts

abbrev pub participant_in : Account → Participant
participant_in a = a.participant

abbrev pub code_of : Account → List ℕ
code_of a = a.participant.code

-- the account is that of the code
abbrev pub is_of : List ℕ → Account → Bool
is_of code a = bytes_eq a.participant.code code

-- the account, at its place in code order
abbrev pub with_account : Account → List Account → List Account
with_account new accounts =
    filter (λ a. is_before (code_of a) (code_of new)) accounts ++ new
    ∷ filter (λ a. not (is_before (code_of a) (code_of new))) accounts

abbrev pub rebalanced : List ℕ → ℤ → Account → Account
rebalanced code balance a = if is_of code a then record a { balance = balance } else a

-- the code's account with this balance
abbrev pub with_balance : List ℕ → ℤ → List Account → List Account
with_balance code balance = map (rebalanced code balance)

abbrev pub limited : List ℕ → ℕ → Account → Account
limited code credit a = if is_of code a then record a { participant = record a.participant { credit = credit } } else a

-- the code's account with this credit limit
abbrev pub with_limit : List ℕ → ℕ → List Account → List Account
with_limit code credit = map (limited code credit)

-- each balance in the list is the participant's balance in the book
abbrev pub AreBalanced : Book → List Account → Type 0
AreBalanced book accounts = AllByRecursion (λ a. a.balance ≡ balance book (code_of a)) accounts

-- ---- rows

-- An order that is added waits or does not. One whose state is set waits no more. One that enters its queue waits on,
-- in its place.
abbrev pub core_after_row : Core → RowChange → Core
core_after_row core (AddParticipant participant) = record core {
  accounts = with_account (record { participant = participant; balance = pos 0 }) core.accounts;
}
core_after_row core (AddPosting posting) = record core { next_posting = core.next_posting + 1 }
core_after_row core (AddOrder order) = record core {
  waiting = if is_waiting order then core.waiting ++ order ∷ [] else core.waiting;
  next_order = core.next_order + 1;
}
core_after_row core (AddMark mark) = record core { next_mark = core.next_mark + 1 }
core_after_row core (SetCredit code credit) = record core { accounts = with_limit code credit core.accounts }
core_after_row core (SetBalance code balance) = record core { accounts = with_balance code balance core.accounts }
core_after_row core (SetState number state) = record core {
  waiting = filter (λ o. not (has_number number o)) core.waiting;
}
core_after_row core (EnterQueue number date) = record core {
  waiting = map (altered (is_held_with number) (entered date)) core.waiting;
}
core_after_row core (SetDay day) = record core { day = day }

-- what the rows leave
abbrev pub core_after : Core → List RowChange → Core
core_after core [] = core
core_after core (row ∷ rows) = core_after (core_after_row core row) rows

-- the row sets no state in which an order waits
abbrev pub WaitsNoMore : RowChange → Type 0
WaitsNoMore (SetState number state) = is_waiting_state state ≡ false
WaitsNoMore row = ⊤
