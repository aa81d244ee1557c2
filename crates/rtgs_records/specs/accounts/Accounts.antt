-- Accounts, as contracts see them.
use Rattle.std.specs.Prelude.{true, false, ◌≡◌, ℕ, ◌≤◌, ℤ, ◌+ℤ◌, Bool, true, List, map}
use Rattle.std.specs.Prelude.{if◌then◌else◌, length, slice_index_or, ◌<◌}
use Rattle.std.specs.List.{AllByRecursion, IsDistinct}
use Rattle.std.specs.List.Sorted.{IsStrictlySortedBy}
use Rattle.std.specs.Ordering.{nat_cmp}
use Rattle.std.specs.Cmp.Lexicographic.{slice_cmp}
use Rattle.std.specs.Str.{bytes_eq}
use Rattle.rtgs_book.specs.declared.limits.TheConstants.{MOST_PARTICIPANTS}
use Rattle.rtgs_book.specs.declared.order.Order.{Order}
use Rattle.rtgs_book.specs.Balance.{gain}
use Rattle.rtgs_book.specs.Commands.{is_before}
use Rattle.rtgs_book.specs.declared.account.Account.{Account}
pub use Rattle.rtgs_book.specs.cores.Following.{participant_in, code_of, is_of, with_account, rebalanced, with_balance}
pub use Rattle.rtgs_book.specs.cores.Following.{limited, with_limit}

-- the accounts, and how many more can be added without memory
pub record AccountList : Type 0 where
  pub accounts : List Account
  pub room : ℕ

abbrev pub key_of : Account → List ℕ
key_of a = a.participant.key

abbrev pub has_key : List ℕ → Account → Bool
has_key key a = bytes_eq a.participant.key key

abbrev pub balance_of : Account → ℤ
balance_of a = a.balance

abbrev pub CodesRiseStrictly : List Account → Type 0
CodesRiseStrictly accounts = IsStrictlySortedBy (slice_cmp nat_cmp) (map code_of accounts)

-- Their participants can be those of a sound book: codes rise, no two have a key, and they are not too many.
pub record AreOfABook (accounts : List Account) : Type 0 where
  pub ordered : CodesRiseStrictly accounts
  pub keys : IsDistinct bytes_eq (map key_of accounts)
  pub few : length accounts ≤ MOST_PARTICIPANTS

abbrev pub move : List ℕ → ℤ → Account → Account
move code cents a = if is_of code a then record a { balance = a.balance +ℤ cents } else a

-- the code's account with this many cents more
abbrev pub with_move : List ℕ → ℤ → List Account → List Account
with_move code cents = map (move code cents)

-- the account with what it gains where the order is settled
abbrev pub after_order : Order → Account → Account
after_order order a = record a { balance = a.balance +ℤ gain (code_of a) order }

-- the code's account stands at this index
pub record IsAt (code : List ℕ) (accounts : List Account) (i : ℕ) : Type 0 where
  pub in_range : i < length accounts
  pub has_code : (d : Account) → code_of (slice_index_or accounts i d) ≡ code

-- the codes before this index come before the code, and the others after it
pub record IsGapFor (code : List ℕ) (accounts : List Account) (i : ℕ) : Type 0 where
  pub in_range : i ≤ length accounts
  pub before : (k : ℕ) (d : Account) → k < i → is_before (code_of (slice_index_or accounts k d)) code ≡ true
  pub after : (k : ℕ) (d : Account) → i ≤ k → k < length accounts
      → is_before (code_of (slice_index_or accounts k d)) code ≡ false
  pub apart : AllByRecursion (λ a. is_of code a ≡ false) accounts
