-- Tests of an account.
use Rattle.std.specs.Prelude.{Bool, pos, int_lt}
use Rattle.rtgs_book.specs.declared.account.Account.{Account}

-- below zero
abbrev pub is_overdrawn : Account → Bool
is_overdrawn account = int_lt account.balance (pos 0)
