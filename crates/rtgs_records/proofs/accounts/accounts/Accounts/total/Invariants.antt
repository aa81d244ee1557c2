use Rattle.std.proofs.Common.{◌≡◌, ◌*◌, ◌^◌, pos, neg_ℤ, ◌+ℤ◌, ◌≤ℤ◌, drop}
use Rattle.rtgs_book.specs.IntSum.{int_sum_by}
use Rattle.rtgs_records.specs.accounts.Accounts.{balance_of}
use Rattle.rtgs_records.proofs.accounts.accounts.Accounts.total.Given as goal

-- the sum so far, with that of what is left, is the sum of all
abbrev pub invariant-loop-account : goal.invariant-loop-account
invariant-loop-account l = record {
  rest : (l.total +ℤ int_sum_by balance_of (drop l.account-index l.account-items))
      ≡ int_sum_by balance_of l.account-items;
  low : neg_ℤ (pos (2 ^ 63 * l.account-index)) ≤ℤ l.total;
  high : l.total ≤ℤ pos (2 ^ 63 * l.account-index);
}
