use Rattle.std.proofs.Common.{◌≡◌, ◌≤◌, map, take, length, vec_capacity}
use Rattle.rtgs_book.specs.cores.Cores.{account_of}
use Rattle.rtgs_soundness.proofs.cores.accounts_of.Given as goal

-- the accounts of the participants so far, and room for the rest
abbrev pub invariant-loop-participant : goal.invariant-loop-participant
invariant-loop-participant l = record {
  made : l.accounts.items ≡ map (account_of l.book) (take l.participant-index l.book.participants);
  room : length l.participant-items ≤ vec_capacity l.accounts;
  so_many : length l.accounts.items ≡ l.participant-index;
}
