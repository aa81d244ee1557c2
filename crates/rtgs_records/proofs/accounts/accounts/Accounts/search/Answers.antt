use Rattle.std.proofs.Common.{rules}
use Rattle.std.proofs.lemmas.List.Sorted.{answers_always}
use Rattle.rtgs_records.specs.accounts.Accounts.{code_of}
use Rattle.rtgs_records.proofs.accounts.AccountLemmas.{searched}
use Rattle.rtgs_records.proofs.accounts.accounts.Accounts.search.Goals as goal

-- the closure gives an account's code, and the slice is the accounts
pub returns : goal.returns
returns c =
    let facts = c.binary_search_by_key.ensures in
    let by_code = facts.position code_of (answers_always _ _ _ (λ f a r g called. search rules)) in
    rw (← c.self.view_is, ← c.deref.ensures.value) (searched _ (rw c.deref.ensures.value c.self.invariant.ordered)
    c.args.code.now _ facts.bound by_code)
