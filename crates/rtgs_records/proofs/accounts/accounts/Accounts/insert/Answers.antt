use Rattle.std.proofs.Common.{sym, ◌≡◌, ◌∙◌, subst, false, length, ◌<◌}
use Rattle.std.specs.List.{list_any}
use Rattle.rtgs_book.specs.declared.limits.TheConstants.{MOST_PARTICIPANTS}
use Rattle.rtgs_records.specs.accounts.Accounts.{CodesRiseStrictly, AreOfABook, IsGapFor, with_account, code_of, key_of}
use Rattle.rtgs_records.specs.accounts.Accounts.{has_key}
use Rattle.rtgs_records.proofs.accounts.AccountLemmas.{find_at, inserted, of_a_book_inserted}
use Rattle.rtgs_records.proofs.accounts.accounts.Accounts.insert.Goals as goal

pub unreachable-requires : goal.unreachable-requires
unreachable-requires c =
    let same : c.self.inside.accounts.items ≡ c.args.self.now.accounts = λ i. (c.self.view_is i).accounts in
    let found = find_at (code_of c.args.account) c.args.self.now.accounts (subst CodesRiseStrictly same
    c.self.invariant.ordered)
    c.in-Ok.field-0 c.in-Ok.ensures.found c.args.account in
    cc

pub invariant_of-self : goal.invariant_of-self
invariant_of-self c =
    let same : c.self.inside.accounts.items ≡ c.args.self.now.accounts = λ i. (c.self.view_is i).accounts in
    let gap = subst (λ xs. IsGapFor (code_of c.args.account) xs c.in-Err.at) (sym same) c.in-Err.ensures.absent in
    subst AreOfABook (sym (rw c.unwrap.ensures at c.insert.ensures.items))
    (of_a_book_inserted c.args.account c.self.inside.accounts.items c.in-Err.at c.self.invariant gap
    (subst (λ xs. list_any (has_key (key_of c.args.account)) xs ≡ false) (sym same) c.requires.unused)
    (subst (λ xs. length xs < MOST_PARTICIPANTS) (sym same) c.requires.few))

pub returns-clause-accounts : goal.returns-clause-accounts
returns-clause-accounts c =
    let same : c.self.inside.accounts.items ≡ c.args.self.now.accounts = λ i. (c.self.view_is i).accounts in
    let gap = subst (λ xs. IsGapFor (code_of c.args.account) xs c.in-Err.at) (sym same) c.in-Err.ensures.absent in
    (rw c.unwrap.ensures at c.insert.ensures.items) ∙ inserted c.args.account c.self.inside.accounts.items c.in-Err.at
    gap ∙ (λ i. with_account c.args.account (same i))
