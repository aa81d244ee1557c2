use Rattle.std.proofs.Common.{ℤ, refl, sym, ap, set, ◌≡◌, ◌∙◌, subst}
use Rattle.rtgs_book.specs.declared.account.Account.{Account}
use Rattle.rtgs_records.specs.accounts.Accounts.{AreOfABook, IsAt, with_balance}
use Rattle.rtgs_records.proofs.accounts.AccountLemmas.{altered_at, altered_in_gap, of_a_book_altered}
use Rattle.rtgs_records.proofs.accounts.accounts.Accounts.set_balance.Goals as goal

abbrev change : ℤ → Account → Account
change balance a = record a { balance = balance }

written : (c : goal.After-self-1) → set c.self.inside.accounts.items c.in-Ok.at
    (record { participant = c.index_mut.result.now.participant; balance = c.args.balance })
    ≡ with_balance c.args.code.now c.args.balance c.self.inside.accounts.items
written c =
    let same : c.self.inside.accounts.items ≡ c.args.self.now.accounts = λ i. (c.self.view_is i).accounts in
    let at = subst (λ xs. IsAt c.args.code.now xs c.in-Ok.at) (sym same) c.in-Ok.ensures.found in
    ap (λ (x : Account). set c.self.inside.accounts.items c.in-Ok.at (change c.args.balance x))
    c.index_mut.ensures.value
    ∙ altered_at (change c.args.balance) (λ a. refl) c.args.code.now c.self.inside.accounts.items
    c.self.invariant.ordered
    c.in-Ok.at at c.index_mut.result.now

pub invariant_of-self : goal.invariant_of-self
invariant_of-self c = subst AreOfABook (sym (written c))
    (of_a_book_altered (change c.args.balance) (λ a. refl) (λ a. refl) c.args.code.now c.self.inside.accounts.items
    c.self.invariant)

pub returns-in-Ok-clause-accounts : goal.returns-in-Ok-clause-accounts
returns-in-Ok-clause-accounts c =
    let same : c.self.inside.accounts.items ≡ c.args.self.now.accounts = λ i. (c.self.view_is i).accounts in
    written c ∙ (λ i. with_balance c.args.code.now c.args.balance (same i))

pub returns-in-Err-clause-accounts : goal.returns-in-Err-clause-accounts
returns-in-Err-clause-accounts c = sym (altered_in_gap (change c.args.balance) (λ a. refl) c.args.code.now
    c.args.self.now.accounts _ c.in-Err.ensures.absent)
