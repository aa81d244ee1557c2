use Rattle.std.proofs.Common.{sym, ◌≡◌, subst}
use Rattle.rtgs_records.specs.accounts.Accounts.{CodesRiseStrictly}
use Rattle.rtgs_records.proofs.accounts.AccountLemmas.{find_at, find_in_gap}
use Rattle.rtgs_records.proofs.accounts.accounts.Accounts.get.Goals as goal

pub returns-in-Ok : goal.returns-in-Ok
returns-in-Ok c =
    let same : c.self.inside.accounts.items ≡ c.args.self.now.accounts = λ i. (c.self.view_is i).accounts in
    let found = find_at c.args.code.now c.args.self.now.accounts (subst CodesRiseStrictly same c.self.invariant.ordered)
    c.in-Ok.at
    c.in-Ok.ensures.found c.index.result.now in
    cc

pub returns-in-Err : goal.returns-in-Err
returns-in-Err c = sym (find_in_gap _ _ _ c.in-Err.ensures.absent)
