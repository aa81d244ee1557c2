use Rattle.std.proofs.Common.{◌≡◌, length, ap, sym, subst, arith}
use Rattle.rtgs_records.specs.accounts.Accounts.{CodesRiseStrictly}
use Rattle.rtgs_records.proofs.accounts.Indexes.{position_at, position_nowhere}
use Rattle.rtgs_records.proofs.accounts.accounts.Accounts.index_of.Goals as goal

pub returns-in-Ok : goal.returns-in-Ok
returns-in-Ok c =
    let same : c.self.inside.accounts.items ≡ c.args.self.now.accounts = λ i. (c.self.view_is i).accounts in
    sym (position_at c.args.code.now c.args.self.now.accounts (subst CodesRiseStrictly same c.self.invariant.ordered)
    c.in-Ok.at
    c.in-Ok.ensures.found)

pub returns-in-Err : goal.returns-in-Err
returns-in-Err c =
    let same : c.self.inside.accounts.items ≡ c.args.self.now.accounts = λ i. (c.self.view_is i).accounts in
    let long : length c.self.inside.accounts.items ≡ length c.args.self.now.accounts = ap length same in
    let none = position_nowhere c.args.code.now c.args.self.now.accounts c.in-Err.ensures.absent.apart in
    omega (arith, c.self.inside.accounts.ok.0)
