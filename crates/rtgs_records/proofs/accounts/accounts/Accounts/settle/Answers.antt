use Rattle.std.proofs.Common.{◌∙◌, pos, ◌-ℤ◌, to_z, of_z, w64, ap, subst, sym, arith}
use Rattle.std.proofs.lemmas.Int.{ints}
use Rattle.std.specs.Prelude.{FitsSigned, ◌+ℤ◌}
use Rattle.std.specs.List.{AllByRecursion}
use Rattle.rtgs_book.specs.declared.account.Account.{Account}
use Rattle.rtgs_records.specs.accounts.Accounts.{with_move}
use Rattle.rtgs_records.proofs.accounts.Settling.{moves_all, fits_less, fits_more}
use Rattle.rtgs_records.proofs.accounts.accounts.Accounts.settle.Goals as goal

pub returns-clause-accounts : goal.returns-clause-accounts
returns-clause-accounts c within =
    let small = c.cents-cents.ensures.in_range in
    let less = to_z w64 (of_z w64 (pos 0 -ℤ to_z w64 c.cents-cents.result)) in
    let more = to_z w64 c.cents-cents.result in
    let first = c.move_balance.ensures.moved (fits_less c.args.order.now.amount small less (omega (arith, ints))
    c.args.self.now.accounts within) in
    let second = c.move_balance-2.ensures.moved
    (subst (AllByRecursion (λ (a : Account). FitsSigned w64 (a.balance +ℤ more))) (sym first)
    (fits_more c.args.order.now.sender c.args.order.now.amount small less more (omega (arith, ints))
    (omega (arith, ints)) c.args.self.now.accounts within)) in
    second ∙ ap (with_move c.args.order.now.receiver more) first
    ∙ moves_all c.args.order.now less more (omega (arith, ints)) (omega (arith, ints)) c.args.self.now.accounts
