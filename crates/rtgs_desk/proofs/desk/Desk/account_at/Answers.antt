use Rattle.std.proofs.Common.{◌≡◌, ◌∙◌, None, sym, slice_get, rules}
use Rattle.rtgs_book.specs.Lookup.{codes_of}
use Rattle.rtgs_desk.proofs.HoldingLemmas.{core_remembered}
use Rattle.rtgs_desk.proofs.AccountLemmas.{account_at, no_account_at}
use Rattle.rtgs_desk.proofs.desk.Desk.account_at.Goals as goal

pub returns-in_err-code : goal.returns-in_err-code
returns-in_err-code g c book memory =
    let core = core_remembered c.self.inside.keeper c.self.inside.ledger.core c.args.self.now book c.self.view_is memory
    in
    let answered = c.code_at.ensures book core in
    let none : slice_get (codes_of book) c.args.index ≡ None = search rules in
    let result : c.from_residual.result ≡ None = search rules in
    result ∙ no_account_at book c.args.index none

pub returns : goal.returns
returns g c book memory =
    let core = core_remembered c.self.inside.keeper c.self.inside.ledger.core c.args.self.now book c.self.view_is memory
    in
    account_at book c.args.index c.in_ok-code.code c.account.result core.sound
    (sym (c.code_at.ensures book core) ∙ c.in_ok-code.was) (c.account.ensures.participant book core)
    (c.account.ensures.balance book core)
