use Rattle.std.proofs.Common.{◌∙◌, ap, map}
use Rattle.std.proofs.lemmas.List.{drop_all}
use Rattle.rtgs_book.specs.declared.account.Account.{Account}
use Rattle.rtgs_records.specs.accounts.Accounts.{code_of}
use Rattle.rtgs_ledger.specs.Choosing.{payments_in}
use Rattle.rtgs_records.specs.Held.{Held}
use Rattle.rtgs_ledger.proofs.Inputs.{all_done}
use Rattle.rtgs_ledger.proofs.ledger.Ledger.payments.Goals as goal

pub returns : goal.returns
returns c =
    all_done c.loop-account.queues _ _ (ap (map (λ (a : Account). payments_in c.args.self.now.core (code_of a)))
    (drop_all c.loop-account.account-index c.as_slice-account-items.result.now c.loop-account-test.false))
    c.loop-account.invariant
    ∙ ap (map (λ (a : Account). payments_in c.args.self.now.core (code_of a)))
    (c.as_slice-account-items.ensures.value ∙ ap (λ (h : Held). h.core.accounts) c.self.view_is)
