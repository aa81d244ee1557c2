use Rattle.std.proofs.Common.{◌∙◌, ap}
use Rattle.std.proofs.lemmas.List.{take_all}
use Rattle.std.specs.List.{flat_map}
use Rattle.rtgs_book.specs.declared.account.Account.{Account}
use Rattle.rtgs_book.specs.Queue.{queued_numbers}
use Rattle.rtgs_records.specs.accounts.Accounts.{code_of}
use Rattle.rtgs_records.specs.Held.{Held}
use Rattle.rtgs_ledger.proofs.ledger.Ledger.queued_numbers.Goals as goal

pub returns : goal.returns
returns c =
    let r = c.self.inside.records in
    c.loop-account.invariant.numbers
    ∙ ap (flat_map (λ (a : Account). queued_numbers r.orders.orders (code_of a)))
    (take_all c.loop-account.account-index c.as_slice-account-items.result.now c.loop-account-test.false
    ∙ c.as_slice-account-items.ensures.value)
    ∙ ap (λ (h : Held). flat_map (λ (a : Account). queued_numbers h.core.waiting (code_of a)) h.core.accounts)
    c.self.view_is
