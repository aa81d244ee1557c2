use Rattle.std.proofs.Common.{◌∙◌, ◌++◌, ◌∷◌, [], sym, ap, subst, take}
use Rattle.std.proofs.lemmas.List.{take_all, take_more}
use Rattle.std.specs.List.{AllByRecursion}
use Rattle.rtgs_ledger.specs.Limits.{KeepsAccounts}
use Rattle.rtgs_lists.proofs.Lists.{all_push}
use Rattle.rtgs_ledger.proofs.ledger.staying_calm.change_accounts.Goals as goal

pub loop-row-preserved : goal.loop-row-preserved
loop-row-preserved c =
    let rows = c.args.rows.now in
    let i = c.loop-row.row-index in
    let row = c.row-item.result in
    subst (AllByRecursion KeepsAccounts)
    (sym (take_more rows i row c.loop-row-test.true ∙ ap (λ x. take i rows ++ x ∷ []) (sym c.row-item.is)))
    (all_push KeepsAccounts (take i rows) row c.loop-row.invariant
    (c.changes_accounts.ensures c.if-changes_accounts.false))

pub returns : goal.returns
returns c none = subst (AllByRecursion KeepsAccounts)
    (take_all c.loop-row.row-index c.args.rows.now c.loop-row-test.false) c.loop-row.invariant
