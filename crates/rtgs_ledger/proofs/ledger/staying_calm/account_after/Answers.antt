use Rattle.std.proofs.Common.{◌≡◌, ◌∷◌, ◌+◌, ◌∙◌, sym, ap, drop, List}
use Rattle.std.proofs.lemmas.List.{drop_all, drop_more}
use Rattle.rtgs_book.specs.declared.change.RowChange.{RowChange}
use Rattle.rtgs_ledger.specs.Limits.{account_after}
use Rattle.rtgs_ledger.proofs.ledger.staying_calm.account_after.Goals as goal

pub loop-row-preserved : goal.loop-row-preserved
loop-row-preserved c =
    let rows = c.args.rows.now in
    let i = c.loop-row.row-index in
    let row = c.row-item.result in
    let more : drop i rows ≡ row ∷ drop (i + 1) rows = drop_more rows i row c.loop-row-test.true
    ∙ ap (λ (x : RowChange). x ∷ drop (i + 1) rows) (sym c.row-item.is) in
    ap (account_after (drop (i + 1) rows)) c.account_after_row-after.ensures
    ∙ ap (λ (xs : List RowChange). account_after xs c.loop-row.after) (sym more) ∙ c.loop-row.invariant

pub returns : goal.returns
returns c =
    ap (λ (xs : List RowChange). account_after xs c.loop-row.after)
    (sym (drop_all c.loop-row.row-index c.args.rows.now c.loop-row-test.false)) ∙ c.loop-row.invariant
