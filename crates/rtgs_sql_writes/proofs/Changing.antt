-- One more change of the records.
use Rattle.std.proofs.Common.{◌≡◌, ℕ, zero, suc, ◌+◌, ◌<◌, List, [], ◌∷◌, ◌++◌, take, get_or, length, refl, sym, ap}
use Rattle.std.proofs.Common.{subst, ◌∙◌}
use Rattle.std.specs.List.{AllByRecursion}
use Rattle.std.proofs.lemmas.List.{take_more}
use Rattle.rtgs_lists.proofs.Lists.{all_push}
use Rattle.rtgs_book.specs.declared.change.RowChange.{RowChange}
use Rattle.rtgs_rows.specs.Fitting.{FitsRow}
use Rattle.rtgs_rows.specs.Content.{Content, IsInOrder, AreInOrder, with_change, with_changes}

pushed : (rows : List RowChange) (row : RowChange) (c : Content)
    → with_changes c (rows ++ row ∷ []) ≡ with_change (with_changes c rows) row
pushed [] row c = refl
pushed (x ∷ rows) row c = pushed rows row (with_change c x)

pub more_changes : (rows : List RowChange) (i : ℕ) (row : RowChange) (c : Content) → i < length rows
    → row ≡ get_or rows i row → with_change (with_changes c (take i rows)) row ≡ with_changes c (take (i + 1) rows)
more_changes rows i row c low here = sym (pushed (take i rows) row c)
    ∙ ap (λ r. with_changes c (take i rows ++ r ∷ [])) here ∙ ap (λ l. with_changes c l)
    (sym (take_more rows i row low))

pub formed_more : (rows : List RowChange) (i : ℕ) (row : RowChange) → i < length rows → row ≡ get_or rows i row
    → AllByRecursion FitsRow (take i rows) → FitsRow row → AllByRecursion FitsRow (take (i + 1) rows)
formed_more rows i row low here before fits = subst (AllByRecursion FitsRow)
    (sym (take_more rows i row low ∙ ap (λ r. take i rows ++ r ∷ []) (sym here)))
    (all_push FitsRow (take i rows) row before fits)

pub in_order_now : (rows : List RowChange) (c : Content) → AreInOrder c rows → IsInOrder c
in_order_now [] c order = order
in_order_now (row ∷ rows) c order = order.0

taken : (rows : List RowChange) (i : ℕ) (c : Content) → AreInOrder c rows → IsInOrder (with_changes c (take i rows))
taken rows zero c order = in_order_now rows c order
taken [] (suc i) c order = order
taken (row ∷ rows) (suc i) c order = taken rows i (with_change c row) order.1

pub order_at : (rows : List RowChange) (i : ℕ) (row : RowChange) (c : Content) → i < length rows
    → row ≡ get_or rows i row → AreInOrder c rows → IsInOrder (with_changes c (take i rows))
order_at rows i row c low here order = taken rows i c order

pub order_after : (rows : List RowChange) (i : ℕ) (row : RowChange) (c : Content) → i < length rows
    → row ≡ get_or rows i row → AreInOrder c rows → IsInOrder (with_change (with_changes c (take i rows)) row)
order_after rows i row c low here order = subst IsInOrder (sym (more_changes rows i row c low here))
    (taken rows (i + 1) c order)
