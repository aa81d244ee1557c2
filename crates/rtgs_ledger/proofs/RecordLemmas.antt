-- Rows made one after another in the records.
use Rattle.std.proofs.Common.{◌≡◌, ℕ, ◌≤◌, List, [], ◌∷◌, length, drop, refl, ap, ◌∙◌}
use Rattle.std.proofs.lemmas.List.{drop_all}
use Rattle.rtgs_book.specs.declared.change.RowChange.{RowChange}
use Rattle.rtgs_book.specs.cores.Following.{core_after}
use Rattle.rtgs_records.specs.Held.{Held, after_row}

-- what the rows leave
abbrev pub after : Held → List RowChange → Held
after held [] = held
after held (row ∷ rows) = after (after_row held row) rows

pub core-after : (held : Held) (rows : List RowChange) → (after held rows).core ≡ core_after held.core rows
core-after held [] = refl
core-after held (row ∷ rows) = core-after (after_row held row) rows

pub arrived : (now current : Held) (items change : List RowChange) (i : ℕ) → length items ≤ i
    → after current (drop i items) ≡ after now items → items ≡ change → current ≡ after now change
arrived now current items change i past rest same = (rw (drop_all i items past) at rest) ∙ ap (after now) same
