-- The next row number is above all.
use Rattle.std.proofs.Common.{◌≡◌, ℤ, pos, ◌+ℤ◌, List, [], ◌∷◌, map, sym, arith}
use Rattle.std.specs.List.{AllByRecursion}
use Rattle.std.specs.Ordering.{int_cmp}
use Rattle.std.specs.declared.cmp.Ordering.TheVariants.{Less}
use Rattle.std.specs.Cmp.{int_cmp_is}
use Rattle.std.proofs.lemmas.Cmp.{int_cmp_total}
use Rattle.std.proofs.lemmas.Int.{ints}
use Rattle.sqlite.specs.Edit.{next_rowid}
use Rattle.rtgs_rows.specs.Content.{Holding, holding_row, Rise}

one_above : (n : ℤ) → int_cmp n (n +ℤ pos 1) ≡ Less
one_above n = sym (int_cmp_is n (n +ℤ pos 1) Less (omega (arith, ints)))

-- each row number is below the next
below_next : (x : Holding) (xs : List Holding) → Rise (λ (h : Holding). h.id) (x ∷ xs)
    → AllByRecursion (λ a. int_cmp a.id (next_rowid (map holding_row (x ∷ xs))) ≡ Less) (x ∷ xs)
below_next x [] rise = (one_above x.id, tt)
below_next x (y ∷ ys) rise =
    let more = below_next y ys rise.1 in
    (int_cmp_total.trans x.id y.id _ rise.0.0 more.0, more)

pub all_below : (all : List Holding) → Rise (λ (h : Holding). h.id) all → AllByRecursion
    (λ a. int_cmp a.id (next_rowid (map holding_row all)) ≡ Less) all
all_below [] rise = tt
all_below (x ∷ xs) rise = below_next x xs rise
