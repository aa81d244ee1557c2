-- Results, and lists that are moved.
use Rattle.std.proofs.Common.{◌≡◌, List, [], ◌∷◌, IsPermutation, length, Ok, Err, Result, IfErr, OnErr, refl, ap, arith}
use Rattle.std.proofs.lemmas.List.Sorted.{length_permutation}

pub err_and : {T E : Type 0} (result : Result T E) (P : E → Type 0) (S : Type 0) → IfErr result P → OnErr result S
    → IfErr result (λ why. P why × S)
err_and (Ok done) P S one two = tt
err_and (Err why) P S one two = (one, two)

-- of nothing nothing is made by another order
pub none_moved : {X : Type 0} (xs ys : List X) → xs ≡ [] → IsPermutation xs ys → ys ≡ []
none_moved xs [] none same = refl
none_moved xs (y ∷ ys) none same = absurd (omega (arith, length_permutation xs (y ∷ ys) same, ap length none))
