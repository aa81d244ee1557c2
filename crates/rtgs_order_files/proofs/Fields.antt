-- The fields of a record, one by one.
use Rattle.std.proofs.Common.{◌≡◌, ◌≤◌, ℕ, zero, suc, List, [], ◌∷◌, length, Some, None, arith}
use Rattle.csv.specs.Records.{field_at}
use Rattle.rtgs_order_files.specs.OrderFile.{field_or_none}

-- where there is no field, there are no more fields than that
pub missing : (fields : List (List ℕ)) (i : ℕ) → field_at fields i ≡ None → length fields ≤ i
unfolding field_at
missing [] i e = omega arith
missing (f ∷ fields) zero e = cc
missing (f ∷ fields) (suc i) e = let h = missing fields i e in omega arith

-- three or four fields are those at the first places
pub up_to_four : (fields : List (List ℕ)) (a b c : List ℕ) → length fields ≤ 4 → field_at fields 0 ≡ Some a
    → field_at fields 1 ≡ Some b → field_at fields 2 ≡ Some c
    → fields ≡ a ∷ b ∷ c ∷ field_or_none (field_at fields 3)
unfolding field_at
up_to_four [] a b c n ea eb ec = cc
up_to_four (x ∷ []) a b c n ea eb ec = cc
up_to_four (x ∷ y ∷ []) a b c n ea eb ec = cc
up_to_four (x ∷ y ∷ z ∷ []) a b c n ea eb ec = cc
up_to_four (x ∷ y ∷ z ∷ w ∷ []) a b c n ea eb ec = cc
up_to_four (x ∷ y ∷ z ∷ w ∷ v ∷ rest) a b c n ea eb ec = absurd (omega arith)
