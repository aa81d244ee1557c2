-- A row from its columns.
use Rattle.std.proofs.Common.{◌≡◌, [], ◌∷◌, length, ap, ap₂, arith}
use Rattle.sqlite.specs.declared.types.Value.{Value}
use Rattle.sqlite.specs.Order.{Row}
use Rattle.sqlite_value.specs.Order.{column}

pub of_four : (r : Row) {a b c d : Value} → length r ≡ 4 → column r 0 ≡ a → column r 1 ≡ b → column r 2 ≡ c
    → column r 3 ≡ d → r ≡ a ∷ b ∷ c ∷ d ∷ []
of_four [] wide e0 e1 e2 e3 = absurd (omega (arith, wide))
of_four (x ∷ []) wide e0 e1 e2 e3 = absurd (omega (arith, wide))
of_four (x ∷ y ∷ []) wide e0 e1 e2 e3 = absurd (omega (arith, wide))
of_four (x ∷ y ∷ z ∷ []) wide e0 e1 e2 e3 = absurd (omega (arith, wide))
of_four (x ∷ y ∷ z ∷ t ∷ []) wide e0 e1 e2 e3 = ap₂ ◌∷◌ e0 (ap₂ ◌∷◌ e1 (ap₂ ◌∷◌ e2 (ap (λ v. v ∷ []) e3)))
of_four (x ∷ y ∷ z ∷ t ∷ u ∷ r) wide e0 e1 e2 e3 = absurd (omega (arith, wide))

pub of_five : (r : Row) {a b c d e : Value} → length r ≡ 5 → column r 0 ≡ a → column r 1 ≡ b → column r 2 ≡ c
    → column r 3 ≡ d → column r 4 ≡ e → r ≡ a ∷ b ∷ c ∷ d ∷ e ∷ []
of_five [] wide e0 e1 e2 e3 e4 = absurd (omega (arith, wide))
of_five (x ∷ r) wide e0 e1 e2 e3 e4 = ap₂ ◌∷◌ e0 (of_four r (omega (arith, wide)) e1 e2 e3 e4)

pub of_eight : (r : Row) {a b c d e f g h : Value} → length r ≡ 8 → column r 0 ≡ a → column r 1 ≡ b → column r 2 ≡ c
    → column r 3 ≡ d → column r 4 ≡ e → column r 5 ≡ f → column r 6 ≡ g → column r 7 ≡ h
    → r ≡ a ∷ b ∷ c ∷ d ∷ e ∷ f ∷ g ∷ h ∷ []
of_eight [] wide e0 e1 e2 e3 e4 e5 e6 e7 = absurd (omega (arith, wide))
of_eight (x ∷ []) wide e0 e1 e2 e3 e4 e5 e6 e7 = absurd (omega (arith, wide))
of_eight (x ∷ y ∷ []) wide e0 e1 e2 e3 e4 e5 e6 e7 = absurd (omega (arith, wide))
of_eight (x ∷ y ∷ z ∷ r) wide e0 e1 e2 e3 e4 e5 e6 e7 = ap₂ ◌∷◌ e0
    (ap₂ ◌∷◌ e1 (ap₂ ◌∷◌ e2 (of_five r (omega (arith, wide)) e3 e4 e5 e6 e7)))
