-- Maps with text keys, read at each key.
use Rattle.std.proofs.Common.{◌≡◌, ℕ, Bool, true, false, List, Some, refl, sym, ap, ◌∙◌, subst}
use Rattle.std.specs.BTreeMap.{get, BTreeMap, Updates}
use Rattle.std.specs.Option.{option_map_or}
use Rattle.std.specs.Ordering.{nat_cmp}
use Rattle.std.specs.Cmp.Lexicographic.{slice_cmp, bytes_decides, texts_ties}
use Rattle.std.specs.Str.{bytes_eq}

module _ {V A : Type 0} (read : V → A) (none : A) where
  -- what is read of the value at a key
  abbrev pub read_at : BTreeMap (List ℕ) V → List ℕ → A
  read_at values key = option_map_or read (get (slice_cmp nat_cmp) values key) none

  -- a value is put under a key, and what held of what was read there before holds again
  pub read_after : (P : Bool → A → A → Type 0) → ((a : A) → P false a a)
      → (old new : BTreeMap (List ℕ) V) (key : List ℕ) (value : V)
      → Updates (slice_cmp nat_cmp) old new key (Some value) → P true (read_at old key) (read value)
      → (other : List ℕ) → P (bytes_eq key other) (read_at old other) (read_at new other)
  read_after P same old new key value updates here other = by (bytes_eq key other) refl
    where
      by : (b : Bool) → bytes_eq key other ≡ b → P b (read_at old other) (read_at new other)
      by true e =
          let at : key ≡ other = (bytes_decides key other).0 e in
          subst (λ q. P true (read_at old q) (read_at new q)) at
          (subst (λ a. P true (read_at old key) a) (sym (ap (λ o. option_map_or read o none) updates.1)) here)
      by false e = subst (λ a. P false (read_at old other) a)
          (sym (ap (λ o. option_map_or read o none) (updates.2 other (sym (texts_ties key other) ∙ e))))
          (same (read_at old other))
