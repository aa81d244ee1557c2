-- Codes that rise, and their indexes.
use Rattle.std.proofs.Common.{◌≡◌, ℕ, zero, suc, ◌<◌, ◌+◌, ◌==◌, Bool, true, false, not, cond, ◌||◌, List, [], ◌∷◌}
use Rattle.std.proofs.Common.{length, get_or, nat_cmp, Less, refl, sym, ap, ◌∙◌, subst, true≢false, arith}
use Rattle.std.proofs.lemmas.Bool.{eqb-true, eq-eqb}
use Rattle.std.proofs.lemmas.List.Elements.{All-from_recursion}
use Rattle.std.proofs.lemmas.List.Sums.{passes_at_first}
use Rattle.std.specs.List.{list_any, position_or_len}
use Rattle.std.specs.List.Sorted.{IsStrictlySortedBy}
use Rattle.std.specs.Ordering.{ordering_reverse}
use Rattle.std.specs.Str.{bytes_eq}
use Rattle.std.specs.Cmp.Lexicographic.{slice_cmp, bytes_decides, nat_list_cmp_total}
use Rattle.rtgs_lists.proofs.Codes.{bytes_eq_self}

abbrev pub Rise : List (List ℕ) → Type 0
Rise codes = IsStrictlySortedBy (slice_cmp nat_cmp) codes

abbrev pub index_in : List (List ℕ) → List ℕ → ℕ
index_in codes code = position_or_len (bytes_eq code) codes

-- a code that is there has an index below the length
pub index_in-lt : (codes : List (List ℕ)) (code : List ℕ) → list_any (bytes_eq code) codes ≡ true
    → index_in codes code < length codes
index_in-lt [] code e = absurd (true≢false (sym e))
index_in-lt (c ∷ codes) code e = by (bytes_eq code c) e (index_in-lt codes code)
  where
    by : (b : Bool) → (b || list_any (bytes_eq code) codes) ≡ true
        → (list_any (bytes_eq code) codes ≡ true → index_in codes code < length codes)
        → cond (not b) (1 + index_in codes code) 0 < suc (length codes)
    by true e rest = omega arith
    by false e rest = let r = rest e in omega arith

-- and stands there
pub code_at_index : (codes : List (List ℕ)) (code : List ℕ) → index_in codes code < length codes
    → code ≡ get_or codes (index_in codes code) []
code_at_index codes code less = (bytes_decides code (get_or codes (index_in codes code) [])).0
    (passes_at_first (bytes_eq code) codes [] less)

less_apart : (a b : List ℕ) → slice_cmp nat_cmp a b ≡ Less → bytes_eq b a ≡ false
less_apart a b less = by (bytes_eq b a) refl
  where
    by : (t : Bool) → bytes_eq b a ≡ t → t ≡ false
    by true e = absurd (
        let same : b ≡ a = (bytes_decides b a).0 e in
        let here : slice_cmp nat_cmp a a ≡ Less = subst (λ (x : List ℕ). slice_cmp nat_cmp a x ≡ Less) same less in
        let turned : slice_cmp nat_cmp a a ≡ ordering_reverse (slice_cmp nat_cmp a a) = nat_list_cmp_total.antisymm a a
        in
        let back : Less ≡ ordering_reverse Less = sym here ∙ turned ∙ ap ordering_reverse here in
        cc)
    by false e = refl

-- the code at an index has that index
pub index_of_code_at : (codes : List (List ℕ)) (p : ℕ) → Rise codes → p < length codes
    → index_in codes (get_or codes p []) ≡ p
unfolding IsStrictlySortedBy
index_of_code_at [] p rise less = absurd (omega arith)
index_of_code_at (c ∷ codes) zero rise less = rw (bytes_eq_self c) refl
index_of_code_at (c ∷ codes) (suc p) rise less =
    let apart : bytes_eq (get_or codes p []) c ≡ false = less_apart c (get_or codes p [])
    (All-from_recursion (λ (later : List ℕ). slice_cmp nat_cmp c later ≡ Less) codes rise.0 p [] (omega arith)) in
    let rest : index_in codes (get_or codes p []) ≡ p = index_of_code_at codes p rise.1 (omega arith) in
    rw apart (omega arith)

-- a code has this index just where it stands there
pub has_index : (codes : List (List ℕ)) (code : List ℕ) (p : ℕ) → Rise codes → p < length codes
    → (index_in codes code == p) ≡ bytes_eq code (get_or codes p [])
has_index codes code p rise less = by (bytes_eq code (get_or codes p [])) refl
  where
    by : (t : Bool) → bytes_eq code (get_or codes p []) ≡ t → (index_in codes code == p) ≡ t
    by true e = eq-eqb _ _ (ap (index_in codes) ((bytes_decides code (get_or codes p [])).0 e)
        ∙ index_of_code_at codes p rise less)
    by false e = other (index_in codes code == p) refl
      where
        other : (t : Bool) → (index_in codes code == p) ≡ t → t ≡ false
        other true f = absurd (
            let is : index_in codes code ≡ p = eqb-true _ _ f in
            let there : code ≡ get_or codes (index_in codes code) [] = code_at_index codes code (omega arith) in
            let here : code ≡ get_or codes p [] = there ∙ ap (λ (n : ℕ). get_or codes n []) is in
            true≢false (sym ((bytes_decides code (get_or codes p [])).1 here) ∙ e))
        other false f = refl
