-- The records of rows, one after another.
use Rattle.std.proofs.Common.{◌≡◌, ◌∙◌, ℕ, ◌+◌, ◌<◌, ◌≤◌, zero, suc, List, [], ◌∷◌, ◌++◌, map, take, get_or, length}
use Rattle.std.proofs.Common.{Option, Some, refl, sym, ap, ap₂, subst, arith, add-one}
use Rattle.std.specs.List.{AllByRecursion}
use Rattle.std.proofs.lemmas.List.{take_more}
use Rattle.std.proofs.lemmas.Grind.{common_steps}
use Rattle.rtgs_lists.proofs.Lists.{map_push, all_push}

pub record IsAt {A R : Type 0} (shown : A → R) (P : A → Type 0) (found : List A) (i : ℕ) (item : R) : Type 0 where
  pub it : A
  pub fits : P it
  pub is : item ≡ shown it
  pub more : take (i + 1) found ≡ take i found ++ it ∷ []

record_at : {A R : Type 0} (shown : A → R) (P : A → Type 0) (found : List A) (i : ℕ) (item : R)
    → i < length (map shown found) → item ≡ get_or (map shown found) i item → AllByRecursion P found
    → IsAt shown P found i item
record_at shown P [] i item low here fits = absurd (omega arith)
record_at shown P (x ∷ found) zero item low here fits = record { it = x; fits = fits.0; is = here; more = refl }
record_at shown P (x ∷ found) (suc i) item low here fits =
    let rest = record_at shown P found i item (omega arith) here fits.1 in
    record {
      it = rest.it;
      fits = rest.fits;
      is = rest.is;
      more =
          rw add-one (ap (λ l. x ∷ l) (rw add-one at rest.more));
    }

-- the row at a place, changed, is that of the changed rows
mapped_at : {A B : Type 0} (f : A → B) (xs : List A) (i : ℕ) (x : A) → i < length xs → x ≡ get_or xs i x
    → f x ≡ get_or (map f xs) i (f x)
mapped_at f [] i x low is = absurd (omega arith)
mapped_at f (y ∷ xs) zero x low is = ap f is
mapped_at f (y ∷ xs) (suc i) x low is = mapped_at f xs i x (omega arith) is

pub map_length : {A B : Type 0} (f : A → B) (xs : List A) → length (map f xs) ≡ length xs
map_length f [] = refl
map_length f (x ∷ xs) = ap suc (map_length f xs)

-- the records of the first rows
pub record SoFar {A R : Type 0} (fits : A → Type 0) (read : R → R) (shown : A → R) (rows : List R) (at room : ℕ)
    (records : List A) : Type 0 where
  pub counted : length records ≡ at
  pub roomy : length rows ≤ room
  pub fit : AllByRecursion fits records
  pub is : map read (take at rows) ≡ map shown records
  pub given : (found : List A) → AllByRecursion fits found → map read rows ≡ map shown found → records ≡ take at found

module _ {A R : Type 0} (fits : A → Type 0) (read : R → R) (shown : A → R) (rows : List R) where
  pub begun : (room : ℕ) (records : List A) → records ≡ [] → length rows ≤ room
      → SoFar fits read shown rows 0 room records
  begun room records none roomy = record {
    counted = ap length none;
    roomy = roomy;
    fit = subst (AllByRecursion fits) (sym none) tt;
    is = ap (map shown) (sym none);
    given = λ found fit same. none;
  }

  pub one_more : (at room : ℕ) (records : List A) → SoFar fits read shown rows at room records → (item : R) (it : A)
      → at < length rows → item ≡ get_or rows at item → fits it → read item ≡ shown it
      → ((other : A) → fits other → read item ≡ shown other → ◌≡◌ {A = Option A} (Some it) (Some other))
      → (grown : List A) (left : ℕ) → grown ≡ records ++ it ∷ [] → left ≡ room
      → SoFar fits read shown rows (at + 1) left grown
  one_more at room records so item it low here fit is only grown left more same =
      let taken : take (at + 1) rows ≡ take at rows ++ item ∷ [] = take_more rows at item low
      ∙ ap (λ x. take at rows ++ x ∷ []) (sym here) in
      let counted = so.counted in
      record {
        counted = grind (arith, common_steps, more, counted);
        roomy = subst (λ n. length rows ≤ n) (sym same) so.roomy;
        fit = subst (AllByRecursion fits) (sym more) (all_push fits records it so.fit fit);
        is = ap (map read) taken ∙ map_push read (take at rows) item ∙ ap₂ (λ l x. l ++ x ∷ []) so.is is
            ∙ sym (map_push shown records it) ∙ ap (map shown) (sym more);
        given = λ found all alike.
            let low' : at < length (map shown found) = subst (λ l. at < length l) alike
            (let long = map_length read rows in omega (arith, long, low)) in
            let there = record_at shown fits found at (read item) low'
            (subst (λ l. read item ≡ get_or l at (read item)) alike (mapped_at read rows at item low here)) all in
            let one : ◌≡◌ {A = Option A} (Some it) (Some there.it) = only there.it there.fits there.is in
            let it_is : it ≡ there.it = cc in
            more ∙ ap (λ l. l ++ it ∷ []) (so.given found all alike) ∙ ap (λ x. take at found ++ x ∷ []) it_is
            ∙ sym there.more;
      }
