-- Names in order, and names that are distinct.
use Rattle.std.proofs.Common.{◌≡◌, ℕ, ◌+◌, ◌≤◌, ◌<◌, Result, IfOk, Bool, true, false, ◌&&◌, List, [], ◌∷◌, Option, Some}
use Rattle.std.proofs.Common.{None, Ordering, Less, Equal, Greater, length, map, drop, get_or, nat_le, nat_cmp, IsTrue}
use Rattle.std.proofs.Common.{◌↔◌, refl, sym, ap, ◌∙◌, subst, true≢false, arith}
use Rattle.std.proofs.lemmas.Bool.Decides.{nat_tests}
use Rattle.std.proofs.lemmas.List.{length-map}
use Rattle.std.proofs.Math.ListN.{drop_of_length-le}
use Rattle.std.specs.List.{AllByRecursion, IsDistinct}
use Rattle.std.specs.List.Sorted.{IsStrictlySortedBy}
use Rattle.std.specs.Ordering.{is_lt, is_ge, eq_by_cmp, ordering_then}
use Rattle.std.specs.Cmp.Lexicographic.{slice_cmp, nat_list_cmp_total, texts_ties}
use Rattle.std.specs.Str.{bytes_eq}
use Rattle.rtgs_book.specs.declared.limits.TheConstants.{MOST_PARTICIPANTS}
use Rattle.rtgs_book.specs.Soundness.{AreCodes, is_same_name}
use Rattle.rtgs_soundness.proofs.Loops.{next_of}
use Rattle.rtgs_lists.proofs.Bools.{and_left, and_right}
use Rattle.rtgs_lists.proofs.Lists.{all_weaker}

-- what compares equal is the same text
pub same_text : eq_by_cmp (slice_cmp nat_cmp) ≡ bytes_eq
same_text = λ i xs ys. sym (texts_ties xs ys) i

-- the order of names of two parts
abbrev pub name_cmp : List ℕ × List ℕ → List ℕ × List ℕ → Ordering
name_cmp a b = ordering_then (slice_cmp nat_cmp a.0 b.0) (slice_cmp nat_cmp a.1 b.1)

then_equal : (a b : Ordering) → (x y : Bool) → x ≡ eq_by_cmp (λ (u v : ℕ). a) 0 0 → y ≡ eq_by_cmp (λ (u v : ℕ). b) 0 0
    → eq_by_cmp (λ (u v : ℕ). ordering_then a b) 0 0 ≡ (x && y)
then_equal Less b x y e f = rw e refl
then_equal Greater b x y e f = rw e refl
then_equal Equal b x y e f = rw (e, f) refl

pub same_name : eq_by_cmp name_cmp ≡ is_same_name
same_name = λ i a b. then_equal (slice_cmp nat_cmp a.0 b.0) (slice_cmp nat_cmp a.1 b.1) (bytes_eq a.0 b.0)
    (bytes_eq a.1 b.1) (texts_ties a.0 b.0) (texts_ties a.1 b.1) i

-- ---- codes that rise

-- the code is above the one before it, if there is one
abbrev pub is_above : Option (List ℕ) → List ℕ → Bool
is_above None code = true
is_above (Some before) code = is_lt (slice_cmp nat_cmp before code)

abbrev pub climbs_from : Option (List ℕ) → List (List ℕ) → Bool
climbs_from before [] = true
climbs_from before (code ∷ codes) = is_above before code && climbs_from (Some code) codes

less_from : (o : Ordering) → is_lt o ≡ true → o ≡ Less
less_from Less e = refl
less_from Equal e = absurd (true≢false (sym e))
less_from Greater e = absurd (true≢false (sym e))

above_all : (a b : List ℕ) (codes : List (List ℕ)) → slice_cmp nat_cmp a b ≡ Less
    → AllByRecursion (λ c. slice_cmp nat_cmp b c ≡ Less) codes
    → AllByRecursion (λ c. slice_cmp nat_cmp a c ≡ Less) codes
above_all a b codes h above = all_weaker (λ c. slice_cmp nat_cmp b c ≡ Less) (λ c. slice_cmp nat_cmp a c ≡ Less)
    (λ c k. nat_list_cmp_total.trans a b c h k) codes above

pub climbed : (before : List ℕ) (codes : List (List ℕ)) → climbs_from (Some before) codes ≡ true
    → AllByRecursion (λ c. slice_cmp nat_cmp before c ≡ Less) codes × IsStrictlySortedBy (slice_cmp nat_cmp) codes
unfolding IsStrictlySortedBy
climbed before [] e = (tt, tt)
climbed before (code ∷ codes) e =
    let here = less_from (slice_cmp nat_cmp before code) (and_left (is_lt (slice_cmp nat_cmp before code))
    (climbs_from (Some code) codes) e) in
    let rest = climbed code codes (and_right (is_lt (slice_cmp nat_cmp before code)) (climbs_from (Some code) codes) e)
    in
    ((here, above_all before code codes here rest.0), (rest.0, rest.1))

pub climbs : (before : List ℕ) (codes : List (List ℕ)) → AllByRecursion (λ c. slice_cmp nat_cmp before c ≡ Less) codes
    → IsStrictlySortedBy (slice_cmp nat_cmp) codes → climbs_from (Some before) codes ≡ true
unfolding IsStrictlySortedBy
climbs before [] above h = refl
climbs before (code ∷ codes) above h = rw (above.0, climbs code codes h.0 h.1) refl

pub climbs_is : (codes : List (List ℕ)) → (climbs_from None codes ≡ true) ↔ IsStrictlySortedBy (slice_cmp nat_cmp) codes
unfolding IsStrictlySortedBy
climbs_is [] = (λ e. tt, λ h. refl)
climbs_is (code ∷ codes) = (climbed code codes, λ h. climbs code codes h.0 h.1)

module _ {X : Type 0} (code : X → List ℕ) (xs : List X) where
  -- what is left decides
  abbrev pub Climbing : Option (List ℕ) → ℕ → Type 0
  Climbing before i = climbs_from before (map code (drop i xs)) ≡ climbs_from None (map code xs)

  next_code : (before : Option (List ℕ)) (i : ℕ) (x : X) → i < length xs → x ≡ get_or xs i x
      → climbs_from before (map code (drop i xs)) ≡ (is_above before (code x) && climbs_from (Some (code x))
      (map code (drop (i + 1) xs)))
  next_code before i x less is = ap (λ ys. climbs_from before (map code ys)) (next_of xs i x less is)

  pub climb_more : (before : Option (List ℕ)) (i : ℕ) (x : X) → Climbing before i → i < length xs → x ≡ get_or xs i x
      → is_above before (code x) ≡ true → Climbing (Some (code x)) (i + 1)
  climb_more before i x h less is up = sym (next_code before i x less is ∙ rw up refl) ∙ h

  pub slipped : (before : Option (List ℕ)) (i : ℕ) (x : X) → Climbing before i → i < length xs → x ≡ get_or xs i x
      → is_above before (code x) ≡ false → AreCodes (map code xs) → ⊥
  slipped before i x h less is down codes =
      true≢false (sym ((climbs_is (map code xs)).1 codes.0) ∙ sym h ∙ next_code before i x less is ∙ rw down refl)

  pub climbed_all : (before : Option (List ℕ)) (i : ℕ) → length xs ≤ i → Climbing before i
      → (nat_le (length xs) MOST_PARTICIPANTS ≡ true) ↔ AreCodes (map code xs)
  climbed_all before i past h =
      let whole : climbs_from None (map code xs) ≡ true = sym h
      ∙ ap (λ ys. climbs_from before (map code ys)) (drop_of_length-le xs past) in
      let long : length (map code xs) ≡ length xs = length-map xs code in (
        λ e. ((climbs_is (map code xs)).0 whole, grind (arith, nat_tests)),
        λ n. let few = n.1
            in grind (arith, nat_tests),
      )

pub distinct_texts : {E : Type 0} (r : Result Bool E) (xs ys : List (List ℕ)) → xs ≡ ys
    → IfOk r (λ yes. IsTrue yes ↔ IsDistinct (eq_by_cmp (slice_cmp nat_cmp)) xs)
    → IfOk r (λ yes. IsTrue yes ↔ IsDistinct bytes_eq ys)
distinct_texts r xs ys e h = subst (λ (p : (List ℕ → List ℕ → Bool) × List (List ℕ)). IfOk r
    (λ yes. IsTrue yes ↔ IsDistinct p.0 p.1)) (λ i. (same_text i, e i)) h

pub distinct_names : {E : Type 0} (r : Result Bool E) (xs ys : List (List ℕ × List ℕ)) → xs ≡ ys
    → IfOk r (λ yes. IsTrue yes ↔ IsDistinct (eq_by_cmp name_cmp) xs)
    → IfOk r (λ yes. IsTrue yes ↔ IsDistinct is_same_name ys)
distinct_names r xs ys e h = subst (λ (p : (List ℕ × List ℕ → List ℕ × List ℕ → Bool) × List (List ℕ × List ℕ)). IfOk r
    (λ yes. IsTrue yes ↔ IsDistinct p.0 p.1)) (λ i. (same_name i, e i)) h

not_above : (o : Ordering) → is_ge o ≡ true → is_lt o ≡ false
not_above Less e = absurd (true≢false (sym e))
not_above Equal e = refl
not_above Greater e = refl

pub slipped_below : {X : Type 0} (code : X → List ℕ) (xs : List X) (previous : Option (List ℕ)) (before : List ℕ)
    (i : ℕ) (x : X) → previous ≡ Some before → Climbing code xs previous i → i < length xs → x ≡ get_or xs i x
    → is_ge (slice_cmp nat_cmp before (code x)) ≡ true → AreCodes (map code xs) → ⊥
slipped_below code xs previous before i x was h less is ge codes =
    slipped code xs previous i x h less is (rw was (not_above _ ge)) codes
