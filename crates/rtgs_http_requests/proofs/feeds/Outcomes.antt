-- Each input has an outcome: the shortest beginning that ends a region is looked for.
use Rattle.std.proofs.Common.{◌≡◌, ◌<◌, ◌≤◌, ◌⊎◌, inl, inr, ℕ, zero, suc, List, Bool, true, false, length, take, drop}
use Rattle.std.proofs.Common.{refl, sym, ap, ◌∙◌, arith}
use Rattle.std.proofs.lemmas.Bool.{cases_lt}
use Rattle.std.proofs.lemmas.List.{length-take-le, take-append-drop, take-take}
use Rattle.rtgs_http_requests.specs.declared.feeds.limits.TheConstants.{LONGEST_HEAD}
use Rattle.rtgs_http_requests.specs.feeds.Region.{IsOpen, IsTooLong, IsRegion, StartsWith, ends_region}

-- the shortest beginning that ends a region, among those with fewer bytes than this
abbrev Ends : List ℕ → ℕ → Type 0
Ends input n = (m : ℕ) × (m < n) × (ends_region (take m input) ≡ true)
    × ((k : ℕ) → k < m → ends_region (take k input) ≡ false)

abbrev EndsNowhere : List ℕ → ℕ → Type 0
EndsNowhere input n = (k : ℕ) → k < n → ends_region (take k input) ≡ false

is_or_not : (b : Bool) → (b ≡ true) ⊎ (b ≡ false)
is_or_not true = inl refl
is_or_not false = inr refl

one_more : (input : List ℕ) (n : ℕ) → EndsNowhere input n → ends_region (take n input) ≡ false
    → EndsNowhere input (suc n)
one_more input n none last k lt = by (cases_lt k n)
  where
    by : (k < n) ⊎ (n ≤ k) → ends_region (take k input) ≡ false
    by (inl less) = none k less
    by (inr ge) =
        let same : k ≡ n = omega (arith, lt, ge) in
        ap (λ j. ends_region (take j input)) same ∙ last

found : (input : List ℕ) (n : ℕ) → Ends input n ⊎ EndsNowhere input n
found input zero = inr (λ k lt. absurd (omega (arith, lt)))
found input (suc n) = by (found input n) (is_or_not (ends_region (take n input)))
  where
    by : Ends input n ⊎ EndsNowhere input n → (ends_region (take n input) ≡ true) ⊎ (ends_region (take n input) ≡ false)
        → Ends input (suc n) ⊎ EndsNowhere input (suc n)
    by (inl x) _ = inl (x.0, omega (arith, x.1), x.2, x.3)
    by (inr none) (inl last) = inl (n, omega arith, last, none)
    by (inr none) (inr last) = inr (one_more input n none last)

-- an end within the input and within the most bytes of a head makes a region
starts : (input : List ℕ) (n : ℕ) → n ≤ length input → n ≤ LONGEST_HEAD → Ends input (suc n)
    → (region : List ℕ) × (rest : List ℕ) × StartsWith input region rest
starts input n fits short x =
    let size : length (take x.0 input) ≡ x.0 = length-take-le x.0 input (omega (arith, x.1, fits)) in
    let first : (k : ℕ) → k < length (take x.0 input) → ends_region (take k (take x.0 input)) ≡ false =
    λ k lt. ap (λ t. ends_region t) (take-take k x.0 input (omega (arith, lt, size))) ∙ x.3 k (omega (arith, lt, size))
    in
    let is : IsRegion (take x.0 input) = record { ends = x.2; first = first; short = omega (arith, size, x.1, short) }
    in
    (take x.0 input, drop x.0 input, (sym (take-append-drop x.0 input), is))

pub outcome : (input : List ℕ) → ((region : List ℕ) × (rest : List ℕ) × StartsWith input region rest)
    ⊎ (IsTooLong input ⊎ IsOpen input)
outcome input = by (cases_lt (length input) LONGEST_HEAD)
  where
    unfinished : length input < LONGEST_HEAD → Ends input (suc (length input)) ⊎ EndsNowhere input (suc (length input))
        → ((region : List ℕ) × (rest : List ℕ) × StartsWith input region rest) ⊎ (IsTooLong input ⊎ IsOpen input)
    unfinished lt (inl x) = inl (starts input (length input) (omega arith) (omega (arith, lt)) x)
    unfinished lt (inr none) = inr (inr (λ m le. none m (omega (arith, le)), lt))

    size : LONGEST_HEAD ≤ length input → length (take LONGEST_HEAD input) ≡ LONGEST_HEAD
    size ge = length-take-le LONGEST_HEAD input ge

    long : LONGEST_HEAD ≤ length input → Ends input (suc LONGEST_HEAD) ⊎ EndsNowhere input (suc LONGEST_HEAD)
        → ((region : List ℕ) × (rest : List ℕ) × StartsWith input region rest) ⊎ (IsTooLong input ⊎ IsOpen input)
    long ge (inl x) = inl (starts input LONGEST_HEAD ge (omega arith) x)
    long ge (inr none) = inr (inl (
      ge,
      λ m le.
          ap (λ t. ends_region t) (take-take m LONGEST_HEAD input (omega (arith, le, size ge)))
          ∙ none m (omega (arith, le, size ge)),
    ))

    by : (length input < LONGEST_HEAD) ⊎ (LONGEST_HEAD ≤ length input)
        → ((region : List ℕ) × (rest : List ℕ) × StartsWith input region rest) ⊎ (IsTooLong input ⊎ IsOpen input)
    by (inl lt) = unfinished lt (found input (suc (length input)))
    by (inr ge) = long ge (found input (suc LONGEST_HEAD))
