-- Regions at the start of one input.
use Rattle.std.proofs.Common.{◌≡◌, ◌<◌, ◌≤◌, ◌⊎◌, inl, inr, ℕ, List, ◌++◌, true, length, take, sym, ap, ◌∙◌, arith}
use Rattle.std.proofs.Common.{length-append}
use Rattle.std.proofs.Math.Seq.{take-append_seam, take-length}
use Rattle.std.proofs.lemmas.Bool.{cases_lt}
use Rattle.std.proofs.lemmas.List.{take-append-le, length-take, take-take}
use Rattle.rtgs_http_requests.specs.declared.feeds.limits.TheConstants.{LONGEST_HEAD}
use Rattle.rtgs_http_requests.specs.feeds.Region.{IsRegion, StartsWith, ends_region, IsOpen, IsTooLong}

-- a beginning of one that is no longer than the other is a beginning of the other
same_front : (a b r s : List ℕ) → a ++ r ≡ b ++ s → length a ≤ length b → take (length a) b ≡ a
same_front a b r s e le = sym (take-append-le (length a) b s le) ∙ ap (λ t. take (length a) t) (sym e)
    ∙ take-append_seam a r

not_shorter : (a b r s : List ℕ) → a ++ r ≡ b ++ s → IsRegion a → IsRegion b → ¬ (length a < length b)
not_shorter a b r s e one other lt = cc (
  other.first (length a) lt,
  ap (λ t. ends_region t)
      (same_front a b r s e (omega (arith, lt))),
  one.ends,
)

pub unique : (input one other rest more : List ℕ) → StartsWith input one rest → StartsWith input other more
    → one ≡ other
unique input one other rest more x y = by (cases_lt (length one) (length other)) (cases_lt (length other) (length one))
  where
    same : one ++ rest ≡ other ++ more
    same = sym x.0 ∙ y.0

    by : (length one < length other) ⊎ (length other ≤ length one)
        → (length other < length one) ⊎ (length one ≤ length other) → one ≡ other
    by (inl lt) _ = absurd (not_shorter one other rest more same x.1 y.1 lt)
    by (inr ge) (inl lt) = absurd (not_shorter other one more rest (sym same) y.1 x.1 lt)
    by (inr ge) (inr le) =
        let eq : length one ≡ length other = omega (arith, ge, le) in
        sym (same_front one other rest more same le) ∙ ap (λ n. take n other) eq ∙ take-length other

-- the region is a beginning of the input that ends one
seen : (input region rest : List ℕ) → StartsWith input region rest → ends_region (take (length region) input) ≡ true
seen input region rest x = ap (λ t. ends_region (take (length region) t)) x.0
    ∙ ap (λ t. ends_region t) (take-append_seam region rest) ∙ x.1.ends

fits_in : (input region rest : List ℕ) → StartsWith input region rest → length region ≤ length input
fits_in input region rest x = omega (arith, ap length x.0, length-append region rest)

pub not_open : (input region rest : List ℕ) → StartsWith input region rest → ¬ IsOpen input
not_open input region rest x unfinished = cc (
  seen input region rest x,
  unfinished.0 (length region)
      (fits_in input region rest x),
)

pub not_long : (input region rest : List ℕ) → StartsWith input region rest → ¬ IsTooLong input
not_long input region rest x long =
    let le : length region ≤ length (take LONGEST_HEAD input) =
    omega (arith, x.1.short, fits_in input region rest x, length-take LONGEST_HEAD input) in
    cc (
      seen input region rest x,
      ap (λ t. ends_region t) (take-take (length region) LONGEST_HEAD input x.1.short),
      long.1 (length region) le,
    )
