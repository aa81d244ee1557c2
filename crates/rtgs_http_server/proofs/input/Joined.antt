-- Pieces joined to the input.
use Rattle.std.proofs.Common.{◌≡◌, ℕ, List, ◌++◌, length, take, drop, Ok, sym, ap, ◌∙◌, subst, arith, append_assoc}
use Rattle.std.proofs.Common.{take-append-drop, length-append}
use Rattle.std.proofs.lemmas.List.{take_all, take-append-le}
use Rattle.rtgs_http_requests.specs.declared.feeds.limits.TheConstants.{LONGEST_HEAD}
use Rattle.rtgs_http_requests.specs.feeds.Region.{IsTooLong, HasNoEnd}
use Rattle.rtgs_http_requests.specs.Exchange.{HasBody}

-- the first bytes of an input, this many, are the body
pub body_of : (whole body tail : List ℕ) (size : ℕ) → whole ≡ body ++ tail → length body ≡ size
    → HasBody whole size (Ok body)
body_of whole body tail size e len = (
  omega (arith, len, ap length e, length-append body tail),
  sym (ap (take size) e ∙ take-append-le size body tail (omega (arith, len)) ∙ take_all size body (omega (arith, len))),
)

-- a piece that makes the body whole
pub full : (first more piece body rest : List ℕ) (taken size : ℕ) → body ≡ (first ++ more) ++ take taken piece
    → length body ≡ size → HasBody (first ++ ((more ++ piece) ++ rest)) size (Ok body)
full first more piece body rest taken size e len =
    body_of (first ++ ((more ++ piece) ++ rest)) body (drop taken piece ++ rest) size
    (joined ∙ ap (λ b. b ++ (drop taken piece ++ rest)) (sym e)) len
  where
    regroup : (a b c d e : List ℕ) → a ++ ((b ++ (c ++ d)) ++ e) ≡ ((a ++ b) ++ c) ++ (d ++ e)
    regroup a b c d e = simp append_assoc

    joined : first ++ ((more ++ piece) ++ rest) ≡ ((first ++ more) ++ take taken piece) ++ (drop taken piece ++ rest)
    joined =
        ap (λ p. first ++ ((more ++ p) ++ rest)) (sym (take-append-drop taken piece))
        ∙ regroup first more (take taken piece) (drop taken piece) rest

-- a piece that ends the region, taken apart
pub parted : (old piece region : List ℕ) (taken : ℕ) → region ≡ old ++ take taken piece → old ++ piece ≡ region
    ++ drop taken piece
parted old piece region taken e =
    ap (λ p. old ++ p) (sym (take-append-drop taken piece))
    ∙ sym (append_assoc old (take taken piece) (drop taken piece)) ∙ ap (λ r. r ++ drop taken piece) (sym e)

-- what is too long stays so
pub too_long : (bytes rest : List ℕ) → IsTooLong bytes → IsTooLong (bytes ++ rest)
too_long bytes rest long = (
  omega (arith, long.0, length-append bytes rest),
  subst HasNoEnd
      (sym (take-append-le LONGEST_HEAD bytes rest long.0)) long.1,
)
