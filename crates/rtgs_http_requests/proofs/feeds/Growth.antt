-- A head that a byte more does not end.
use Rattle.std.proofs.Common.{◌≡◌, ◌<◌, ◌≤◌, ◌+◌, ◌⊎◌, inl, inr, ℕ, List, [], ◌∷◌, ◌++◌, false, length, take, get_or}
use Rattle.std.proofs.Common.{sym, ap, ◌∙◌, arith, append_assoc, length-append}
use Rattle.std.proofs.Math.Seq.{take-append-add}
use Rattle.std.proofs.lemmas.Bool.{cases_lt}
use Rattle.std.proofs.lemmas.List.{take_all, take_more, take-append-le, length-take-le}
use Rattle.rtgs_http_requests.specs.feeds.Region.{HasNoEnd, ends_region}

pub taken_more : (old bytes new piece : List ℕ) (i : ℕ) → i < length piece → bytes ≡ old ++ take i piece
    → new ≡ bytes ++ get_or piece i 0 ∷ [] → new ≡ old ++ take (i + 1) piece
taken_more old bytes new piece i lt e pushed =
    pushed ∙ ap (λ t. t ++ get_or piece i 0 ∷ []) e ∙ append_assoc old (take i piece) (get_or piece i 0 ∷ [])
    ∙ ap (λ t. old ++ t) (sym (take_more piece i 0 lt))

pub no_end_more : (bytes new : List ℕ) (b : ℕ) → new ≡ bytes ++ b ∷ [] → HasNoEnd bytes → ends_region new ≡ false
    → HasNoEnd new
no_end_more bytes new b e none last m le = by (cases_lt m (length new))
  where
    longer : length new ≡ length bytes + 1
    longer = ap length e ∙ length-append bytes (b ∷ [])

    by : (m < length new) ⊎ (length new ≤ m) → ends_region (take m new) ≡ false
    by (inl lt) =
        let inside : m ≤ length bytes = omega (arith, lt, longer) in
        ap (λ t. ends_region (take m t)) e ∙ ap (λ t. ends_region t) (take-append-le m bytes (b ∷ []) inside)
        ∙ none m inside
    by (inr ge) = ap (λ t. ends_region t) (take_all m new ge) ∙ last

-- what is there when this many bytes are, and that the input has as many
pub front_of : (old piece new : List ℕ) (n size : ℕ) → n ≤ length piece → new ≡ old ++ take n piece → length new ≡ size
    → (new ≡ take size (old ++ piece)) × (size ≤ length (old ++ piece))
front_of old piece new n size le e len =
    let all : length old + n ≡ size = omega (
      arith,
      len,
      ap length e,
      length-append old (take n piece),
      length-take-le n
          piece le,
    ) in (
      e ∙ sym (take-append-add old piece n) ∙ ap (λ k. take k (old ++ piece)) all,
      omega
          (arith, all, le, length-append old piece),
    )
