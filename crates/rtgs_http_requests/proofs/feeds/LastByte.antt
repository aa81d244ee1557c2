-- The last byte of a region is a line feed.
use Rattle.std.proofs.Common.{◌≡◌, ◌-◌, ℕ, List, [], ◌∷◌, ◌++◌, true, length, take, get_or, reverse, refl, sym, ap, ◌∙◌}
use Rattle.std.proofs.lemmas.Bool.Decides.{Decides-eqb}
use Rattle.std.proofs.lemmas.List.{reverse-append}
use Rattle.std.proofs.lemmas.Slice.Eq.{ends_is}
use Rattle.rtgs_http_requests.specs.feeds.Region.{empty_line, ends_region}

same_last : (front rest : List ℕ) (last : ℕ) → front ++ last ∷ [] ≡ rest ++ empty_line → last ≡ 10
same_last front rest last e =
    ap (λ bytes. get_or bytes 0 0) (sym (reverse-append front (last ∷ [])) ∙ ap (λ bytes. reverse bytes) e
    ∙ reverse-append rest empty_line)

pub line_feed_ends : (seen front : List ℕ) (last : ℕ) → seen ≡ front ++ last ∷ [] → ends_region seen ≡ true
    → last ≡ 10
line_feed_ends seen front last e ends =
    same_last front (take (length seen - 4) seen) last
    (sym e ∙ (ends_is Decides-eqb seen empty_line (ends_region seen) refl).0 ends)
