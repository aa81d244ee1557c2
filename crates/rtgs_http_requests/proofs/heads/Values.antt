-- The values of one field more.
use Rattle.std.proofs.Common.{◌≡◌, ◌<◌, ◌+◌, ℕ, List, [], ◌∷◌, ◌++◌, Bool, true, false, length, map, take, get_or, refl}
use Rattle.std.proofs.Common.{ap, ◌∙◌}
use Rattle.std.proofs.lemmas.List.{map-append, append-nil, take_more}
use Rattle.std.proofs.lemmas.List.Elements.{filter-append}
use Rattle.std.specs.List.{filter}
use Rattle.std.specs.Str.{str_eq_ignore_ascii_case}
use Rattle.httparse.specs.Spans.{header_bytes}
use Rattle.httparse.specs.declared.spans.HeaderSpan.{HeaderSpan}
use Rattle.rtgs_http_requests.specs.heads.Fields.{Fields, values_of}

abbrev pub no_span : HeaderSpan
no_span = record { name = record { start = 0; end = 0 }; value = record { start = 0; end = 0 } }

-- the name and the value of the field at a place
abbrev pub pair_at : List ℕ → List HeaderSpan → ℕ → List ℕ × List ℕ
pair_at region fields i = header_bytes region (get_or fields i no_span)

abbrev has_name : List ℕ → List ℕ × List ℕ → Bool
has_name name field = str_eq_ignore_ascii_case field.0 name

pairs_more : (region : List ℕ) (fields : List HeaderSpan) (i : ℕ) → i < length fields
    → map (header_bytes region) (take (i + 1) fields) ≡ map (header_bytes region) (take i fields)
    ++ pair_at region fields i ∷ []
pairs_more region fields i lt =
    ap (λ xs. map (header_bytes region) xs) (take_more fields i no_span lt)
    ∙ map-append (header_bytes region) (take i fields) (get_or fields i no_span ∷ [])

values_join : (name : List ℕ) (xs ys : Fields) → values_of name (xs ++ ys) ≡ values_of name xs ++ values_of name ys
values_join name xs ys =
    ap (λ fs. map (λ (f : List ℕ × List ℕ). f.1) fs) (filter-append (has_name name) xs ys)
    ∙ map-append (λ (f : List ℕ × List ℕ). f.1) (filter (has_name name) xs) (filter (has_name name) ys)

with_name : (name : List ℕ) (field : List ℕ × List ℕ) → has_name name field ≡ true
    → values_of name (field ∷ []) ≡ field.1 ∷ []
with_name name field e = rw e refl

without_name : (name : List ℕ) (field : List ℕ × List ℕ) → has_name name field ≡ false
    → values_of name (field ∷ []) ≡ []
without_name name field e = rw e refl

-- the values of the fields as far as the place
abbrev pub values_to : List ℕ → List ℕ → List HeaderSpan → ℕ → List (List ℕ)
values_to name region fields i = values_of name (map (header_bytes region) (take i fields))

pub named_more : (name region : List ℕ) (fields : List HeaderSpan) (i : ℕ) → i < length fields
    → str_eq_ignore_ascii_case (pair_at region fields i).0 name ≡ true
    → values_to name region fields (i + 1) ≡ values_to name region fields i ++ (pair_at region fields i).1 ∷ []
named_more name region fields i lt e =
    ap (λ ps. values_of name ps) (pairs_more region fields i lt)
    ∙ values_join name (map (header_bytes region) (take i fields)) (pair_at region fields i ∷ [])
    ∙ ap (λ vs. values_to name region fields i ++ vs) (with_name name (pair_at region fields i) e)

pub other_more : (name region : List ℕ) (fields : List HeaderSpan) (i : ℕ) → i < length fields
    → str_eq_ignore_ascii_case (pair_at region fields i).0 name ≡ false
    → values_to name region fields (i + 1) ≡ values_to name region fields i
other_more name region fields i lt e =
    ap (λ ps. values_of name ps) (pairs_more region fields i lt)
    ∙ values_join name (map (header_bytes region) (take i fields)) (pair_at region fields i ∷ [])
    ∙ ap (λ vs. values_to name region fields i ++ vs) (without_name name (pair_at region fields i) e)
    ∙ append-nil (values_to name region fields i)
