-- A region is one good head at most.
use Rattle.std.proofs.Common.{◌≡◌, ℕ, List, [], ◌∷◌, Option, Some, None, refl, sym, ap, subst, ◌∙◌}
use Rattle.std.specs.Str.Parse.{digits_value}
use Rattle.httparse.specs.Grammar.{RequestHead}
use Rattle.httparse.proofs.GrammarLemmas.{request_unique}
use Rattle.sha2.specs.Sha256.{sha256}
use Rattle.rtgs_http_requests.specs.heads.Fields.{Fields, Declares, HasLength, HasKey}
use Rattle.rtgs_http_requests.specs.heads.Heads.{IsGoodHead, fields_of}

same_value : (values : List (List ℕ)) (one other : List ℕ) → values ≡ one ∷ [] → values ≡ other ∷ [] → one ≡ other
same_value values one other x y = cc

declared_once : (values : List (List ℕ)) (one other : Option ℕ) → Declares values one → Declares values other
    → one ≡ other
declared_once values None None x y = refl
declared_once values None (Some n) x y = let no : ⊥ = cc (x, y.1) in absurd no
declared_once values (Some n) None x y = let no : ⊥ = cc (x.1, y) in absurd no
declared_once values (Some n) (Some m) x y =
    let digits : x.0 ≡ y.0 = same_value values x.0 y.0 x.1 y.1 in
    ap (λ k. Some k) (x.3 ∙ ap (λ d. digits_value 10 d) digits ∙ sym y.3)

pub one_key : (fields : Fields) (one other : Option (List ℕ)) → HasKey fields one → HasKey fields other → one ≡ other
one_key fields None None x y = refl
one_key fields None (Some digest) x y = absurd (x y.0 y.1 y.2)
one_key fields (Some digest) None x y = absurd (y x.0 x.1 x.2)
one_key fields (Some digest) (Some more) x y =
    ap (λ d. Some d) (x.3 ∙ ap (λ k. sha256 k) (same_value _ x.0 y.0 x.1 y.1) ∙ sym y.3)

pub one_head : (region : List ℕ) (one other : RequestHead) (declared more : Option ℕ)
    → IsGoodHead region one declared → IsGoodHead region other more → one ≡ other
one_head region one other declared more x y = (request_unique region one other [] [] x.whole.reads y.whole.reads).0

pub one_length : (region : List ℕ) (one other : RequestHead) (declared more : Option ℕ)
    → IsGoodHead region one declared → IsGoodHead region other more → declared ≡ more
one_length region one other declared more x y =
    let same : one ≡ other = one_head region one other declared more x y in
    let P : RequestHead → Type 0 = λ head. HasLength head.method (fields_of head) declared in
    declared_once _ declared more (subst P same x.body).declared y.body.declared
