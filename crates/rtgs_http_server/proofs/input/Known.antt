-- What a reader has left, by what was read of it.
use Rattle.std.proofs.Common.{ℕ, List, [], ◌++◌, Option, Some, None, sym, ap, ◌∙◌, subst, append_assoc}
use Rattle.std.specs.Io.KnownBytes.{Consumes}
use Rattle.rtgs_http_server.specs.input.Input.{OfInput}

-- what holds of all bytes holds of those that are left
pub any : (a : Option (List ℕ)) (Q : List ℕ → Type 0) → ((rest : List ℕ) → Q rest) → OfInput a Q
any None Q f = ([], f [])
any (Some x) Q f = f x

-- what follows from what holds of them
pub known_map : (a : Option (List ℕ)) (P Q : List ℕ → Type 0) → ((rest : List ℕ) → P rest → Q rest) → OfInput a P
    → OfInput a Q
known_map None P Q f h = (h.0, f h.0 h.1)
known_map (Some x) P Q f h = f x h

-- so it is of bytes of which these were read
pub consumed : (a b : Option (List ℕ)) (bs : List ℕ) (Q : List ℕ → Type 0) → Consumes a b bs
    → ((rest : List ℕ) → Q (bs ++ rest)) → OfInput a Q
consumed None b bs Q e f = (bs ++ [], f [])
consumed (Some x) None bs Q e f = absurd e
consumed (Some x) (Some y) bs Q e f = subst Q (sym e) (f y)

pub consumes_more : (a b c : Option (List ℕ)) (bs cs : List ℕ) → Consumes a b bs → Consumes b c cs
    → Consumes a c (bs ++ cs)
consumes_more None b c bs cs p q = tt
consumes_more (Some x) None c bs cs p q = absurd p
consumes_more (Some x) (Some y) None bs cs p q = absurd q
consumes_more (Some x) (Some y) (Some z) bs cs p q = p ∙ ap (λ l. bs ++ l) q ∙ sym (append_assoc bs cs z)
