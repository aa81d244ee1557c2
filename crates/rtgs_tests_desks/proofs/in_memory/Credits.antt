-- The credit of one participant.
use Rattle.std.proofs.Common.{◌≡◌, ℕ, true, false, cond, List, get_or, sym, ap}
use Rattle.std.proofs.Math.ListN.{set}
use Rattle.std.specs.Str.{bytes_eq}
use Rattle.rtgs_book.specs.declared.participant.Participant.{Participant}
use Rattle.rtgs_book.specs.Lookup.{has_code}

-- with this credit, if it has the code
abbrev pub credited : List ℕ → ℕ → Participant → Participant
credited code credit p = cond (has_code code p) (record p { credit = credit }) p

pub set_hit : (code : List ℕ) (credit : ℕ) (ps : List Participant) (i : ℕ) (p : Participant)
    → bytes_eq p.code code ≡ true → p ≡ get_or ps i p → set ps i (record (get_or ps i p) { credit = credit })
    ≡ set ps i (credited code credit p)
set_hit code credit ps i p hit is = rw hit (ap (λ (q : Participant). set ps i (record q { credit = credit })) (sym is))

pub set_miss : (code : List ℕ) (credit : ℕ) (ps : List Participant) (i : ℕ) (p : Participant)
    → bytes_eq p.code code ≡ false → p ≡ get_or ps i p → set ps i (get_or ps i p) ≡ set ps i (credited code credit p)
set_miss code credit ps i p miss is = rw miss (ap (set ps i) (sym is))
