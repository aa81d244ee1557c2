-- One text printed after another.
use Rattle.std.proofs.Common.{◌∙◌, ◌+◌, ◌++◌, ℕ, List, length, take, Option, Some, None, ap, sym, subst, arith}
use Rattle.std.specs.Io.KnownBytes.{Appends}
use Rattle.std.proofs.lemmas.List.{append_assoc, length-append, take-append-le}
use Rattle.std.proofs.Math.Seq.{take-append-add}
use Rattle.rtgs_output.specs.Sent.{AppendsPart}

pub appends_both : (old mid new : Option (List ℕ)) (first second : List ℕ) → Appends old mid first
    → Appends mid new second → Appends old new (first ++ second)
appends_both None mid new first second one two = tt
appends_both (Some xs) None new first second one two = absurd one
appends_both (Some xs) (Some ys) None first second one two = absurd two
appends_both (Some xs) (Some ys) (Some zs) first second one two = two ∙ ap (λ l. l ++ second) one
    ∙ append_assoc xs first second

-- the second in part
pub appends_part_after : (old mid new : Option (List ℕ)) (first second : List ℕ) → Appends old mid first
    → AppendsPart mid new second → AppendsPart old new (first ++ second)
appends_part_after old mid new first second one two =
    let n = two.0 in
    let short = two.1 in
    let whole = length-append first second in (
      length first + n,
      omega (arith, short, whole),
      subst (Appends old new) (sym (take-append-add first second n))
          (appends_both old mid new first (take n second) one two.2),
    )

-- the first in part, and so both
pub appends_part_before : (old new : Option (List ℕ)) (first second : List ℕ) → AppendsPart old new first
    → AppendsPart old new (first ++ second)
appends_part_before old new first second one =
    let n = one.0 in
    let short = one.1 in
    let whole = length-append first second in (
      n,
      omega (arith, short, whole),
      subst (Appends old new)
          (sym (take-append-le n first second (omega (arith, short)))) one.2,
    )
