-- Texts that are written part by part.
use Rattle.std.proofs.Common.{◌≡◌, arith, ◌<◌, ◌+◌, ◌++◌, ℕ, List, length, length-append, take, drop, Option, Some}
use Rattle.std.proofs.Common.{None, refl, sym, ap, subst, ◌∙◌, append_assoc}
use Rattle.std.specs.Io.KnownBytes.{Appends}
use Rattle.std.proofs.lemmas.List.{take-append-drop, take_at, length-drop}
use Rattle.rtgs_output.specs.Sent.{AppendsPart}
use Rattle.rtgs_statements.specs.Reads.{AppendsBeginning}

pub appends-both : (old mid new : Option (List ℕ)) (a b : List ℕ) → Appends old mid a → Appends mid new b
    → Appends old new (a ++ b)
appends-both None mid new a b p q = tt
appends-both (Some xs) None new a b p q = absurd p
appends-both (Some xs) (Some ys) None a b p q = q
appends-both (Some xs) (Some ys) (Some zs) a b p q = rw (q, p) (append_assoc xs a b)

pub part-begins : (old new : Option (List ℕ)) (text : List ℕ) → AppendsPart old new text
    → AppendsBeginning old new text
part-begins old new text part = (take part.0 text, drop part.0 text, part.2, take-append-drop part.0 text)

-- a beginning after what stands before it, of a longer text
pub begins-within : (old mid new : Option (List ℕ)) (before text after whole : List ℕ) → Appends old mid before
    → AppendsBeginning mid new text → before ++ (text ++ after) ≡ whole → AppendsBeginning old new whole
begins-within old mid new before text after whole first more is =
    let written = more.0 in let rest = more.1 in (
      before ++ written,
      rest ++ after,
      appends-both old mid new before written first more.2,
      append_assoc before written (rest ++ after)
          ∙ ap (λ t. before ++ t) (sym (append_assoc written rest after) ∙ ap (λ t. t ++ after) more.3) ∙ is,
    )

-- a beginning of a text that goes on is a part of it
pub begins-part : (old mid new : Option (List ℕ)) (before text after whole : List ℕ) → Appends old mid before
    → AppendsBeginning mid new text → 0 < length after → before ++ (text ++ after) ≡ whole → AppendsPart old new whole
unfolding begins-within
begins-part old mid new before text after whole first more some is =
    let written = before ++ more.0 in let rest = more.1 ++ after in
    let all = begins-within old mid new before text after whole first more is in
    let joined : written ++ rest ≡ whole = all.3 in
    let long : length written + length rest ≡ length whole = sym (length-append written rest) ∙ ap length joined in
    let left = length-append more.1 after in (
      length written,
      omega (arith, long, left),
      subst (Appends old new) (sym (ap (take (length written)) (sym joined) ∙ take_at written rest
          (length written) refl))
          all.2,
    )

-- a part after what stands before it, of a longer text
pub part-within : (old mid new : Option (List ℕ)) (before text after whole : List ℕ) → Appends old mid before
    → AppendsPart mid new text → before ++ (text ++ after) ≡ whole → AppendsPart old new whole
part-within old mid new before text after whole first more is =
    let n = more.0 in
    let cut = take n text in
    let rest = drop n text ++ after in
    let joined : (before ++ cut) ++ rest ≡ whole =
    append_assoc before cut rest ∙ ap (λ t. before ++ t) (sym (append_assoc cut (drop n text) after)
    ∙ ap (λ t. t ++ after) (take-append-drop n text)) ∙ is in
    let long : length (before ++ cut) + length rest ≡ length whole =
    sym (length-append (before ++ cut) rest) ∙ ap length joined in
    let left = length-append (drop n text) after in
    let short = length-drop n text in (
      length (before ++ cut),
      omega (arith, long, left, short, more.1),
      subst (Appends old new)
          (sym (ap (take (length (before ++ cut))) (sym joined) ∙ take_at (before ++ cut) rest (length
          (before ++ cut)) refl))
          (appends-both old mid new before cut first more.2),
    )
