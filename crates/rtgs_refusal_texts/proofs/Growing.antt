-- Texts that are written one after another.
use Rattle.std.proofs.Common.{◌≡◌, ◌∙◌, ◌+◌, ◌<◌, ℕ, List, [], ◌∷◌, ◌++◌, get_or, length, take, drop, Option, Some}
use Rattle.std.proofs.Common.{None}
use Rattle.std.proofs.Common.{append_assoc, arith, ap, sym, subst}
use Rattle.std.proofs.Math.Seq.{take-append-add}
use Rattle.std.proofs.lemmas.List.{take_more, take-append-drop, take-append-le}
use Rattle.std.proofs.lemmas.List.Folds.{length-flat_map-take}
use Rattle.std.proofs.lemmas.Grind.{flat_map-append}
use Rattle.std.specs.List.{flat_map}
use Rattle.std.specs.Io.KnownBytes.{Appends}
use Rattle.rtgs_output.specs.Sent.{AppendsPart}
use Rattle.std.proofs.lemmas.List.{append-nil}

-- what is appended, and then more, is appended together
appends_both : (old mid new : Option (List ℕ)) (one other : List ℕ) → Appends old mid one → Appends mid new other
    → Appends old new (one ++ other)
appends_both None mid new one other p q = tt
appends_both (Some xs) None new one other p q = absurd p
appends_both (Some xs) (Some ys) None one other p q = q
appends_both (Some xs) (Some ys) (Some zs) one other p q = rw (q, p) (append_assoc xs one other)

module _ {X : Type 0} (f : X → List ℕ) (xs : List X) (i : ℕ) (d : X) (inside : i < length xs) where
  -- the first texts, with the next behind them
  one_more : flat_map f (take i xs) ++ f (get_or xs i d) ≡ flat_map f (take (i + 1) xs)
  one_more = sym (ap (flat_map f) (take_more xs i d inside)
      ∙ flat_map-append f (take i xs) (get_or xs i d ∷ [])
      ∙ ap (λ l. flat_map f (take i xs) ++ l) (append-nil (f (get_or xs i d))))

  -- all texts: the first, the next, and the others
  in_parts : flat_map f xs ≡ flat_map f (take i xs) ++ (f (get_or xs i d) ++ flat_map f (drop (i + 1) xs))
  in_parts = ap (flat_map f) (sym (take-append-drop (i + 1) xs))
      ∙ flat_map-append f (take (i + 1) xs) (drop (i + 1) xs)
      ∙ ap (λ l. l ++ flat_map f (drop (i + 1) xs)) (sym one_more)
      ∙ append_assoc (flat_map f (take i xs)) (f (get_or xs i d)) (flat_map f (drop (i + 1) xs))

  pub text_appended : (old mid new : Option (List ℕ)) → Appends old mid (flat_map f (take i xs))
      → Appends mid new (f (get_or xs i d)) → Appends old new (flat_map f (take (i + 1) xs))
  text_appended old mid new before text = subst (Appends old new) one_more (appends_both old mid new _ _ before text)

  pub part_appended : (old mid new : Option (List ℕ)) → Appends old mid (flat_map f (take i xs))
      → AppendsPart mid new (f (get_or xs i d)) → AppendsPart old new (flat_map f xs)
  part_appended old mid new before (n, short, part) = (
    length (flat_map f (take i xs)) + n,
    omega (arith, length-flat_map-take f xs i d inside, short),
    subst (Appends old new) begun (appends_both old mid new _ _ before part),
  )
    where
      begun : flat_map f (take i xs) ++ take n (f (get_or xs i d))
          ≡ take (length (flat_map f (take i xs)) + n) (flat_map f xs)
      begun = sym (ap (take (length (flat_map f (take i xs)) + n)) in_parts
          ∙ take-append-add (flat_map f (take i xs)) (f (get_or xs i d) ++ flat_map f (drop (i + 1) xs)) n
          ∙ ap (λ l. flat_map f (take i xs) ++ l)
          (take-append-le n (f (get_or xs i d)) (flat_map f (drop (i + 1) xs)) (omega (arith, short))))
