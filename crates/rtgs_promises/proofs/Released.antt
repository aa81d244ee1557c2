-- A store that is released in order.
use Rattle.std.proofs.Common.{◌≡◌, ◌∙◌, false, IsTrue, sym}
use Rattle.std.proofs.lemmas.Bool.{true_from_ne_false, both_ways}
use Rattle.sqlite.specs.Steps.{IsFresh}
use Rattle.sqlite_trees.specs.View.{View, IsClean, IsRolledBack}

-- what works is not shut
pub still_open : (v : View) → (v.is_open ≡ false → IsTrue v.is_broken) → v.is_broken ≡ false → IsTrue v.is_open
still_open v broken sound = true_from_ne_false _ (λ shut. both_ways _ sound (broken shut))

-- what was rolled back, and works, is as it was just opened
pub is_fresh : (old new : View) → IsRolledBack old new → IsClean new → IsTrue new.is_numbered → new.is_broken ≡ false
    → IsTrue new.is_open → IsFresh new
is_fresh old new undone clean numbered sound is_open = record {
  sound = sound;
  numbered = numbered;
  clean = (undone.undone is_open).0 ∙ sym ((undone.kept clean).committed is_open);
  unmarked = (undone.kept clean).marks is_open;
}
