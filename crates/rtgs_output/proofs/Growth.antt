-- Writes one after another.
use Rattle.std.proofs.Common.{◌≡◌, arith, ◌+◌, ◌-◌, ℕ, List, length, take, drop, Option, Some, None, append_assoc}
use Rattle.std.specs.Io.KnownBytes.{Appends}
use Rattle.std.proofs.Math.Seq.{take-add}
use Rattle.std.proofs.lemmas.List.{length-drop, take_all}

pub appends-more : (old mid new : Option (List ℕ)) (a n : ℕ) (bs : List ℕ)
    → Appends old mid (take a bs) → Appends mid new (take n (drop a bs)) → Appends old new (take (a + n) bs)
appends-more None mid new a n bs p q = tt
appends-more (Some xs) None new a n bs p q = absurd p
appends-more (Some xs) (Some ys) None a n bs p q = q
appends-more (Some xs) (Some ys) (Some zs) a n bs p q = rw (q, p, take-add a n bs)
    (append_assoc xs (take a bs) (take n (drop a bs)))

-- the bytes from a place on
pub rest-of : (a : ℕ) (bs : List ℕ) → take (length bs - a) (drop a bs) ≡ drop a bs
rest-of a bs = take_all (length bs - a) (drop a bs) (omega (arith, length-drop a bs))
