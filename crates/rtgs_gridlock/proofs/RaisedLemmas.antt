-- Positions with other balances.
use Rattle.std.proofs.Common.{◌≡◌, ℕ, zero, suc, ◌<◌, ◌<ℤ◌, List, [], ◌∷◌, get_or, refl, ap, arith, ℤ, ◌+ℤ◌}
use Rattle.std.proofs.lemmas.Int.{ints}
use Rattle.rtgs_gridlock.specs.declared.positions.Position.{Position}
use Rattle.rtgs_gridlock.specs.Choices.{position_of}
use Rattle.rtgs_gridlock.specs.Slack.{headroom_of}

-- the first n of these positions
unfoldable pub listed : ℕ → (ℕ → Position) → List Position
listed zero f = []
listed (suc n) f = f 0 ∷ listed n (λ p. f (suc p))

pub listed-at : (n : ℕ) (f : ℕ → Position) (p : ℕ) (d : Position) → p < n → get_or (listed n f) p d ≡ f p
unfolding listed
listed-at zero f p d b = absurd (omega arith)
listed-at (suc n) f zero d b = refl
listed-at (suc n) f (suc p) d b = listed-at n (λ q. f (suc q)) p d (omega arith)

-- each balance is higher by this
abbrev pub higher : List Position → (ℕ → ℤ) → ℕ → Position
higher positions more p = record {
  balance = (position_of positions p).balance +ℤ more p;
  floor = (position_of positions p).floor;
}

unfoldable pub raised : ℕ → List Position → (ℕ → ℤ) → List Position
raised n positions more = listed n (higher positions more)

pub raised-balance : (n : ℕ) (positions : List Position) (more : ℕ → ℤ) (p : ℕ) → p < n
    → (position_of (raised n positions more) p).balance ≡ (position_of positions p).balance +ℤ more p
unfolding raised
raised-balance n positions more p b = ap (λ (x : Position). x.balance) (listed-at n (higher positions more) p _ b)

pub raised-floor : (n : ℕ) (positions : List Position) (more : ℕ → ℤ) (p : ℕ) → p < n
    → (position_of (raised n positions more) p).floor ≡ (position_of positions p).floor
unfolding raised
raised-floor n positions more p b = ap (λ (x : Position). x.floor) (listed-at n (higher positions more) p _ b)

-- what is raised by less than it was below a limit is below it
pub raised-below : (n : ℕ) (positions : List Position) (more : ℕ → ℤ) (p : ℕ) (limit : ℤ) → p < n
    → (headroom_of positions p +ℤ more p) <ℤ limit → headroom_of (raised n positions more) p <ℤ limit
raised-below n positions more p limit b below =
    omega (arith, ints, below, raised-balance n positions more p b, raised-floor n positions more p b)
