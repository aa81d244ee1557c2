-- Tallies of the first orders.
use Rattle.std.proofs.Common.{◌≡◌, ℕ, ◌*◌, ◌^◌, ◌≤◌, Bool, List, filter, pos, take}
use Rattle.rtgs_book.specs.declared.order.Order.{Order}
use Rattle.rtgs_book.specs.declared.tally.Tally.{Tally}
use Rattle.rtgs_desk.specs.Readings.{tally_of}

-- among the orders so far
abbrev pub tally_before : (Order → Bool) → ℕ → List Order → Tally
tally_before p i os = tally_of (filter p (take i os))

-- few orders, and none pays more than 10^12
pub record IsBelow (t : Tally) (n : ℕ) : Type 0 where
  pub count : t.count ≤ n
  pub cents : ℕ
  pub value : t.value ≡ pos cents
  pub high : cents ≤ 10 ^ 12 * n
