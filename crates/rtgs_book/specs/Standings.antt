-- Where orders stand, and the words for it.
use Rattle.std.specs.Prelude.{ℕ, Bool, true, false, List, codes}
use Rattle.rtgs_book.specs.declared.order_state.OrderState.{OrderState}
use Rattle.rtgs_book.specs.declared.order_state.OrderState.TheVariants as state
use Rattle.rtgs_book.specs.declared.standing.Standing.{Standing}
use Rattle.rtgs_book.specs.declared.standing.Standing.TheVariants.{Settled, Queued, Held, Withdrawn, Rejected}

abbrev pub stands : Standing → OrderState → Bool
stands Settled (state.Settled mark) = true
stands Queued state.Queued = true
stands Held state.Held = true
stands Withdrawn state.Withdrawn = true
stands Rejected state.Rejected = true
stands standing state = false

abbrev pub standing_of : OrderState → Standing
standing_of (state.Settled mark) = Settled
standing_of state.Queued = Queued
standing_of state.Held = Held
standing_of state.Withdrawn = Withdrawn
standing_of state.Rejected = Rejected

abbrev pub word_of : Standing → List ℕ
word_of Settled = codes "settled"
word_of Queued = codes "queued"
word_of Held = codes "held"
word_of Withdrawn = codes "withdrawn"
word_of Rejected = codes "rejected"
