use Rattle.std.proofs.Common.{ap}
use Rattle.rtgs_records.specs.Held.{Held}
use Rattle.rtgs_ledger.proofs.Alone.{sound_alone}
use Rattle.rtgs_ledger.proofs.ledger.Ledger.holds_participants_of_a_sound_book.Goals as goal

pub returns : goal.returns
returns c = rw (← ap (λ (h : Held). h.core.accounts) c.self.view_is) (sound_alone _
    c.as_slice-accounts.ensures.of_a_book)
