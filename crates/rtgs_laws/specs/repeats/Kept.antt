-- What a book keeps of its records, whatever comes.
use Rattle.std.specs.Prelude.{◌≡◌, ℕ, false, List, Some}
use Rattle.rtgs_book.specs.declared.book.Book.{Book}
use Rattle.rtgs_book.specs.declared.participant.Participant.{Participant}
use Rattle.rtgs_book.specs.declared.posting.Posting.{Posting}
use Rattle.rtgs_book.specs.declared.order.Order.{Order}
use Rattle.rtgs_book.specs.Books.{is_held, is_waiting}
use Rattle.rtgs_book.specs.Commands.{as_sent}
use Rattle.rtgs_book.specs.Lookup.{participant_of, posting_named, order_named}

-- the same participant, perhaps with another credit limit
pub record IsKeptParticipant (old new : Participant) : Type 0 where
  pub name : new.name ≡ old.name
  pub key : new.key ≡ old.key

-- the same order, whose state may change while it is queued or held, and then no more; its date may change while it is
-- held, and what is not held is never held again
pub record IsKeptOrder (old new : Order) : Type 0 where
  pub number : new.number ≡ old.number
  pub said : as_sent new ≡ as_sent old
  pub state : is_waiting old ≡ false → new.state ≡ old.state
  pub date : is_held old ≡ false → new.date ≡ old.date
  pub held : is_held old ≡ false → is_held new ≡ false

-- what a code or a reference names in the old book it names in the new one
pub record AreKept (old new : Book) : Type 0 where
  pub participants : (code : List ℕ) (p : Participant) → participant_of old code ≡ Some p
      → (q : Participant) × (participant_of new code ≡ Some q) × IsKeptParticipant p q
  pub postings : (reference : List ℕ) (p : Posting) → posting_named old reference ≡ Some p
      → posting_named new reference ≡ Some p
  pub orders : (sender reference : List ℕ) (o : Order) → order_named old sender reference ≡ Some o
      → (later : Order) × (order_named new sender reference ≡ Some later) × IsKeptOrder o later
