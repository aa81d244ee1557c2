-- Values in their forms and ranges, as the types of the records keep them.
use Rattle.std.specs.Prelude.{◌≡◌, ℕ, Option, Some, None, length, ⊤}
use Rattle.std.specs.List.{AllByRecursion}
use Rattle.rtgs_money.specs.declared.key_digest.TheConstants.KeyDigest as KeyDigest
use Rattle.rtgs_money.specs.Forms.{IsCode, IsReference, IsName}
use Rattle.rtgs_money.specs.Amounts.{IsAmount, IsPostingAmount, IsCredit}
use Rattle.rtgs_money.specs.Date.{IsBusinessDate}
use Rattle.rtgs_book.specs.declared.participant.Participant.{Participant}
use Rattle.rtgs_book.specs.declared.posting.Posting.{Posting}
use Rattle.rtgs_book.specs.declared.order.Order.{Order}
use Rattle.rtgs_book.specs.declared.mark.Mark.{Mark}
use Rattle.rtgs_book.specs.declared.book.Book.{Book}
use Rattle.rtgs_rows.specs.declared.forward.Forward.{Forward}
use Rattle.rtgs_book.specs.declared.change.RowChange.{RowChange}
use Rattle.rtgs_book.specs.declared.change.RowChange.TheVariants.{AddParticipant, AddPosting, AddOrder, AddMark}
use Rattle.rtgs_book.specs.declared.change.RowChange.TheVariants.{SetCredit}
use Rattle.rtgs_book.specs.declared.change.RowChange.TheVariants.{EnterQueue, SetDay}

-- no date, or a business date
abbrev pub FitsDate : Option ℕ → Type 0
FitsDate None = ⊤
FitsDate (Some date) = IsBusinessDate date

-- each value of the participant is in its form and range
pub record FitsParticipant (p : Participant) : Type 0 where
  pub code : IsCode p.code
  pub name : IsName p.name
  pub key : length p.key ≡ KeyDigest.LENGTH
  pub credit : IsCredit p.credit

-- so those of a posting
pub record FitsPosting (p : Posting) : Type 0 where
  pub code : IsCode p.code
  pub reference : IsReference p.reference
  pub cents : IsPostingAmount p.cents
  pub date : FitsDate p.date

-- so those of an order, except its due date
pub record FitsUndated (o : Order) : Type 0 where
  pub sender : IsCode o.sender
  pub reference : IsReference o.reference
  pub receiver : IsCode o.receiver
  pub amount : IsAmount o.amount
  pub date : IsBusinessDate o.date

-- and with it
pub record FitsOrder (o : Order) : Type 0 where
  pub undated : FitsUndated o
  pub due : FitsDate o.due

-- so those of a mark
pub record FitsMark (m : Mark) : Type 0 where
  pub date : IsBusinessDate m.date

-- so those of a due date
pub record FitsForward (f : Forward) : Type 0 where
  pub due : IsBusinessDate f.due

-- each value of the book is in its form and range
pub record HasFormedValues (book : Book) : Type 0 where
  pub participants : AllByRecursion FitsParticipant book.participants
  pub postings : AllByRecursion FitsPosting book.postings
  pub orders : AllByRecursion FitsOrder book.orders
  pub marks : AllByRecursion FitsMark book.marks
  pub day : FitsDate book.day.date

-- each value that a change of one row brings into the book is in its form and range
abbrev pub FitsRow : RowChange → Type 0
FitsRow (AddParticipant p) = FitsParticipant p
FitsRow (AddPosting p) = FitsPosting p
FitsRow (AddOrder o) = FitsOrder o
FitsRow (AddMark m) = FitsMark m
FitsRow (SetCredit code credit) = IsCredit credit
FitsRow (EnterQueue number date) = IsBusinessDate date
FitsRow (SetDay day) = FitsDate day.date
FitsRow row = ⊤
