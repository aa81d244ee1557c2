-- What an open book ends as, once its desk was lent.
use Rattle.std.specs.Borrow.{Lends, Fml, RattleType, MutBor}
use Rattle.rtgs_keeper.specs.declared.keeper.Keeper.{Ghosts}
use Rattle.rtgs_desk.specs.Seen.{Seen}
use Rattle.rtgs_desk.specs.contracts.desk.Desk as desk
use Rattle.rtgs_book_file.specs.contracts.open_book.OpenBook as book
use Rattle.rtgs_book_file.specs.declared.open_book.OpenBook.{OpenBook}

module _ (K : RattleType) (k : Ghosts K.Denot) where
  -- the book ends with the desk that is left behind the result
  abbrev pub LendsDesk : MutBor (OpenBook K.Denot) → MutBor (Seen K.Denot) → Fml
  LendsDesk s r = Lends (book.the_row K k) (desk.the_row K k) s r (λ lent. record s.now { desk = lent })
