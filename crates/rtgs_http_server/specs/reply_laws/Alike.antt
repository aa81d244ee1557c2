-- What requests that came to the same have in common. `g` has the members of the keeper's trait.
use Rattle.std.specs.Prelude.{◌≡◌, false}
use Rattle.rtgs_book.specs.declared.book.Book.{Book}
use Rattle.rtgs_keeper.specs.declared.keeper.Keeper.{Ghosts}
use Rattle.rtgs_desk.specs.Holding.{Holds}
use Rattle.rtgs_desk.specs.Seen.{Seen}
use Rattle.rtgs_http_bodies.specs.replies.Messages.{Message}

-- the replies are one, and the desks, where they work, hold one book
pub record EndAlike {K : Type 0} (g : Ghosts K) (one other : Seen K) (sent again : Message) : Type 0 where
  pub reply : sent ≡ again
  pub book : Book
  pub one_holds : g.has_failed one.keeper ≡ false → Holds g one book
  pub other_holds : g.has_failed other.keeper ≡ false → Holds g other book
