-- What reading a text leaves of a desk.
use Rattle.std.proofs.Common.{Option, sym, ◌∙◌, true≢false}
use Rattle.rtgs_book.specs.declared.book.Book.{Book}
use Rattle.rtgs_book.specs.declared.refusal.Refusal.{Refusal}
use Rattle.rtgs_keeper.specs.declared.keeper.Keeper.{Ghosts}
use Rattle.rtgs_desk.specs.Holding.{Holds, IsLeft}
use Rattle.rtgs_desk.specs.Seen.{Seen}
use Rattle.rtgs_statements.specs.Reads.{LeavesRead}
use Rattle.rtgs_http_bodies.specs.desks.Written.{LeavesBook}

module _ {K : Type 0} (g : Ghosts K) where
  pub leaves_book : (old new : Seen K) (ended : Option Refusal)
      → LeavesRead (Holds g) (IsLeft g) (λ (desk : Seen K). g.is_honest desk.keeper)
      (λ (desk : Seen K). g.has_failed desk.keeper) old new ended → LeavesBook g old new
  leaves_book old new ended read = record {
    honest = λ honest. read.honest honest;
    kept = λ honest book held works. read.held honest book held
        (λ e. absurd (true≢false (sym (read.fault e).1 ∙ works)));
    left = λ honest book held. read.left honest book held;
  }

  -- nothing was read
  pub nothing_done : (desk : Seen K) → ((book : Book) → Holds g desk book → IsLeft g desk book) → LeavesBook g desk desk
  nothing_done desk left = record {
    honest = λ honest. honest;
    kept = λ honest book held works. held;
    left = λ honest book held. left book held;
  }
