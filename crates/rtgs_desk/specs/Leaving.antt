-- What a crash leaves of a desk that holds a book: the law of what texts are read from.
use Rattle.rtgs_book.specs.declared.book.Book.{Book}
use Rattle.rtgs_keeper.specs.Still.{StandsStill}
use Rattle.rtgs_keeper.specs.declared.keeper.Keeper.{Ghosts}
use Rattle.rtgs_desk.specs.Holding.{Holds, IsLeft}
use Rattle.rtgs_desk.specs.Seen.{Seen}

-- each keeper stands still between its calls
abbrev pub StandStill : {K : Type 0} → Ghosts K → Type 0
StandStill {K} g =
    (k : K) → StandsStill (g.content k) (g.leaves k) (g.has_tables k) (g.is_whole k) (g.leaves_no_more k k)

-- that book and no other, by the law of its keeper
pub left : {K : Type 0} (g : Ghosts K) → StandStill g → (desk : Seen K) (book : Book) → Holds g desk book
    → IsLeft g desk book
unfolding Holds
left g still desk book held = record {
  after_a_crash = λ found leaves. (still desk.keeper).settled book found held.kept leaves;
  whole_after_a_crash = (still desk.keeper).whole book held.kept;
}
