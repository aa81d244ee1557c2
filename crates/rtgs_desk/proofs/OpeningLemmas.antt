-- What opening a desk leaves of its keeper.
use Rattle.std.proofs.Common.{Result}
use Rattle.rtgs_book.specs.declared.fault.Fault.{Fault}
use Rattle.rtgs_keeper.specs.Calls.{OnlyReads}
use Rattle.rtgs_keeper.specs.declared.keeper.Keeper.{Ghosts}
use Rattle.rtgs_desk.specs.Leaving.{StandStill}
use Rattle.rtgs_desk.specs.Opening.{LeavesKept}

-- a keeper that was only read
pub left_kept : {K X : Type 0} (g : Ghosts K) → StandStill g → (old new : K) (result : Result X Fault)
    → OnlyReads g.content g.leaves g.is_honest g.is_whole g.leaves_no_more g.has_failed old new result
    → g.is_honest new → LeavesKept g old new
left_kept g still old new result reads honest = record {
  honest = reads.honest honest;
  leaves = reads.stops honest;
  untouched = reads.untouched honest;
  after_a_crash = λ book found kept left. (still old).settled book found kept (reads.stops honest found left);
  whole_after_a_crash = λ book kept. reads.whole honest ((still old).whole book kept);
}
