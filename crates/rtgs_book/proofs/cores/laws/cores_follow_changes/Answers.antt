use Rattle.rtgs_book.proofs.cores.Following.{follows}
use Rattle.rtgs_book.proofs.cores.laws.cores_follow_changes.Goals as goal

pub returns : goal.returns
returns c old new core rows was leads sound fits none balanced = follows old new core rows was leads.book sound fits
    none balanced
