use Rattle.rtgs_laws.proofs.repeats.Joined.{join, go_on}
use Rattle.rtgs_laws.proofs.repeats.laws.sessions_join.Goals as goal

pub returns : goal.returns
returns c = record { joined = join; failed = go_on }
