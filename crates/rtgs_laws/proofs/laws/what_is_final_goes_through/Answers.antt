use Rattle.rtgs_laws.proofs.Steady.{stands_itself, stands_through}
use Rattle.rtgs_laws.proofs.laws.what_is_final_goes_through.Goals as goal

pub returns : goal.returns
returns c = record { itself = stands_itself; through = stands_through }
