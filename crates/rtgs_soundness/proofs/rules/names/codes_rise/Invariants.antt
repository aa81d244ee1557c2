use Rattle.rtgs_book.specs.declared.participant.Participant.{Participant}
use Rattle.rtgs_soundness.proofs.Names.{Climbing}
use Rattle.rtgs_soundness.proofs.rules.names.codes_rise.Given as goal

abbrev pub invariant-loop-participant : goal.invariant-loop-participant
invariant-loop-participant l = Climbing (λ (p : Participant). p.code) l.participants l.previous l.participant-index
