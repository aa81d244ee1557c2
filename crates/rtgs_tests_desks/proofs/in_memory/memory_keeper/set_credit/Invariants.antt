use Rattle.std.proofs.Common.{◌≡◌, ◌++◌, map, take, drop}
use Rattle.rtgs_tests_desks.proofs.in_memory.Credits.{credited}
use Rattle.rtgs_tests_desks.proofs.in_memory.memory_keeper.set_credit.Given as goal

abbrev pub invariant-loop-participant : goal.invariant-loop-participant
invariant-loop-participant l = l.participants ≡ map (credited l.code l.credit)
    (take l.participant-index l.initial.participants) ++ drop l.participant-index l.initial.participants
