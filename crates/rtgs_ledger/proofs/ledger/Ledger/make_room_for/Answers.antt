use Rattle.std.proofs.Common.{arith}
use Rattle.std.proofs.lemmas.Result.{on_ok_weaker}
use Rattle.rtgs_ledger.proofs.ledger.Ledger.make_room_for.Goals as goal

pub returns-in-AddParticipant-clause-room : goal.returns-in-AddParticipant-clause-room
returns-in-AddParticipant-clause-room c = on_ok_weaker c.reserve.result
    (λ more. rw c.in-AddParticipant.is (record {
      participants = more;
      orders = omega arith;
      awaited = λ sender e. absurd (cc);
      holds = λ e. absurd (cc);
    })) c.reserve.ensures.ok
