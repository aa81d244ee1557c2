use Rattle.std.proofs.Common.{arith}
use Rattle.std.proofs.lemmas.Int.{ints}
use Rattle.rtgs_gridlock.proofs.SlackLemmas.{appended_below, empty_from_length}
use Rattle.rtgs_gridlock.proofs.LawLemmas.{sent_none, received_none}
use Rattle.rtgs_gridlock.proofs.slack.appended_within_slack.Goals as goal

pub returns : goal.returns
returns c = λ queues new sender payment limits lower is appended apart less first.
    appended_below queues new sender payment (λ _. 0) limits lower is appended apart less
    (λ none. omega (
      arith,
      ints,
      first (empty_from_length _ none),
      sent_none queues sender,
      received_none queues sender,
    ))
