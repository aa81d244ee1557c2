use Rattle.rtgs_http_server.proofs.reply_laws.Callers.{KeysOnce}
use Rattle.rtgs_http_server.proofs.reply_laws.RepeatedRequests.{answered_again}
use Rattle.rtgs_http_server.proofs.reply_laws.laws.requests_that_come_again_are_repeats.Goals as goal

pub returns : goal.returns
returns g c =
    let laws : KeysOnce = record {
      regions = c.regions_are_determined.ensures;
      heads = c.heads_are_determined.ensures.head;
      keys = c.keys_are_determined.ensures;
    } in
    answered_again g.K.Keeper laws c.answers_are_determined.ensures c.participants_ask_for_their_own.ensures
    c.step_is_determined.ensures c.acted_is_repeated.ensures
