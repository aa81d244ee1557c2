use Rattle.rtgs_http_server.proofs.reply_laws.Callers.{KeysOnce}
use Rattle.rtgs_http_server.proofs.reply_laws.OwnReplies.{own_replies}
use Rattle.rtgs_http_server.proofs.reply_laws.laws.participants_are_shown_their_own_rows.Goals as goal

pub returns : goal.returns
returns g c =
    let laws : KeysOnce = record {
      regions = c.regions_are_determined.ensures;
      heads = c.heads_are_determined.ensures.head;
      keys = c.keys_are_determined.ensures;
    } in
    own_replies g.K.Keeper laws c.answers_are_determined.ensures c.participants_ask_for_their_own.ensures
