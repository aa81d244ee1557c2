use Rattle.rtgs_http_server.proofs.reply_laws.Determined.{determined}
use Rattle.rtgs_http_server.proofs.reply_laws.laws.replies_are_determined.Goals as goal

pub returns : goal.returns
returns g c = λ operator input old one other sent again.
    determined g.K.Keeper operator input old one other sent again c.greatest_is_unique.ensures
    c.step_is_determined.ensures c.answers_are_determined.ensures
