use Rattle.rtgs_http_server.proofs.exchange.Exchanged.{idle}
use Rattle.rtgs_http_server.proofs.exchange.laws.a_desk_at_rest_works.Goals as goal

pub returns : goal.returns
returns g c = λ book held. idle g.K.Keeper book c.args.desk.now
    (c.holds_a_sound_book.ensures.calm book held) (c.stands.ensures book held)
