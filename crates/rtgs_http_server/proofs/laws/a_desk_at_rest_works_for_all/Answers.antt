use Rattle.rtgs_http_server.proofs.Rest.{at_rest}
use Rattle.rtgs_http_server.proofs.laws.a_desk_at_rest_works_for_all.Goals as goal

pub returns : goal.returns
returns g c = λ operator book held. at_rest g.K.Keeper operator book c.args.desk.now held
    (c.holds_a_sound_book.ensures.calm book held)
    (λ found left. (c.holds_a_sound_book.ensures.after_a_crash book found held).0 left)
    (c.holds_a_sound_book.ensures.whole_after_a_crash book held)
