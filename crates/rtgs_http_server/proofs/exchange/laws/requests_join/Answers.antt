use Rattle.std.proofs.Common.{refl}
use Rattle.rtgs_http_server.proofs.exchange.Joining.{none_open}
use Rattle.rtgs_http_server.proofs.exchange.laws.requests_join.Goals as goal

pub returns : goal.returns
returns g c = λ old new commands more replies again first works second.
    let held = first.kept works in
    let left = (c.holds_a_sound_book.ensures.after_a_crash first.last first.last held).1 refl in
    let session = first.session first.last left in record {
      last = second.last;
      calm = second.calm;
      kept = second.kept;
      none_open = λ w. none_open commands more replies again session.replied (first.none_open works)
          (second.none_open w);
      session = λ found may. c.sessions_join.ensures.joined _ _ session (first.none_open works) refl
          (second.session found may);
      whole_after_a_crash = second.whole_after_a_crash;
      calm_after_a_crash = second.calm_after_a_crash;
    }
