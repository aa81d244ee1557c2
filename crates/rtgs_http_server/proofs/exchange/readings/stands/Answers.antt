use Rattle.rtgs_http_server.proofs.exchange.readings.stands.Goals as goal

pub returns : goal.returns
returns g c book held = record {
  kept = λ works. held;
  after_a_crash = λ found left. (c.holds_a_sound_book.ensures.after_a_crash book found held).0 left;
  whole_after_a_crash = c.holds_a_sound_book.ensures.whole_after_a_crash book held;
}
