use Rattle.rtgs_http_server.proofs.exchange.commands.submit.Goals as goal

pub returns-clause-submits : goal.returns-clause-submits
returns-clause-submits g c honest book held = record {
  reply = c.submit-reply.result;
  acts = c.submit-reply.ensures.acts honest book held;
  sent_or_lost = c.tell.ensures.sent_or_lost;
  refused = c.tell.ensures.refused;
  not_failed = λ e.
      let failed = c.submit-reply.ensures.faults.only_failed e in
      let works = c.holds_a_sound_book.ensures.works book held in
      let no : ⊥ = cc in no;
}
