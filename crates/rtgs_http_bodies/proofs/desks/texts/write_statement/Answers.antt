use Rattle.rtgs_book.specs.Lookup.{participant_of}
use Rattle.rtgs_http_bodies.proofs.desks.Leaving.{leaves_book, nothing_done}
use Rattle.rtgs_http_bodies.proofs.desks.Writing.{refused_account, known_account, written}
use Rattle.rtgs_statements.specs.Texts.{statement}
use Rattle.rtgs_http_bodies.proofs.desks.texts.write_statement.Goals as goal

pub returns-in-Ok-clause-written : goal.returns-in-Ok-clause-written
returns-in-Ok-clause-written g c honest book held =
    let before = c.write_statement.ensures.read.honest honest in
    known_account (g.W.Write.contents c.args.out.now) (statement book c.args.code.now c.args.date) _
    (participant_of book c.args.code.now) _ c.write_statement.result (g.W.Write.contents c.write_statement.new.out)
    (c.in-Ok.ensures.answered book held)
    (written (g.W.Write.contents c.args.out.now) (g.W.Write.contents c.write_statement.new.out) _
    c.write_statement.result (c.write_statement.ensures.written honest book held)
    (c.write_statement.ensures.begun honest book held)
    (c.write_statement.ensures.read.kinds (c.holds_a_sound_book.ensures.works book held)))

pub returns-in-Ok-clause-leaves : goal.returns-in-Ok-clause-leaves
returns-in-Ok-clause-leaves g c = leaves_book g.K.Keeper _ _ _ c.write_statement.ensures.read

pub returns-in-Err-clause-written : goal.returns-in-Err-clause-written
returns-in-Err-clause-written g c honest book held =
    refused_account (g.W.Write.contents c.args.out.now) (statement book c.args.code.now c.args.date) _
    (participant_of book c.args.code.now) c.in-Err.refusal
    (c.texts_have_bytes.ensures.statement book c.args.code.now c.args.date) (c.in-Err.ensures.answered book held)

pub returns-in-Err-clause-leaves : goal.returns-in-Err-clause-leaves
returns-in-Err-clause-leaves g c = nothing_done g.K.Keeper c.args.desk.now (λ book held. record {
  after_a_crash = λ found left. (c.holds_a_sound_book.ensures.after_a_crash book found held).0 left;
  whole_after_a_crash = c.holds_a_sound_book.ensures.whole_after_a_crash book held;
})
