use Rattle.std.proofs.Common.{◌≡◌, ◌∙◌, ◌∷◌, ◌++◌, [], length, take, refl, sym, ap, subst, arith, rules}
use Rattle.std.proofs.lemmas.Grind.{common_steps}
use Rattle.rtgs_book.specs.Run.{Run}
use Rattle.rtgs_book.specs.Outcome.{Reply, alone}
use Rattle.rtgs_book.specs.Session.{is_judged}
use Rattle.rtgs_desk.specs.Holding.{Acts}
use Rattle.rtgs_desk.specs.batches.Batches.{order_of, orders_of}
use Rattle.rtgs_desk.proofs.batches.Rows.{judged_push, run_more}
use Rattle.rtgs_desk.proofs.batches.Sending.{as_many, shown_push, judged_alone, refused_whole}
use Rattle.rtgs_desk.proofs.batches.Sending.{sent_at_end, sent_at_stop}
use Rattle.rtgs_desk.proofs.batches.batch.submit_batch.Goals as goal

pub loop-row-init : goal.loop-row-init
loop-row-init g c = let none : c.in_ok-replies.replies.items ≡ [] = search rules in record {
  counted = search rules;
  room = search rules;
  honest = λ h. h;
  works = refl;
  same = λ f. (refl, none);
  so_far = λ honest book held.
      rw none (record { last = book; given = []; shown = refl; judged = tt; run = refl; held = held });
}

pub loop-row-preserved : goal.loop-row-preserved
loop-row-preserved g c =
    let i = c.loop-row.invariant in
    let e = c.in-Ok.ensures in
    let replies = c.loop-row.replies.items in
    record {
      counted = grind (arith, common_steps, c.push_reserved.ensures.items, i.counted);
      room = grind (arith, common_steps, c.push_reserved.ensures.capacity, i.room);
      honest = λ h. i.honest (e.honest h);
      works = e.only_fault (λ q. cc) ∙ i.works;
      same = λ f. absurd (let q = (e.failed (i.works ∙ f)).0 in cc);
      so_far = λ honest book held.
          let so = i.so_far (e.honest honest) book held in
          let done = e.acts honest so.last so.held in
          let whole = done.0 in
          let acts = done.2 in
          let judged = sym (judged_alone whole) ∙ ap (λ r. is_judged (alone r)) done.1 ∙ e.judged in
          record {
            last = acts.book;
            given = so.given ++ whole ∷ [];
            shown = rw c.push_reserved.ensures.items (shown_push so.given replies whole c.in-Ok.reply so.shown done.1);
            judged = judged_push so.given whole so.judged judged;
            run = run_more c.args.sender c.args.rows.now c.loop-row.row-index c.row-item.result so.given whole
                book so.last acts.book c.loop-row-test.true c.row-item.is so.run (acts.judged judged);
            held = acts.kept (e.only_fault (λ q. cc) ∙ i.works ∙ c.holds_a_sound_book.ensures.works book held);
          };
    }

pub returns-in-Err-clause-sent : goal.returns-in-Err-clause-sent
returns-in-Err-clause-sent g c honest book held =
    let i = c.loop-row.invariant in
    let e = c.in-Err.ensures in
    let so = i.so_far (e.honest honest) book held in
    let done = e.acts honest so.last so.held in
    sent_at_stop g.K.Keeper (record {
      lasts = c.runs_last.ensures;
      resumed = c.resumed_batches_end_alike.ensures;
      stopped = c.stopped_batches_end_alike.ensures;
    })
    book so.last c.args.sender c.args.rows.now c.loop-row.row-index c.row-item.result c.loop-row.replies.items so.given
    c.in-Err.refusal c.submit_row.new.desk
    (c.holds_a_sound_book.ensures.sound book held).sound (c.holds_a_sound_book.ensures.calm book held)
    c.loop-row-test.true c.row-item.is so.shown
    (as_many so.given c.loop-row.replies.items so.shown ∙ i.counted) so.judged e.unjudged so.run
    (subst (λ (r : Reply). Acts g.K.Keeper so.last (order_of c.args.sender c.row-item.result) r c.submit_row.new.desk)
    (refused_whole done.0 c.in-Err.refusal done.1) done.2)

pub returns-in-Err-clause-only_fault : goal.returns-in-Err-clause-only_fault
returns-in-Err-clause-only_fault g c other = c.in-Err.ensures.only_fault (λ q. other cc) ∙ c.loop-row.invariant.works

pub returns-clause-sent : goal.returns-clause-sent
returns-clause-sent g c honest book held =
    let i = c.loop-row.invariant in
    let so = i.so_far honest book held in
    let all : length c.loop-row.replies.items ≡ length c.args.rows.now =
    grind (arith, i.counted, c.loop-row-test.false, c.loop-row.auto.row-index-end) in
    let many = as_many so.given c.loop-row.replies.items so.shown in
    sent_at_end g.K.Keeper (record {
      lasts = c.runs_last.ensures;
      resumed = c.resumed_batches_end_alike.ensures;
      stopped = c.stopped_batches_end_alike.ensures;
    })
    book so.last c.args.sender c.args.rows.now c.loop-row.replies.items so.given c.loop-row.desk
    (c.holds_a_sound_book.ensures.sound book held).sound (c.holds_a_sound_book.ensures.calm book held) so.shown
    (many ∙ all) so.judged
    (subst (λ n. Run book (orders_of c.args.sender (take n c.args.rows.now)) so.given so.last)
    (sym (many ∙ i.counted)) so.run)
    so.held
    (λ found left. (c.holds_a_sound_book-2.ensures.after_a_crash so.last found so.held).0 left)
    (c.holds_a_sound_book-2.ensures.whole_after_a_crash so.last so.held)
