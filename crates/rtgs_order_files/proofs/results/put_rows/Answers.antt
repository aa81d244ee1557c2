use Rattle.std.proofs.Common.{◌≡◌, ◌++◌, ◌∷◌, [], sym, ap, subst, ◌∙◌, length, length-append}
use Rattle.std.proofs.lemmas.Slice.Zip.{zip_turn, zip_end}
use Rattle.std.specs.Slice.Iter.{iter_rest}
use Rattle.std.specs.Iterator.Adapters.{zip_first, zip_second}
use Rattle.rtgs_order_files.specs.Results.{Wrote, reply_line}
use Rattle.rtgs_order_files.proofs.Lines.{lines_more, lines_stop, lines_none, lines_end, is_whole, at_ok}
use Rattle.rtgs_order_files.proofs.results.put_rows.Goals as goal

pub loop-row-preserved : goal.loop-row-preserved
loop-row-preserved g c text wrote =
    let i = c.loop-row.invariant text wrote in
    let first : iter_rest (zip_first c.into_iter-row-iterator.result)
    ≡ c.args.rows.now = rw (c.into_iter-row-iterator.ensures.into_iter_gives, c.zip-row-items.ensures.first)
    c.iter.ensures.rest in
    let second : iter_rest (zip_second c.into_iter-row-iterator.result)
    ≡ c.as_slice-replies.result.now = rw (
      c.into_iter-row-iterator.ensures.into_iter_gives,
      c.zip-row-items.ensures.second,
    ) c.iter-2.ensures.rest in
    let turn = zip_turn c.args.rows.now c.as_slice-replies.result.now c.loop-row.yielded c.into_iter-row-iterator.result
    c.loop-row.row-iterator c.next.new.self c.next.result first second c.loop-row.yielded_by _ c.in-Some.is
    c.next.ensures.steps in
    let row = c.in-Some.row.now in
    let reply = c.in-Some.reply.now in
    rw (length-append c.loop-row.yielded ((c.in-Some.row, c.in-Some.reply) ∷ [])) (
      i.0 ++ reply_line row.reference reply,
      c.in_ok-put_reply.ensures i.0 i.1,
      lines_more i.0 c.args.rows.now c.as_slice-replies.result.now c.args.batch.now.stopped (length c.loop-row.yielded)
          row reply turn.0 turn.1 (turn.2 row) (turn.3 reply) ∙ i.2,
    )

pub returns-in_default : goal.returns-in_default
returns-in_default g c text wrote =
    let i = c.loop-row.invariant text wrote in
    let first : iter_rest (zip_first c.into_iter-row-iterator.result)
    ≡ c.args.rows.now = rw (c.into_iter-row-iterator.ensures.into_iter_gives, c.zip-row-items.ensures.first)
    c.iter.ensures.rest in
    let second : iter_rest (zip_second c.into_iter-row-iterator.result)
    ≡ c.as_slice-replies.result.now = rw (
      c.into_iter-row-iterator.ensures.into_iter_gives,
      c.zip-row-items.ensures.second,
    ) c.iter-2.ensures.rest in
    let ended = zip_end c.args.rows.now c.as_slice-replies.result.now c.loop-row.yielded c.into_iter-row-iterator.result
    c.loop-row.row-iterator c.next.new.self c.next.result first second c.loop-row.yielded_by c.in-None.is
    c.next.ensures.steps in
    let left = lines_none c.args.rows.now c.as_slice-replies.result.now (length c.loop-row.yielded) ended in
    subst (Wrote g.W.Write.contents c.loop-row.lines) (is_whole i.0 _ _ (rw c.in_default.is left) i.2) i.1

pub returns-in-Some-get : goal.returns-in-Some-get
returns-in-Some-get g c = at_ok c.put_stop.result _ _ (λ put text wrote.
    let i = c.loop-row.invariant text wrote in
    let first : iter_rest (zip_first c.into_iter-row-iterator.result)
    ≡ c.args.rows.now = rw (c.into_iter-row-iterator.ensures.into_iter_gives, c.zip-row-items.ensures.first)
    c.iter.ensures.rest in
    let second : iter_rest (zip_second c.into_iter-row-iterator.result)
    ≡ c.as_slice-replies.result.now = rw (
      c.into_iter-row-iterator.ensures.into_iter_gives,
      c.zip-row-items.ensures.second,
    ) c.iter-2.ensures.rest in
    let ended = zip_end c.args.rows.now c.as_slice-replies.result.now c.loop-row.yielded c.into_iter-row-iterator.result
    c.loop-row.row-iterator c.next.new.self c.next.result first second c.loop-row.yielded_by c.in-None.is
    c.next.ensures.steps in
    let left = lines_stop c.args.rows.now c.as_slice-replies.result.now c.in-Some-stopped.refusal
    (length c.loop-row.yielded) c.in-Some-get.row.now ended c.in-Some-get.ensures.lookup.3.0
    c.in-Some-get.ensures.lookup.1 in
    subst (Wrote g.W.Write.contents c.put_stop.new.lines) (ap (λ l. i.0 ++ l) (sym (rw c.in-Some-stopped.is left))
    ∙ i.2) (put i.0 i.1)) c.put_stop.ensures

pub returns-in-None-get : goal.returns-in-None-get
returns-in-None-get g c text wrote =
    let i = c.loop-row.invariant text wrote in
    let first : iter_rest (zip_first c.into_iter-row-iterator.result)
    ≡ c.args.rows.now = rw (c.into_iter-row-iterator.ensures.into_iter_gives, c.zip-row-items.ensures.first)
    c.iter.ensures.rest in
    let second : iter_rest (zip_second c.into_iter-row-iterator.result)
    ≡ c.as_slice-replies.result.now = rw (
      c.into_iter-row-iterator.ensures.into_iter_gives,
      c.zip-row-items.ensures.second,
    ) c.iter-2.ensures.rest in
    let ended = zip_end c.args.rows.now c.as_slice-replies.result.now c.loop-row.yielded c.into_iter-row-iterator.result
    c.loop-row.row-iterator c.next.new.self c.next.result first second c.loop-row.yielded_by c.in-None.is
    c.next.ensures.steps in
    let left = lines_end c.args.rows.now c.as_slice-replies.result.now c.args.batch.now.stopped
    (length c.loop-row.yielded) ended c.in-None-get.ensures.lookup.3 in
    subst (Wrote g.W.Write.contents c.loop-row.lines) (is_whole i.0 _ _ left i.2) i.1
