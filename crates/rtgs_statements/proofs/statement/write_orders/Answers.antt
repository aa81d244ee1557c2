use Rattle.std.proofs.Common.{◌≡◌, ◌<◌, ◌*◌, ◌^◌, ◌++◌, ◌&&◌, [], pos, Option, Some, None, rules}
use Rattle.std.proofs.Common.{refl, sym, ap, subst, ◌∙◌, arith, append_assoc}
use Rattle.std.proofs.lemmas.Int.{ints}
use Rattle.std.proofs.lemmas.List.{append-nil}
use Rattle.std.specs.Io.KnownBytes.{Appends}
use Rattle.std.specs.Str.{bytes_eq}
use Rattle.rtgs_money.specs.declared.amount.TheConstants.Amount as Amount
use Rattle.rtgs_book.specs.declared.order.Order.{Order}
use Rattle.rtgs_book.specs.Books.{is_settled}
use Rattle.rtgs_book.specs.cores.Nexts.{order_after}
use Rattle.rtgs_statements.specs.declared.party.Party.TheVariants.{Sender, Receiver}
use Rattle.rtgs_statements.specs.Records.{orders_on}
use Rattle.rtgs_statements.specs.Rows.{order_row, order_rows, settled_by}
use Rattle.rtgs_statements.specs.Sums.{sent, received}
use Rattle.rtgs_statements.proofs.Begins.{appends-both, begins-within}
use Rattle.rtgs_statements.proofs.Growth.{appends-none}
use Rattle.rtgs_statements.proofs.Leaving.{no_fault, nothing_read, read_more}
use Rattle.rtgs_statements.proofs.Terms.{Within, term-within, wider}
use Rattle.rtgs_statements.proofs.RecordsOfDate.{orders_left, orders_begin, orders_end, order_rows_split, settled_split}
use Rattle.rtgs_statements.proofs.Wholes.{none-whole, wholes-both, order_row-whole, text-leaves}
use Rattle.rtgs_statements.proofs.statement.write_orders.Goals as goal

none_else : (o : Option Order) → ((p : Order) → o ≡ Some p → ⊥) → o ≡ None
none_else None not = refl
none_else (Some p) not = absurd (not p refl)

pub loop-next-init : goal.loop-next-init
loop-next-init g c = record {
  fits = omega arith;
  within_sent = (omega (arith, ints), omega (arith, ints));
  within_received = (omega (arith, ints), omega (arith, ints));
  read = nothing_read g.S.Source.holds g.S.Source.leaves g.S.Source.is_honest g.S.Source.has_failed c.args.source.now
      (g.met.S.Source.left c.args.source.now);
  whole = none-whole (g.W.Write.contents c.args.out.now);
  sent = λ honest book held.
      let begin = ap (sent c.args.code.now) (orders_begin c.args.date book (c.reads_a_sound_book.ensures book held)) in
      omega (arith, ints);
  received = λ honest book held.
      let begin = ap (received c.args.code.now) (orders_begin c.args.date book (c.reads_a_sound_book.ensures book held))
      in omega (arith, ints);
  rows = λ honest book held. (
    [],
    appends-none (g.W.Write.contents c.args.out.now),
    ap (order_rows c.args.code.now) (orders_begin c.args.date book (c.reads_a_sound_book.ensures book held)),
  );
}

pub loop-next-preserved : goal.loop-next-preserved
loop-next-preserved g c =
    let inv = c.loop-next.invariant in
    let next = c.in-Some.order in
    let small : Within Amount.MAX (pos next.amount) = (omega (arith, ints), omega (arith, ints)) in
    let out = term-within (is_settled next && bytes_eq next.sender c.args.code.now) Amount.MAX
    (pos next.amount) small in
    let out_low = out.0 in let out_high = out.1 in
    let back = term-within (is_settled next && bytes_eq next.receiver c.args.code.now) Amount.MAX
    (pos next.amount) small
    in
    let back_low = back.0 in let back_high = back.1 in
    let sent_low = inv.within_sent.0 in let sent_high = inv.within_sent.1 in
    let received_low = inv.within_received.0 in let received_high = inv.within_received.1 in
    let sent_by : c.settled_cents-sent.result ≡ settled_by Sender c.args.code.now next = c.settled_cents-sent.ensures in
    let received_by : c.settled_cents-received.result ≡ settled_by Receiver c.args.code.now next
    = c.settled_cents-received.ensures in
    let up : c.loop-next.last < next.number = search rules in
    let fits = inv.fits in
    let written : Appends (g.W.Write.contents c.loop-next.out) (g.W.Write.contents c.write_order.new.out)
    (order_row c.args.code.now next) = search rules in
    record {
      fits = search rules;
      within_sent = (omega (arith, ints), omega (arith, ints));
      within_received = (omega (arith, ints), omega (arith, ints));
      read = read_more g.S.Source.holds g.S.Source.leaves g.S.Source.is_honest g.S.Source.has_failed c.args.source.now
          c.loop-next.source c.later_order.new.source None inv.read c.in-Ok.ensures.read;
      whole =
          wholes-both (g.W.Write.contents c.args.out.now) (g.W.Write.contents c.loop-next.out)
          (g.W.Write.contents c.write_order.new.out) inv.whole
          (order_row c.args.code.now next, written, order_row-whole c.args.code.now next);
      sent = λ honest book held.
          let early = c.later_order.ensures.read.honest honest in
          let now = inv.read.held early book held no_fault in
          let numbers = c.records_are_listed.ensures.orders book (c.reads_a_sound_book.ensures book held) in
          let is : order_after book c.args.date c.loop-next.last ≡ Some next =
          sym (c.in-Ok.ensures.found honest book now) ∙ c.in-Some.is in
          let split = settled_split c.args.code.now c.args.date c.loop-next.last book next numbers is Sender in
          let before = inv.sent early book held in
          omega (arith, ints);
      received = λ honest book held.
          let early = c.later_order.ensures.read.honest honest in
          let now = inv.read.held early book held no_fault in
          let numbers = c.records_are_listed.ensures.orders book (c.reads_a_sound_book.ensures book held) in
          let is : order_after book c.args.date c.loop-next.last ≡ Some next =
          sym (c.in-Ok.ensures.found honest book now) ∙ c.in-Some.is in
          let split = settled_split c.args.code.now c.args.date c.loop-next.last book next numbers is Receiver in
          let before = inv.received early book held in
          omega (arith, ints);
      rows = λ honest book held.
          let early = c.later_order.ensures.read.honest honest in
          let now = inv.read.held early book held no_fault in
          let numbers = c.records_are_listed.ensures.orders book (c.reads_a_sound_book.ensures book held) in
          let is : order_after book c.args.date c.loop-next.last ≡ Some next =
          sym (c.in-Ok.ensures.found honest book now) ∙ c.in-Some.is in
          let rows = inv.rows early book held in (
            rows.0 ++ order_row c.args.code.now next,
            appends-both _ _ _ rows.0 (order_row c.args.code.now next) rows.1 written,
            append_assoc rows.0 (order_row c.args.code.now next)
                (order_rows c.args.code.now (orders_left c.args.date next.number book))
                ∙ order_rows_split c.args.code.now c.args.date c.loop-next.last book next numbers is rows.0
                (order_rows c.args.code.now (orders_on c.args.date book.orders)) rows.2,
          );
    }

pub returns-in-Err-write_order-clause-begun : goal.returns-in-Err-write_order-clause-begun
returns-in-Err-write_order-clause-begun g c honest book held =
    let inv = c.loop-next.invariant in
    let next = c.in-Some.order in
    let early = c.later_order.ensures.read.honest honest in
    let now = inv.read.held early book held no_fault in
    let numbers = c.records_are_listed.ensures.orders book (c.reads_a_sound_book.ensures book held) in
    let is : order_after book c.args.date c.loop-next.last ≡ Some next =
    sym (c.in-Ok.ensures.found honest book now) ∙ c.in-Some.is in
    let rows = inv.rows early book held in
    begins-within _ _ _ rows.0 (order_row c.args.code.now next)
    (order_rows c.args.code.now (orders_left c.args.date next.number book)) _ rows.1
    c.in-Err-write_order.ensures.begun
    (order_rows_split c.args.code.now c.args.date c.loop-next.last book next numbers is rows.0 _ rows.2)

pub returns-in_default-clause-written : goal.returns-in_default-clause-written
returns-in_default-clause-written g c honest book held =
    let inv = c.loop-next.invariant in
    let early = c.later_order.ensures.read.honest honest in
    let now = inv.read.held early book held no_fault in
    let over = orders_end c.args.date c.loop-next.last book
    (sym (c.in-Ok.ensures.found honest book now) ∙ none_else c.in-Ok.next c.in_default.not-Some) in
    let rows = inv.rows early book held in
    subst (Appends (g.W.Write.contents c.args.out.now) (g.W.Write.contents c.loop-next.out))
    (sym (append-nil rows.0) ∙ sym (ap (λ os. rows.0 ++ order_rows c.args.code.now os) over) ∙ rows.2) rows.1

pub returns-in_default-clause-sums : goal.returns-in_default-clause-sums
returns-in_default-clause-sums g c honest book held =
    let inv = c.loop-next.invariant in
    let early = c.later_order.ensures.read.honest honest in
    let now = inv.read.held early book held no_fault in
    let end = orders_end c.args.date c.loop-next.last book
    (sym (c.in-Ok.ensures.found honest book now) ∙ none_else c.in-Ok.next c.in_default.not-Some) in
    let no_sent = ap (sent c.args.code.now) end in
    let no_received = ap (received c.args.code.now) end in
    let sent_so_far = inv.sent early book held in
    let received_so_far = inv.received early book held in
    (omega (arith, ints), omega (arith, ints))

pub returns-in_default-clause-small : goal.returns-in_default-clause-small
returns-in_default-clause-small g c =
    let fits = c.loop-next.invariant.fits in (
      wider (c.loop-next.last * Amount.MAX) (10 ^ 36) _ (omega arith) c.loop-next.invariant.within_sent,
      wider (c.loop-next.last * Amount.MAX) (10 ^ 36) _ (omega arith) c.loop-next.invariant.within_received,
    )

pub returns-in-Err-write_order-clause-whole : goal.returns-in-Err-write_order-clause-whole
returns-in-Err-write_order-clause-whole g c =
    text-leaves g.W.Write.contents c.in-Err-write_order.fault c.args.out.now c.loop-next.out c.write_order.new.out
    c.loop-next.invariant.whole c.in-Err-write_order.ensures.memory
