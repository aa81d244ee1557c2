use Rattle.std.proofs.Common.{◌≡◌, true, refl, sym, ◌∙◌, inl, inr, rules, arith}
use Rattle.std.proofs.lemmas.Bool.{eqb-false, eqb-true}
use Rattle.std.proofs.lemmas.List.{length-append}
use Rattle.std.specs.Result.{is_ok}
use Rattle.std.specs.Vec.{vec_len}
use Rattle.csv.specs.Records.{fields_of}
use Rattle.rtgs_order_files.specs.Reading.{left_of}
use Rattle.rtgs_order_files.proofs.ReaderSteps.{stepped}
use Rattle.rtgs_order_files.proofs.OrderFiles.{begin_more, no_rows}
use Rattle.rtgs_order_files.proofs.order_file.read_rows.Goals as goal

pub loop-record-init : goal.loop-record-init
loop-record-init c = rw (c.into_iter-record-iterator.ensures.into_iter_gives, c.new-rows.ensures.items) (record {
  reading = c.requires;
  spelled = (refl, tt);
  few = omega arith;
})

pub loop-record-preserved : goal.loop-record-preserved
loop-record-preserved c =
    let i = c.loop-record.invariant in
    let one = rw (c.in-Some.is, c.in-Ok.is) at (stepped c.loop-record.record-iterator c.next.new.self c.next.result
    i.reading c.next.ensures.steps) in
    let good : is_ok c.push.result ≡ true = search rules in
    let items = rw good at c.push.ensures.items in
    let row = c.in-Some-read_row.ensures.value in
    record {
      reading = one.0;
      spelled = rw items (begin_more c.args.columns c.loop-record.rows.items c.in-Some-read_row.row
          (fields_of c.in-Ok.«record») (left_of c.loop-record.record-iterator) (left_of c.next.new.self)
          (left_of c.args.records) i.spelled one.1 row.1 row.0);
      few = rw (items, length-append) (omega (arith, c.len.ensures));
    }

pub returns-then-len-eq-MOST_ROWS-clause-fault : goal.returns-then-len-eq-MOST_ROWS-clause-fault
returns-then-len-eq-MOST_ROWS-clause-fault c =
    let i = c.loop-record.invariant in
    let one = rw (c.in-Some.is, c.in-Ok.is) at (stepped c.loop-record.record-iterator c.next.new.self c.next.result
    i.reading c.next.ensures.steps) in
    inr (
      c.loop-record.rows.items,
      fields_of c.in-Ok.«record»,
      left_of c.next.new.self,
      rw one.1 at i.spelled,
      omega
          (arith, c.len.ensures),
    )

pub returns-in_default-clause-fault : goal.returns-in_default-clause-fault
returns-in_default-clause-fault c =
    let i = c.loop-record.invariant in
    let one = rw (c.in-Some.is, c.in-Ok.is) at (stepped c.loop-record.record-iterator c.next.new.self c.next.result
    i.reading c.next.ensures.steps) in (
      c.loop-record.rows.items,
      fields_of c.in-Ok.«record»,
      left_of c.next.new.self,
      rw one.1 at i.spelled,
      λ row good e.
          cc (c.in_default.is, c.read_row.ensures.found row good e),
      omega (arith, c.len-in_default.ensures),
      omega
          (arith, c.len.ensures, c.len-in_default.ensures),
    )

pub returns-then-is_empty-clause-fault : goal.returns-then-is_empty-clause-fault
returns-then-is_empty-clause-fault c =
    let i = c.loop-record.invariant in
    let none = rw c.in-None.is at (stepped c.loop-record.record-iterator c.next.new.self c.next.result i.reading
    c.next.ensures.steps) in
    inl (no_rows c.args.columns c.loop-record.rows.items (left_of c.args.records) (rw none at i.spelled)
    (omega (
      arith,
      c.loop-record.rows.ok.0,
      eqb-true (vec_len c.loop-record.rows) 0
          (sym c.is_empty.ensures ∙ c.if-is_empty.true),
    )))

pub returns-clause-rows : goal.returns-clause-rows
returns-clause-rows c =
    let i = c.loop-record.invariant in
    let none = rw c.in-None.is at (stepped c.loop-record.record-iterator c.next.new.self c.next.result i.reading
    c.next.ensures.steps) in (
      rw none at i.spelled,
      omega (
        arith,
        c.loop-record.rows.ok.0,
        eqb-false (vec_len c.loop-record.rows) 0
            (sym c.is_empty.ensures ∙ c.if-is_empty.false),
      ),
      i.few,
    )

pub of_reader-requires : goal.of_reader-requires
of_reader-requires c = rw (c.in-Some.is, c.in-Err.is) at (stepped c.loop-record.record-iterator c.next.new.self
    c.next.result c.loop-record.invariant.reading c.next.ensures.steps)
