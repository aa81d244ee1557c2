use Rattle.std.proofs.Common.{sym, rules, ◌∙◌, Vec, Global}
use Rattle.rtgs_book.specs.declared.new_order.NewOrder.{NewOrder}
use Rattle.rtgs_order_files.specs.Reading.{left_of}
use Rattle.rtgs_order_files.proofs.OrderFiles.{of_under, taken, refused, fault_at_once, refused_at_once}
use Rattle.rtgs_order_files.proofs.order_file.read_orders.Goals as goal

pub returns-in_err-columns-clause-fault : goal.returns-in_err-columns-clause-fault
returns-in_err-columns-clause-fault c =
    fault_at_once c.args.bytes.now (left_of c.records_of-records.result) c.in_err-columns.field-0.0
    c.from_residual.result c.records_of-records.ensures.left (search rules) c.in_err-columns.ensures.fault

pub returns-in_err-columns-clause-refused : goal.returns-in_err-columns-clause-refused
returns-in_err-columns-clause-refused c =
    refused_at_once c.args.bytes.now (left_of c.records_of-records.result) c.in_err-columns.field-0.0
    c.from_residual.result c.records_of-records.ensures.left (search rules) c.in_err-columns.ensures.fault

pub returns : goal.returns
returns c =
    let e = c.read_rows.ensures in
    let items = λ (v : Vec NewOrder Global). v.items in
    let under = sym c.records_of-records.ensures.left ∙ c.in_ok-columns.ensures.taken in
    let read = of_under items c.args.bytes.now c.in_ok-columns.columns (left_of c.take_header.new.records)
    c.read_rows.result under e.rows e.fault in
    record {
      rows = read.0;
      fault = read.1;
      taken = taken c.dates_have_distinct_texts.ensures items c.args.bytes.now c.read_rows.result read.0 read.1;
      refused = refused items c.args.bytes.now c.read_rows.result read.0 read.1;
    }
