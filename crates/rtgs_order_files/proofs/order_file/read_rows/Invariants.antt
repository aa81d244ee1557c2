use Rattle.std.proofs.Common.{◌≤◌, length}
use Rattle.rtgs_order_files.specs.OrderFile.{BeginWith}
use Rattle.rtgs_order_files.specs.Reading.{IsReading, left_of}
use Rattle.rtgs_order_files.proofs.order_file.read_rows.Given as goal

-- The rows so far come first, and then what is left.
abbrev pub invariant-loop-record : goal.invariant-loop-record
invariant-loop-record l = record {
  reading : IsReading l.record-iterator;
  spelled : BeginWith l.columns l.rows.items (left_of l.record-iterator) (left_of l.fn.records);
  few : length l.rows.items ≤ 500;
}
