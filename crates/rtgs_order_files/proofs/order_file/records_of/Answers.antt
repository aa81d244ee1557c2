use Rattle.std.proofs.Common.{refl, inr, ◌∙◌}
use Rattle.csv.specs.Reading.{strip_bom}
use Rattle.rtgs_order_files.proofs.order_file.records_of.Goals as goal

pub returns-clause-reading : goal.returns-clause-reading
returns-clause-reading c =
    let of = c.from_reader.ensures in
    let e = c.flexible.ensures in
    let h = c.has_headers.ensures in
    rw c.into_byte_records.ensures.rdr (record {
      plain = rw (e, h) at of.config ∙ c.new.ensures.config;
      untrimmed = rw (e, h) at of.trim ∙ c.new.ensures.trim;
      flexible = rw e at of.flexible;
      ready = inr (inr (rw (e, h) at of.has_headers, of.headers));
      between = rw of.state refl;
      known = (strip_bom c.args.bytes.now, of.source);
      more = c.into_byte_records.ensures.left;
    })

pub returns-clause-left : goal.returns-clause-left
returns-clause-left c = rw (c.into_byte_records.ensures.rdr, c.from_reader.ensures.state, c.from_reader.ensures.source)
    refl
