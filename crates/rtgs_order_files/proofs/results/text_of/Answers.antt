use Rattle.std.proofs.Common.{[], Some, Vec, ℕ, Global, refl, ap, ◌∙◌}
use Rattle.std.specs.Option.{unwrap_or}
use Rattle.rtgs_order_files.specs.Results.{Wrote}
use Rattle.rtgs_order_files.proofs.results.text_of.Goals as goal

pub returns-in-Ok : goal.returns-in-Ok
returns-in-Ok c =
    let e = c.from_writer-lines.ensures in
    let start : Wrote {W = Vec ℕ Global} (λ v. Some v.items) c.from_writer-lines.result [] =
    record {
      whole = rw (e.wtr, e.empty, c.new.ensures.items) refl;
      no_field = e.fields;
      no_byte = e.wrote;
      setup = e.cfg;
    } in
    let end = c.in_ok-put_rows.ensures _ (c.in_ok-put_line.ensures [] start) in
    c.in-Ok.ensures.ok ∙ ap (λ o. unwrap_or o []) end.whole
