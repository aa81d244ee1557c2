use Rattle.std.proofs.Common.{◌∙◌, sym}
use Rattle.rtgs_http_requests.proofs.heads.Values.{named_more, other_more, values_to}
use Rattle.rtgs_http_requests.proofs.heads.fields.values_of.Goals as goal
use Rattle.rtgs_http_requests.proofs.heads.fields.values_of.Goals.{then-is_named, else-is_named}

pub loop-field-preserved : goal.loop-field-preserved
loop-field-preserved c =
    let test = rw c.of.ensures at c.is_named.ensures in
    elim c.if-is_named.branch [
      | then-is_named w ↦
          let more = named_more c.args.name.now c.args.region.now c.args.fields.now c.loop-field.field-index
          c.loop-field-test.true (sym test ∙ w.if-is_named.true) in
          let added = w.with-found.ensures (values_to c.args.name.now c.args.region.now c.args.fields.now
          c.loop-field.field-index) c.loop-field.invariant in
          rw (w.found-is, more) (rw w.of-then-is_named.ensures at added)
      | else-is_named w ↦
          let more = other_more c.args.name.now c.args.region.now c.args.fields.now c.loop-field.field-index
          c.loop-field-test.true (sym test ∙ w.if-is_named.false) in
          rw (w.found-is, more) c.loop-field.invariant
    ]
