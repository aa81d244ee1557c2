use Rattle.std.proofs.Common.{take, map}
use Rattle.httparse.specs.Spans.{header_bytes}
use Rattle.rtgs_http_requests.specs.heads.Fields.{values_of}
use Rattle.rtgs_http_requests.specs.heads.NamedValues.{AreNamed}
use Rattle.rtgs_http_requests.proofs.heads.fields.values_of.Given as goal

-- These are the values of the fields before this place.
abbrev pub invariant-loop-field : goal.invariant-loop-field
invariant-loop-field l = AreNamed (values_of l.name (map (header_bytes l.region) (take l.field-index l.fields))) l.found
