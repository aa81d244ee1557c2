-- What is kept of a head.
use Rattle.std.specs.Prelude.{◌≡◌}
use Rattle.httparse.specs.Grammar.{RequestHead}
use Rattle.rtgs_http_requests.specs.heads.Fields.{HasKey}
use Rattle.rtgs_http_requests.specs.heads.Heads.{fields_of}
use Rattle.rtgs_http_requests.specs.declared.heads.head.Head.{Head}

pub record HasParts (head : RequestHead) (request : Head) : Type 0 where
  pub method : request.method.now ≡ head.method
  pub target : request.target.now ≡ head.target
  pub key : HasKey (fields_of head) request.key
