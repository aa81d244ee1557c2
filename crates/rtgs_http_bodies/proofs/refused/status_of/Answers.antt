use Rattle.std.proofs.Common.{◌≡◌, subst, rules}
use Rattle.http.specs.StatusCode.{IsStatusCode}
use Rattle.rtgs_http_bodies.specs.replies.Kinds.{kind_status}
use Rattle.rtgs_http_bodies.proofs.InRange.{status_in_range}
use Rattle.rtgs_http_bodies.proofs.refused.status_of.Goals as goal

pub status_with-requires : goal.status_with-requires
status_with-requires c =
    let e : kind_status c.args.kind ≡ c.unwrap_or.result = search rules in
    subst IsStatusCode e (status_in_range c.args.kind)
