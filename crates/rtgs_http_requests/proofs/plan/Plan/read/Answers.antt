use Rattle.std.proofs.Common.{Err, refl, subst, sym}
use Rattle.rtgs_http_requests.specs.declared.http_fault.HttpFault.{HttpFault}
use Rattle.rtgs_http_requests.specs.Plans.{Plans}
use Rattle.rtgs_http_requests.specs.declared.plan.Plan.{Plan}
use Rattle.rtgs_http_requests.proofs.Composed.{no_head, route_fails, key_fails, planned, looked_up}
use Rattle.rtgs_http_requests.proofs.plan.Plan.read.Goals as goal

pub returns-in_default-clause-plans : goal.returns-in_default-clause-plans
returns-in_default-clause-plans c =
    no_head c.args.operator.now c.args.region.now (c.read.ensures.none c.in_default.is)

pub returns-in-Err-clause-plans : goal.returns-in-Err-clause-plans
returns-in-Err-clause-plans c =
    let P : HttpFault → Type 0 = λ bad. Plans c.args.operator.now c.args.region.now (Err bad) in
    subst P (sym c.from.ensures) (route_fails c.args.operator.now c.args.region.now c.in-Some.head c.in-Err.fault
    c.in-Some.ensures.request c.in-Err.ensures)

pub returns-in-Err-of_key-clause-plans : goal.returns-in-Err-of_key-clause-plans
returns-in-Err-of_key-clause-plans c =
    key_fails c.args.operator.now c.args.region.now c.in-Some.head c.in-Ok.found c.in-Err-of_key.fault
    c.in-Some.ensures.request c.in-Ok.ensures c.in-Err-of_key.ensures

pub returns-clause-plans : goal.returns-clause-plans
returns-clause-plans c =
    let plan : Plan = record {
      caller = c.in-Ok-of_key.caller;
      parameters = c.in-Ok.found.1;
      posts = c.posts-posts.result;
      length = c.in-Some.head.length;
    } in
    planned c.args.operator.now c.args.region.now c.in-Some.head c.in-Ok.found plan c.in-Some.ensures.request
    c.in-Ok.ensures c.in-Ok-of_key.ensures refl c.posts-posts.ensures refl

pub returns-clause-looks_up : goal.returns-clause-looks_up
returns-clause-looks_up c =
    looked_up c.args.operator.now c.args.region.now c.in-Some.head c.in-Ok.found c.in-Ok-of_key.caller
    c.in-Some.ensures.request c.in-Ok.ensures c.in-Ok-of_key.ensures
