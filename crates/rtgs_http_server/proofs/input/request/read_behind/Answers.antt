use Rattle.std.proofs.Common.{ℕ, List, Err, ◌++◌}
use Rattle.rtgs_http_requests.specs.feeds.Region.{StartsWith}
use Rattle.rtgs_http_requests.specs.Plans.{AfterCaller}
use Rattle.rtgs_http_server.specs.input.Input.{Says, Requests}
use Rattle.rtgs_http_server.specs.declared.input.unread.Unread.TheVariants.{Faulty}
use Rattle.rtgs_http_server.proofs.input.Known.{any, known_map}
use Rattle.rtgs_http_server.proofs.input.StepOutcomes.{asks_none, caller_fails, content_read}
use Rattle.rtgs_http_server.proofs.input.request.read_behind.Goals as goal

pub returns-in-Err-clause-asked : goal.returns-in-Err-clause-asked
returns-in-Err-clause-asked g c =
    any (g.R.Read.remaining c.args.reader.now) (λ rest. (input : List ℕ)
    → StartsWith input c.args.region.now (c.args.piece.now ++ rest)
    → Requests (g.D.Directory.knows c.args.directory.now) c.args.operator.now input (Err (Faulty c.in-Err.fault)))
    (λ rest input starts code_of known. c.in-Err.ensures.plans code_of input (c.args.piece.now ++ rest) starts)

pub returns-in-Err-caller_of-clause-asked : goal.returns-in-Err-caller_of-clause-asked
returns-in-Err-caller_of-clause-asked g c =
    any (g.R.Read.remaining c.args.reader.now) (λ rest. (input : List ℕ)
    → StartsWith input c.args.region.now (c.args.piece.now ++ rest)
    → Requests (g.D.Directory.knows c.args.directory.now) c.args.operator.now input
    (Err c.in-Err-caller_of.unread))
    (λ rest input starts. caller_fails (g.D.Directory.knows c.args.directory.now) c.args.operator.now
    c.args.region.now c.in-Ok.plan input (c.args.piece.now ++ rest) c.in-Err-caller_of.unread c.in-Ok.ensures.plans
    c.in-Ok.ensures.looks_up starts c.in-Err-caller_of.ensures.caller)

pub returns-clause-asked : goal.returns-clause-asked
returns-clause-asked g c =
    known_map (g.R.Read.remaining c.args.reader.now)
    (λ rest. Says (AfterCaller c.in-Ok.plan (c.args.piece.now ++ rest) c.in-Ok-caller_of.caller) c.read_content.result)
    (λ rest. (input : List ℕ) → StartsWith input c.args.region.now (c.args.piece.now ++ rest)
    → Requests (g.D.Directory.knows c.args.directory.now) c.args.operator.now input c.read_content.result)
    (λ rest h input starts. content_read (g.D.Directory.knows c.args.directory.now) c.args.operator.now
    c.args.region.now c.in-Ok.plan input (c.args.piece.now ++ rest) c.in-Ok-caller_of.caller c.read_content.result
    c.in-Ok.ensures.plans starts c.in-Ok-caller_of.ensures.caller h)
    c.read_content.ensures

pub returns-clause-failed : goal.returns-clause-failed
returns-clause-failed g c e =
    absurd (asks_none (g.R.Read.remaining c.args.reader.now)
    (λ rest. AfterCaller c.in-Ok.plan (c.args.piece.now ++ rest) c.in-Ok-caller_of.caller) c.read_content.result
    c.read_content.ensures e)
