use Rattle.std.proofs.Common.{◌≡◌, Err, ◌++◌, ap, subst, sym}
use Rattle.std.specs.Io.KnownBytes.{Consumes}
use Rattle.rtgs_http_requests.specs.feeds.Region.{IsRegion}
use Rattle.rtgs_http_requests.specs.Exchange.{HasRegion}
use Rattle.rtgs_http_server.specs.input.Input.{StepFails, Requests}
use Rattle.rtgs_http_server.specs.declared.input.unread.Unread.TheVariants.{DirectoryFailed}
use Rattle.rtgs_http_server.proofs.input.Known.{known_map}
use Rattle.rtgs_http_server.proofs.input.StepOutcomes.{asks_none, region_fails, whole}
use Rattle.rtgs_http_server.proofs.input.request.read_request.Goals as goal

pub returns-in-Err-clause-asked : goal.returns-in-Err-clause-asked
returns-in-Err-clause-asked g c =
    known_map (g.R.Read.remaining c.args.reader.now)
    (λ input. StepFails (λ fault. HasRegion input (Err fault)) c.in-Err.unread)
    (λ input. Requests (g.D.Directory.knows c.args.directory.now) c.args.operator.now input (Err c.in-Err.unread))
    (λ input h. region_fails (g.D.Directory.knows c.args.directory.now) c.args.operator.now input c.in-Err.unread h)
    c.in-Err.ensures.fault

pub returns-in-Err-clause-failed : goal.returns-in-Err-clause-failed
returns-in-Err-clause-failed g c e =
    let same : c.in-Err.unread ≡ DirectoryFailed = cc in
    absurd (asks_none (g.R.Read.remaining c.args.reader.now) (λ input. HasRegion input) (Err c.in-Err.unread)
    c.in-Err.ensures.fault (ap Err same))

pub returns-clause-asked : goal.returns-clause-asked
returns-clause-asked g c =
    let known = g.R.Read.remaining in
    let first = c.read_region.new.piece in
    let region = c.bytes-region.result.now in
    let read = subst (λ r. Consumes (known c.args.reader.now) (known c.read_region.new.reader) (r ++ first))
    (sym c.bytes-region.ensures) c.in-Ok.ensures.taken in
    whole (known c.args.reader.now) (known c.read_region.new.reader) region first
    (λ input. Requests (g.D.Directory.knows c.args.directory.now) c.args.operator.now input c.read_behind.result) read
    (subst IsRegion (sym c.bytes-region.ensures) c.in-Ok.ensures.region) c.read_behind.ensures.asked
