use Rattle.std.proofs.Common.{rules, ◌≡◌, true, codes}
use Rattle.std.specs.Str.{bytes_eq}
use Rattle.rtgs_http_requests.proofs.heads.WholePaths.{account_is_whole, queue_is_whole, held_is_whole}
use Rattle.rtgs_http_requests.proofs.heads.WholePaths.{waiting_is_whole, accounts_is_whole, status_is_whole}
use Rattle.rtgs_http_requests.proofs.heads.WholePaths.{queues_is_whole}
use Rattle.rtgs_http_requests.proofs.heads.whole_paths.whole_reading.Goals as goal

pub returns-then-eq : goal.returns-then-eq
returns-then-eq c =
    let same : bytes_eq c.args.target.now (codes "/account") ≡ true = search rules in
    account_is_whole c.args.target.now same

pub returns-then-eq-2 : goal.returns-then-eq-2
returns-then-eq-2 c =
    let same : bytes_eq c.args.target.now (codes "/queue") ≡ true = search rules in
    queue_is_whole c.args.target.now same

pub returns-then-eq-3 : goal.returns-then-eq-3
returns-then-eq-3 c =
    let same : bytes_eq c.args.target.now (codes "/held") ≡ true = search rules in
    held_is_whole c.args.target.now same

pub returns-then-eq-4 : goal.returns-then-eq-4
returns-then-eq-4 c =
    let same : bytes_eq c.args.target.now (codes "/waiting") ≡ true = search rules in
    waiting_is_whole c.args.target.now same

pub returns-then-eq-5 : goal.returns-then-eq-5
returns-then-eq-5 c =
    let same : bytes_eq c.args.target.now (codes "/desk/accounts") ≡ true = search rules in
    accounts_is_whole c.args.target.now same

pub returns-then-eq-6 : goal.returns-then-eq-6
returns-then-eq-6 c =
    let same : bytes_eq c.args.target.now (codes "/desk/status") ≡ true = search rules in
    status_is_whole c.args.target.now same

pub returns-then-eq-7 : goal.returns-then-eq-7
returns-then-eq-7 c =
    let same : bytes_eq c.args.target.now (codes "/desk/queues") ≡ true = search rules in
    queues_is_whole c.args.target.now same
