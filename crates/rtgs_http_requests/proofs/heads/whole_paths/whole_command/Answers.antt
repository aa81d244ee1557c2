use Rattle.std.proofs.Common.{rules, ◌≡◌, true, codes}
use Rattle.std.specs.Str.{bytes_eq}
use Rattle.rtgs_http_requests.proofs.heads.WholePaths.{orders_is_whole, batches_is_whole, post_is_whole}
use Rattle.rtgs_http_requests.proofs.heads.WholePaths.{credit_is_whole}
use Rattle.rtgs_http_requests.proofs.heads.WholePaths.{open_is_whole, resolve_is_whole, cutoff_is_whole, close_is_whole}
use Rattle.rtgs_http_requests.proofs.heads.whole_paths.whole_command.Goals as goal

pub returns-then-eq : goal.returns-then-eq
returns-then-eq c =
    let same : bytes_eq c.args.target.now (codes "/orders") ≡ true = search rules in
    orders_is_whole c.args.target.now same

pub returns-then-eq-2 : goal.returns-then-eq-2
returns-then-eq-2 c =
    let same : bytes_eq c.args.target.now (codes "/batches") ≡ true = search rules in
    batches_is_whole c.args.target.now same

pub returns-then-eq-3 : goal.returns-then-eq-3
returns-then-eq-3 c =
    let same : bytes_eq c.args.target.now (codes "/desk/post") ≡ true = search rules in
    post_is_whole c.args.target.now same

pub returns-then-eq-4 : goal.returns-then-eq-4
returns-then-eq-4 c =
    let same : bytes_eq c.args.target.now (codes "/desk/credit") ≡ true = search rules in
    credit_is_whole c.args.target.now same

pub returns-then-eq-5 : goal.returns-then-eq-5
returns-then-eq-5 c =
    let same : bytes_eq c.args.target.now (codes "/desk/open") ≡ true = search rules in
    open_is_whole c.args.target.now same

pub returns-then-eq-6 : goal.returns-then-eq-6
returns-then-eq-6 c =
    let same : bytes_eq c.args.target.now (codes "/desk/resolve") ≡ true = search rules in
    resolve_is_whole c.args.target.now same

pub returns-then-eq-7 : goal.returns-then-eq-7
returns-then-eq-7 c =
    let same : bytes_eq c.args.target.now (codes "/desk/cutoff") ≡ true = search rules in
    cutoff_is_whole c.args.target.now same

pub returns-then-eq-8 : goal.returns-then-eq-8
returns-then-eq-8 c =
    let same : bytes_eq c.args.target.now (codes "/desk/close") ≡ true = search rules in
    close_is_whole c.args.target.now same
