-- The tables of routes, as `matchit` reads their texts.
use Rattle.std.specs.Prelude.{ℕ, List, [], ◌∷◌, ◌++◌, Result, Ok, Err, Option, option_map, codes}
use Rattle.matchit.specs.Route.{Scan, parse_route}
use Rattle.matchit.specs.Router.{RouteOf, route_from}
use Rattle.matchit.specs.Rows.{RowsOf}
use Rattle.matchit.specs.Order.{placed}
use Rattle.matchit.specs.Params.{walk}
use Rattle.matchit.specs.Seek.{first}
use Rattle.matchit.specs.declared.error.InsertError.{InsertError}
use Rattle.rtgs_http_requests.specs.declared.heads.route.Route.{Route}
use Rattle.rtgs_http_requests.specs.declared.heads.route.Route.TheVariants.{Bank, Operator}
use Rattle.rtgs_http_requests.specs.declared.heads.bank_route.BankRoute.TheVariants.{SendOrder, WithdrawOrder}
use Rattle.rtgs_http_requests.specs.declared.heads.bank_route.BankRoute.TheVariants.{SendBatch}
use Rattle.rtgs_http_requests.specs.declared.heads.bank_route.BankRoute.TheVariants.{ReadOrder, ReadAccount, ReadQueue}
use Rattle.rtgs_http_requests.specs.declared.heads.bank_route.BankRoute.TheVariants.{ReadHeld, ReadWaiting}
use Rattle.rtgs_http_requests.specs.declared.heads.bank_route.BankRoute.TheVariants.{ReadStatement}
use Rattle.rtgs_http_requests.specs.declared.heads.operator_route.OperatorRoute.TheVariants.{Post, SetCredit, OpenDay}
use Rattle.rtgs_http_requests.specs.declared.heads.operator_route.OperatorRoute.TheVariants.{Resolve, CutOff, CloseDay}
use Rattle.rtgs_http_requests.specs.declared.heads.operator_route.OperatorRoute.TheVariants.{ReadReport, ReadAccounts}
use Rattle.rtgs_http_requests.specs.declared.heads.operator_route.OperatorRoute.TheVariants.{ReadStatus, ReadQueues}
use Rattle.rtgs_http_requests.specs.declared.heads.operator_route.OperatorRoute.TheVariants.{ReadOrders, ReadMarks}
use Rattle.rtgs_http_requests.specs.declared.heads.operator_route.OperatorRoute.TheVariants.{ForBank}
use Rattle.rtgs_http_requests.specs.heads.Parameters.{Parts, parts_of}

-- a path, with a name in braces where a parameter stands, and its route
abbrev pub Paths : Type 0
Paths = List (List ℕ × Route)

-- what a bank reads
abbrev pub bank_reading_paths : Paths
bank_reading_paths =
    (codes "/orders/{reference}", Bank ReadOrder)
    ∷ (codes "/account", Bank ReadAccount)
    ∷ (codes "/queue", Bank ReadQueue)
    ∷ (codes "/held", Bank ReadHeld)
    ∷ (codes "/waiting", Bank ReadWaiting)
    ∷ (codes "/statements/{date}", Bank ReadStatement)
    ∷ []

-- what the operator reads of the desk and of a date
abbrev pub desk_reading_paths : Paths
desk_reading_paths =
    (codes "/desk/report/{date}", Operator ReadReport)
    ∷ (codes "/desk/accounts", Operator ReadAccounts)
    ∷ (codes "/desk/status", Operator ReadStatus)
    ∷ (codes "/desk/queues", Operator ReadQueues)
    ∷ (codes "/desk/orders/{date}", Operator ReadOrders)
    ∷ (codes "/desk/marks/{date}", Operator ReadMarks)
    ∷ []

-- what the operator reads of a bank
abbrev pub reading_paths_of_banks : Paths
reading_paths_of_banks =
    (codes "/desk/orders/{code}/{reference}", Operator (ForBank ReadOrder))
    ∷ (codes "/desk/queue/{code}", Operator (ForBank ReadQueue))
    ∷ (codes "/desk/held/{code}", Operator (ForBank ReadHeld))
    ∷ (codes "/desk/statements/{code}/{date}", Operator (ForBank ReadStatement))
    ∷ []

-- the paths under GET
abbrev pub read_paths : Paths
read_paths = bank_reading_paths ++ (desk_reading_paths ++ reading_paths_of_banks)

-- what a bank does with its orders
abbrev pub order_paths : Paths
order_paths =
    (codes "/orders", Bank SendOrder)
    ∷ (codes "/orders/{reference}/withdraw", Bank WithdrawOrder)
    ∷ (codes "/batches", Bank SendBatch)
    ∷ []

-- what the operator does with an account
abbrev pub account_paths : Paths
account_paths =
    (codes "/desk/post", Operator Post)
    ∷ (codes "/desk/credit", Operator SetCredit)
    ∷ []

-- what the operator does with the day
abbrev pub day_paths : Paths
day_paths =
    (codes "/desk/open", Operator OpenDay)
    ∷ (codes "/desk/resolve", Operator Resolve)
    ∷ (codes "/desk/cutoff", Operator CutOff)
    ∷ (codes "/desk/close", Operator CloseDay)
    ∷ []

-- what the operator does with a bank's orders, in the bank's name
abbrev pub order_paths_of_banks : Paths
order_paths_of_banks =
    (codes "/desk/orders/{code}/{reference}/withdraw", Operator (ForBank WithdrawOrder))
    ∷ (codes "/desk/batches/{code}", Operator (ForBank SendBatch))
    ∷ []

-- the paths under POST
abbrev pub command_paths : Paths
command_paths = order_paths ++ (account_paths ++ (day_paths ++ order_paths_of_banks))

-- these rows, and that of this path, if it can be read
abbrev pub with_path : Result Scan InsertError → Route → RowsOf (RouteOf Route) → RowsOf (RouteOf Route)
with_path (Ok scan) route rows = placed (scan.pattern, route_from scan route) rows
with_path (Err fault) route rows = rows

-- these rows with those of these paths placed among them, the last path first
abbrev pub with_paths : Paths → RowsOf (RouteOf Route) → RowsOf (RouteOf Route)
with_paths [] rows = rows
with_paths (path ∷ paths) rows = with_path (parse_route path.0) path.1 (with_paths paths rows)

-- the rows of a router that holds these paths
abbrev pub holding : Paths → RowsOf (RouteOf Route)
holding paths = with_paths paths []

-- the route whose path the target matches, and what its parameters took of the target
abbrev pub found_in : RowsOf (RouteOf Route) → List ℕ → Option (Route × Parts)
found_in rows target =
    option_map (λ found. (found.value, parts_of (walk found.pattern found.text target found.names 0 0)))
    (first rows target)
