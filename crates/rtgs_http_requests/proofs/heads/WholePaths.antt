-- The paths without a parameter, each in its table.
use Rattle.std.proofs.Common.{◌≡◌, ℕ, List, true, Some, codes, refl, subst, sym}
use Rattle.std.specs.Str.{bytes_eq}
use Rattle.std.proofs.lemmas.Slice.Eq.{bytes_eq-Decides}
use Rattle.matchit.proofs.OnLiterals.{matchit_on_literals}
use Rattle.rtgs_http_requests.specs.heads.Parameters.{no_parts}
use Rattle.rtgs_http_requests.specs.heads.Tables.{Paths, holding, read_paths, command_paths, found_in}
use Rattle.rtgs_http_requests.specs.heads.Targets.{is_plain_target}
use Rattle.rtgs_http_requests.specs.declared.heads.route.Route.{Route}
use Rattle.rtgs_http_requests.specs.declared.heads.route.Route.TheVariants.{Bank, Operator}
use Rattle.rtgs_http_requests.specs.declared.heads.bank_route.BankRoute.TheVariants.{SendOrder, SendBatch, ReadAccount}
use Rattle.rtgs_http_requests.specs.declared.heads.bank_route.BankRoute.TheVariants.{ReadQueue, ReadHeld}
use Rattle.rtgs_http_requests.specs.declared.heads.bank_route.BankRoute.TheVariants.{ReadWaiting}
use Rattle.rtgs_http_requests.specs.declared.heads.operator_route.OperatorRoute.TheVariants.{Post, SetCredit, OpenDay}
use Rattle.rtgs_http_requests.specs.declared.heads.operator_route.OperatorRoute.TheVariants.{Resolve, CutOff, CloseDay}
use Rattle.rtgs_http_requests.specs.declared.heads.operator_route.OperatorRoute.TheVariants.{ReadAccounts, ReadStatus}
use Rattle.rtgs_http_requests.specs.declared.heads.operator_route.OperatorRoute.TheVariants.{ReadQueues}

-- The target is plain, and the whole path of this row.
abbrev IsWhole : Paths → List ℕ → Route → Type 0
IsWhole paths target route =
    (is_plain_target target ≡ true) × (found_in (holding paths) target ≡ Some (route, no_parts))

by_text : (paths : Paths) (target path : List ℕ) (route : Route) → bytes_eq target path ≡ true
    → IsWhole paths path route → IsWhole paths target route
by_text paths target path route e whole =
    subst (λ text. IsWhole paths text route) (sym ((bytes_eq-Decides target path).0 e)) whole

pub account_is_whole : (target : List ℕ) → bytes_eq target (codes "/account") ≡ true
    → IsWhole read_paths target (Bank ReadAccount)
unfolding matchit_on_literals
account_is_whole target e = by_text read_paths target (codes "/account") (Bank ReadAccount) e (refl, refl)

pub queue_is_whole : (target : List ℕ) → bytes_eq target (codes "/queue") ≡ true
    → IsWhole read_paths target (Bank ReadQueue)
unfolding matchit_on_literals
queue_is_whole target e = by_text read_paths target (codes "/queue") (Bank ReadQueue) e (refl, refl)

pub held_is_whole : (target : List ℕ) → bytes_eq target (codes "/held") ≡ true
    → IsWhole read_paths target (Bank ReadHeld)
unfolding matchit_on_literals
held_is_whole target e = by_text read_paths target (codes "/held") (Bank ReadHeld) e (refl, refl)

pub waiting_is_whole : (target : List ℕ) → bytes_eq target (codes "/waiting") ≡ true
    → IsWhole read_paths target (Bank ReadWaiting)
unfolding matchit_on_literals
waiting_is_whole target e = by_text read_paths target (codes "/waiting") (Bank ReadWaiting) e (refl, refl)

pub accounts_is_whole : (target : List ℕ) → bytes_eq target (codes "/desk/accounts") ≡ true
    → IsWhole read_paths target (Operator ReadAccounts)
unfolding matchit_on_literals
accounts_is_whole target e =
    by_text read_paths target (codes "/desk/accounts") (Operator ReadAccounts) e (refl, refl)

pub status_is_whole : (target : List ℕ) → bytes_eq target (codes "/desk/status") ≡ true
    → IsWhole read_paths target (Operator ReadStatus)
unfolding matchit_on_literals
status_is_whole target e = by_text read_paths target (codes "/desk/status") (Operator ReadStatus) e (refl, refl)

pub queues_is_whole : (target : List ℕ) → bytes_eq target (codes "/desk/queues") ≡ true
    → IsWhole read_paths target (Operator ReadQueues)
unfolding matchit_on_literals
queues_is_whole target e = by_text read_paths target (codes "/desk/queues") (Operator ReadQueues) e (refl, refl)

pub orders_is_whole : (target : List ℕ) → bytes_eq target (codes "/orders") ≡ true
    → IsWhole command_paths target (Bank SendOrder)
unfolding matchit_on_literals
orders_is_whole target e = by_text command_paths target (codes "/orders") (Bank SendOrder) e (refl, refl)

pub batches_is_whole : (target : List ℕ) → bytes_eq target (codes "/batches") ≡ true
    → IsWhole command_paths target (Bank SendBatch)
unfolding matchit_on_literals
batches_is_whole target e = by_text command_paths target (codes "/batches") (Bank SendBatch) e (refl, refl)

pub post_is_whole : (target : List ℕ) → bytes_eq target (codes "/desk/post") ≡ true
    → IsWhole command_paths target (Operator Post)
unfolding matchit_on_literals
post_is_whole target e = by_text command_paths target (codes "/desk/post") (Operator Post) e (refl, refl)

pub credit_is_whole : (target : List ℕ) → bytes_eq target (codes "/desk/credit") ≡ true
    → IsWhole command_paths target (Operator SetCredit)
unfolding matchit_on_literals
credit_is_whole target e = by_text command_paths target (codes "/desk/credit") (Operator SetCredit) e (refl, refl)

pub open_is_whole : (target : List ℕ) → bytes_eq target (codes "/desk/open") ≡ true
    → IsWhole command_paths target (Operator OpenDay)
unfolding matchit_on_literals
open_is_whole target e = by_text command_paths target (codes "/desk/open") (Operator OpenDay) e (refl, refl)

pub resolve_is_whole : (target : List ℕ) → bytes_eq target (codes "/desk/resolve") ≡ true
    → IsWhole command_paths target (Operator Resolve)
unfolding matchit_on_literals
resolve_is_whole target e = by_text command_paths target (codes "/desk/resolve") (Operator Resolve) e (refl, refl)

pub cutoff_is_whole : (target : List ℕ) → bytes_eq target (codes "/desk/cutoff") ≡ true
    → IsWhole command_paths target (Operator CutOff)
unfolding matchit_on_literals
cutoff_is_whole target e = by_text command_paths target (codes "/desk/cutoff") (Operator CutOff) e (refl, refl)

pub close_is_whole : (target : List ℕ) → bytes_eq target (codes "/desk/close") ≡ true
    → IsWhole command_paths target (Operator CloseDay)
unfolding matchit_on_literals
close_is_whole target e = by_text command_paths target (codes "/desk/close") (Operator CloseDay) e (refl, refl)
