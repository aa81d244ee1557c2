-- What the laws of loading say. `laws` proves each.
use Rattle.std.specs.Prelude.{◌≡◌, ◌↔◌, ℕ, ◌<◌, ◌==◌, true, List}
use Rattle.std.specs.List.{AllByRecursion, list_any}
use Rattle.sqlite.specs.Tree.{IsAscending}
use Rattle.rtgs_book.specs.declared.order.Order.{Order}
use Rattle.rtgs_book.specs.Books.{is_held}
use Rattle.rtgs_rows.specs.declared.forward.Forward.{Forward}
use Rattle.rtgs_sql_loading.specs.Joining.{AreJoined}

-- one of these has this number
abbrev pub HasNumber : {A : Type 0} → (A → ℕ) → List A → ℕ → Type 0
HasNumber number xs n = list_any (λ x. number x == n) xs ≡ true

-- each has a greater number than those before it
abbrev pub RisesBy : {A : Type 0} → (A → ℕ) → List A → Type 0
RisesBy number = IsAscending (λ a b. number a < number b)

-- each due date is under the number of an order, and each held order has one under its own
pub record FitTogether (undated_orders : List Order) (forwards : List Forward) : Type 0 where
  pub orders : AllByRecursion (λ (f : Forward). HasNumber (λ (o : Order). o.number) undated_orders f.number) forwards
  pub dues : AllByRecursion (λ (o : Order). is_held o ≡ true
      → HasNumber (λ (f : Forward). f.number) forwards o.number) undated_orders

-- where numbers rise, the orders and the due dates are joined exactly if they fit together
abbrev pub WhatFitsIsJoined : Type 0
WhatFitsIsJoined = (undated_orders : List Order) (forwards : List Forward)
    → RisesBy (λ (o : Order). o.number) undated_orders
    → RisesBy (λ (f : Forward). f.number) forwards
    → FitTogether undated_orders forwards ↔ ((orders : List Order) × AreJoined undated_orders forwards orders)
