use Rattle.std.proofs.Common.{arith, ℤ, ◌+ℤ◌, refl, sym, ap, get_or, set, length, ◌≡◌, ◌∙◌, subst}
use Rattle.std.proofs.Math.Facts.{to_z-of_z}
use Rattle.std.proofs.lemmas.Int.{ints}
use Rattle.std.proofs.lemmas.List.{get_or_default, length-map}
use Rattle.std.specs.Prelude.{FitsSigned}
use Rattle.std.specs.Int.{w64}
use Rattle.std.specs.List.{AllByRecursion}
use Rattle.rtgs_book.specs.declared.account.Account.{Account}
use Rattle.rtgs_records.specs.accounts.Accounts.{AreOfABook, IsAt, with_move, with_balance, rebalanced}
use Rattle.rtgs_records.proofs.accounts.AccountLemmas.{altered_at, altered_in_gap, of_a_book_altered}
use Rattle.rtgs_lists.proofs.Lists.{all_at_place}
use Rattle.rtgs_records.proofs.accounts.accounts.Accounts.move_balance.Goals as goal

abbrev rebalance : ℤ → Account → Account
rebalance balance a = record a { balance = balance }

abbrev change : ℤ → Account → Account
change cents a = record a { balance = a.balance +ℤ cents }

at_items : (c : goal.After-self-1) → IsAt c.args.code.now c.self.inside.accounts.items c.in-Ok.at
at_items c = subst (λ xs. IsAt c.args.code.now xs c.in-Ok.at) (sym (λ i. (c.self.view_is i).accounts))
    c.in-Ok.ensures.found

written : (c : goal.After-self-1) → set c.self.inside.accounts.items c.in-Ok.at
    (record { participant = c.index_mut.result.now.participant; balance = c.moved.result })
    ≡ with_balance c.args.code.now c.moved.result c.self.inside.accounts.items
written c =
    ap (λ (x : Account). set c.self.inside.accounts.items c.in-Ok.at (rebalance c.moved.result x))
    c.index_mut.ensures.value
    ∙ altered_at (rebalance c.moved.result) (λ a. refl) c.args.code.now c.self.inside.accounts.items
    c.self.invariant.ordered c.in-Ok.at (at_items c) c.index_mut.result.now

pub invariant_of-self : goal.invariant_of-self
invariant_of-self c = subst AreOfABook (sym (written c))
    (of_a_book_altered (rebalance c.moved.result) (λ a. refl) (λ a. refl) c.args.code.now c.self.inside.accounts.items
    c.self.invariant)

pub returns-in-Ok-clause-moved : goal.returns-in-Ok-clause-moved
returns-in-Ok-clause-moved c fits =
    let items = c.self.inside.accounts.items in
    let same : items ≡ c.args.self.now.accounts = λ i. (c.self.view_is i).accounts in
    let at = at_items c in
    let item : c.index.result.now ≡ get_or items c.in-Ok.at c.index.result.now = c.index.ensures in
    let here : FitsSigned w64 (c.index.result.now.balance +ℤ c.args.cents) =
    subst (λ (a : Account). FitsSigned w64 (a.balance +ℤ c.args.cents)) (sym item)
    (all_at_place (λ (a : Account). FitsSigned w64 (a.balance +ℤ c.args.cents)) items
    (subst (AllByRecursion (λ (a : Account). FitsSigned w64 (a.balance +ℤ c.args.cents))) (sym same) fits) c.in-Ok.at
    c.index.result.now at.in_range) in
    let again : c.index.result.now ≡ c.index_mut.result.now = c.index.ensures
    ∙ get_or_default items c.in-Ok.at c.index.result.now c.index_mut.result.now at.in_range
    ∙ sym c.index_mut.ensures.value in
    let in_range : FitsSigned w64 c.args.cents = omega (arith, ints, c.ranges.cents.sfits) in
    let whole = to_z-of_z {w = w64} {z = c.args.cents} in_range in
    let sum : c.moved.result ≡ c.index_mut.result.now.balance +ℤ c.args.cents = (rw whole at c.moved.ensures) here
    ∙ ap (λ (a : Account). a.balance +ℤ c.args.cents) again in
    (λ i. set items c.in-Ok.at (record { participant = c.index_mut.result.now.participant; balance = sum i }))
    ∙ ap (λ (x : Account). set items c.in-Ok.at (change c.args.cents x)) c.index_mut.ensures.value
    ∙ altered_at (change c.args.cents) (λ a. refl) c.args.code.now items c.self.invariant.ordered c.in-Ok.at at
    c.index_mut.result.now
    ∙ ap (with_move c.args.code.now c.args.cents) same

pub returns-in-Ok-clause-count : goal.returns-in-Ok-clause-count
returns-in-Ok-clause-count c = ap length (written c)
    ∙ length-map c.self.inside.accounts.items (rebalanced c.args.code.now c.moved.result)
    ∙ ap length (λ i. (c.self.view_is i).accounts)

pub returns-in-Err-clause-moved : goal.returns-in-Err-clause-moved
returns-in-Err-clause-moved c fits = sym (altered_in_gap (change c.args.cents) (λ a. refl) c.args.code.now
    c.args.self.now.accounts _ c.in-Err.ensures.absent)
