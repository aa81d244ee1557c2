use Rattle.std.proofs.Common.{◌≡◌, ◌∙◌, ◌+◌, ◌+ℤ◌, ◌++◌, ◌∷◌, [], ℕ, ℤ, pos, length, ap, get_or, slice_index}
use Rattle.std.proofs.Common.{subst, sym, List, arith}
use Rattle.std.specs.Int.{w128}
use Rattle.std.proofs.Common.{to_z, of_z}
use Rattle.std.proofs.lemmas.Int.{ints}
use Rattle.std.proofs.lemmas.List.{get_or_read, length_push}
use Rattle.rtgs_book.specs.declared.account.Account.{Account}
use Rattle.rtgs_records.specs.Held.{Held}
use Rattle.rtgs_ledger.specs.Limits.{limit_at}
use Rattle.rtgs_ledger.proofs.Limits.{headroom_at, limit_push, limits_are}
use Rattle.rtgs_ledger.proofs.ledger.Ledger.limits_from.Goals as goal

pub bounds-slacks-index : goal.bounds-slacks-index
bounds-slacks-index c =
    let items : c.as_slice-account-items.result.now ≡ c.args.self.now.core.accounts =
    c.as_slice-account-items.ensures.value ∙ ap (λ (h : Held). h.core.accounts) c.self.view_is in
    omega (arith, ap length items, c.requires, c.loop-index-test.true)

pub loop-index-preserved : goal.loop-index-preserved
loop-index-preserved c =
    let xs = c.as_slice-account-items.result.now in
    let i = c.loop-index.index in
    let a = c.account-item.result in
    let core = c.args.self.now.core in
    let slacks = c.args.slacks.now in
    let fits : to_z w128 (of_z w128 c.raised.result) ≡ c.raised.result = omega
    (arith, ints, c.raised.ensures, c.headroom.ensures.low, c.headroom.ensures.high, c.type_inv.slacks i) in
    let pushed : c.push.new.self.items ≡ c.loop-index.limits.items ++ c.raised.result ∷ [] = c.in_ok-push.ensures.items
    ∙ ap (λ (z : ℤ). c.loop-index.limits.items ++ z ∷ []) fits in
    record {
      count = ap length pushed ∙ length_push c.loop-index.limits.items c.raised.result
          ∙ ap (λ (n : ℕ). n + 1) c.loop-index.invariant.count;
      each = λ p d less.
          let read : a ≡ get_or xs i d = get_or_read xs i a c.loop-index-test.true c.account-item.is d in
          let room : c.headroom.result ≡ headroom_at core.day.phase (get_or xs i d) = c.headroom.ensures.value
          ∙ ap (λ (h : Held). headroom_at h.core.day.phase a) c.self.view_is ∙ ap (headroom_at core.day.phase) read in
          let value : c.raised.result ≡ headroom_at core.day.phase (get_or xs i d) +ℤ pos (slice_index slacks i) =
          omega (arith, ints, c.raised.ensures, room, c.headroom.ensures.low, c.headroom.ensures.high) in
          subst (λ (ys : List ℤ). limit_at ys p ≡ headroom_at core.day.phase (get_or xs p d)
          +ℤ pos (slice_index slacks p)) (sym pushed)
          (limit_push c.loop-index.limits.items c.raised.result i
          (λ q. headroom_at core.day.phase (get_or xs q d) +ℤ pos (slice_index slacks q))
          c.loop-index.invariant.count (λ q b. c.loop-index.invariant.each q d b) value p less);
    }

pub returns : goal.returns
returns c =
    let items : c.as_slice-account-items.result.now ≡ c.args.self.now.core.accounts =
    c.as_slice-account-items.ensures.value ∙ ap (λ (h : Held). h.core.accounts) c.self.view_is in
    limits_are c.args.self.now.core c.loop-index.limits.items (slice_index c.args.slacks.now)
    (λ p d less. subst (λ (xs : List Account). limit_at c.loop-index.limits.items p
    ≡ headroom_at c.args.self.now.core.day.phase (get_or xs p d) +ℤ pos (slice_index c.args.slacks.now p)) items
    (c.loop-index.invariant.each p d (omega (arith, less, ap length items, c.loop-index-test.false))))
