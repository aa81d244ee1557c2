use Rattle.std.proofs.Common.{◌≡◌, ◌∙◌, ℕ, length, ap, get_or, subst, sym, List, inl, inr, arith}
use Rattle.std.proofs.Common.{to_z, of_z}
use Rattle.std.specs.Int.{w128}
use Rattle.std.proofs.lemmas.Int.{ints}
use Rattle.std.proofs.lemmas.Bool.{cases_lt}
use Rattle.std.proofs.lemmas.List.{get_or_read}
use Rattle.rtgs_book.specs.declared.account.Account.{Account}
use Rattle.rtgs_records.specs.Records.{core_in}
use Rattle.rtgs_ledger.specs.Limits.{IsBelow, account_after}
use Rattle.rtgs_ledger.proofs.Limits.{headroom_at, calm_if_below}
use Rattle.rtgs_ledger.proofs.ledger.limits.Limits.leave_calm.Goals as goal

pub loop-index-preserved : goal.loop-index-preserved
loop-index-preserved c = λ p d less.
    let phase = c.args.records.now.day.phase in
    let rows = c.args.rows.now in
    let xs = c.as_slice-account-items.result.now in
    let i = c.loop-index.index in
    let limits = c.args.self.now.list.items in
    let lowering = c.in-Some.lowering in
    elim (cases_lt p i) [
      | inl below ↦ c.loop-index.invariant p d below
      | inr past ↦
          let at : p ≡ i = omega arith in
          let read : c.account-item.result ≡ get_or xs i d =
          get_or_read xs i c.account-item.result c.loop-index-test.true c.account-item.is d in
          let room : c.headroom.result ≡ headroom_at phase (account_after rows (get_or xs i d)) =
          c.headroom.ensures.value ∙ ap (headroom_at phase) (c.account_after-after.ensures
          ∙ ap (account_after rows) read) in
          let fits : to_z w128 (of_z w128 c.headroom.result) ≡ c.headroom.result = omega
          (arith, ints, c.headroom.ensures.low, c.headroom.ensures.high) in
          subst (λ (q : ℕ). IsBelow limits lowering q (headroom_at phase (account_after rows (get_or xs q d)))) (sym at)
          (subst (IsBelow limits lowering i) (fits ∙ room) (c.allow.ensures c.if-not-allow.false))
    ]

pub returns : goal.returns
returns c = λ are _.
    let core = core_in c.args.records.now in
    let rows = c.args.rows.now in
    calm_if_below c.calm_below_limits.ensures.calm rows core c.in-Some.lowering c.args.self.now.list.items
    (c.change_accounts.ensures c.if-change_accounts.false) c.in-Some.ensures (are c.if-not-self.false)
    (λ p d less. subst (λ (xs : List Account). IsBelow c.args.self.now.list.items c.in-Some.lowering p
    (headroom_at core.day.phase (account_after rows (get_or xs p d)))) c.as_slice-account-items.ensures.value
    (c.loop-index.invariant p d (omega (
      arith,
      less,
      ap length c.as_slice-account-items.ensures.value,
      c.loop-index-test.false,
    ))))
