use Rattle.std.proofs.Common.{◌≡◌, ◌∙◌, ◌++◌, ◌∷◌, ◌+◌, ◌<◌, [], sym, ap, subst, get_or, map, take, length, Some, ℤ}
use Rattle.std.proofs.Common.{arith, length-append}
use Rattle.std.proofs.lemmas.List.{take_more, take_all, map-append}
use Rattle.std.specs.Prelude.{FitsSigned}
use Rattle.std.specs.Int.{w64}
use Rattle.std.specs.BTreeMap.{get}
use Rattle.std.specs.Ordering.{nat_cmp}
use Rattle.std.specs.Cmp.Lexicographic.{slice_cmp}
use Rattle.rtgs_book.specs.declared.participant.Participant.{Participant}
use Rattle.rtgs_book.specs.cores.Cores.{account_of}
use Rattle.rtgs_soundness.proofs.Accounts.{has_balance, is_account}
use Rattle.rtgs_soundness.proofs.cores.accounts_of.Goals as goal

pub account_of-requires : goal.account_of-requires
account_of-requires c =
    let book = c.args.book.now in
    let i = c.loop-participant.participant-index in
    let p = c.participant-item.result in
    let same = c.as_slice-participant-items.ensures in
    let is : p ≡ get_or book.participants i p = c.participant-item.is ∙ ap (λ ps. get_or ps i p) same in
    subst (λ (q : Participant). (z : ℤ) × (get (slice_cmp nat_cmp) c.in_ok-balances.balances q.code ≡ Some z)
    × FitsSigned w64 z) (sym is)
    (has_balance book c.in_ok-balances.balances c.in_ok-balances.ensures i p (rw same at c.loop-participant-test.true)
    (c.balances_are_small.ensures book c.requires.sound c.requires.fits))

pub loop-participant-preserved : goal.loop-participant-preserved
loop-participant-preserved c =
    let book = c.args.book.now in
    let i = c.loop-participant.participant-index in
    let p = c.participant-item.result in
    let a = c.account_of.result in
    let same = c.as_slice-participant-items.ensures in
    let within : i < length book.participants = rw same at c.loop-participant-test.true in
    let is : p ≡ get_or book.participants i p = c.participant-item.is ∙ ap (λ ps. get_or ps i p) same in
    let made : a ≡ account_of book (get_or book.participants i p) =
    is_account book c.in_ok-balances.balances c.in_ok-balances.ensures i p within a
    (c.account_of.ensures.participant ∙ is)
    (subst (λ (q : Participant). get (slice_cmp nat_cmp) c.in_ok-balances.balances q.code ≡ Some a.balance) is
    c.account_of.ensures.balance) in
    record {
      made = c.push_reserved.ensures.items ∙ (λ k. c.loop-participant.invariant.made k ++ made k ∷ [])
          ∙ sym (map-append (account_of book) (take i book.participants) (get_or book.participants i p ∷ []))
          ∙ ap (map (account_of book)) (sym (take_more book.participants i p within));
      room = omega (arith, c.push_reserved.ensures.capacity, c.loop-participant.invariant.room);
      so_many = ap length c.push_reserved.ensures.items ∙ length-append c.loop-participant.accounts.items (a ∷ [])
          ∙ ap (λ n. n + 1) c.loop-participant.invariant.so_many;
    }

pub returns : goal.returns
returns c =
    let book = c.args.book.now in
    c.loop-participant.invariant.made ∙ ap (map (account_of book))
    (take_all c.loop-participant.participant-index book.participants
    (rw c.as_slice-participant-items.ensures at c.loop-participant-test.false))
