use Rattle.std.proofs.Common.{◌≤ℤ◌, true≢false, refl, sym, ◌∙◌}
use Rattle.rtgs_money.specs.Amounts.{IsCredit}
use Rattle.rtgs_book.specs.declared.participant.Participant.{Participant}
use Rattle.rtgs_book.specs.Balance.{floor_at}
use Rattle.rtgs_soundness.proofs.Totals.{all_more, all_of_take, codes_have, total_of}
use Rattle.rtgs_soundness.proofs.rules.balances.are_covered.Goals as goal
use Rattle.rtgs_lists.proofs.Lists.{all_get}

pub loop-participant-preserved : goal.loop-participant-preserved
loop-participant-preserved c = record {
  covered = λ balance_of holds.
      all_more (λ (p : Participant). floor_at c.args.phase p.credit ≤ℤ balance_of p.code) c.args.participants.now
      c.loop-participant.participant-index c.participant-item.result c.loop-participant-test.true
      c.participant-item.is (c.loop-participant.invariant.covered balance_of holds)
      ((c.is_covered.ensures.covered (balance_of c.participant-item.result.code)
      (total_of _ balance_of c.args.balances.now c.participant-item.result.code holds
      (codes_have (λ (p : Participant). p.code) c.args.participants.now c.loop-participant.participant-index
      c.participant-item.result c.loop-participant-test.true c.participant-item.is))).0 c.if-not-is_covered.false);
  credits = all_more (λ (p : Participant). IsCredit p.credit) c.args.participants.now
      c.loop-participant.participant-index c.participant-item.result c.loop-participant-test.true c.participant-item.is
      c.loop-participant.invariant.credits c.is_covered.ensures.credit;
}

pub returns-then-not-is_covered-clause-covered : goal.returns-then-not-is_covered-clause-covered
returns-then-not-is_covered-clause-covered c = λ balance_of holds. (
  λ e. absurd (true≢false (sym e)),
  λ all. absurd (true≢false (sym ((c.is_covered.ensures.covered (balance_of c.participant-item.result.code)
      (total_of _ balance_of c.args.balances.now c.participant-item.result.code holds
      (codes_have (λ (p : Participant). p.code) c.args.participants.now c.loop-participant.participant-index
      c.participant-item.result c.loop-participant-test.true c.participant-item.is))).1
      (all_get (λ (p : Participant). floor_at c.args.phase p.credit ≤ℤ balance_of p.code) c.args.participants.now
      c.loop-participant.participant-index c.participant-item.result c.loop-participant-test.true
      c.participant-item.is all)) ∙ c.if-not-is_covered.true)),
)

pub returns-clause-covered : goal.returns-clause-covered
returns-clause-covered c = λ balance_of holds. (
  λ e. all_of_take (λ (p : Participant). floor_at c.args.phase p.credit ≤ℤ balance_of p.code) c.args.participants.now
      c.loop-participant.participant-index c.loop-participant-test.false
      (c.loop-participant.invariant.covered balance_of holds),
  λ all. refl,
)
