use Rattle.std.proofs.Common.{◌≡◌, ℕ, suc, ◌+◌, ◌<◌, ◌≤◌, ◌^◌, rules, sym, ap, subst, ◌∙◌, arith}
use native.Mathlib.Nat.{two-pow-succ}
use Rattle.rtgs_book.specs.declared.limits.TheConstants.{LARGEST_NUMBER}
use Rattle.rtgs_sql_look_ups.specs.Seeking.{TurnsBetween}
use Rattle.rtgs_sql_look_ups.specs.declared.seeking.TheConstants.{MOST_HALVINGS}
use Rattle.rtgs_sql_look_ups.proofs.FindingLemmas.{look_as, look_then, look_failed, was_clean, holds_after}
use Rattle.rtgs_sql_look_ups.proofs.SeekingLemmas.{late_at_last}
use Rattle.rtgs_sql_look_ups.proofs.seeking.seek.Goals as goal

all_near : (low rounds : ℕ) → rounds ≡ MOST_HALVINGS → LARGEST_NUMBER < low + 2 ^ rounds
all_near low rounds is = subst (λ n. LARGEST_NUMBER < low + 2 ^ n) (sym is) (omega arith)

halved : (low high least most rounds : ℕ) → high < low + 2 ^ (rounds + 1) → most + most + low ≤ high + least + least
    → most < least + 2 ^ rounds
halved low high least most rounds near half =
    let next : rounds + 1 ≡ suc rounds = omega arith in
    let more : 2 ^ (rounds + 1) ≡ 2 ^ rounds + 2 ^ rounds = ap (λ n. 2 ^ n) next ∙ two-pow-succ rounds in
    omega (arith, more, near, half)

pub loop-round-init : goal.loop-round-init
loop-round-init g c = record {
  bounds = (omega arith, c.requires, omega arith);
  near = λ rounds is. all_near c.args.low rounds (omega (arith, is));
  looks = search rules;
  found = λ clean book held listed early. (
    early,
    late_at_last g.T.Listed.number_of g.T.Listed.date_of c.args.date _
        listed.numbers,
  );
}

pub halve-requires : goal.halve-requires
halve-requires g c = let bounds = c.loop-round.invariant.bounds in (bounds.1, bounds.2)

pub returns-in-Err-clause-looks : goal.returns-in-Err-clause-looks
returns-in-Err-clause-looks g c = look_failed g.S.Store c.args.conn.now c.halve.new.conn _
    (look_then g.S.Store c.args.conn.now c.loop-round.conn c.halve.new.conn _ _ c.loop-round.invariant.looks
    c.in-Err.ensures.looks)

pub loop-round-preserved : goal.loop-round-preserved
loop-round-preserved g c =
    let inv = c.loop-round.invariant in
    record {
      bounds = let old = inv.bounds in let new = c.in-Ok.ensures.bounds in (omega arith, new.1, omega arith);
      near = λ rounds is. halved _ _ _ _ rounds (inv.near (rounds + 1) (omega (arith, is))) c.in-Ok.ensures.half;
      looks = look_as g.S.Store c.args.conn.now c.halve.new.conn _ _
          (look_then g.S.Store c.args.conn.now c.loop-round.conn c.halve.new.conn _ _ inv.looks c.in-Ok.ensures.looks);
      found = λ clean book held listed early.
          let was = was_clean g.S.Store c.loop-round.conn c.halve.new.conn _ c.in-Ok.ensures.looks clean in
          let mid = holds_after g.S.Store c.args.conn.now c.loop-round.conn _ book inv.looks was held in
          c.in-Ok.ensures.found clean book mid listed (inv.found was book held listed early);
    }

pub returns-clause-found : goal.returns-clause-found
returns-clause-found g c clean book held listed early =
    let inv = c.loop-round.invariant in
    let end : 0 + c.loop-round._round ≡ MOST_HALVINGS =
    omega (arith, c.loop-round-test.false, c.loop-round.auto._round-end) in
    let near : c.loop-round.most < c.loop-round.least + 1 = inv.near 0 end in
    let bounds = inv.bounds in
    let met : c.loop-round.most ≡ c.loop-round.least = omega arith in
    subst (λ most. TurnsBetween g.T.Listed.number_of g.T.Listed.date_of c.args.date c.loop-round.least most
    (g.T.Listed.listed book)) met (inv.found clean book held listed early)
