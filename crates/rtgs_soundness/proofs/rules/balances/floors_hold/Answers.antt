use Rattle.std.proofs.Common.{◌≡◌, List, true, map, ◌≤ℤ◌, ◌↔◌, sym, subst, nat_cmp}
use Rattle.std.specs.Cmp.Lexicographic.{slice_cmp}
use Rattle.std.specs.List.{AllByRecursion}
use Rattle.rtgs_book.specs.declared.participant.Participant.{Participant}
use Rattle.rtgs_book.specs.Balance.{balance, floor_at}
use Rattle.rtgs_book.specs.Lookup.{codes_of}
use Rattle.rtgs_book.specs.Totals.{Totals}
use Rattle.rtgs_soundness.proofs.Floors.{floors_of}
use Rattle.rtgs_soundness.proofs.rules.balances.floors_hold.Goals as goal

pub returns-clause-floors : goal.returns-clause-floors
unfolding codes_of
returns-clause-floors c =
    let same = c.as_slice-participants.ensures in
    let sums = subst (λ (ps : List Participant). Totals (slice_cmp nat_cmp) (map (λ (p : Participant). p.code) ps)
    (balance c.args.book.now) c.in_ok-balances.balances) (sym same) c.in_ok-balances.ensures.sums in
    floors_of c.args.book.now c.requires.codes c.are_covered.result
    (subst (λ (ps : List Participant). (c.are_covered.result ≡ true) ↔ AllByRecursion
    (λ (p : Participant). floor_at c.args.book.now.day.phase p.credit ≤ℤ balance c.args.book.now p.code) ps) same
    (c.are_covered.ensures.covered (balance c.args.book.now) sums))
