use Rattle.std.proofs.Common.{◌≡◌, List, true, true≢false, pos, ◌≤ℤ◌, map, length, ◌↔◌, sym, ◌∙◌, subst, nat_cmp}
use Rattle.std.specs.Cmp.Lexicographic.{slice_cmp}
use Rattle.std.specs.List.{AllByRecursion}
use Rattle.rtgs_book.specs.declared.limits.TheConstants.{LONGEST_QUEUE}
use Rattle.rtgs_book.specs.declared.participant.Participant.{Participant}
use Rattle.rtgs_book.specs.Lookup.{codes_of}
use Rattle.rtgs_book.specs.Queue.{waiting}
use Rattle.rtgs_book.specs.Totals.{Totals}
use Rattle.rtgs_soundness.proofs.Queues.{queues_of, long_queue}
use Rattle.rtgs_soundness.proofs.rules.queues.queues_fit.Goals as goal

pub returns-then-not-are_short : goal.returns-then-not-are_short
unfolding codes_of
returns-then-not-are_short c = (
  λ e. absurd (true≢false (sym e)),
  λ fit. let same = c.as_slice.ensures in
      let lengths = subst (λ (ps : List Participant). Totals (slice_cmp nat_cmp) (map (λ (p : Participant). p.code) ps)
      (λ code. pos (length (waiting c.args.book.now code))) c.in_ok-lengths.lengths) (sym same)
      c.in_ok-lengths.ensures in
      let judged = subst (λ (ps : List Participant). (c.are_short.result ≡ true) ↔ AllByRecursion
      (λ (p : Participant). pos (length (waiting c.args.book.now p.code)) ≤ℤ pos LONGEST_QUEUE) ps) same
      (c.are_short.ensures (λ code. pos (length (waiting c.args.book.now code))) lengths) in
      absurd (true≢false (sym (judged.1 (long_queue c.args.book.now fit)) ∙ c.if-not-are_short.true)),
)

pub returns : goal.returns
unfolding codes_of
returns c =
    let same = c.as_slice.ensures in
    let lengths = subst (λ (ps : List Participant). Totals (slice_cmp nat_cmp) (map (λ (p : Participant). p.code) ps)
    (λ code. pos (length (waiting c.args.book.now code))) c.in_ok-lengths.lengths) (sym same) c.in_ok-lengths.ensures
    in
    let judged = subst (λ (ps : List Participant). (c.are_short.result ≡ true) ↔ AllByRecursion
    (λ (p : Participant). pos (length (waiting c.args.book.now p.code)) ≤ℤ pos LONGEST_QUEUE) ps) same
    (c.are_short.ensures (λ code. pos (length (waiting c.args.book.now code))) lengths) in
    queues_of c.args.book.now c.are_queued_today.result (judged.0 c.if-not-are_short.false) c.are_queued_today.ensures
