use Rattle.std.proofs.Common.{◌≡◌, ◌<◌, length, Option, Some, None, rules, refl, sym, ap, ◌∙◌, arith}
use Rattle.rtgs_book.specs.declared.mark.Mark.{Mark}
use Rattle.rtgs_book.specs.cores.Nexts.{mark_after}
use Rattle.rtgs_statements.proofs.Leaving.{no_fault, nothing_read, read_more}
use Rattle.rtgs_statements.proofs.RecordsOfDate.{marks_begin, mark_splits, marks_end}
use Rattle.rtgs_statements.proofs.records_of_date.marks_on.Goals as goal

none_else : (o : Option Mark) → ((p : Mark) → o ≡ Some p → ⊥) → o ≡ None
none_else None not = refl
none_else (Some p) not = absurd (not p refl)

pub loop-next-init : goal.loop-next-init
loop-next-init g c = record {
  fits = omega arith;
  few = omega arith;
  read = nothing_read g.S.Source.holds g.S.Source.leaves g.S.Source.is_honest g.S.Source.has_failed c.args.source.now
      (g.met.S.Source.left c.args.source.now);
  count = λ honest book held.
      let begin = ap length (marks_begin c.args.date book (c.reads_a_sound_book.ensures book held)) in omega arith;
}

pub loop-next-preserved : goal.loop-next-preserved
loop-next-preserved g c =
    let inv = c.loop-next.invariant in
    let next = c.in-Some.mark in
    let up : c.loop-next.last < next.number = search rules in
    let fits = inv.fits in
    let few = inv.few in
    record {
      fits = search rules;
      few = omega arith;
      read = read_more g.S.Source.holds g.S.Source.leaves g.S.Source.is_honest g.S.Source.has_failed c.args.source.now
          c.loop-next.source c.later_mark.new.source None inv.read c.in-Ok.ensures.read;
      count = λ honest book held.
          let back = c.later_mark.ensures.read.honest honest in
          let now = inv.read.held back book held no_fault in
          let numbers = (c.records_are_listed.ensures.marks book (c.reads_a_sound_book.ensures book held)).numbers in
          let is : mark_after book c.args.date c.loop-next.last ≡ Some next =
          sym (c.in-Ok.ensures.found honest book now) ∙ c.in-Some.is in
          let split = ap length (mark_splits c.args.date c.loop-next.last book next numbers is) in
          let before = inv.count back book held in
          omega arith;
    }

pub returns-in_default-clause-count : goal.returns-in_default-clause-count
returns-in_default-clause-count g c honest book held =
    let inv = c.loop-next.invariant in
    let back = c.later_mark.ensures.read.honest honest in
    let now = inv.read.held back book held no_fault in
    let over = ap length (marks_end c.args.date c.loop-next.last book
    (sym (c.in-Ok.ensures.found honest book now) ∙ none_else c.in-Ok.next c.in_default.not-Some)) in
    let before = inv.count back book held in
    omega arith
