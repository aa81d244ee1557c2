use Rattle.std.proofs.Common.{◌≡◌, ◌<◌, ◌++◌, [], Option, Some, None, rules, refl, sym, ap, subst, ◌∙◌, arith}
use Rattle.std.proofs.Common.{append_assoc}
use Rattle.std.proofs.lemmas.List.{append-nil}
use Rattle.std.specs.Io.KnownBytes.{Appends}
use Rattle.rtgs_book.specs.declared.mark.Mark.{Mark}
use Rattle.rtgs_book.specs.cores.Nexts.{mark_after}
use Rattle.rtgs_statements.specs.Listings.{marks_header, mark_line, mark_lines}
use Rattle.rtgs_statements.specs.Texts.{line_text}
use Rattle.rtgs_statements.proofs.Begins.{appends-both, part-within}
use Rattle.rtgs_statements.proofs.Growth.{appends-none, none-begun, line-has_bytes}
use Rattle.rtgs_statements.proofs.Leaving.{no_fault, nothing_read, read_more}
use Rattle.rtgs_statements.proofs.RecordsOfDate.{marks_left, marks_begin, mark_splits, marks_end}
use Rattle.rtgs_statements.proofs.Wholes.{line-whole, none-whole, wholes-both, text-leaves}
use Rattle.rtgs_statements.proofs.listed_marks.write_marks.Goals as goal

none_else : (o : Option Mark) → ((p : Mark) → o ≡ Some p → ⊥) → o ≡ None
none_else None not = refl
none_else (Some p) not = absurd (not p refl)

pub loop-next-init : goal.loop-next-init
loop-next-init g c = record {
  fits = omega arith;
  read = nothing_read g.S.Source.holds g.S.Source.leaves g.S.Source.is_honest g.S.Source.has_failed c.args.source.now
      (g.met.S.Source.left c.args.source.now);
  whole = none-whole (g.W.Write.contents c.args.out.now);
  rows = λ honest book held. (
    [],
    appends-none (g.W.Write.contents c.args.out.now),
    ap (λ left. marks_header ++ mark_lines left)
        (marks_begin c.args.date book (c.reads_a_sound_book.ensures book held)),
  );
}

pub loop-next-preserved : goal.loop-next-preserved
loop-next-preserved g c =
    let inv = c.loop-next.invariant in
    let next = c.in-Some.mark in
    let line = line_text c.loop-next.line in
    let up : c.loop-next.last < next.number = search rules in
    let fits = inv.fits in
    let written : Appends (g.W.Write.contents c.loop-next.out) (g.W.Write.contents c.write_line.new.out)
    (line_text c.loop-next.line) = search rules in
    record {
      fits = search rules;
      read = read_more g.S.Source.holds g.S.Source.leaves g.S.Source.is_honest g.S.Source.has_failed c.args.source.now
          c.loop-next.source c.later_mark.new.source None inv.read c.in-Ok.ensures.read;
      whole =
          wholes-both (g.W.Write.contents c.args.out.now) (g.W.Write.contents c.loop-next.out)
          (g.W.Write.contents c.write_line.new.out) inv.whole (line, written, line-whole c.loop-next.line);
      rows = λ honest book held.
          let early = c.later_mark.ensures.read.honest honest in
          let now = inv.read.held early book held no_fault in
          let numbers = (c.records_are_listed.ensures.marks book (c.reads_a_sound_book.ensures book held)).numbers in
          let is : mark_after book c.args.date c.loop-next.last ≡ Some next =
          sym (c.in-Ok.ensures.found honest book now) ∙ c.in-Some.is in
          let rows = inv.rows early book held in (
            rows.0 ++ line,
            appends-both _ _ _ rows.0 line rows.1 written,
            append_assoc rows.0 line (mark_line next ++ mark_lines (marks_left c.args.date next.number book))
                ∙ ap (λ left. rows.0 ++ (line ++ mark_lines left))
                (sym (mark_splits c.args.date c.loop-next.last book next numbers is)) ∙ rows.2,
          );
    }

pub returns-in-Err-clause-begun : goal.returns-in-Err-clause-begun
returns-in-Err-clause-begun g c honest book held =
    let inv = c.loop-next.invariant in
    let rows = inv.rows (c.later_mark.ensures.read.honest honest) book held in
    let out = g.W.Write.contents c.loop-next.out in
    part-within (g.W.Write.contents c.args.out.now) out out rows.0 (line_text c.loop-next.line)
    (mark_lines (marks_left c.args.date c.loop-next.last book)) _ rows.1
    (none-begun out (line_text c.loop-next.line) (line-has_bytes c.loop-next.line)) rows.2

pub returns-in-Err-write_line-clause-begun : goal.returns-in-Err-write_line-clause-begun
returns-in-Err-write_line-clause-begun g c honest book held =
    let inv = c.loop-next.invariant in
    let rows = inv.rows (c.later_mark.ensures.read.honest honest) book held in
    part-within (g.W.Write.contents c.args.out.now) (g.W.Write.contents c.loop-next.out)
    (g.W.Write.contents c.write_line.new.out) rows.0 (line_text c.loop-next.line)
    (mark_lines (marks_left c.args.date c.loop-next.last book)) _ rows.1 c.in-Err-write_line.ensures.begun rows.2

pub returns-in_default-next-clause-written : goal.returns-in_default-next-clause-written
returns-in_default-next-clause-written g c honest book held =
    let inv = c.loop-next.invariant in
    let line = line_text c.loop-next.line in
    let early = c.later_mark.ensures.read.honest honest in
    let now = inv.read.held early book held no_fault in
    let over = marks_end c.args.date c.loop-next.last book
    (sym (c.in-Ok.ensures.found honest book now) ∙ none_else c.in-Ok.next c.in_default-next.not-Some) in
    let rows = inv.rows early book held in
    let written : Appends (g.W.Write.contents c.loop-next.out) (g.W.Write.contents c.write_line.new.out)
    (line_text c.loop-next.line) = search rules in
    subst (Appends (g.W.Write.contents c.args.out.now) (g.W.Write.contents c.write_line.new.out))
    (ap (λ t. rows.0 ++ t) (sym (append-nil line) ∙ sym (ap (λ left. line ++ mark_lines left) over)) ∙ rows.2)
    (appends-both _ _ _ rows.0 line rows.1 written)

pub returns-in-Err-write_line-clause-lines : goal.returns-in-Err-write_line-clause-lines
returns-in-Err-write_line-clause-lines g c =
    text-leaves g.W.Write.contents c.in-Err-write_line.fault c.args.out.now c.loop-next.out c.write_line.new.out
    c.loop-next.invariant.whole c.in-Err-write_line.ensures.memory

pub returns-in_default-next-clause-lines : goal.returns-in_default-next-clause-lines
returns-in_default-next-clause-lines g c =
    let written : Appends (g.W.Write.contents c.loop-next.out) (g.W.Write.contents c.write_line.new.out)
    (line_text c.loop-next.line) = search rules in
    wholes-both (g.W.Write.contents c.args.out.now) (g.W.Write.contents c.loop-next.out)
    (g.W.Write.contents c.write_line.new.out) c.loop-next.invariant.whole
    (line_text c.loop-next.line, written, line-whole c.loop-next.line)
