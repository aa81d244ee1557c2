use Rattle.std.proofs.Common.{◌≡◌, ◌<◌, ◌*◌, ◌^◌, ◌++◌, [], cond, pos, Option, Some, None, rules}
use Rattle.std.proofs.Common.{refl, sym, ap, subst, ◌∙◌, arith, append_assoc}
use Rattle.std.proofs.lemmas.Int.{ints}
use Rattle.std.proofs.lemmas.List.{append-nil}
use Rattle.std.specs.Io.KnownBytes.{Appends}
use Rattle.rtgs_money.specs.declared.posting_amount.TheConstants.PostingAmount as PostingAmount
use Rattle.rtgs_book.specs.declared.posting.Posting.{Posting}
use Rattle.rtgs_book.specs.cores.Nexts.{posting_after}
use Rattle.rtgs_statements.specs.Records.{postings_on}
use Rattle.rtgs_statements.specs.Rows.{is_to, posting_row, posting_rows}
use Rattle.rtgs_statements.specs.Sums.{posted}
use Rattle.rtgs_statements.proofs.Begins.{appends-both, begins-within}
use Rattle.rtgs_statements.proofs.Growth.{appends-none}
use Rattle.rtgs_statements.proofs.Leaving.{no_fault, nothing_read, read_more}
use Rattle.rtgs_statements.proofs.Terms.{Within, term-within, wider}
use Rattle.rtgs_statements.proofs.RecordsOfDate.{postings_left, postings_begin, postings_end, posting_rows_split}
use Rattle.rtgs_statements.proofs.RecordsOfDate.{posted_split}
use Rattle.rtgs_statements.proofs.Wholes.{none-whole, wholes-both, posting_row-whole, text-leaves}
use Rattle.rtgs_statements.proofs.statement.write_postings.Goals as goal

none_else : (o : Option Posting) → ((p : Posting) → o ≡ Some p → ⊥) → o ≡ None
none_else None not = refl
none_else (Some p) not = absurd (not p refl)

pub loop-next-init : goal.loop-next-init
loop-next-init g c = record {
  fits = omega arith;
  within = (omega (arith, ints), omega (arith, ints));
  read = nothing_read g.S.Source.holds g.S.Source.leaves g.S.Source.is_honest g.S.Source.has_failed c.args.source.now
      (g.met.S.Source.left c.args.source.now);
  whole = none-whole (g.W.Write.contents c.args.out.now);
  sum = λ honest book held.
      let begin = ap (posted c.args.code.now) (postings_begin c.args.date book (c.reads_a_sound_book.ensures book held))
      in omega (arith, ints);
  rows = λ honest book held. (
    [],
    appends-none (g.W.Write.contents c.args.out.now),
    ap (posting_rows c.args.code.now) (postings_begin c.args.date book (c.reads_a_sound_book.ensures book held)),
  );
}

pub loop-next-preserved : goal.loop-next-preserved
loop-next-preserved g c =
    let inv = c.loop-next.invariant in
    let next = c.in-Some.posting in
    let small : Within PostingAmount.MAX next.cents = (omega (arith, ints), omega (arith, ints)) in
    let part = term-within (is_to c.args.code.now next) PostingAmount.MAX next.cents small in
    let part_low = part.0 in let part_high = part.1 in
    let low = inv.within.0 in let high = inv.within.1 in
    let added : c.in-Ok-write_posting.cents ≡ cond (is_to c.args.code.now next) next.cents (pos 0) =
    c.in-Ok-write_posting.ensures.sum in
    let up : c.loop-next.last < next.number = search rules in
    let fits = inv.fits in
    let written : Appends (g.W.Write.contents c.loop-next.out) (g.W.Write.contents c.write_posting.new.out)
    (posting_row c.args.code.now next) = c.in-Ok-write_posting.ensures.written in
    record {
      fits = search rules;
      within = (omega (arith, ints), omega (arith, ints));
      read = read_more g.S.Source.holds g.S.Source.leaves g.S.Source.is_honest g.S.Source.has_failed c.args.source.now
          c.loop-next.source c.later_posting.new.source None inv.read c.in-Ok.ensures.read;
      whole =
          wholes-both (g.W.Write.contents c.args.out.now) (g.W.Write.contents c.loop-next.out)
          (g.W.Write.contents c.write_posting.new.out) inv.whole
          (posting_row c.args.code.now next, written, posting_row-whole c.args.code.now next);
      sum = λ honest book held.
          let back = c.later_posting.ensures.read.honest honest in
          let now = inv.read.held back book held no_fault in
          let numbers = (c.records_are_listed.ensures.postings book (c.reads_a_sound_book.ensures book held)).numbers in
          let is : posting_after book c.args.date c.loop-next.last ≡ Some next =
          sym (c.in-Ok.ensures.found honest book now) ∙ c.in-Some.is in
          let split = posted_split c.args.code.now c.args.date c.loop-next.last book next numbers is in
          let before = inv.sum back book held in
          omega (arith, ints);
      rows = λ honest book held.
          let back = c.later_posting.ensures.read.honest honest in
          let now = inv.read.held back book held no_fault in
          let numbers = (c.records_are_listed.ensures.postings book (c.reads_a_sound_book.ensures book held)).numbers in
          let is : posting_after book c.args.date c.loop-next.last ≡ Some next =
          sym (c.in-Ok.ensures.found honest book now) ∙ c.in-Some.is in
          let rows = inv.rows back book held in (
            rows.0 ++ posting_row c.args.code.now next,
            appends-both _ _ _ rows.0 (posting_row c.args.code.now next) rows.1 written,
            append_assoc rows.0 (posting_row c.args.code.now next)
                (posting_rows c.args.code.now (postings_left c.args.date next.number book))
                ∙ posting_rows_split c.args.code.now c.args.date c.loop-next.last book next numbers is rows.0
                (posting_rows c.args.code.now (postings_on c.args.date book.postings)) rows.2,
          );
    }

pub returns-in-Err-write_posting-clause-begun : goal.returns-in-Err-write_posting-clause-begun
returns-in-Err-write_posting-clause-begun g c honest book held =
    let inv = c.loop-next.invariant in
    let next = c.in-Some.posting in
    let back = c.later_posting.ensures.read.honest honest in
    let now = inv.read.held back book held no_fault in
    let numbers = (c.records_are_listed.ensures.postings book (c.reads_a_sound_book.ensures book held)).numbers in
    let is : posting_after book c.args.date c.loop-next.last ≡ Some next =
    sym (c.in-Ok.ensures.found honest book now) ∙ c.in-Some.is in
    let rows = inv.rows back book held in
    begins-within _ _ _ rows.0 (posting_row c.args.code.now next)
    (posting_rows c.args.code.now (postings_left c.args.date next.number book)) _ rows.1
    c.in-Err-write_posting.ensures.begun
    (posting_rows_split c.args.code.now c.args.date c.loop-next.last book next numbers is rows.0 _ rows.2)

pub returns-in_default-clause-written : goal.returns-in_default-clause-written
returns-in_default-clause-written g c honest book held =
    let inv = c.loop-next.invariant in
    let back = c.later_posting.ensures.read.honest honest in
    let now = inv.read.held back book held no_fault in
    let over = postings_end c.args.date c.loop-next.last book
    (sym (c.in-Ok.ensures.found honest book now) ∙ none_else c.in-Ok.next c.in_default.not-Some) in
    let rows = inv.rows back book held in
    subst (Appends (g.W.Write.contents c.args.out.now) (g.W.Write.contents c.loop-next.out))
    (sym (append-nil rows.0) ∙ sym (ap (λ ps. rows.0 ++ posting_rows c.args.code.now ps) over) ∙ rows.2) rows.1

pub returns-in_default-clause-sum : goal.returns-in_default-clause-sum
returns-in_default-clause-sum g c honest book held =
    let inv = c.loop-next.invariant in
    let back = c.later_posting.ensures.read.honest honest in
    let now = inv.read.held back book held no_fault in
    let over = ap (posted c.args.code.now) (postings_end c.args.date c.loop-next.last book
    (sym (c.in-Ok.ensures.found honest book now) ∙ none_else c.in-Ok.next c.in_default.not-Some)) in
    let before = inv.sum back book held in
    omega (arith, ints)

pub returns-in_default-clause-small : goal.returns-in_default-clause-small
returns-in_default-clause-small g c =
    let fits = c.loop-next.invariant.fits in
    wider (c.loop-next.last * PostingAmount.MAX) (10 ^ 36) _ (omega arith) c.loop-next.invariant.within

pub returns-in-Err-write_posting-clause-whole : goal.returns-in-Err-write_posting-clause-whole
returns-in-Err-write_posting-clause-whole g c =
    text-leaves g.W.Write.contents c.in-Err-write_posting.fault c.args.out.now c.loop-next.out c.write_posting.new.out
    c.loop-next.invariant.whole c.in-Err-write_posting.ensures.memory
