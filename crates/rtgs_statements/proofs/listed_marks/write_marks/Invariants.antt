use Rattle.std.proofs.Common.{◌≡◌, ◌<◌, ◌-◌, ◌^◌, ◌++◌, ℕ, List, None}
use Rattle.std.specs.Io.KnownBytes.{Appends}
use Rattle.rtgs_book.specs.declared.book.Book.{Book}
use Rattle.rtgs_statements.specs.Listings.{mark_lines, marks_text}
use Rattle.rtgs_statements.specs.Reads.{LeavesRead, AppendsWholeLines}
use Rattle.rtgs_statements.specs.Texts.{line_text}
use Rattle.rtgs_statements.proofs.RecordsOfDate.{marks_left}
use Rattle.rtgs_statements.proofs.listed_marks.write_marks.Given as goal

-- what was written, with the line that is to be written and those of the marks that are left
abbrev pub invariant-loop-next : goal.invariant-loop-next
invariant-loop-next g l = record {
  fits : l.last < 2 ^ 64;
  read : LeavesRead g.S.Source.holds g.S.Source.leaves g.S.Source.is_honest g.S.Source.has_failed l.initial.source
      l.source
      None;
  whole : AppendsWholeLines (g.W.Write.contents l.initial.out) (g.W.Write.contents l.out);
  rows : g.S.Source.is_honest l.source → (book : Book) → g.S.Source.holds l.initial.source book
      → (written : List ℕ) × Appends (g.W.Write.contents l.initial.out) (g.W.Write.contents l.out) written
      × (written ++ (line_text l.line ++ mark_lines (marks_left l.date l.last book)) ≡ marks_text book l.date);
}

abbrev pub decreases-loop-next : goal.decreases-loop-next
decreases-loop-next g l = 2 ^ 64 - l.last
