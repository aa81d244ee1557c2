use Rattle.std.proofs.Common.{◌≡◌, ℕ, List, ◌++◌, length, drop}
use Rattle.rtgs_order_files.specs.Results.{Wrote, result_lines}
use Rattle.rtgs_order_files.proofs.results.put_rows.Given as goal

-- what is written, with the lines of what is left behind it, is the whole
abbrev pub invariant-loop-row : goal.invariant-loop-row
invariant-loop-row g l = (text : List ℕ) → Wrote g.W.Write.contents l.fn.lines text
    → (so_far : List ℕ) × Wrote g.W.Write.contents l.lines so_far
    × (so_far ++ result_lines (drop (length l.yielded) l.rows) (drop (length l.yielded) l.replies) l.batch.stopped
    ≡ text ++ result_lines l.rows l.batch.replies.items l.batch.stopped)
