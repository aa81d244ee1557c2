-- Reads one after another.
use Rattle.std.proofs.Common.{◌≢◌, Bool, Option, Some, None, refl, sym, ◌∙◌}
use Rattle.rtgs_book.specs.declared.book.Book.{Book}
use Rattle.rtgs_book.specs.declared.refusal.Refusal.{Refusal}
use Rattle.rtgs_book.specs.declared.refusal.Refusal.TheVariants.{StoreFault}
use Rattle.rtgs_statements.specs.Reads.{LeavesRead}

pub no_fault : ◌≢◌ {A = Option Refusal} None (Some StoreFault)
no_fault e = absurd cc

module _ {S : Type 0} (holds leaves : S → Book → Type 0) (is_honest : S → Type 0) (has_failed : S → Bool) where
  pub nothing_read : (s : S) → ((book : Book) → holds s book → leaves s book)
      → LeavesRead holds leaves is_honest has_failed s s None
  nothing_read s left = record {
    honest = λ honest. honest;
    held = λ honest book held ended. held;
    left = λ honest book held. left book held;
    fault = λ e. absurd (no_fault e);
    only_fault = λ other. refl;
    failed = λ failed. refl;
    only_failed = λ e. absurd cc;
    kinds = λ works. tt;
    failed_kinds = λ failed. tt;
  }

  pub read_more : (a b c : S) (ended : Option Refusal) → LeavesRead holds leaves is_honest has_failed a b None
      → LeavesRead holds leaves is_honest has_failed b c ended → LeavesRead holds leaves is_honest has_failed a c ended
  read_more a b c ended one two = record {
    honest = λ honest. one.honest (two.honest honest);
    held = λ honest book held. two.held honest book (one.held (two.honest honest) book held no_fault);
    left = λ honest book held. two.left honest book (one.held (two.honest honest) book held no_fault);
    fault = λ e. let both = two.fault e in (sym (one.only_fault no_fault) ∙ both.0, both.1);
    only_fault = λ other. two.only_fault other ∙ one.only_fault no_fault;
    failed = λ failed. two.failed (one.only_fault no_fault ∙ failed) ∙ one.failed failed;
    only_failed = λ e. sym (one.only_fault no_fault) ∙ two.only_failed e;
    kinds = λ works. two.kinds (one.only_fault no_fault ∙ works);
    failed_kinds = λ failed. two.failed_kinds (one.only_fault no_fault ∙ failed);
  }
