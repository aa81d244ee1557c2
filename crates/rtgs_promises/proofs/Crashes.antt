-- One command of a desk, and what a crash leaves after it.
use Rattle.std.proofs.Common.{◌≡◌, ◌∙◌, ◌⊎◌, Bool, true, false, if◌then◌else◌, [], ◌∷◌, Some, None, Ok, Err, inl, inr}
use Rattle.std.proofs.Common.{refl, sym, subst, ⊎_elim, true≢false}
use Rattle.rtgs_book.specs.declared.book.Book.{Book}
use Rattle.rtgs_book.specs.declared.command.Command.{Command}
use Rattle.rtgs_book.specs.declared.refusal.Refusal.TheVariants.{OutOfMemory, StoreFault, Failed}
use Rattle.rtgs_book.specs.Outcome.{Reply}
use Rattle.rtgs_book.specs.Session.{is_judged, is_store_fault, open_command, MayFind}
use Rattle.rtgs_book.specs.Step.{Step}

quiet : (reply : Reply) → is_judged reply ≡ true → is_store_fault reply ≡ false
quiet (Ok answer) e = refl
quiet (Err OutOfMemory) e = absurd (cc)
quiet (Err StoreFault) e = absurd (cc)
quiet (Err Failed) e = absurd (cc)
quiet reply e = refl

-- it is the book before the command, or one after a step of it
pub before_or_after : (book mid found : Book) (command : Command) (reply : Reply)
    → (is_judged reply ≡ true → Step book command reply mid) → (is_judged reply ≡ false → mid ≡ book)
    → MayFind mid (open_command (command ∷ []) (reply ∷ [])) found
    → (found ≡ book) ⊎ ((other : Reply) × Step book command other found)
before_or_after book mid found command reply judged unjudged may =
    by (is_judged reply) (is_store_fault reply) refl refl may
  where
    by : (b c : Bool) → is_judged reply ≡ b → is_store_fault reply ≡ c
        → MayFind mid (if c then Some command else None) found
        → (found ≡ book) ⊎ ((other : Reply) × Step book command other found)
    by true true e f may = absurd (true≢false (sym f ∙ quiet reply e))
    by true false e f may = inr (reply, subst (λ (it : Book). Step book command reply it) (sym may) (judged e))
    by false true e f may = ⊎_elim (λ same. inl (same ∙ unjudged e))
        (λ step. inr (step.0, subst (λ (it : Book). Step it command step.0 found) (unjudged e) step.1)) may
    by false false e f may = inl (may ∙ unjudged e)
