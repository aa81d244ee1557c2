-- A batch that is sent again from the book that a fault of the store left ends as if it had been sent once.
use Rattle.std.proofs.Common.{◌≡◌, ℕ, List, [], ◌∷◌, ◌++◌, append_assoc, refl, sym, subst, ⊎_elim, Bool, true, false}
use Rattle.std.proofs.Common.{Ok, Err, ap, ◌∙◌, true≢false}
use Rattle.std.specs.List.{AllByRecursion}
use Rattle.rtgs_book.specs.declared.book.Book.{Book}
use Rattle.rtgs_book.specs.declared.command.Command.{Command}
use Rattle.rtgs_book.specs.declared.refusal.Refusal.TheVariants.{QueueFull}
use Rattle.rtgs_book.specs.Outcome.{Reply, is_done, own_of}
use Rattle.rtgs_book.specs.Step.{Step}
use Rattle.rtgs_book.specs.Run.{Run}
use Rattle.rtgs_book.specs.Session.{MayFind, open_command}
use Rattle.rtgs_book.specs.Soundness.{IsSound}
use Rattle.rtgs_laws.specs.repeats.Batch.{IsOrderOf, IsNotFull, MayComeAgain}
use Rattle.rtgs_laws.proofs.repeats.Following.{IdleLeavesTheBook, idle, own_replied}
use Rattle.rtgs_laws.proofs.repeats.Lives.{run_joined}

abbrev pub ResumedBatchEndsAlike : Type 0
ResumedBatchEndsAlike = (old mid last end : Book) (sender : List ℕ) (first rest : List Command)
    (one two three : List Reply) → IsSound old → AllByRecursion (IsOrderOf sender) (first ++ rest)
    → MayComeAgain old one
    → Run old first one mid → Run mid (first ++ rest) two last → Run old (first ++ rest) three end → last ≡ end

may_more : (book : Book) (one : List Reply) (reply : Reply) → MayComeAgain book one → IsNotFull reply
    → MayComeAgain book (one ++ reply ∷ [])
may_more book one reply may not_full automatic = by one (may automatic)
  where
    by : (replies : List Reply) → AllByRecursion IsNotFull replies → AllByRecursion IsNotFull (replies ++ reply ∷ [])
    by [] h = (not_full, tt)
    by (other ∷ replies) h = (h.0, by replies h.1)

abbrev is_full : Reply → Bool
is_full (Err QueueFull) = true
is_full reply = false

full_is_not_done : (reply : Reply) → is_full reply ≡ true → is_done (own_of reply) ≡ false
full_is_not_done (Ok answer) e = absurd (true≢false (sym e))
full_is_not_done (Err refusal) e = refl

-- an order that met a full queue changed nothing
full_stays : IdleLeavesTheBook → (old new : Book) (command : Command) (reply : Reply) → is_full reply ≡ true
    → Step old command reply new → new ≡ old
full_stays leaves old new command reply e s = idle leaves old new command reply s
    (ap is_done (sym (own_replied old new command reply s)) ∙ full_is_not_done reply e)

pub stopped : ResumedBatchEndsAlike → IdleLeavesTheBook → (old mid found last end : Book) (sender : List ℕ)
    (first rest : List Command) (one two three : List Reply) → IsSound old
    → AllByRecursion (IsOrderOf sender) (first ++ rest) → MayComeAgain old one
    → Run old first one mid → MayFind mid (open_command rest []) found → Run found (first ++ rest) two last
    → Run old (first ++ rest) three end → last ≡ end
stopped law leaves old mid found last end sender first [] one two three h is again r may s t =
    law old mid last end sender first [] one two three h is again r (subst (λ b. Run b (first ++ []) two last) may s) t
stopped law leaves old mid found last end sender first (command ∷ rest) one two three h is again r may s t =
    ⊎_elim before (λ step. by step (is_full step.0) refl) may
  where
    before : found ≡ mid → last ≡ end
    before same = law old mid last end sender first (command ∷ rest) one two three h is again r
        (subst (λ b. Run b (first ++ command ∷ rest) two last) same s) t

    by : (step : (reply : Reply) × Step mid command reply found) → (b : Bool) → is_full step.0 ≡ b → last ≡ end
    by step true e = before (full_stays leaves mid found command step.0 e step.1)
    by step false e =
        let joined : first ++ command ∷ rest ≡ (first ++ command ∷ []) ++ rest =
        sym (append_assoc first (command ∷ []) rest) in
        law old found last end sender (first ++ command ∷ []) rest (one ++ step.0 ∷ []) two three h
        (subst (AllByRecursion (IsOrderOf sender)) joined is)
        (may_more old one step.0 again (λ full. true≢false (sym (ap is_full full) ∙ e)))
        (run_joined old mid found first (command ∷ []) one (step.0 ∷ []) r (found, step.1, refl))
        (subst (λ cs. Run found cs two last) joined s)
        (subst (λ cs. Run old cs three end) joined t)
