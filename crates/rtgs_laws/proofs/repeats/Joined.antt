-- Sessions that are joined.
use Rattle.std.proofs.Common.{◌≡◌, ◌≤◌, true, false, Bool, if◌then◌else◌, List, [], ◌∷◌, ◌++◌, length, Some, None, Err}
use Rattle.std.proofs.Common.{refl, sym, ap, ◌∙◌, subst, arith, length-append}
use Rattle.std.specs.List.{AllByRecursion}
use Rattle.rtgs_book.specs.declared.command.Command.{Command}
use Rattle.rtgs_book.specs.declared.refusal.Refusal.TheVariants.{Failed}
use Rattle.rtgs_book.specs.Outcome.{Reply}
use Rattle.rtgs_book.specs.Run.{Run}
use Rattle.rtgs_book.specs.Session.{Session, IsSession, MayFind, is_judged, is_store_fault, answered, answers}
use Rattle.rtgs_book.specs.Session.{open_command}
use Rattle.rtgs_laws.specs.repeats.Lives.{joined}
use Rattle.rtgs_laws.proofs.repeats.Lives.{run_joined}

-- Where no command is open, each has its reply.
all_replied : (commands : List Command) (replies : List Reply) → open_command commands replies ≡ None
    → length replies ≤ length commands → length commands ≡ length replies
all_replied [] [] none short = refl
all_replied [] (r ∷ replies) none short = absurd (omega arith)
all_replied (c ∷ commands) [] none short = absurd (cc)
all_replied (c ∷ commands) (r ∷ replies) none short = by (is_store_fault r)
    (λ e. all_replied commands replies e (omega arith)) none
  where
    by : (b : Bool) → (open_command commands replies ≡ None → length commands ≡ length replies)
        → (if b then Some c else open_command commands replies) ≡ None → length (c ∷ commands) ≡ length (r ∷ replies)
    by true later none = absurd (cc)
    by false later none = let e = later none in omega arith

-- Behind commands of which none is open, the open command is that of the rest.
open_next : (commands more : List Command) (replies others : List Reply) → length commands ≡ length replies
    → open_command commands replies ≡ None → open_command (commands ++ more) (replies ++ others)
    ≡ open_command more others
open_next [] more [] others long none = refl
open_next [] more (r ∷ replies) others long none = absurd (omega arith)
open_next (c ∷ commands) more [] others long none = absurd (omega arith)
open_next (c ∷ commands) more (r ∷ replies) others long none =
    by (is_store_fault r) (open_next commands more replies others (omega arith)) none
  where
    by : (b : Bool) → (open_command commands replies ≡ None → open_command (commands ++ more) (replies ++ others)
        ≡ open_command more others) → (if b then Some c else open_command commands replies) ≡ None
        → (if b then Some c else open_command (commands ++ more) (replies ++ others)) ≡ open_command more others
    by true later none = absurd (cc)
    by false later none = later none

-- Behind others, commands of which none is open leave the open command.
open_before : (commands more : List Command) (replies others : List Reply) → length commands ≡ length replies
    → open_command more others ≡ None → open_command (commands ++ more) (replies ++ others)
    ≡ open_command commands replies
open_before [] more [] others long none = none
open_before [] more (r ∷ replies) others long none = absurd (omega arith)
open_before (c ∷ commands) more [] others long none = absurd (omega arith)
open_before (c ∷ commands) more (r ∷ replies) others long none =
    ap (λ o. if is_store_fault r then Some c else o) (open_before commands more replies others (omega arith) none)

answered_next : (commands more : List Command) (replies others : List Reply) → length commands ≡ length replies
    → answered (commands ++ more) (replies ++ others) ≡ answered commands replies ++ answered more others
answered_next [] more [] others long = refl
answered_next [] more (r ∷ replies) others long = absurd (omega arith)
answered_next (c ∷ commands) more [] others long = absurd (omega arith)
answered_next (c ∷ commands) more (r ∷ replies) others long =
    by (is_judged r) (answered_next commands more replies others (omega arith))
  where
    by : (b : Bool) → answered (commands ++ more) (replies ++ others)
        ≡ answered commands replies ++ answered more others
        → (if b then c ∷ answered (commands ++ more) (replies ++ others) else answered (commands ++ more)
        (replies ++ others)) ≡ (if b then c ∷ answered commands replies else answered commands replies)
        ++ answered more others
    by true e = ap (λ cs. c ∷ cs) e
    by false e = e

answers_next : (replies others : List Reply) → answers (replies ++ others) ≡ answers replies ++ answers others
answers_next [] others = refl
answers_next (r ∷ replies) others = by (is_judged r) (answers_next replies others)
  where
    by : (b : Bool) → answers (replies ++ others) ≡ answers replies ++ answers others
        → (if b then r ∷ answers (replies ++ others) else answers (replies ++ others))
        ≡ (if b then r ∷ answers replies else answers replies) ++ answers others
    by true e = ap (λ rs. r ∷ rs) e
    by false e = e

pub join : (one next : Session) → IsSession one → open_command one.commands one.replies ≡ None → next.start ≡ one.found
    → IsSession next → IsSession (joined one next)
join one next h none from k =
    let long = all_replied one.commands one.replies none h.replied in
    let found : one.found ≡ h.last = subst (λ o. MayFind h.last o one.found) none h.found in
    let run = run_joined one.start h.last k.last (answered one.commands one.replies)
    (answered next.commands next.replies) (answers one.replies) (answers next.replies) h.run
    (subst (λ book. Run book (answered next.commands next.replies) (answers next.replies) k.last) (from ∙ found) k.run)
    in
    record {
      replied = omega (
        arith,
        k.replied,
        long,
        length-append one.replies next.replies,
        length-append one.commands
            next.commands,
      );
      running = omega (
        arith,
        k.running,
        long,
        length-append one.replies next.replies,
        length-append one.commands
            next.commands,
      );
      last = k.last;
      run = rw (
        answered_next one.commands next.commands one.replies next.replies long,
        answers_next one.replies
            next.replies,
      ) run;
      found = subst (λ o. MayFind k.last o next.found) (sym (open_next one.commands next.commands one.replies
          next.replies long none)) k.found;
    }

-- ---- after a fault of the store

none_answered : (commands : List Command) (replies : List Reply) → AllByRecursion (λ reply. reply ≡ Err Failed) replies
    → answered commands replies ≡ []
none_answered [] replies all = refl
none_answered (c ∷ commands) [] all = refl
none_answered (c ∷ commands) (r ∷ replies) all = rw all.0 (none_answered commands replies all.1)

no_answers : (replies : List Reply) → AllByRecursion (λ reply. reply ≡ Err Failed) replies → answers replies ≡ []
no_answers [] all = refl
no_answers (r ∷ replies) all = rw all.0 (no_answers replies all.1)

none_opened : (commands : List Command) (replies : List Reply) → length replies ≡ length commands
    → AllByRecursion (λ reply. reply ≡ Err Failed) replies → open_command commands replies ≡ None
none_opened [] replies long all = refl
none_opened (c ∷ commands) [] long all = absurd (omega arith)
none_opened (c ∷ commands) (r ∷ replies) long all = rw all.0 (none_opened commands replies (omega arith) all.1)

append_none : {A : Type 0} (xs ys : List A) → ys ≡ [] → xs ++ ys ≡ xs
append_none [] ys e = e
append_none (x ∷ xs) ys e = ap (λ zs. x ∷ zs) (append_none xs ys e)

pub go_on : (one : Session) (commands : List Command) (replies : List Reply) → IsSession one
    → length one.replies ≡ length one.commands → length replies ≡ length commands
    → AllByRecursion (λ reply. reply ≡ Err Failed) replies
    → IsSession (record {
      start = one.start;
      commands = one.commands ++ commands;
      replies = one.replies ++ replies;
      found = one.found;
    })
go_on one commands replies h long also all = record {
  replied = omega (arith, also, long, length-append one.replies replies, length-append one.commands commands);
  running = omega (arith, also, long, length-append one.replies replies, length-append one.commands commands);
  last = h.last;
  run = rw (
    answered_next one.commands commands one.replies replies (sym long),
    answers_next one.replies replies,
    append_none (answered one.commands one.replies) (answered commands replies) (none_answered commands replies all),
    append_none (answers one.replies) (answers replies) (no_answers replies all),
  ) h.run;
  found = subst (λ o. MayFind h.last o one.found) (sym (open_before one.commands commands one.replies replies (sym long)
      (none_opened commands replies also all))) h.found;
}
