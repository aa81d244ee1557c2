-- One row more of a batch.
use Rattle.std.proofs.Common.{◌≡◌, ◌<◌, ◌+◌, ℕ, true, false, List, [], ◌∷◌, ◌++◌, length, take, get_or, Some, None, Ok}
use Rattle.std.proofs.Common.{Err, refl, sym, ap, ◌∙◌, subst, arith}
use Rattle.std.proofs.lemmas.List.{map-append, take_more, length-map, length-append, length-take-le, take_all}
use Rattle.std.specs.List.{AllByRecursion}
use Rattle.rtgs_book.specs.declared.book.Book.{Book}
use Rattle.rtgs_book.specs.declared.command.Command.{Command}
use Rattle.rtgs_book.specs.declared.refusal.Refusal.{Refusal}
use Rattle.rtgs_book.specs.declared.refusal.Refusal.TheVariants.{OutOfMemory, StoreFault, Failed}
use Rattle.rtgs_book.specs.Outcome.{Reply}
use Rattle.rtgs_book.specs.Run.{Run}
use Rattle.rtgs_book.specs.Session.{is_judged, is_store_fault, answered, answers, open_command, MayFind, IsSession}
use Rattle.rtgs_book.specs.Step.{Step}
use Rattle.rtgs_book.specs.declared.new_order.NewOrder.{NewOrder}
use Rattle.rtgs_desk.specs.batches.Batches.{order_of, orders_of, open_order}

-- each of these replies is a judgement
abbrev pub AreJudged : List Reply → Type 0
AreJudged replies = AllByRecursion (λ reply. is_judged reply ≡ true) replies

pub judged_push : (replies : List Reply) (reply : Reply) → AreJudged replies → is_judged reply ≡ true
    → AreJudged (replies ++ reply ∷ [])
judged_push [] reply all e = (e, tt)
judged_push (r ∷ replies) reply all e = (all.0, judged_push replies reply all.1 e)

run_push : (old mid new : Book) (commands : List Command) (replies : List Reply) (command : Command) (reply : Reply)
    → Run old commands replies mid → Step mid command reply new
    → Run old (commands ++ command ∷ []) (replies ++ reply ∷ []) new
run_push old mid new [] [] command reply run step = (new, subst (λ book. Step book command reply new) run step, refl)
run_push old mid new [] (r ∷ replies) command reply run step = absurd run
run_push old mid new (c ∷ commands) [] command reply run step = absurd run
run_push old mid new (c ∷ commands) (r ∷ replies) command reply run step =
    (run.0, run.1, run_push run.0 mid new commands replies command reply run.2 step)

-- the run of one row more
pub run_more : (sender : List ℕ) (rows : List NewOrder) (at : ℕ) (row : NewOrder) (replies : List Reply)
    (reply : Reply) (old mid new : Book) → at < length rows → row ≡ get_or rows at row
    → Run old (orders_of sender (take at rows)) replies mid
    → Step mid (order_of sender row) reply new
    → Run old (orders_of sender (take (at + 1) rows)) (replies ++ reply ∷ []) new
run_more sender rows at row replies reply old mid new within is run step =
    let done : take (at + 1) rows ≡ take at rows ++ row ∷ [] = take_more rows at row within
    ∙ ap (λ x. take at rows ++ x ∷ []) (sym is) in
    rw (done, map-append (order_of sender) (take at rows) (row ∷ []))
    (run_push old mid new (orders_of sender (take at rows)) replies (order_of sender row) reply run step)

-- a judgement is no fault
pub quiet : (reply : Reply) → is_judged reply ≡ true → is_store_fault reply ≡ false
quiet (Ok answer) e = refl
quiet (Err OutOfMemory) e = absurd (cc)
quiet (Err StoreFault) e = absurd (cc)
quiet (Err Failed) e = absurd (cc)
quiet reply e = refl

-- Where all is judged, no command is open.
pub none_open : (commands : List Command) (replies : List Reply) → length commands ≡ length replies
    → AreJudged replies → open_command commands replies ≡ None
none_open [] [] e all = refl
none_open [] (r ∷ replies) e all = absurd (omega arith)
none_open (c ∷ commands) [] e all = absurd (omega arith)
none_open (c ∷ commands) (r ∷ replies) e all = rw (quiet r all.0)
    (none_open commands replies (omega arith) all.1)

-- One more may be open where all before it is judged.
open_last : (commands : List Command) (replies : List Reply) (command : Command) (reply : Reply)
    → length commands ≡ length replies → AreJudged replies
    → open_command (commands ++ command ∷ []) (replies ++ reply ∷ [])
    ≡ open_command (command ∷ []) (reply ∷ [])
open_last [] [] command reply e all = refl
open_last [] (r ∷ replies) command reply e all = absurd (omega arith)
open_last (c ∷ commands) [] command reply e all = absurd (omega arith)
open_last (c ∷ commands) (r ∷ replies) command reply e all =
    rw (quiet r all.0) (open_last commands replies command reply (omega arith) all.1)

-- the orders up to the row at which the batch stopped
pub orders_at_stop : (sender : List ℕ) (rows : List NewOrder) (at : ℕ) (row : NewOrder) (replies : List Reply)
    (refusal : Refusal) → at < length rows → row ≡ get_or rows at row → length replies ≡ at
    → orders_of sender (take (length (replies ++ Err refusal ∷ [])) rows)
    ≡ orders_of sender (take at rows) ++ order_of sender row ∷ []
orders_at_stop sender rows at row replies refusal within is counted =
    let done : take (at + 1) rows ≡ take at rows ++ row ∷ [] = take_more rows at row within
    ∙ ap (λ x. take at rows ++ x ∷ []) (sym is) in
    let long : length (replies ++ Err refusal ∷ [])
    ≡ at + 1 = omega (arith, counted, length-append replies (Err refusal ∷ [])) in
    rw (long, done, map-append (order_of sender) (take at rows) (row ∷ [])) refl

orders_so_far : (sender : List ℕ) (rows : List NewOrder) (at : ℕ) (replies : List Reply) → at < length rows
    → length replies ≡ at → length (orders_of sender (take at rows)) ≡ length replies
orders_so_far sender rows at replies within counted = length-map (take at rows) (order_of sender)
    ∙ length-take-le at rows (omega (arith, within)) ∙ sym counted

-- the order that may be open is the one at which the batch stopped
pub open_at_stop : (sender : List ℕ) (rows : List NewOrder) (at : ℕ) (row : NewOrder) (replies : List Reply)
    (refusal : Refusal) → at < length rows → row ≡ get_or rows at row → length replies ≡ at → AreJudged replies
    → open_order sender rows replies (Some refusal) ≡ open_command (order_of sender row ∷ []) (Err refusal ∷ [])
open_at_stop sender rows at row replies refusal within is counted all =
    ap (λ commands. open_command commands (replies ++ Err refusal ∷ []))
    (orders_at_stop sender rows at row replies refusal within is counted)
    ∙ open_last (orders_of sender (take at rows)) replies (order_of sender row) (Err refusal)
    (orders_so_far sender rows at replies within counted) all

-- all orders of a batch that did not stop
pub orders_at_end : (sender : List ℕ) (rows : List NewOrder) (replies : List Reply) → length replies ≡ length rows
    → orders_of sender (take (length replies) rows) ≡ orders_of sender rows
orders_at_end sender rows replies counted = ap (orders_of sender)
    (take_all (length replies) rows (omega (arith, counted)))

-- none of them is open
pub open_at_end : (sender : List ℕ) (rows : List NewOrder) (replies : List Reply) → length replies ≡ length rows
    → AreJudged replies → open_order sender rows replies None ≡ None
open_at_end sender rows replies counted all = ap (λ commands. open_command commands replies)
    (orders_at_end sender rows replies counted) ∙ none_open (orders_of sender rows) replies
    (length-map rows (order_of sender) ∙ sym counted) all

-- ---- sessions

answered_all : (commands : List Command) (replies : List Reply) → length commands ≡ length replies
    → AreJudged replies → answered commands replies ≡ commands
answered_all [] [] long all = refl
answered_all [] (r ∷ replies) long all = absurd (omega arith)
answered_all (c ∷ commands) [] long all = absurd (omega arith)
answered_all (c ∷ commands) (r ∷ replies) long all = rw all.0
    (ap (λ cs. c ∷ cs) (answered_all commands replies (omega arith) all.1))

answers_all : (replies : List Reply) → AreJudged replies → answers replies ≡ replies
answers_all [] all = refl
answers_all (r ∷ replies) all = rw all.0 (ap (λ rs. r ∷ rs) (answers_all replies all.1))

answered_stop : (commands : List Command) (replies : List Reply) (command : Command) (reply : Reply)
    → length commands ≡ length replies → AreJudged replies → is_judged reply ≡ false
    → answered (commands ++ command ∷ []) (replies ++ reply ∷ []) ≡ commands
answered_stop [] [] command reply long all unjudged = rw unjudged refl
answered_stop [] (r ∷ replies) command reply long all unjudged = absurd (omega arith)
answered_stop (c ∷ commands) [] command reply long all unjudged = absurd (omega arith)
answered_stop (c ∷ commands) (r ∷ replies) command reply long all unjudged =
    rw all.0 (ap (λ cs. c ∷ cs) (answered_stop commands replies command reply (omega arith) all.1 unjudged))

answers_stop : (replies : List Reply) (reply : Reply) → AreJudged replies → is_judged reply ≡ false
    → answers (replies ++ reply ∷ []) ≡ replies
answers_stop [] reply all unjudged = rw unjudged refl
answers_stop (r ∷ replies) reply all unjudged = rw all.0 (ap (λ rs. r ∷ rs)
    (answers_stop replies reply all.1 unjudged))

-- the rows of a batch that did not stop are a session
pub session_at_end : (sender : List ℕ) (rows : List NewOrder) (replies : List Reply) (old last found : Book)
    → length replies ≡ length rows → AreJudged replies → Run old (orders_of sender (take (length replies) rows))
    replies last
    → MayFind last (open_order sender rows replies None) found
    → IsSession (record {
      start = old;
      commands = orders_of sender (take (length replies) rows);
      replies = replies;
      found = found;
    })
session_at_end sender rows replies old last found counted all run may =
    let whole : take (length replies) rows ≡ rows = take_all (length replies) rows (omega (arith, counted)) in
    let same = orders_at_end sender rows replies counted in
    let long : length (orders_of sender rows) ≡ length replies = length-map rows (order_of sender) ∙ sym counted in
    let many : length (orders_of sender (take (length replies) rows))
    ≡ length replies = ap length same ∙ long in
    record {
      replied = omega (arith, many);
      running = omega (arith, many);
      last = last;
      run = rw (same, answered_all (orders_of sender rows) replies long all, answers_all replies all)
          (subst (λ rs. Run old (orders_of sender rs) replies last) whole run);
      found = may;
    }

-- so are those up to the row at which it stopped
pub session_at_stop : (sender : List ℕ) (rows : List NewOrder) (at : ℕ) (row : NewOrder) (replies : List Reply)
    (refusal : Refusal) (old last found : Book) → at < length rows → row ≡ get_or rows at row → length replies ≡ at
    → AreJudged replies
    → is_judged (Err refusal) ≡ false → Run old (orders_of sender (take at rows)) replies last
    → MayFind last (open_order sender rows replies (Some refusal)) found
    → IsSession (record {
      start = old;
      commands = orders_of sender
          (take (length (replies ++ Err refusal ∷ [])) rows);
      replies = replies ++ Err refusal ∷ [];
      found = found;
    })
session_at_stop sender rows at row replies refusal old last found within is counted all unjudged run may =
    let same = orders_at_stop sender rows at row replies refusal within is counted in
    let long = orders_so_far sender rows at replies within counted in
    let many : length (orders_of sender (take (length (replies ++ Err refusal ∷ [])) rows))
    ≡ length (replies ++ Err refusal ∷ []) =
    ap length same ∙ omega (
      arith,
      long,
      length-append (orders_of sender (take at rows))
          (order_of sender row ∷ []),
      length-append replies (Err refusal ∷ []),
    ) in
    record {
      replied = omega (arith, many);
      running = omega (arith, many);
      last = last;
      run = rw (
        same,
        answered_stop (orders_of sender (take at rows)) replies (order_of sender row) (Err refusal) long
            all unjudged,
        answers_stop replies (Err refusal) all unjudged,
      ) run;
      found = may;
    }
