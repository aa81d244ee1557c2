-- Orders and postings that stand but once in a list leave the book that the whole list leaves.
use Rattle.std.proofs.Common.{◌≡◌, ℕ, ◌==◌, Bool, true, false, cond, ◌&&◌, ◌||◌, List, [], ◌∷◌, Option, Some, None}
use Rattle.std.proofs.Common.{refl, sym, ap, ◌∙◌, subst, ⊎_elim, true≢false, arith}
use Rattle.std.proofs.lemmas.Bool.{or_cases}
use Rattle.std.proofs.lemmas.Bool.Decides.{nat_tests}
use Rattle.std.specs.List.{AllByRecursion, list_any}
use Rattle.std.specs.Str.{bytes_eq}
use Rattle.std.specs.Ordering.{int_eq}
use Rattle.std.specs.Cmp.Lexicographic.{bytes_decides}
use Rattle.rtgs_book.specs.declared.book.Book.{Book}
use Rattle.rtgs_book.specs.declared.posting.Posting.{Posting}
use Rattle.rtgs_book.specs.declared.order.Order.{Order}
use Rattle.rtgs_book.specs.declared.command.Command.{Command}
use Rattle.rtgs_book.specs.declared.command.Command.TheVariants.{Post, Order as PlaceOrder}
use Rattle.rtgs_book.specs.Commands.{post, is_same_posting, order, is_same_order, says_the_same, is_same_due}
use Rattle.rtgs_book.specs.Lookup.{order_named, posting_named}
use Rattle.rtgs_book.specs.Outcome.{OwnReply, Reply, Outcome, is_done}
use Rattle.rtgs_book.specs.Run.{Run, is_accepted, is_same_entry, is_recorded, once_after}
use Rattle.rtgs_book.specs.Soundness.{IsSound}
use Rattle.rtgs_book.specs.Step.{OwnStep, Step}
use Rattle.rtgs_laws.specs.repeats.Kept.{AreKept}
use Rattle.rtgs_laws.specs.repeats.Once.{once_replies_after}
use Rattle.rtgs_laws.proofs.repeats.Acted.{posted_known, ordered_known, posting_same}
use Rattle.rtgs_laws.proofs.repeats.Acted.{not_accepted_order, not_accepted_posting}
use Rattle.rtgs_laws.proofs.repeats.Following.{IdleLeavesTheBook, idle, own_accepted}
use Rattle.rtgs_laws.proofs.repeats.KeptSteps.{step_kept, kept_after}
use Rattle.rtgs_laws.proofs.repeats.Runs.{KeepsSoundness, StepKeepsSoundness}
use Rattle.rtgs_laws.proofs.repeats.Kept.{kept_through}
use Rattle.rtgs_laws.proofs.repeats.Passing.{some_refuses}
use Rattle.rtgs_lists.proofs.Lists.{all_weaker}
use Rattle.rtgs_lists.proofs.Numbers.{same_from_int_eq}

pub or_second : (a b c : Bool) → b ≡ true → (a || (b || c)) ≡ true
or_second true b c e = refl
or_second false b c e = rw e refl

-- what the book has is answered, and does not act
own_recorded : (old new : Book) (command : Command) (reply : OwnReply) → is_recorded old command ≡ true
    → OwnStep old command reply new → is_done reply ≡ false
unfolding post order
own_recorded old new (PlaceOrder sender new_order) reply e s =
    ap (λ (o : Outcome). is_done o.reply) s ∙ some_refuses old _ _
    (refl, (not_accepted_order _, (refl, (refl, (refl, (refl, (refl, (refl, (refl, (refl, tt))))))))))
    (or_second _ _ _ e)
own_recorded old new (Post code reference cents) reply e s =
    ap (λ (o : Outcome). is_done o.reply) s ∙ some_refuses old _ _
    (refl, (not_accepted_posting _, (refl, (refl, (refl, (refl, tt)))))) (or_second _ _ _ e)
own_recorded old new other reply e s = absurd (true≢false (sym e))

-- so it changes nothing
recorded_idle : IdleLeavesTheBook → (old new : Book) (command : Command) (reply : Reply)
    → is_recorded old command ≡ true → Step old command reply new → new ≡ old
recorded_idle leaves old new command reply e s =
    idle leaves old new command reply s (own_recorded old s.0.book command s.0.reply e s.1)

-- what the book has it keeps
pub recorded_kept : (old new : Book) (command : Command) → AreKept old new → is_recorded old command ≡ true
    → is_recorded new command ≡ true
recorded_kept old new (PlaceOrder sender new_order) kept e =
    by (order_named old sender new_order.reference) refl e
  where
    by : (found : Option Order) → order_named old sender new_order.reference ≡ found
        → is_same_order found new_order ≡ true
        → is_same_order (order_named new sender new_order.reference) new_order ≡ true
    by None f k = absurd (true≢false (sym k))
    by (Some o) f k =
        let later = kept.orders sender new_order.reference o f in
        ap (λ found. is_same_order found new_order) later.1
        ∙ ap (λ said. says_the_same said new_order) later.2.said ∙ k
recorded_kept old new (Post code reference cents) kept e = by (posting_named old reference) refl e
  where
    by : (found : Option Posting) → posting_named old reference ≡ found → is_same_posting found code cents ≡ true
        → is_same_posting (posting_named new reference) code cents ≡ true
    by None f k = absurd (true≢false (sym k))
    by (Some p) f k = ap (λ found. is_same_posting found code cents) (kept.postings reference p f) ∙ k
recorded_kept old new other kept e = absurd (true≢false (sym e))

-- the book has each Order and Post of this name and content
abbrev pub Covers : Book → Command → Type 0
Covers book one = (other : Command) → is_same_entry other one ≡ true → is_recorded book other ≡ true

covers_kept : (old new : Book) (one : Command) → AreKept old new → Covers old one → Covers new one
covers_kept old new one kept covers other e = recorded_kept old new other kept (covers other e)

number_is : (a b : ℕ) → (a == b) ≡ true → a ≡ b
number_is a b e = grind (arith, nat_tests)

abbrev is_entry : Command → Bool
is_entry (PlaceOrder sender new_order) = true
is_entry (Post code reference cents) = true
is_entry other = false

all_three : (a b c : Bool) → (a && b && c) ≡ true → (a ≡ true) × (b ≡ true) × (c ≡ true)
all_three true true true e = (refl, refl, refl)
all_three true true false e = absurd (true≢false (sym e))
all_three true false c e = absurd (true≢false (sym e))
all_three false b c e = absurd (true≢false (sym e))

due_is : (a b : Option ℕ) → is_same_due a b ≡ true → a ≡ b
due_is None None e = refl
due_is (Some a) (Some b) e = ap Some (number_is a b e)
due_is None (Some b) e = absurd (true≢false (sym e))
due_is (Some a) None e = absurd (true≢false (sym e))

-- entries with one name and one content are the same
same_entry : (other one : Command) → is_same_entry other one ≡ true → (other ≡ one) × (is_entry one ≡ true)
same_entry (PlaceOrder s a) (PlaceOrder s' b) e =
    let p = all_three (bytes_eq s s') (bytes_eq a.reference b.reference) (says_the_same a b) e in
    let q = all_three (bytes_eq a.receiver b.receiver) (a.amount == b.amount) (is_same_due a.due b.due) p.2 in
    let sender = (bytes_decides s s').0 p.0 in
    let reference = (bytes_decides a.reference b.reference).0 p.1 in
    let receiver = (bytes_decides a.receiver b.receiver).0 q.0 in
    let number = number_is a.amount b.amount q.1 in
    let day = due_is a.due b.due q.2 in (
      (λ i. PlaceOrder (sender i)
          (record { reference = reference i; receiver = receiver i; amount = number i; due = day i })),
      refl,
    )
same_entry (Post code r cents) (Post code' r' cents') e =
    let p = all_three (bytes_eq code code') (bytes_eq r r') (int_eq cents cents') e in
    let account = (bytes_decides code code').0 p.0 in
    let reference = (bytes_decides r r').0 p.1 in
    let value = same_from_int_eq cents cents' p.2 in
    ((λ i. Post (account i) (reference i) (value i)), refl)
same_entry other one e = absurd (true≢false (sym e))

-- an Order or Post that was accepted is had
own_accepted_recorded : (old new : Book) (reply : OwnReply) (one : Command) → IsSound old → is_done reply ≡ true
    → OwnStep old one reply new → is_entry one ≡ true → is_recorded new one ≡ true
own_accepted_recorded old new reply (PlaceOrder sender new_order) h accepted s e =
    let p = ordered_known old new reply sender new_order h accepted s in
    ap (λ found. is_same_order found new_order) p.1 ∙ p.2
own_accepted_recorded old new reply (Post code reference cents) h accepted s e =
    let p = posted_known old new reply code reference cents accepted s in
    ap (λ found. is_same_posting found code cents) p.1 ∙ posting_same p.0 code cents p.2 p.3
own_accepted_recorded old new reply other h accepted s e = absurd (true≢false (sym e))

pub accepted_recorded : KeepsSoundness → (old new : Book) (reply : Reply) (one : Command) → IsSound old
    → is_accepted reply ≡ true → Step old one reply new → is_entry one ≡ true → is_recorded new one ≡ true
accepted_recorded sounds old new reply one h accepted s e =
    recorded_kept s.0.book new one (kept_after sounds old new one reply h s)
    (own_accepted_recorded old s.0.book s.0.reply one h (own_accepted old new one reply s accepted) s.1 e)

accepted_covered : KeepsSoundness → (old new : Book) (reply : Reply) (one : Command) → IsSound old
    → is_accepted reply ≡ true → Step old one reply new → Covers new one
accepted_covered sounds old new reply one h accepted s other e =
    let same = same_entry other one e in
    ap (is_recorded new) same.0 ∙ accepted_recorded sounds old new reply one h accepted s same.1

any_covered : (book : Book) (ones : List Command) (other : Command) → AllByRecursion (Covers book) ones
    → list_any (is_same_entry other) ones ≡ true → is_recorded book other ≡ true
any_covered book [] other h e = absurd (true≢false (sym e))
any_covered book (one ∷ ones) other h e = ⊎_elim (λ here. h.0 other here) (λ rest. any_covered book ones other h.1 rest)
    (or_cases (is_same_entry other one) _ e)

-- ---- the list

module _ (sounds : KeepsSoundness) (leaves : IdleLeavesTheBook) (law : StepKeepsSoundness) (start : Book) where
  pub once_run : (accepted : List Command) (old new : Book) (commands : List Command) (replies : List Reply)
      → IsSound old → AreKept start old → AllByRecursion (Covers old) accepted
      → Run old commands replies new → Run old (once_after accepted start commands replies)
      (once_replies_after accepted start commands replies) new
  unfolding once_after once_replies_after
  once_run accepted old new [] [] h kept covers r = r
  once_run accepted old new [] (reply ∷ replies) h kept covers r = absurd r
  once_run accepted old new (command ∷ commands) [] h kept covers r = absurd r
  once_run accepted old new (command ∷ commands) (reply ∷ replies) h kept covers r =
      let onward = step_kept sounds old r.0 command reply h r.1 in
      by (is_recorded start command || list_any (is_same_entry command) accepted) refl onward
      (λ more covered. once_run more r.0 new commands replies (law old r.0 command reply h r.1)
      (kept_through start old r.0 kept onward) covered r.2)
    where
      had : (is_recorded start command || list_any (is_same_entry command) accepted) ≡ true
          → is_recorded old command ≡ true
      had e = ⊎_elim (λ here. recorded_kept start old command kept here)
          (λ rest. any_covered old accepted command covers rest) (or_cases (is_recorded start command) _ e)

      still : AreKept old r.0 → AllByRecursion (Covers r.0) accepted
      still onward = all_weaker (Covers old) (Covers r.0) (λ one c. covers_kept old r.0 one onward c) accepted covers

      more : AreKept old r.0 → (b : Bool) → is_accepted reply ≡ b
          → AllByRecursion (Covers r.0) (cond b (command ∷ accepted) accepted)
      more onward true e = (accepted_covered sounds old r.0 reply command h e r.1, still onward)
      more onward false e = still onward

      by : (b : Bool) → (is_recorded start command || list_any (is_same_entry command) accepted) ≡ b → AreKept old r.0
          → ((ones : List Command) → AllByRecursion (Covers r.0) ones
          → Run r.0 (once_after ones start commands replies) (once_replies_after ones start commands replies) new)
          → Run old (cond b (once_after accepted start commands replies)
          (command ∷ once_after (cond (is_accepted reply) (command ∷ accepted) accepted) start commands replies))
          (cond b (once_replies_after accepted start commands replies)
          (reply ∷ once_replies_after (cond (is_accepted reply) (command ∷ accepted) accepted) start commands
          replies)) new
      by true e onward rest = subst (λ (b : Book). Run b (once_after accepted start commands replies)
          (once_replies_after accepted start commands replies) new)
          (recorded_idle leaves old r.0 command reply (had e) r.1)
          (rest accepted (still onward))
      by false e onward rest = (
        r.0,
        r.1,
        rest (cond (is_accepted reply) (command ∷ accepted) accepted)
            (more onward (is_accepted reply) refl),
      )
