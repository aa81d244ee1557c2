-- After a resolution there is nothing more to settle.
use Rattle.std.proofs.Common.{◌≡◌, ℕ, ◌+◌, ℤ, ◌+ℤ◌, ◌≤ℤ◌, nat_lt, Bool, true, false, cond, ◌&&◌, List, [], ◌∷◌, map}
use Rattle.std.proofs.Common.{filter, length, take, drop, Ok, refl, sym, ap, ◌∙◌, subst, arith}
use Rattle.std.proofs.lemmas.Int.{ints}
use Rattle.std.proofs.lemmas.List.{length-drop}
use Rattle.std.proofs.Math.Seq.{take-add}
use Rattle.std.specs.List.{AllByRecursion, list_any}
use Rattle.std.specs.Str.{bytes_eq}
use Rattle.rtgs_book.specs.declared.book.Book.{Book}
use Rattle.rtgs_book.specs.declared.participant.Participant.{Participant}
use Rattle.rtgs_book.specs.declared.order.Order.{Order}
use Rattle.rtgs_book.specs.declared.command.Command.TheVariants.{Resolve}
use Rattle.rtgs_book.specs.declared.answer.Answer.TheVariants.{Nothing}
use Rattle.rtgs_book.specs.Books.{is_closed, is_empty, is_queued}
use Rattle.rtgs_book.specs.Balance.{balance, floor, gain}
use Rattle.rtgs_book.specs.Choice.{Choice, is_chosen, chosen, balance_after, IsFeasible, IsGreatest}
use Rattle.rtgs_book.specs.Commands.{resolve}
use Rattle.rtgs_book.specs.IntSum.{int_sum_by}
use Rattle.rtgs_book.specs.Lookup.{codes_of, is_participant, credit_of, participant_of}
use Rattle.rtgs_book.specs.Outcome.{OwnReply, Outcome, is_done}
use Rattle.rtgs_book.specs.Queue.{queue, orders_before}
use Rattle.rtgs_book.specs.Settle.{settle}
use Rattle.rtgs_book.specs.Soundness.{OrdersAreNumbered, has_parties, IsSound}
use Rattle.rtgs_book.specs.Step.{OwnStep}
use Rattle.rtgs_laws.proofs.repeats.Days.{SomeGreatest, nothing_more}
use Rattle.rtgs_laws.proofs.repeats.Kept.{by_settling}
use Rattle.rtgs_laws.proofs.repeats.Runs.{KeepsSoundness}
use Rattle.rtgs_laws.proofs.repeats.Sums.{sent_by, by_senders}
use Rattle.rtgs_laws.proofs.repeats.Passing.{passed_step}
use Rattle.rtgs_lists.proofs.Lists.{all_filter, all_weaker}
use Rattle.rtgs_lists.proofs.Sums.{int_sum_by-append, int_sum_by-both, int_sum_by-same}
use Rattle.rtgs_lists.proofs.Bools.{first_of_three}
use Rattle.rtgs_lists.proofs.Numbers.{lt_zero}

abbrev pub ChosenAreBeginnings : Type 0
ChosenAreBeginnings = (book : Book) (choice : Choice) (code : List ℕ) → OrdersAreNumbered book
    → sent_by code (chosen book choice) ≡ take (choice code) (queue book code)

abbrev pub RestStaysQueued : Type 0
RestStaysQueued = (book : Book) (choice : Choice) (code : List ℕ) → OrdersAreNumbered book
    → queue (settle book (is_chosen book choice)) code ≡ drop (choice code) (queue book code)

abbrev pub SettledBalances : Type 0
SettledBalances = (book : Book) (choice : Choice) (code : List ℕ)
    → balance (settle book (is_chosen book choice)) code ≡ balance_after book choice code

-- a sum over what is chosen is the sum over the beginnings of all queues
by_queues : ChosenAreBeginnings → (book : Book) (choice : Choice) (f : Order → ℤ) → IsSound book
    → int_sum_by f (chosen book choice) ≡ int_sum_by (λ code. int_sum_by f (take (choice code) (queue book code)))
    (codes_of book)
unfolding chosen is_participant
by_queues law book choice f h =
    sym (by_senders (codes_of book) h.codes_rise.0 f (chosen book choice)
    (all_filter _ (is_chosen book choice) book.orders (all_weaker (λ o. has_parties book o ≡ true)
    (λ (o : Order). list_any (bytes_eq o.sender) (codes_of book) ≡ true) (λ o e. first_of_three _ _ _ e) book.orders
    h.parties.0)))
    ∙ int_sum_by-same _ _ (λ code. ap (int_sum_by f) (law book choice code h.orders_numbered)) (codes_of book)

settle-day : (book : Book) (is_in : Order → Bool) → (settle book is_in).day ≡ book.day
settle-day book is_in = by_settling (λ new. new.day ≡ book.day) book is_in refl (λ marks. refl)

settle-participants : (book : Book) (is_in : Order → Bool) → (settle book is_in).participants ≡ book.participants
settle-participants book is_in = by_settling (λ new. new.participants ≡ book.participants) book is_in refl
    (λ marks. refl)

same_accounts : (old new : Book) → new.participants ≡ old.participants → codes_of new ≡ codes_of old
unfolding codes_of
same_accounts old new same = ap (map (λ (p : Participant). p.code)) same

same_floor : (old new : Book) (code : List ℕ) → new.participants ≡ old.participants → new.day ≡ old.day
    → floor new code ≡ floor old code
unfolding floor credit_of participant_of
same_floor old new code same day i = floor (record old { participants = same i; day = day i }) code

module _ (beginnings : ChosenAreBeginnings) (rest : RestStaysQueued) (balances : SettledBalances) (old : Book)
    (choice next : Choice) (sound : IsSound old) where
  abbrev mid : Book
  mid = settle old (is_chosen old choice)

  -- what is chosen now and what was chosen before, together
  abbrev together : Choice
  together code = choice code + next code

  part : (f : Order → ℤ) (code : List ℕ) → int_sum_by f (take (together code) (queue old code))
      ≡ int_sum_by f (take (choice code) (queue old code)) +ℤ int_sum_by f (take (next code) (queue mid code))
  part f code =
      ap (int_sum_by f) (take-add (choice code) (next code) (queue old code))
      ∙ int_sum_by-append f (take (choice code) (queue old code))
      (take (next code) (drop (choice code) (queue old code)))
      ∙ (λ i. int_sum_by f (take (choice code) (queue old code)) +ℤ int_sum_by f
      (take (next code) (sym (rest old choice code sound.orders_numbered) i)))

  module _ (sound_mid : IsSound mid) where
    sums : (f : Order → ℤ) → int_sum_by f (chosen old together)
        ≡ int_sum_by f (chosen old choice) +ℤ int_sum_by f (chosen mid next)
    sums f =
        by_queues beginnings old together f sound
        ∙ int_sum_by-same _ _ (part f) (codes_of old)
        ∙ int_sum_by-both (λ code. int_sum_by f (take (choice code) (queue old code)))
        (λ code. int_sum_by f (take (next code) (queue mid code))) (codes_of old)
        ∙ (λ i. sym (by_queues beginnings old choice f sound) i +ℤ later i)
      where
        later : int_sum_by (λ code. int_sum_by f (take (next code) (queue mid code))) (codes_of old)
            ≡ int_sum_by f (chosen mid next)
        later = ap (int_sum_by (λ code. int_sum_by f (take (next code) (queue mid code))))
            (sym (same_accounts old mid (settle-participants old (is_chosen old choice))))
            ∙ sym (by_queues beginnings mid next f sound_mid)

    same_after : (code : List ℕ) → balance_after old together code ≡ balance_after mid next code
    unfolding balance_after
    same_after code =
        let sum = sums (gain code) in
        let here = balances old choice code in
        shift (balance old code) _ _ _ _ sum here
      where
        shift : (b s c d e : ℤ) → s ≡ c +ℤ d → e ≡ b +ℤ c → b +ℤ s ≡ e +ℤ d
        shift b s c d e f g = omega (arith, ints)

    feasible : IsFeasible old choice → IsFeasible mid next → IsFeasible old together
    feasible h k = record {
      within = λ code.
          let a = h.within code in
          let b = k.within code in
          let c = ap length (rest old choice code sound.orders_numbered) ∙ length-drop (choice code) (queue old code) in
          omega arith;
      covered = subst (AllByRecursion (λ code. floor old code ≤ℤ balance_after old together code))
          (same_accounts old mid (settle-participants old (is_chosen old choice)))
          (all_weaker (λ code. floor mid code ≤ℤ balance_after mid next code)
          (λ code. floor old code ≤ℤ balance_after old together code)
          (λ code le. moved code le) (codes_of mid) k.covered);
    }
      where
        moved : (code : List ℕ) → floor mid code ≤ℤ balance_after mid next code
            → floor old code ≤ℤ balance_after old together code
        moved code le =
            subst (λ f. f ≤ℤ balance_after old together code)
            (same_floor old mid code (settle-participants old (is_chosen old choice))
            (settle-day old (is_chosen old choice)))
            (subst (λ b. floor mid code ≤ℤ b) (sym (same_after code)) le)

    pub none_left : IsGreatest old choice → IsFeasible mid next → (code : List ℕ) → next code ≡ 0
    none_left h k code = let le = h.largest together (feasible h.feasible k) code in omega arith

-- ---- the resolution that comes next

none_in : {X : Type 0} (p : X → Bool) → ((x : X) → p x ≡ false) → (xs : List X) → is_empty (filter p xs) ≡ true
none_in p none [] = refl
none_in p none (x ∷ xs) = rw (none x) (none_in p none xs)

none_chosen : (book : Book) (choice : Choice) → ((code : List ℕ) → choice code ≡ 0)
    → is_empty (chosen book choice) ≡ true
unfolding chosen is_chosen
none_chosen book choice none = none_in _ (λ o. none_here (is_queued o) _
    (ap (nat_lt (orders_before book o)) (none o.sender) ∙ lt_zero (orders_before book o))) book.orders
  where
    none_here : (a b : Bool) → b ≡ false → (a && b) ≡ false
    none_here true b e = e
    none_here false b e = refl

-- what a resolution leaves, also where it settles nothing
settled : (book : Book) (choice : Choice) (b : Bool) → is_empty (chosen book choice) ≡ b → (one other : Outcome)
    → one.book ≡ book → other.book ≡ settle book (is_chosen book choice)
    → (cond b one other).book ≡ settle book (is_chosen book choice)
unfolding settle chosen
settled book choice true e one other f g = rw e f
settled book choice false e one other f g = g

resolved_as : (old new : Book) (reply : OwnReply) (choice : Choice) → is_done reply ≡ true → record {
  reply = reply;
  book = new;
} ≡ resolve old choice → (is_closed old.day.phase ≡ false) × (new ≡ settle old (is_chosen old choice))
unfolding resolve
resolved_as old new reply choice accepted s =
    let p = passed_step old new reply _ _ (refl, tt) accepted s in
    (p.0.0, ap (λ (o : Outcome). o.book) p.1 ∙ settled old choice (is_empty (chosen old choice)) refl _ _ refl refl)

pub resolved_again : ChosenAreBeginnings → RestStaysQueued → SettledBalances → SomeGreatest → KeepsSoundness
    → (old new : Book) (reply : OwnReply) → IsSound old → is_done reply ≡ true → OwnStep old Resolve reply new
    → OwnStep new Resolve (Ok Nothing) new
resolved_again beginnings rest balances greatest sounds old new reply sound accepted s =
    let p = resolved_as old new reply s.0 accepted s.2 in
    subst (λ book. IsSound book → OwnStep book Resolve (Ok Nothing) book) (sym p.1)
    (λ sound_mid.
    let next = greatest (settle old (is_chosen old s.0)) sound_mid.floors in
    let none = none_left beginnings rest balances old s.0 next.0 sound sound_mid s.1 next.1.feasible in
    let open_still = (λ i. is_closed (settle-day old (is_chosen old s.0) i).phase) ∙ p.0 in (
      next.0,
      next.1,
      nothing_more (settle old (is_chosen old s.0)) next.0 open_still
          (none_chosen (settle old (is_chosen old s.0)) next.0 none),
    ))
    (sounds old new Resolve reply sound s)
