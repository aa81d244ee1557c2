-- After a resolution there is nothing more to settle: the book is calm.
use Rattle.std.proofs.Common.{◌≡◌, ℕ, zero, suc, ◌≤◌, ◌+◌, ℤ, ◌+ℤ◌, ◌≤ℤ◌, nat_lt, Bool, true, false, cond, not}
use Rattle.std.proofs.Common.{◌&&◌, List}
use Rattle.std.proofs.Common.{[], ◌∷◌, map, filter, length, take, drop, Option, Some, None, refl, sym, ap}
use Rattle.std.proofs.Common.{◌∙◌, subst, true≢false}
use Rattle.std.proofs.Common.{⊎_elim, arith}
use Rattle.std.proofs.lemmas.Int.{ints}
use Rattle.std.proofs.lemmas.List.{length-drop}
use Rattle.std.proofs.Math.Seq.{take-add}
use Rattle.std.specs.List.{AllByRecursion, list_any}
use Rattle.std.specs.Str.{bytes_eq}
use Rattle.rtgs_book.specs.declared.book.Book.{Book}
use Rattle.rtgs_book.specs.declared.participant.Participant.{Participant}
use Rattle.rtgs_book.specs.declared.order.Order.{Order}
use Rattle.rtgs_book.specs.declared.command.Command.{Command}
use Rattle.rtgs_book.specs.declared.command.Command.TheVariants.{Add, SetCredit, Post, OpenDay, Order as PlaceOrder}
use Rattle.rtgs_book.specs.declared.command.Command.TheVariants.{Withdraw, Resolve, CutOff, CloseDay}
use Rattle.rtgs_book.specs.declared.phase.Phase.TheVariants as phase
use Rattle.rtgs_book.specs.Books.{is_automatic, is_closed, is_empty, is_queued}
use Rattle.rtgs_book.specs.Balance.{balance, floor, gain}
use Rattle.rtgs_book.specs.Calm.{IsCalm}
use Rattle.rtgs_book.specs.Choice.{Choice, is_chosen, chosen, balance_after, IsFeasible, IsGreatest}
use Rattle.rtgs_book.specs.Commands.{add, set_credit, post, open_day, order, withdraw, resolve, cut_off, close_day}
use Rattle.rtgs_book.specs.Commands.{with_participant, with_day, takes, takes_due, settles_at_once, taken_order}
use Rattle.rtgs_book.specs.IntSum.{int_sum_by}
use Rattle.rtgs_book.specs.Lookup.{has_code, codes_of, is_participant, credit_of, participant_of}
use Rattle.rtgs_book.specs.Outcome.{OwnReply, Reply, Outcome, first_of, is_done}
use Rattle.rtgs_book.specs.Run.{Run}
use Rattle.rtgs_book.specs.Queue.{queue, orders_before}
use Rattle.rtgs_book.specs.Settle.{settle}
use Rattle.rtgs_book.specs.Soundness.{OrdersAreNumbered, has_parties, IsSound}
use Rattle.rtgs_book.specs.Step.{Gives, OwnStep, Ends, Step, is_followed}
use Rattle.rtgs_laws.proofs.BookLaws.{BookLaws}
use Rattle.rtgs_laws.proofs.Lists.{find_none}
use Rattle.rtgs_laws.proofs.Lifting.{StepKeepsSoundness}
use Rattle.rtgs_laws.proofs.SoundAdd.{feasible_before}
use Rattle.rtgs_laws.proofs.SoundDays.{open_not_closed}
use Rattle.rtgs_laws.proofs.Steps.{GreatestExists}
use Rattle.rtgs_lists.proofs.Bools.{from_not}
use Rattle.rtgs_laws.proofs.Outcomes.{first_of_cases}
use Rattle.rtgs_laws.proofs.Settling.{settled_either}
use Rattle.rtgs_laws.proofs.Sound.{KeepsSoundness}
use Rattle.rtgs_laws.proofs.Sums.{sent_by, by_senders}
use Rattle.rtgs_lists.proofs.Lists.{all_filter, all_weaker}
use Rattle.rtgs_lists.proofs.Sums.{int_sum_by-append, int_sum_by-both, int_sum_by-same}
use Rattle.rtgs_lists.proofs.Bools.{first_of_three}
use Rattle.rtgs_lists.proofs.Numbers.{lt_zero}

abbrev pub ChosenAreBeginnings : Type 0
ChosenAreBeginnings = (book : Book) (choice : Choice) (code : List ℕ) → OrdersAreNumbered book
    → sent_by code (chosen book choice) ≡ take (choice code) (queue book code)

abbrev pub RestStaysQueued : Type 0
RestStaysQueued = (book : Book) (choice : Choice) (code : List ℕ) → OrdersAreNumbered book
    → queue (settle book (is_chosen book choice)) code ≡ drop (choice code) (queue book code)

abbrev pub SettledBalances : Type 0
SettledBalances = (book : Book) (choice : Choice) (code : List ℕ)
    → balance (settle book (is_chosen book choice)) code ≡ balance_after book choice code

-- a sum over what is chosen is the sum over the beginnings of all queues
pub by_queues : ChosenAreBeginnings → (book : Book) (choice : Choice) (f : Order → ℤ) → IsSound book
    → int_sum_by f (chosen book choice) ≡ int_sum_by (λ code. int_sum_by f (take (choice code) (queue book code)))
    (codes_of book)
unfolding chosen is_participant
by_queues law book choice f h =
    sym (by_senders (codes_of book) h.codes_rise.0 f (chosen book choice)
    (all_filter _ (is_chosen book choice) book.orders (all_weaker (λ o. has_parties book o ≡ true)
    (λ (o : Order). list_any (bytes_eq o.sender) (codes_of book) ≡ true) (λ o e. first_of_three _ _ _ e) book.orders
    h.parties.0)))
    ∙ int_sum_by-same _ _ (λ code. ap (int_sum_by f) (law book choice code h.orders_numbered)) (codes_of book)

settle-day : (book : Book) (is_in : Order → Bool) → (settle book is_in).day ≡ book.day
settle-day book is_in = settled_either (λ new. new.day ≡ book.day) book is_in refl (λ _. refl)

settle-participants : (book : Book) (is_in : Order → Bool) → (settle book is_in).participants ≡ book.participants
settle-participants book is_in = settled_either (λ new. new.participants ≡ book.participants) book is_in refl
    (λ _. refl)

same_accounts : (old new : Book) → new.participants ≡ old.participants → codes_of new ≡ codes_of old
unfolding codes_of
same_accounts old new same = ap (map (λ (p : Participant). p.code)) same

same_floor : (old new : Book) (code : List ℕ) → new.participants ≡ old.participants → new.day ≡ old.day
    → floor new code ≡ floor old code
unfolding floor credit_of participant_of
same_floor old new code same day i = floor (record old { participants = same i; day = day i }) code

module _ (beginnings : ChosenAreBeginnings) (rest : RestStaysQueued) (balances : SettledBalances) (old : Book)
    (choice next : Choice) (sound : IsSound old) where
  abbrev mid : Book
  mid = settle old (is_chosen old choice)

  -- what is chosen now and what was chosen before, together
  abbrev together : Choice
  together code = choice code + next code

  part : (f : Order → ℤ) (code : List ℕ) → int_sum_by f (take (together code) (queue old code))
      ≡ int_sum_by f (take (choice code) (queue old code)) +ℤ int_sum_by f (take (next code) (queue mid code))
  part f code =
      ap (int_sum_by f) (take-add (choice code) (next code) (queue old code))
      ∙ int_sum_by-append f (take (choice code) (queue old code))
      (take (next code) (drop (choice code) (queue old code)))
      ∙ (λ i. int_sum_by f (take (choice code) (queue old code)) +ℤ int_sum_by f
      (take (next code) (sym (rest old choice code sound.orders_numbered) i)))

  module _ (sound_mid : IsSound mid) where
    sums : (f : Order → ℤ) → int_sum_by f (chosen old together)
        ≡ int_sum_by f (chosen old choice) +ℤ int_sum_by f (chosen mid next)
    sums f =
        by_queues beginnings old together f sound
        ∙ int_sum_by-same _ _ (part f) (codes_of old)
        ∙ int_sum_by-both (λ code. int_sum_by f (take (choice code) (queue old code)))
        (λ code. int_sum_by f (take (next code) (queue mid code))) (codes_of old)
        ∙ (λ i. sym (by_queues beginnings old choice f sound) i +ℤ later i)
      where
        later : int_sum_by (λ code. int_sum_by f (take (next code) (queue mid code))) (codes_of old)
            ≡ int_sum_by f (chosen mid next)
        later = ap (int_sum_by (λ code. int_sum_by f (take (next code) (queue mid code))))
            (sym (same_accounts old mid (settle-participants old (is_chosen old choice))))
            ∙ sym (by_queues beginnings mid next f sound_mid)

    same_after : (code : List ℕ) → balance_after old together code ≡ balance_after mid next code
    unfolding balance_after
    same_after code =
        let sum = sums (gain code) in
        let here = balances old choice code in
        shift (balance old code) _ _ _ _ sum here
      where
        shift : (b s c d e : ℤ) → s ≡ c +ℤ d → e ≡ b +ℤ c → b +ℤ s ≡ e +ℤ d
        shift b s c d e f g = omega (arith, ints)

    feasible : IsFeasible old choice → IsFeasible mid next → IsFeasible old together
    feasible h k = record {
      within = λ code.
          let a = h.within code in
          let b = k.within code in
          let c = ap length (rest old choice code sound.orders_numbered) ∙ length-drop (choice code) (queue old code) in
          omega arith;
      covered = subst (AllByRecursion (λ code. floor old code ≤ℤ balance_after old together code))
          (same_accounts old mid (settle-participants old (is_chosen old choice)))
          (all_weaker (λ code. floor mid code ≤ℤ balance_after mid next code)
          (λ code. floor old code ≤ℤ balance_after old together code)
          (λ code le. moved code le) (codes_of mid) k.covered);
    }
      where
        moved : (code : List ℕ) → floor mid code ≤ℤ balance_after mid next code
            → floor old code ≤ℤ balance_after old together code
        moved code le =
            subst (λ f. f ≤ℤ balance_after old together code)
            (same_floor old mid code (settle-participants old (is_chosen old choice))
            (settle-day old (is_chosen old choice)))
            (subst (λ b. floor mid code ≤ℤ b) (sym (same_after code)) le)

    pub none_left : IsGreatest old choice → IsFeasible mid next → (code : List ℕ) → next code ≡ 0
    none_left h k code = let le = h.largest together (feasible h.feasible k) code in omega arith

none_in : {X : Type 0} (p : X → Bool) → ((x : X) → p x ≡ false) → (xs : List X) → is_empty (filter p xs) ≡ true
none_in p none [] = refl
none_in p none (x ∷ xs) = rw (none x) (none_in p none xs)

none_chosen : (book : Book) (choice : Choice) → ((code : List ℕ) → choice code ≡ 0)
    → is_empty (chosen book choice) ≡ true
unfolding chosen is_chosen
none_chosen book choice none = none_in _ (λ o. none_here (is_queued o) _
    (ap (nat_lt (orders_before book o)) (none o.sender) ∙ lt_zero (orders_before book o))) book.orders
  where
    none_here : (a b : Bool) → b ≡ false → (a && b) ≡ false
    none_here true b e = e
    none_here false b e = refl

-- what a resolution leaves, also where it settles nothing
settled : (book : Book) (choice : Choice) (b : Bool) → is_empty (chosen book choice) ≡ b → (one other : Outcome)
    → one.book ≡ book → other.book ≡ settle book (is_chosen book choice)
    → (cond b one other).book ≡ settle book (is_chosen book choice)
unfolding settle chosen
settled book choice true e one other f g = rw e f
settled book choice false e one other f g = g

-- ---- a command by itself that did not act

quiet_first : (book : Book) (rows : List (Bool × OwnReply)) (outcome found : Outcome) → is_done outcome.reply ≡ true
    → found ≡ first_of book rows outcome → is_done found.reply ≡ false → found.book ≡ book
quiet_first book rows outcome found done e quiet =
    ⊎_elim (λ same. ap (λ (o : Outcome). o.book) e ∙ same)
    (λ passed. absurd (true≢false (sym done ∙ ap (λ (o : Outcome). is_done o.reply) (sym (e ∙ passed.1)) ∙ quiet)))
    (first_of_cases book rows outcome)

done_either : (b : Bool) (x y : Outcome) → is_done x.reply ≡ true → is_done y.reply ≡ true
    → is_done (cond b x y).reply ≡ true
done_either true x y h k = h
done_either false x y h k = k

taken_done : (book : Book) (o : Order) (due : Option ℕ) → is_done (takes_due book o due).reply ≡ true
unfolding takes
taken_done book o None = done_either (settles_at_once book o.sender o.amount) _ _ refl refl
taken_done book o (Some due) = refl

-- it leaves the book as it is
pub own_quiet : (old new : Book) (command : Command) (reply : OwnReply) → OwnStep old command reply new
    → is_done reply ≡ false → new ≡ old
unfolding add set_credit post open_day order withdraw cut_off resolve close_day
own_quiet old new (Add code name key) reply s q =
    quiet_first old _ _ (record { reply = reply; book = new }) refl s q
own_quiet old new (SetCredit code credit) reply s q =
    quiet_first old _ _ (record { reply = reply; book = new }) refl s q
own_quiet old new (Post code reference cents) reply s q =
    quiet_first old _ _ (record { reply = reply; book = new }) refl s q
own_quiet old new (OpenDay new_day) reply s q =
    quiet_first old _ _ (record { reply = reply; book = new }) refl s q
own_quiet old new (PlaceOrder sender new_order) reply s q = quiet_first old _ _
    (record { reply = reply; book = new }) (taken_done old (taken_order old sender new_order) new_order.due) s q
own_quiet old new (Withdraw sender reference) reply s q =
    quiet_first old _ _ (record { reply = reply; book = new }) refl s q
own_quiet old new Resolve reply s q = quiet_first old _ _ (record { reply = reply; book = new })
    (done_either (is_empty (chosen old s.0)) _ _ refl refl) s.2 q
own_quiet old new (CutOff date) reply s q = quiet_first old _ _ (record { reply = reply; book = new }) refl s q
own_quiet old new (CloseDay date) reply s q = quiet_first old _ _ (record { reply = reply; book = new }) refl s.2 q

-- ---- no choice that was not there before

none_taken : {X : Type 0} (n : ℕ) (xs : List X) → take n xs ≡ [] → n ≤ length xs → n ≡ 0
none_taken zero xs e le = refl
none_taken (suc n) [] e le = absurd (omega arith)
none_taken (suc n) (x ∷ xs) e le = absurd (let f : x ∷ take n xs ≡ [] = e in cc)

nothing_in : {X : Type 0} (xs : List X) → is_empty xs ≡ true → xs ≡ []
nothing_in [] e = refl
nothing_in (x ∷ xs) e = absurd (true≢false (sym e))

-- a calm book stays calm where each feasible choice of the new book is one of the old
pub calm_from : ChosenAreBeginnings → GreatestExists → (old new : Book) → IsSound old
    → (is_automatic new.day ≡ true → is_automatic old.day ≡ true)
    → ((choice : Choice) → IsFeasible new choice → IsFeasible old choice) → IsCalm old → IsCalm new
calm_from beginnings exists old new sound automatic before calm now choice greatest =
    let g = exists old sound.floors in
    let none = nothing_in (chosen old g.0) (calm (automatic now) g.0 g.1) in
    none_chosen new choice (λ code.
    let zero_there = none_taken (g.0 code) (queue old code)
    (sym (beginnings old g.0 code sound.orders_numbered) ∙ ap (sent_by code) none) (g.1.feasible.within code) in
    let le = g.1.largest choice (before choice greatest.feasible) code in omega arith)

-- ---- calm books

-- what a resolution leaves is calm, whatever was before
module _ (beginnings : ChosenAreBeginnings) (rest : RestStaysQueued) (balances : SettledBalances)
    (sounds : KeepsSoundness) where
  settled_calm : (old : Book) (choice : Choice) → IsSound old → IsGreatest old choice
      → IsSound (settle old (is_chosen old choice)) → IsCalm (settle old (is_chosen old choice))
  settled_calm old choice sound greatest sound_mid automatic next is_next =
      none_chosen (settle old (is_chosen old choice)) next
      (none_left beginnings rest balances old choice next sound sound_mid greatest is_next.feasible)

  closed_calm : (book : Book) → is_closed book.day.phase ≡ true → IsCalm book
  closed_calm book closed automatic = absurd (true≢false (sym automatic ∙ never book.day.automatic _ closed))
    where
      never : (a b : Bool) → b ≡ true → (a && not b) ≡ false
      never true b e = ap not e
      never false b e = refl

  resolved_calm : (old : Book) (choice : Choice) → IsSound old → IsGreatest old choice
      → IsSound (resolve old choice).book → IsCalm (resolve old choice).book
  unfolding resolve first_of
  resolved_calm old choice sound greatest = by (is_closed old.day.phase) refl
    where
      by : (b : Bool) → is_closed old.day.phase ≡ b → IsSound (resolve old choice).book
          → IsCalm (resolve old choice).book
      by true closed = rw closed (λ _. closed_calm old closed)
      by false opened = rw opened (subst (λ book. IsSound book → IsCalm book)
          (sym (settled old choice (is_empty (chosen old choice)) refl _ _ refl refl))
          (settled_calm old choice sound greatest))

  own_resolved_calm : (old new : Book) (reply : OwnReply) → IsSound old → OwnStep old Resolve reply new → IsCalm new
  own_resolved_calm old new reply sound s =
      let sound_new = sounds old new Resolve reply sound s in
      let same = ap (λ (o : Outcome). o.book) s.2 in
      subst IsCalm (sym same) (resolved_calm old s.0 sound s.1 (subst IsSound same sound_new))

  -- where a resolution followed, the book is calm, whatever it was before
  pub followed_calm : (old new : Book) (command : Command) (reply : Reply) → IsSound old
      → (s : Step old command reply new) → is_followed command s.0 ≡ true → IsCalm new
  followed_calm old new command reply sound s followed = by (is_followed command s.0) followed s.2
    where
      by : (b : Bool) → b ≡ true → Ends b s.0 reply new → IsCalm new
      by true e ends = own_resolved_calm s.0.book new ends.0 (sounds old s.0.book command s.0.reply sound s.1) ends.1
      by false e ends = absurd (true≢false (sym e))

-- ---- the day

cut_feasible : (old : Book) (choice : Choice) → is_closed old.day.phase ≡ false
    → IsFeasible (with_day old (record old.day { phase = phase.CutOff })) choice → IsFeasible old choice
unfolding balance_after chosen is_chosen orders_before queue balance floor credit_of participant_of codes_of
cut_feasible old choice opened f = record {
  within = f.within;
  covered = all_weaker _ _ (λ code x. rw opened x) (codes_of old) f.covered;
}

-- ---- each command

module _ (laws : BookLaws) (beginnings : ChosenAreBeginnings) (rest : RestStaysQueued) (balances : SettledBalances)
    (exists : GreatestExists) (sounds : KeepsSoundness) where
  same_day : (old : Book) (p : Participant) → (with_participant old p).day ≡ old.day
  unfolding with_participant
  same_day old p = refl

  added_calm : (old : Book) (code name key : List ℕ) → IsSound old → IsCalm old → IsCalm (add old code name key).book
  unfolding add participant_of
  added_calm old code name key sound calm =
      ⊎_elim (λ same. subst IsCalm (sym same) calm)
      (λ passed. subst (λ (o : Outcome). IsCalm o.book) (sym passed.1)
      (calm_from beginnings exists old _ sound (λ e. sym (ap is_automatic (same_day old _)) ∙ e)
      (feasible_before laws old code name key sound
      (find_none (has_code code) old.participants passed.0.1.0)) calm))
      (first_of_cases old _ _)

  cut_calm : (old : Book) (date : ℕ) → IsSound old → IsCalm old → IsCalm (cut_off old date).book
  unfolding cut_off
  cut_calm old date sound calm =
      ⊎_elim (λ same. subst IsCalm (sym same) calm)
      (λ passed. subst (λ (o : Outcome). IsCalm o.book) (sym passed.1)
      (let opened = open_not_closed old.day.phase (from_not _ passed.0.1.0) in
      calm_from beginnings exists old _ sound (λ e. rw opened e) (λ choice. cut_feasible old choice opened) calm))
      (first_of_cases old _ _)

  close_calm : (old : Book) (choice : Choice) (date : ℕ) → IsCalm old → IsCalm (close_day old choice date).book
  unfolding close_day
  close_calm old choice date calm =
      ⊎_elim (λ same. subst IsCalm (sym same) calm)
      (λ passed. subst (λ (o : Outcome). IsCalm o.book) (sym passed.1)
      (closed_calm beginnings rest balances sounds _ refl))
      (first_of_cases old _ _)

  free_calm : (old : Book) (own : Outcome) (command : Command) → IsCalm old → OwnStep old command own.reply own.book
      → (is_done own.reply && is_automatic own.book.day) ≡ false → IsCalm own.book
  free_calm old own command calm s e = by (is_done own.reply) refl e
    where
      by : (b : Bool) → is_done own.reply ≡ b → (b && is_automatic own.book.day) ≡ false → IsCalm own.book
      by true done k = λ now. absurd (true≢false (sym now ∙ k))
      by false quiet k = subst IsCalm (sym (own_quiet old own.book command own.reply s quiet)) calm

  ends_calm : (o : Outcome) (own : Outcome) → own ≡ o → IsCalm o.book → IsCalm own.book
  ends_calm o own e h = subst (λ (x : Outcome). IsCalm x.book) (sym e) h

  own_calm : (old : Book) (own : Outcome) (command : Command) → IsSound old → IsCalm old → Gives old command own
      → is_followed command own ≡ false → IsCalm own.book
  own_calm old own (Add code name key) sound calm s e = ends_calm _ own s (added_calm old code name key sound calm)
  own_calm old own (SetCredit code credit) sound calm s e = free_calm old own (SetCredit code credit) calm s e
  own_calm old own (Post code reference cents) sound calm s e = free_calm old own (Post code reference cents) calm s e
  own_calm old own (OpenDay new_day) sound calm s e = free_calm old own (OpenDay new_day) calm s e
  own_calm old own (PlaceOrder sender new_order) sound calm s e =
      free_calm old own (PlaceOrder sender new_order) calm s e
  own_calm old own (Withdraw sender reference) sound calm s e = free_calm old own (Withdraw sender reference) calm s e
  own_calm old own Resolve sound calm s e =
      own_resolved_calm beginnings rest balances sounds old own.book own.reply sound s
  own_calm old own (CutOff date) sound calm s e = ends_calm _ own s (cut_calm old date sound calm)
  own_calm old own (CloseDay date) sound calm s e = ends_calm _ own s.2 (close_calm old s.0 date calm)

  -- a calm book stays calm
  pub step_calm : (old new : Book) (command : Command) (reply : Reply) → IsSound old → IsCalm old
      → Step old command reply new → IsCalm new
  step_calm old new command reply sound calm s = by (is_followed command s.0) refl s.2
    where
      by : (b : Bool) → is_followed command s.0 ≡ b → Ends b s.0 reply new → IsCalm new
      by true e ends = own_resolved_calm beginnings rest balances sounds s.0.book new ends.0
          (sounds old s.0.book command s.0.reply sound s.1) ends.1
      by false e ends = subst IsCalm (sym ends.1) (own_calm old s.0 command sound calm s.1 e)

pub run_calm : ((old new : Book) (command : Command) (reply : Reply) → IsSound old → IsCalm old
    → Step old command reply new → IsCalm new) → StepKeepsSoundness → (old new : Book) (commands : List Command)
    (replies : List Reply) → IsSound old → IsCalm old → Run old commands replies new → IsCalm new
run_calm calms keeps old new [] [] h calm r = subst IsCalm (sym r) calm
run_calm calms keeps old new [] (reply ∷ replies) h calm r = absurd r
run_calm calms keeps old new (command ∷ commands) [] h calm r = absurd r
run_calm calms keeps old new (command ∷ commands) (reply ∷ replies) h calm r =
    run_calm calms keeps r.0 new commands replies (keeps old r.0 command reply h r.1)
    (calms old r.0 command reply h calm r.1) r.2
