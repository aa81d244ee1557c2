-- Orders of one sender that come again, with nothing but orders of this sender between, change nothing, whatever they
-- were answered.
use Rattle.std.proofs.Common.{◌≡◌, ℕ, ◌≤◌, nat_le, Bool, true, false, not, ◌&&◌, ◌||◌, List, [], ◌∷◌, ◌++◌, length}
use Rattle.std.proofs.Common.{is_some, refl, sym, ap, ◌∙◌, subst, arith, ◌⊎◌, inl, inr, ℤ, pos, ◌-ℤ◌, ◌≤ℤ◌, int_le}
use Rattle.std.proofs.Common.{Option, Some, None, Err, find, unwrap_or, true≢false}
use Rattle.std.proofs.lemmas.Bool.{and_parts, and_from}
use Rattle.std.proofs.lemmas.Bool.Decides.{nat_tests}
use Rattle.std.proofs.lemmas.Int.{ints}
use Rattle.std.proofs.lemmas.List.{length-map}
use Rattle.std.proofs.lemmas.List.Folds.{list_any-append}
use Rattle.std.specs.List.{AllByRecursion, list_any}
use Rattle.std.specs.Option.{option_map}
use Rattle.std.specs.Str.{bytes_eq}
use Rattle.rtgs_book.specs.declared.book.Book.{Book}
use Rattle.rtgs_book.specs.declared.new_order.NewOrder.{NewOrder}
use Rattle.rtgs_book.specs.declared.order.Order.{Order}
use Rattle.rtgs_book.specs.declared.order_state.OrderState.TheVariants.{Settled}
use Rattle.rtgs_book.specs.declared.participant.Participant.{Participant}
use Rattle.rtgs_book.specs.declared.command.Command.{Command}
use Rattle.rtgs_book.specs.declared.command.Command.TheVariants.{Resolve, Order as PlaceOrder}
use Rattle.rtgs_book.specs.declared.refusal.Refusal.{Refusal}
use Rattle.rtgs_book.specs.declared.refusal.Refusal.TheVariants.{UnknownParticipant, ReferenceUsed, NotOpen}
use Rattle.rtgs_book.specs.declared.refusal.Refusal.TheVariants.{UnknownReceiver, SameParty, DueNotLater, Weekend}
use Rattle.rtgs_book.specs.declared.refusal.Refusal.TheVariants.{NumbersUsedUp, QueueFull}
use Rattle.rtgs_book.specs.declared.limits.TheConstants.{LONGEST_QUEUE, LARGEST_NUMBER}
use Rattle.rtgs_book.specs.Books.{is_automatic, is_open, is_empty}
use Rattle.rtgs_book.specs.Balance.{balance, floor, floor_at}
use Rattle.rtgs_book.specs.Choice.{chosen, is_chosen}
use Rattle.rtgs_book.specs.Commands.{is_same_order, settles_at_once, settles_now, taken_order, takes_due, is_later}
use Rattle.rtgs_book.specs.Commands.{order, is_due_too_early, is_due_on_a_weekend, known_order, resolve}
use Rattle.rtgs_book.specs.Lookup.{has_code, is_participant, participant_of, credit_of, order_named}
use Rattle.rtgs_book.specs.Queue.{queue, waiting}
use Rattle.rtgs_book.specs.Outcome.{OwnReply, Reply, Outcome, alone, is_done}
use Rattle.rtgs_book.specs.Run.{Run}
use Rattle.rtgs_book.specs.Settle.{restated, next_mark}
use Rattle.rtgs_book.specs.Soundness.{IsSound}
use Rattle.rtgs_book.specs.Step.{OwnStep, Ends, Step, is_followed, may_free}
use Rattle.rtgs_laws.specs.repeats.Kept.{AreKept}
use Rattle.rtgs_laws.specs.repeats.Batch.{IsOrderOf, IsNotFull, MayComeAgain}
use Rattle.rtgs_laws.proofs.NewOrders.{with_due}
use Rattle.rtgs_laws.proofs.repeats.Acted.{ordered_known, same_participant, there, not_accepted_order}
use Rattle.rtgs_laws.proofs.repeats.Days.{left_so}
use Rattle.rtgs_laws.proofs.repeats.Following.{IdleLeavesTheBook, idle, never, not_followed}
use Rattle.rtgs_laws.proofs.repeats.Kept.{by_settling, kept_through}
use Rattle.rtgs_laws.proofs.repeats.KeptSteps.{step_kept, kept_after, kept_itself}
use Rattle.rtgs_laws.proofs.repeats.Runs.{KeepsSoundness, StepKeepsSoundness}
use Rattle.rtgs_laws.proofs.repeats.Once.{or_second, recorded_kept}
use Rattle.rtgs_laws.proofs.repeats.Passing.{some_refuses, none_holds, last_holds, choose_book, after_tests}
use Rattle.rtgs_laws.proofs.repeats.Taken.{OrdersMove, SettlingMoves, Grows, takes_due_accepted, takes_due_leaves}
use Rattle.rtgs_laws.proofs.repeats.Taken.{grows}
use Rattle.rtgs_laws.proofs.repeats.Taken.{covers_less}

-- the tests of an order that last, whatever orders and resolutions come: each but that of the full queue
abbrev lasting_tests : Book → List ℕ → NewOrder → List (Bool × OwnReply)
lasting_tests book sender new_order =
    (not (is_participant book sender), Err UnknownParticipant)
    ∷ (
      is_same_order (order_named book sender new_order.reference) new_order,
      known_order (order_named book sender new_order.reference),
    )
    ∷ (is_some (order_named book sender new_order.reference), Err ReferenceUsed)
    ∷ (not (is_open book.day.phase), Err NotOpen)
    ∷ (not (is_participant book new_order.receiver), Err UnknownReceiver)
    ∷ (bytes_eq sender new_order.receiver, Err SameParty)
    ∷ (is_due_too_early book new_order.due, Err DueNotLater)
    ∷ (is_due_on_a_weekend new_order.due, Err Weekend)
    ∷ (nat_le LARGEST_NUMBER (length book.orders), Err NumbersUsedUp)
    ∷ []

-- one of them holds
abbrev pub is_stopped_for_good : Book → List ℕ → NewOrder → Bool
is_stopped_for_good book sender new_order =
    list_any (λ (row : Bool × OwnReply). row.0) (lasting_tests book sender new_order)

-- the test of the full queue holds, which comes last
abbrev pub is_queue_full : Book → List ℕ → NewOrder → Bool
is_queue_full book sender new_order =
    not (settles_now book sender new_order) && nat_le LONGEST_QUEUE (length (waiting book sender))

-- A test of the order holds that holds on, so that it changes nothing. That of the full queue is one where no
-- resolution makes room.
abbrev pub IsStopped : Book → List ℕ → NewOrder → Type 0
IsStopped book sender new_order =
    (is_stopped_for_good book sender new_order ≡ true)
    ⊎ ((is_automatic book.day ≡ false) × (is_queue_full book sender new_order ≡ true))

-- all tests, of which the last is apart
any_test : (tests : List (Bool × OwnReply)) (full : Bool)
    → list_any (λ (row : Bool × OwnReply). row.0) (tests ++ (full, Err QueueFull) ∷ [])
    ≡ (list_any (λ (row : Bool × OwnReply). row.0) tests || full)
any_test tests true = list_any-append (λ (row : Bool × OwnReply). row.0) tests ((true, Err QueueFull) ∷ [])
any_test tests false = list_any-append (λ (row : Bool × OwnReply). row.0) tests ((false, Err QueueFull) ∷ [])

-- no fewer orders of the sender are queued, no fewer wait, and its balance is no higher
record MakesNoRoom (sender : List ℕ) (old new : Book) : Type 0 where
  pub queued : length (queue old sender) ≤ length (queue new sender)
  pub waiting : length (waiting old sender) ≤ length (waiting new sender)
  pub cover : balance new sender ≤ℤ balance old sender

-- what orders of this sender alone leave
record Follows (sender : List ℕ) (old new : Book) : Type 0 where
  pub participants : new.participants ≡ old.participants
  pub day : new.day ≡ old.day
  pub orders : length old.orders ≤ length new.orders
  -- on an automatic day a resolution may make room
  pub plain : is_automatic old.day ≡ false → MakesNoRoom sender old new
  pub kept : AreKept old new

follows_itself : (sender : List ℕ) (book : Book) → Follows sender book book
follows_itself sender book = record {
  participants = refl;
  day = refl;
  orders = omega arith;
  plain = λ _. record { queued = omega arith; waiting = omega arith; cover = omega (arith, ints) };
  kept = kept_itself book;
}

follows_through : (sender : List ℕ) (old mid new : Book) → Follows sender old mid → Follows sender mid new
    → Follows sender old new
follows_through sender old mid new h k = record {
  participants = k.participants ∙ h.participants;
  day = k.day ∙ h.day;
  orders = let a = h.orders in let b = k.orders in omega arith;
  plain = λ automatic.
      let one = h.plain automatic in
      let other = k.plain ((λ i. is_automatic (h.day i)) ∙ automatic) in
      record {
        queued = let a = one.queued in let b = other.queued in omega arith;
        waiting = let a = one.waiting in let b = other.waiting in omega arith;
        cover = let a = one.cover in let b = other.cover in omega (arith, ints);
      };
  kept = kept_through old mid new h.kept k.kept;
}

-- ---- a test that holds holds later

or_weaker : (a b c d : Bool) → (a ≡ true → c ≡ true) → (b ≡ true → d ≡ true) → (a || b) ≡ true → (c || d) ≡ true
or_weaker true b c d f g e = rw (f refl) refl
or_weaker false b true d f g e = refl
or_weaker false b false d f g e = g e

more_orders : (a b : ℕ) → a ≤ b → nat_le LARGEST_NUMBER a ≡ true → nat_le LARGEST_NUMBER b ≡ true
more_orders a b le e = grind (arith, nat_tests)

more_waiting : (a b : ℕ) → a ≤ b → nat_le LONGEST_QUEUE a ≡ true → nat_le LONGEST_QUEUE b ≡ true
more_waiting a b le e = grind (arith, nat_tests)

empty_before : (a b : List Order) → length a ≤ length b → is_empty b ≡ true → is_empty a ≡ true
empty_before [] b le e = refl
empty_before (x ∷ a) [] le e = absurd (omega arith)
empty_before (x ∷ a) (y ∷ b) le e = e

covered_before : (floor old new : ℤ) (amount : ℕ) → new ≤ℤ old → int_le floor (new -ℤ pos amount) ≡ true
    → int_le floor (old -ℤ pos amount) ≡ true
covered_before floor old new amount le e = grind (arith, ints)

same_floor : (old new : Book) (code : List ℕ) → new.participants ≡ old.participants → new.day ≡ old.day
    → floor new code ≡ floor old code
unfolding floor credit_of participant_of
same_floor old new code participants day = λ i. floor_at (day i).phase
    (unwrap_or (option_map (λ (p : Participant). p.credit) (find (has_code code) (participants i))) 0)

-- an order that would settle now would have settled before
settled_before : (old new : Book) (sender : List ℕ) (amount : ℕ) → Follows sender old new
    → is_automatic old.day ≡ false → settles_at_once new sender amount ≡ true → settles_at_once old sender amount ≡ true
unfolding settles_at_once
settled_before old new sender amount f plain e =
    let none = f.plain plain in
    let parts = and_parts (is_empty (queue new sender)) _ e in
    let cover : int_le (floor old sender) (balance new sender -ℤ pos amount) ≡ true =
    subst (λ z. int_le z (balance new sender -ℤ pos amount) ≡ true) (same_floor old new sender f.participants f.day)
    parts.1 in
    and_from _ _ (empty_before (queue old sender) (queue new sender) none.queued parts.0)
    (covered_before (floor old sender) (balance old sender) (balance new sender) amount none.cover cover)

now_before : (old new : Book) (sender : List ℕ) (new_order : NewOrder) → Follows sender old new
    → is_automatic old.day ≡ false → settles_now new sender new_order ≡ true → settles_now old sender new_order ≡ true
now_before old new sender new_order f plain = by new_order.due
  where
    by : (due : Option ℕ) → settles_now new sender (with_due new_order due) ≡ true
        → settles_now old sender (with_due new_order due) ≡ true
    by None e = settled_before old new sender new_order.amount f plain e
    by (Some due) e = e

not_now : (a b : Bool) → (b ≡ true → a ≡ true) → not a ≡ true → not b ≡ true
not_now a false f e = refl
not_now true true f e = e
not_now false true f e = absurd (true≢false (sym (f refl)))

same_early : (old new : Book) (due : Option ℕ) → new.day ≡ old.day
    → is_due_too_early new due ≡ is_due_too_early old due
same_early old new None same = refl
same_early old new (Some due) same = λ i. not (is_later due (same i).date)

lasts : (old new : Book) (sender : List ℕ) (new_order : NewOrder) → Follows sender old new
    → is_stopped_for_good old sender new_order ≡ true
    → is_stopped_for_good new sender new_order ≡ true
lasts old new sender new_order f =
    or_weaker _ _ _ _ (λ e. ap not (same_participant old new sender f.participants) ∙ e)
    (or_weaker _ _ _ _ (recorded_kept old new (PlaceOrder sender new_order) f.kept)
    (or_weaker _ _ _ _ (λ e. let o = there (order_named old sender new_order.reference) e
    in ap is_some (f.kept.orders sender new_order.reference o.0 o.1).1)
    (or_weaker _ _ _ _ (λ e. (λ i. not (is_open (f.day i).phase)) ∙ e)
    (or_weaker _ _ _ _ (λ e. ap not (same_participant old new new_order.receiver f.participants) ∙ e)
    (or_weaker _ _ _ _ (λ e. e)
    (or_weaker _ _ _ _ (λ e. same_early old new new_order.due f.day ∙ e)
    (or_weaker _ _ _ _ (λ e. e)
    (or_weaker _ _ _ _ (more_orders (length old.orders) (length new.orders) f.orders)
    (λ e. e)))))))))

stays_full : (old new : Book) (sender : List ℕ) (new_order : NewOrder) → Follows sender old new
    → is_automatic old.day ≡ false → is_queue_full old sender new_order ≡ true
    → is_queue_full new sender new_order ≡ true
stays_full old new sender new_order f plain e =
    let parts = and_parts (not (settles_now old sender new_order))
    (nat_le LONGEST_QUEUE (length (waiting old sender))) e in
    and_from _ _ (not_now _ _ (now_before old new sender new_order f plain) parts.0)
    (more_waiting (length (waiting old sender)) (length (waiting new sender))
    (f.plain plain).waiting parts.1)

stopped_later : (old new : Book) (sender : List ℕ) (new_order : NewOrder)
    → Follows sender old new → IsStopped old sender new_order
    → IsStopped new sender new_order
stopped_later old new sender new_order f (inl e) =
    inl (lasts old new sender new_order f e)
stopped_later old new sender new_order f (inr e) =
    inr ((λ i. is_automatic (f.day i)) ∙ e.0, stays_full old new sender new_order f e.0 e.1)

-- ---- one order

either : (a b : Bool) → (a ≡ true) ⊎ (b ≡ true) → (a || b) ≡ true
either a b (inl e) = rw e refl
either true b (inr e) = refl
either false b (inr e) = e

one_holds : (book : Book) (sender : List ℕ) (new_order : NewOrder)
    → IsStopped book sender new_order
    → (is_stopped_for_good book sender new_order ≡ true)
    ⊎ (is_queue_full book sender new_order ≡ true)
one_holds book sender new_order (inl e) = inl e
one_holds book sender new_order (inr e) = inr e.1

-- it does not act
own_stays : (old new : Book) (sender : List ℕ) (new_order : NewOrder) (reply : OwnReply)
    → IsStopped old sender new_order
    → OwnStep old (PlaceOrder sender new_order) reply new → is_done reply ≡ false
unfolding order
own_stays old new sender new_order reply stopped s =
    ap (λ (o : Outcome). is_done o.reply) s ∙ some_refuses old _ _
    (refl, (not_accepted_order _, (refl, (refl, (refl, (refl, (refl, (refl, (refl, (refl, tt))))))))))
    (any_test (lasting_tests old sender new_order) (is_queue_full old sender new_order)
    ∙ either (is_stopped_for_good old sender new_order) (is_queue_full old sender new_order)
    (one_holds old sender new_order stopped))

stays : IdleLeavesTheBook → (old new : Book) (sender : List ℕ) (new_order : NewOrder)
    (reply : Reply) → IsStopped old sender new_order
    → Step old (PlaceOrder sender new_order) reply new → new ≡ old
stays leaves old new sender new_order reply stopped s =
    idle leaves old new (PlaceOrder sender new_order) reply s
    (own_stays old s.0.book sender new_order s.0.reply stopped s.1)

-- where no other test holds, the full queue is what it is answered
own_full : (old new : Book) (sender : List ℕ) (new_order : NewOrder) (reply : OwnReply)
    → is_stopped_for_good old sender new_order ≡ false
    → is_queue_full old sender new_order ≡ true
    → OwnStep old (PlaceOrder sender new_order) reply new → reply ≡ Err QueueFull
unfolding order
own_full old new sender new_order reply lasting full s = ap (λ (o : Outcome). o.reply)
    (s ∙ last_holds old (lasting_tests old sender new_order)
    (is_queue_full old sender new_order) (Err QueueFull) _ lasting full)

own_acts : (old new : Book) (sender : List ℕ) (new_order : NewOrder) (reply : OwnReply)
    → is_stopped_for_good old sender new_order ≡ false
    → is_queue_full old sender new_order ≡ false
    → OwnStep old (PlaceOrder sender new_order) reply new
    → record { reply = reply; book = new } ≡ takes_due old (taken_order old sender new_order)
    new_order.due
unfolding order
own_acts old new sender new_order reply lasting full s = s ∙ none_holds old _ _
    (any_test (lasting_tests old sender new_order) (is_queue_full old sender new_order)
    ∙ rw (lasting, full) refl)

-- a resolution restates orders, and adds none
own_resolution_long : (old new : Book) (reply : OwnReply) → OwnStep old Resolve reply new
    → length old.orders ≤ length new.orders
unfolding resolve
own_resolution_long old new reply s = subst (λ (o : Outcome). length old.orders ≤ length o.book.orders) (sym s.2)
    (after_tests (λ b. length old.orders ≤ length b.orders) old _ _ (omega arith)
    (λ _. choose_book (λ b. length old.orders ≤ length b.orders) (is_empty (chosen old s.0)) _ _ (omega arith)
    (by_settling (λ b. length old.orders ≤ length b.orders) old (is_chosen old s.0) (omega arith)
    (λ marks. let same = length-map old.orders (restated (is_chosen old s.0) (Settled (next_mark old)))
    in omega (arith, same)))))

ends_long : (b : Bool) (new : Book) (own : Outcome) (reply : Reply) → Ends b own reply new
    → length own.book.orders ≤ length new.orders
ends_long false new own reply e = subst (λ (x : Book). length own.book.orders ≤ length x.orders) (sym e.1) (omega arith)
ends_long true new own reply e = own_resolution_long own.book new e.0 e.1

-- the own reply of a refused command is the reply
refused_so : (old new : Book) (command : Command) (reply : Reply) (refusal : Refusal) → (s : Step old command reply new)
    → s.0.reply ≡ Err refusal → reply ≡ Err refusal
refused_so old new command reply refusal s e =
    (not_followed old new command reply s (never (may_free command) (is_done s.0.reply) (is_automatic s.0.book.day)
    (ap is_done e))).1 ∙ ap alone e

plain_step : (may done automatic : Bool) → automatic ≡ false → (may && done && automatic) ≡ false
plain_step true true automatic e = e
plain_step true false automatic e = refl
plain_step false done automatic e = refl

module _ (joins : OrdersMove) (settles : SettlingMoves) (sounds : KeepsSoundness) (leaves : IdleLeavesTheBook) where
  -- an order is stopped after it, and what came before follows
  after_order : (old new : Book) (sender : List ℕ) (new_order : NewOrder) (reply : Reply)
      → IsSound old → (is_automatic old.day ≡ true → IsNotFull reply)
      → Step old (PlaceOrder sender new_order) reply new
      → IsStopped new sender new_order × Follows sender old new
  after_order old new sender new_order reply h room s =
      by (is_stopped_for_good old sender new_order) refl (is_queue_full old sender new_order) refl
    where
      command : Command
      command = PlaceOrder sender new_order

      unchanged : IsStopped old sender new_order
          → IsStopped new sender new_order × Follows sender old new
      unchanged stopped =
          let same = stays leaves old new sender new_order reply stopped s in (
            subst (λ book. IsStopped book sender new_order) (sym same) stopped,
            subst (Follows sender old) (sym same) (follows_itself sender old),
          )

      full_now : is_stopped_for_good old sender new_order ≡ false
          → is_queue_full old sender new_order ≡ true → (b : Bool) → is_automatic old.day ≡ b
          → IsStopped old sender new_order
      full_now e k false plain = inr (plain, k)
      full_now e k true automatic = absurd (room automatic (refused_so old new command reply QueueFull s
          (own_full old s.0.book sender new_order s.0.reply e k s.1)))

      by : (lasting : Bool) → is_stopped_for_good old sender new_order ≡ lasting
          → (full : Bool) → is_queue_full old sender new_order ≡ full
          → IsStopped new sender new_order × Follows sender old new
      by true e full k = unchanged (inl e)
      by false e true k = unchanged (full_now e k (is_automatic old.day) refl)
      by false e false k =
          let took = own_acts old s.0.book sender new_order s.0.reply e k s.1 in
          let done = ap (λ (o : Outcome). is_done o.reply) took
          ∙ takes_due_accepted old (taken_order old sender new_order) new_order.due in
          let known = ordered_known old s.0.book s.0.reply sender new_order h done s.1 in
          let book = ap (λ (o : Outcome). o.book) took in
          let leaves = takes_due_leaves old (taken_order old sender new_order) new_order.due in
          let left = left_so old new command reply s in
          let long = ends_long (is_followed command s.0) new s.0 reply s.2 in
          let day : s.0.book.day ≡ old.day = (λ i. (book i).day) ∙ leaves.1 in
          let recorded = recorded_kept s.0.book new command (kept_after sounds old new command reply h s)
          (ap (λ found. is_same_order found new_order) known.1 ∙ known.2) in (
            inl (or_second _ _ _ recorded),
            record {
              participants = left.1 ∙ (λ i. (book i).participants) ∙ leaves.0;
              day = left.0 ∙ day;
              orders =
                  let more = subst (λ (b : Book). length old.orders ≤ length b.orders) (sym book) leaves.2 in
                  omega (arith, more, long);
              plain = λ plain.
                  let same = (not_followed old new command reply s (plain_step (may_free command) (is_done s.0.reply)
                  (is_automatic s.0.book.day) ((λ i. is_automatic (day i)) ∙ plain))).0 ∙ book in
                  let more = subst (Grows sender old) (sym same)
                  (grows old sender new_order new_order.due sender h.orders_numbered) in
                  record {
                    queued = more.0;
                    waiting = more.1;
                    cover = subst (λ (b : Book). balance b sender ≤ℤ balance old sender) (sym same)
                        (covers_less joins settles old sender new_order h.orders_numbered new_order.due);
                  };
              kept = step_kept sounds old new command reply h s;
            },
          )

-- ---- a list

-- the command is an order of this sender that a test stops
abbrev Stopped : List ℕ → Book → Command → Type 0
Stopped sender book (PlaceOrder other new_order) = (other ≡ sender)
    × IsStopped book other new_order
Stopped sender book other = ⊥

stopped_after : (sender : List ℕ) (old new : Book) (command : Command) → Follows sender old new
    → Stopped sender old command → Stopped sender new command
stopped_after sender old new (PlaceOrder other new_order) f h =
    (h.0, stopped_later old new other new_order (subst (λ s. Follows s old new) (sym h.0) f) h.1)
stopped_after sender old new other f h = absurd h

module _ (joins : OrdersMove) (settles : SettlingMoves) (own : KeepsSoundness) (leaves : IdleLeavesTheBook)
    (law : StepKeepsSoundness) (sender : List ℕ) where
  after_one : (old new : Book) (command : Command) (reply : Reply) → IsSound old → IsOrderOf sender command
      → (is_automatic old.day ≡ true → IsNotFull reply) → Step old command reply new
      → Stopped sender new command × Follows sender old new
  after_one old new (PlaceOrder other new_order) reply h is room s =
      let one = after_order joins settles own leaves old new other new_order reply h room s in
      ((is, one.0), subst (λ s. Follows s old new) is one.1)
  after_one old new other reply h is room s = absurd is

  after_all : (old new : Book) (commands : List Command) (replies : List Reply) → IsSound old
      → AllByRecursion (IsOrderOf sender) commands → MayComeAgain old replies → Run old commands replies new
      → AllByRecursion (Stopped sender new) commands × Follows sender old new
  after_all old new [] [] h is may r = (tt, subst (Follows sender old) (sym r) (follows_itself sender old))
  after_all old new [] (reply ∷ replies) h is may r = absurd r
  after_all old new (command ∷ commands) [] h is may r = absurd r
  after_all old new (command ∷ commands) (reply ∷ replies) h is may r =
      let one = after_one old r.0 command reply h is.0 (λ automatic. (may automatic).0) r.1 in
      let rest = after_all r.0 new commands replies (law old r.0 command reply h r.1) is.1
      (λ automatic. (may ((λ i. is_automatic (sym one.1.day i)) ∙ automatic)).1) r.2 in (
        (stopped_after sender r.0 new command rest.1 one.0, rest.0),
        follows_through sender old r.0 new one.1 rest.1,
      )

stays_one : IdleLeavesTheBook → (sender : List ℕ) (old new : Book) (command : Command) (reply : Reply)
    → Stopped sender old command → Step old command reply new → new ≡ old
stays_one leaves sender old new (PlaceOrder other new_order) reply h s =
    stays leaves old new other new_order reply h.1 s
stays_one leaves sender old new other reply h s = absurd h

stays_all : IdleLeavesTheBook → (sender : List ℕ) (old new : Book) (commands : List Command) (replies : List Reply)
    → AllByRecursion (Stopped sender old) commands → Run old commands replies new → new ≡ old
stays_all leaves sender old new [] [] h r = r
stays_all leaves sender old new [] (reply ∷ replies) h r = absurd r
stays_all leaves sender old new (command ∷ commands) [] h r = absurd r
stays_all leaves sender old new (command ∷ commands) (reply ∷ replies) h r =
    let same = stays_one leaves sender old r.0 command reply h.0 r.1 in
    stays_all leaves sender old new commands replies h.1 (subst (λ b. Run b commands replies new) same r.2)

-- ---- a batch that stopped

abbrev pub StepIsDetermined : Type 0
StepIsDetermined = (old new last : Book) (command : Command) (reply other : Reply) → Step old command reply new
    → Step old command other last → (reply ≡ other) × (new ≡ last)

run_determined : StepIsDetermined → (old new last : Book) (commands : List Command) (replies others : List Reply)
    → Run old commands replies new → Run old commands others last → new ≡ last
run_determined law old new last [] [] [] r k = r ∙ sym k
run_determined law old new last [] [] (other ∷ others) r k = absurd k
run_determined law old new last [] (reply ∷ replies) others r k = absurd r
run_determined law old new last (command ∷ commands) [] others r k = absurd r
run_determined law old new last (command ∷ commands) (reply ∷ replies) [] r k = absurd k
run_determined law old new last (command ∷ commands) (reply ∷ replies) (other ∷ others) r k =
    let same = (law old r.0 k.0 command reply other r.1 k.1).1 in
    run_determined law k.0 new last commands replies others (subst (λ b. Run b commands replies new) same r.2) k.2

-- a run of two lists, one after the other
pub run_parts : (old new : Book) (first rest : List Command) (replies : List Reply)
    → Run old (first ++ rest) replies new → (mid : Book) × (one : List Reply) × (two : List Reply)
    × Run old first one mid × Run mid rest two new
run_parts old new [] rest replies r = (old, [], replies, refl, r)
run_parts old new (command ∷ first) rest [] r = absurd r
run_parts old new (command ∷ first) rest (reply ∷ replies) r =
    let k = run_parts r.0 new first rest replies r.2 in
    (k.0, reply ∷ k.1, k.2, (r.0, r.1, k.3), k.4)

all_left : {X : Type 0} (P : X → Type 0) (xs ys : List X) → AllByRecursion P (xs ++ ys) → AllByRecursion P xs
all_left P [] ys h = tt
all_left P (x ∷ xs) ys h = (h.0, all_left P xs ys h.1)

module _ (joins : OrdersMove) (settles : SettlingMoves) (own : KeepsSoundness) (leaves : IdleLeavesTheBook)
    (sounds : StepKeepsSoundness) (determined : StepIsDetermined) where
  pub resumed : (old mid last end : Book) (sender : List ℕ) (first rest : List Command) (one two three : List Reply)
      → IsSound old → AllByRecursion (IsOrderOf sender) (first ++ rest) → MayComeAgain old one
      → Run old first one mid → Run mid (first ++ rest) two last → Run old (first ++ rest) three end → last ≡ end
  resumed old mid last end sender first rest one two three h is may r s t =
      let again = run_parts mid last first rest two s in
      let whole = run_parts old end first rest three t in
      let stopped = (after_all joins settles own leaves sounds sender old mid first one h
      (all_left (IsOrderOf sender) first rest is) may r).0 in
      let stayed = stays_all leaves sender mid again.0 first again.1 stopped again.3 in
      let there = run_determined determined old whole.0 mid first whole.1 one whole.3 r in
      run_determined determined again.0 last end rest again.2 whole.2 again.4
      (subst (λ b. Run b rest whole.2 end) (there ∙ sym stayed) whole.4)
