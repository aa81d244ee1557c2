-- What rows do to what the resolver is given, and to the limits of the queues.
use Rattle.std.proofs.Common.{◌≡◌, ℕ, ◌<◌, ℤ, ◌-ℤ◌, ◌<ℤ◌, ◌≤ℤ◌, Bool, true, false, cond, eqb, List, [], ◌∷◌, ◌++◌, map}
use Rattle.std.proofs.Common.{length, get_or, slice_index, refl, sym, ap, ◌∙◌, subst, inl, inr, pos, ◌+◌, ◌+ℤ◌, arith}
use Rattle.std.proofs.Common.{Option, Some, None, IfSome}
use Rattle.std.proofs.lemmas.Int.{ints}
use Rattle.std.proofs.lemmas.Bool.{cases_lt}
use Rattle.std.proofs.lemmas.List.{length-map, get_or-map, get_or_append_left, get_or_push}
use Rattle.std.specs.List.{All, AllByRecursion, position_or_len}
use Rattle.std.specs.Str.{bytes_eq}
use Rattle.rtgs_book.specs.declared.account.Account.{Account}
use Rattle.rtgs_book.specs.declared.book.Book.{Book}
use Rattle.rtgs_book.specs.declared.change.RowChange.{RowChange}
use Rattle.rtgs_book.specs.declared.change.RowChange.TheVariants.{AddParticipant, AddPosting, AddOrder, AddMark}
use Rattle.rtgs_book.specs.declared.change.RowChange.TheVariants.{SetCredit, SetBalance, SetState, EnterQueue, SetDay}
use Rattle.rtgs_book.specs.declared.cores.cores.Core.{Core}
use Rattle.rtgs_book.specs.declared.day.Day.{Day}
use Rattle.rtgs_book.specs.declared.order.Order.{Order}
use Rattle.rtgs_book.specs.declared.phase.Phase.{Phase}
use Rattle.rtgs_book.specs.Books.{is_queued, is_waiting}
use Rattle.rtgs_book.specs.Queue.{queued_among}
use Rattle.rtgs_book.specs.cores.Following.{core_after, core_after_row, limited, rebalanced, is_of}
use Rattle.rtgs_gridlock.specs.declared.positions.Position.{Position}
use Rattle.rtgs_gridlock.specs.declared.queues.Payment.{Payment}
use Rattle.rtgs_gridlock.specs.Choices.{position_of, queue_of}
use Rattle.rtgs_gridlock.specs.Slack.{AreAtMost, AreBelow, IsCeiling, headroom_of, risen}
use Rattle.rtgs_records.specs.accounts.Accounts.{code_of}
use Rattle.rtgs_ledger.specs.declared.ledger.lowering.Lowering.{Lowering}
use Rattle.rtgs_ledger.specs.Choosing.{position_at, payments_in, positions_in, queues_in}
use Rattle.rtgs_ledger.specs.Limits.{KeepsAccounts, KeepsQueues, account_after, account_after_row, limit_at}
use Rattle.rtgs_ledger.specs.Limits.{IsBelow, LeaveCalm, Lowers}
use Rattle.rtgs_book.specs.Calm.{IsCalm}
use Rattle.rtgs_book.specs.Soundness.{IsSound}
use Rattle.rtgs_book.specs.cores.Cores.{IsCoreOf}
use Rattle.rtgs_gridlock.specs.Slack as slack
use Rattle.rtgs_choices.specs.ByIndex.{positions_of, queues_of}
use Rattle.rtgs_records.specs.Held.{Held}
use Rattle.rtgs_records.specs.queues.Laws.{QueuesAreOfTheWaiting}
use Rattle.rtgs_ledger.proofs.Freeing.{one_unqueued}
use Rattle.rtgs_ledger.proofs.Inputs.{positions_given, queues_given, records_of}

map_agree : {X Y : Type 0} (f g : X → Y) (xs : List X) → ((x : X) → f x ≡ g x) → map f xs ≡ map g xs
map_agree f g [] h = refl
map_agree f g (x ∷ xs) h = λ i. h x i ∷ map_agree f g xs h i

map_twice : {X Y Z : Type 0} (g : Y → Z) (f : X → Y) (xs : List X) → map g (map f xs) ≡ map (λ x. g (f x)) xs
map_twice g f [] = refl
map_twice g f (x ∷ xs) = ap (λ ys. g (f x) ∷ ys) (map_twice g f xs)

map_id : {X : Type 0} (f : X → X) (xs : List X) → ((x : X) → f x ≡ x) → xs ≡ map f xs
map_id f [] h = refl
map_id f (x ∷ xs) h = λ i. sym (h x) i ∷ map_id f xs h i

-- ---- accounts

account_kept : (row : RowChange) (core : Core) → KeepsAccounts row
    → (core_after_row core row).accounts ≡ map (account_after_row row) core.accounts
account_kept (AddParticipant p) core h = absurd h
account_kept (AddPosting p) core h = map_id (account_after_row (AddPosting p)) core.accounts (λ a. refl)
account_kept (AddOrder o) core h = map_id (account_after_row (AddOrder o)) core.accounts (λ a. refl)
account_kept (AddMark m) core h = map_id (account_after_row (AddMark m)) core.accounts (λ a. refl)
account_kept (SetCredit code credit) core h = refl
account_kept (SetBalance code b) core h = refl
account_kept (SetState number state) core h =
    map_id (account_after_row (SetState number state)) core.accounts (λ a. refl)
account_kept (EnterQueue number date) core h =
    map_id (account_after_row (EnterQueue number date)) core.accounts (λ a. refl)
account_kept (SetDay day) core h = absurd h

pub accounts_kept : (rows : List RowChange) (core : Core) → AllByRecursion KeepsAccounts rows
    → (core_after core rows).accounts ≡ map (account_after rows) core.accounts
accounts_kept [] core h = map_id (account_after []) core.accounts (λ a. refl)
accounts_kept (row ∷ rows) core h = accounts_kept rows (core_after_row core row) h.1
    ∙ ap (map (account_after rows)) (account_kept row core h.0)
    ∙ map_twice (account_after rows) (account_after_row row) core.accounts

day_stays : (row : RowChange) (core : Core) → KeepsAccounts row → (core_after_row core row).day ≡ core.day
day_stays (AddParticipant p) core h = absurd h
day_stays (AddPosting p) core h = refl
day_stays (AddOrder o) core h = refl
day_stays (AddMark m) core h = refl
day_stays (SetCredit code credit) core h = refl
day_stays (SetBalance code b) core h = refl
day_stays (SetState number state) core h = refl
day_stays (EnterQueue number date) core h = refl
day_stays (SetDay day) core h = absurd h

pub day_kept : (rows : List RowChange) (core : Core) → AllByRecursion KeepsAccounts rows
    → (core_after core rows).day ≡ core.day
day_kept [] core h = refl
day_kept (row ∷ rows) core h = day_kept rows (core_after_row core row) h.1 ∙ day_stays row core h.0

-- ---- queues

code_limited : (code : List ℕ) (credit : ℕ) (a : Account) → code_of (limited code credit a) ≡ code_of a
code_limited code credit a = by (is_of code a)
  where
    by : (b : Bool) → code_of (cond b (record a { participant = record a.participant { credit = credit } }) a)
        ≡ code_of a
    by true = refl
    by false = refl

code_rebalanced : (code : List ℕ) (balance : ℤ) (a : Account) → code_of (rebalanced code balance a) ≡ code_of a
code_rebalanced code balance a = by (is_of code a)
  where
    by : (b : Bool) → code_of (cond b (record a { balance = balance }) a) ≡ code_of a
    by true = refl
    by false = refl

-- the queue of a code among orders, of accounts with these codes
abbrev pub payment_among : List (List ℕ) → Order → Payment
payment_among codes o = record { receiver = position_or_len (bytes_eq o.receiver) codes; amount = o.amount }

abbrev pub queue_with : List (List ℕ) → List Order → List ℕ → List Payment
queue_with codes waiting code = map (payment_among codes) (queued_among waiting code)

pub queues_by_code : (core : Core) → queues_in core
    ≡ map (queue_with (map code_of core.accounts) core.waiting) (map code_of core.accounts)
queues_by_code core = sym (map_twice (queue_with (map code_of core.accounts) core.waiting) code_of core.accounts)

-- the same codes with the same queues
pub queues_same : (core later : Core) → map code_of later.accounts ≡ map code_of core.accounts
    → ((code : List ℕ) → queued_among later.waiting code ≡ queued_among core.waiting code)
    → queues_in later ≡ queues_in core
queues_same core later codes same =
    queues_by_code later
    ∙ ap (λ (cs : List (List ℕ)). map (queue_with cs later.waiting) cs) codes
    ∙ map_agree (queue_with (map code_of core.accounts) later.waiting)
    (queue_with (map code_of core.accounts) core.waiting) (map code_of core.accounts)
    (λ code. ap (map (payment_among (map code_of core.accounts))) (same code))
    ∙ sym (queues_by_code core)

order_queues : (code : List ℕ) (waiting : List Order) (o : Order) → is_queued o ≡ false → (b : Bool)
    → queued_among (cond b (waiting ++ o ∷ []) waiting) code ≡ queued_among waiting code
order_queues code waiting o e true = one_unqueued code waiting o e
order_queues code waiting o e false = refl

pub row_keeps_queues : (row : RowChange) (core : Core) → KeepsQueues row
    → queues_in (core_after_row core row) ≡ queues_in core
row_keeps_queues (AddParticipant p) core h = absurd h
row_keeps_queues (AddPosting p) core h = refl
row_keeps_queues (AddOrder o) core h =
    queues_same core (core_after_row core (AddOrder o)) refl (λ code. order_queues code core.waiting o h (is_waiting o))
row_keeps_queues (AddMark m) core h = refl
row_keeps_queues (SetCredit code credit) core h =
    queues_same core (core_after_row core (SetCredit code credit)) (map_twice code_of
    (limited code credit) core.accounts
    ∙ map_agree (λ a. code_of (limited code credit a)) code_of core.accounts (code_limited code credit)) (λ _. refl)
row_keeps_queues (SetBalance code b) core h =
    queues_same core (core_after_row core (SetBalance code b)) (map_twice code_of (rebalanced code b) core.accounts
    ∙ map_agree (λ a. code_of (rebalanced code b a)) code_of core.accounts (code_rebalanced code b)) (λ _. refl)
row_keeps_queues (SetState number state) core h = absurd h
row_keeps_queues (EnterQueue number date) core h = absurd h
row_keeps_queues (SetDay day) core h = refl

pub queues_kept : (rows : List RowChange) (core : Core) → AllByRecursion KeepsQueues rows
    → queues_in (core_after core rows) ≡ queues_in core
queues_kept [] core h = refl
queues_kept (row ∷ rows) core h = queues_kept rows (core_after_row core row) h.1 ∙ row_keeps_queues row core h.0

-- ---- headrooms

pub nobody : Account
nobody = record {
  participant = record { code = []; name = []; key = []; credit = 0 };
  balance = pos 0;
}

abbrev pub headroom_at : Phase → Account → ℤ
headroom_at phase a = (position_at phase a).balance -ℤ (position_at phase a).floor

-- a limit more
pub limit_push : (xs : List ℤ) (x : ℤ) (i : ℕ) (f : ℕ → ℤ) → length xs ≡ i → ((p : ℕ) → p < i → limit_at xs p ≡ f p)
    → x ≡ f i → (p : ℕ) → p < i + 1 → limit_at (xs ++ x ∷ []) p ≡ f p
limit_push xs x i f long each here p less =
    elim (cases_lt p i) [
      | inl below ↦ get_or_append_left xs (x ∷ []) (pos 0) p (omega arith) ∙ each p below
      | inr past ↦
          let at : p ≡ i = omega arith in
          subst (λ (q : ℕ). limit_at (xs ++ x ∷ []) q ≡ f q) (sym at) (get_or_push xs x (pos 0) i long ∙ here)
    ]

-- the limits are the headrooms with the slacks on top
pub limits_are : (core : Core) (limits : List ℤ) (slacks : ℕ → ℕ) → ((p : ℕ) (d : Account)
    → p < length core.accounts → limit_at limits p ≡ headroom_at core.day.phase (get_or core.accounts p d)
    +ℤ pos (slacks p)) → AreAtMost (length core.accounts) (limit_at limits) (risen (positions_in core) slacks)
limits_are core limits slacks each p less =
    let at : position_of (positions_in core) p ≡ position_at core.day.phase (get_or core.accounts p nobody) =
    get_or-map (position_at core.day.phase) core.accounts p nobody _ less in
    omega (
      arith,
      ints,
      each p nobody less,
      ap (λ (x : Position). x.balance) at,
      ap (λ (x : Position). x.floor) at,
    )

abbrev pub CalmBelowLimits : Type 0
CalmBelowLimits = (positions : List Position) → (queues : List (List Payment)) → (limits : ℕ → ℤ)
    → IsCeiling queues (λ _. 0) limits → AreBelow (length queues) positions limits → slack.IsCalm positions queues

-- a cent above the headrooms
abbrev above : Core → ℕ → ℤ
above core p = headroom_of (positions_in core) p +ℤ pos 1

-- where each headroom is below its limit, lowered by what the rows do, nothing can settle after them
pub calm_if_below : CalmBelowLimits → (rows : List RowChange) (core : Core) (l : Lowering) (limits : List ℤ)
    → AllByRecursion KeepsAccounts rows → Lowers core (core_after core rows) l
    → IsCeiling (queues_in core) (λ _. 0) (limit_at limits)
    → ((p : ℕ) (d : Account) → p < length core.accounts
    → IsBelow limits l p (headroom_at core.day.phase (account_after rows (get_or core.accounts p d))))
    → LeaveCalm core rows
calm_if_below law rows core l limits kept lowers is below =
    law (positions_in (core_after core rows)) (queues_in (core_after core rows)) (above (core_after core rows))
    (lowers.ceiling (limit_at limits) (above (core_after core rows)) is at_p first) (λ p b. omega (arith, ints))
  where
    count : length (queues_in core) ≡ length core.accounts
    count = length-map core.accounts (λ a. payments_in core (code_of a))

    room : (p : ℕ) → p < length core.accounts → headroom_of (positions_in (core_after core rows)) p
        ≡ headroom_at core.day.phase (account_after rows (get_or core.accounts p nobody))
    room p less =
        let at : position_of (positions_in (core_after core rows)) p
        ≡ position_at core.day.phase (account_after rows (get_or core.accounts p nobody)) =
        ap (λ (d : Day). position_of (map (position_at d.phase) (core_after core rows).accounts) p)
        (day_kept rows core kept)
        ∙ ap (λ (xs : List Account). position_of (map (position_at core.day.phase) xs) p) (accounts_kept rows core kept)
        ∙ ap (λ (xs : List Position). position_of xs p)
        (map_twice (position_at core.day.phase) (account_after rows) core.accounts)
        ∙ get_or-map (λ a. position_at core.day.phase (account_after rows a)) core.accounts p nobody _ less in
        omega (arith, ints, ap (λ (x : Position). x.balance) at, ap (λ (x : Position). x.floor) at)

    at_p : (p : ℕ) → p < length (queues_in core)
        → (above (core_after core rows) p +ℤ pos (cond (eqb l.index p) l.cents 0)) ≤ℤ limit_at limits p
    at_p p b =
        let inside : p < length core.accounts = omega (arith, b, count) in
        omega (arith, ints, (below p nobody inside).0, room p inside)

    first : IfSome l.begins (λ s. above (core_after core rows) s ≤ℤ pos l.cents)
    first = by l.begins lowers.begins (λ p less. (below p nobody less).1)
      where
        by : (account : Option ℕ) → IfSome account (λ s. (s < length (queues_in core)) × (queue_of (queues_in core) s
            ≡ []))
            → ((p : ℕ) → p < length core.accounts → IfSome account (λ s. s ≡ p
            → headroom_at core.day.phase (account_after rows (get_or core.accounts p nobody)) <ℤ pos l.cents))
            → IfSome account (λ s. above (core_after core rows) s ≤ℤ pos l.cents)
        by None there short = tt
        by (Some s) there short =
            let inside : s < length core.accounts = omega (arith, there.0, count) in
            omega (arith, ints, short s inside refl, room s inside)

-- where nothing is chosen, the ceiling is nothing
pub ceiling_of_nothing : (queues : List (List Payment)) (lengths : List ℕ) (limits : ℕ → ℤ)
    → length lengths ≡ length queues → All (λ n. n ≡ 0) lengths → IsCeiling queues (slice_index lengths) limits
    → IsCeiling queues (λ _. 0) limits
ceiling_of_nothing queues lengths limits long zeros is = record {
  at_most = λ positions below other feasible p less. omega (
    arith,
    is.at_most positions below other feasible p less,
    zeros p 0 (omega (arith, less, long)),
  );
}

-- where the resolver finds nothing to settle, the book is calm
abbrev pub CalmMeansCalm : Type 0
CalmMeansCalm = (book : Book) → IsSound book → slack.IsCalm (positions_of book) (queues_of book) → IsCalm book

pub calm_after : CalmMeansCalm → QueuesAreOfTheWaiting → (new : Book) (held : Held) (rows : List RowChange)
    → IsCoreOf new (core_after held.core rows) → LeaveCalm held.core rows → IsCalm new
calm_after means law new held rows after calm =
    let there : Held = record held { core = core_after held.core rows } in
    let positions = positions_given new (records_of there) there refl after law in
    let queues = queues_given new (records_of there) there refl after law in
    means new after.sound (subst (λ (qs : List (List Payment)). slack.IsCalm (positions_of new) qs) queues
    (subst (λ (ps : List Position). slack.IsCalm ps (queues_in there.core)) positions calm))
