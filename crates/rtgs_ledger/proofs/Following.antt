-- What follows a command: the rows of both as one change, and where they lead.
use Rattle.std.proofs.Common.{◌≡◌, ◌≢◌, ℕ, Bool, true, false, not, cond, ◌&&◌, List, [], ◌∷◌, ◌++◌, map}
use Rattle.std.proofs.Common.{filter, Ok, Err, Some, None, refl, sym, ap, ◌∙◌, subst, true≢false, arith, inl}
use Rattle.std.proofs.Common.{inr}
use Rattle.std.specs.List.{AllByRecursion}
use Rattle.std.specs.Ordering.{int_eq}
use Rattle.rtgs_book.specs.declared.account.Account.{Account}
use Rattle.rtgs_book.specs.declared.answer.Answer.{Answer}
use Rattle.rtgs_book.specs.declared.answer.Answer.TheVariants as answer
use Rattle.rtgs_book.specs.declared.answer.WholeAnswer.{WholeAnswer}
use Rattle.rtgs_book.specs.declared.book.Book.{Book}
use Rattle.rtgs_book.specs.declared.change.RowChange.{RowChange}
use Rattle.rtgs_book.specs.declared.change.RowChange.TheVariants.{AddParticipant, AddPosting, AddOrder, AddMark}
use Rattle.rtgs_book.specs.declared.change.RowChange.TheVariants.{SetCredit, SetBalance, SetState, EnterQueue, SetDay}
use Rattle.rtgs_book.specs.declared.command.Command.{Command}
use Rattle.rtgs_book.specs.declared.command.Command.TheVariants as command
use Rattle.rtgs_book.specs.declared.command.Command.TheVariants.{Resolve}
use Rattle.rtgs_book.specs.declared.day.Day.{Day}
use Rattle.rtgs_book.specs.declared.mark.Mark.{Mark}
use Rattle.rtgs_book.specs.declared.order.Order.{Order}
use Rattle.rtgs_book.specs.declared.order_state.OrderState.{OrderState}
use Rattle.rtgs_book.specs.declared.order_state.OrderState.TheVariants.{Settled}
use Rattle.rtgs_book.specs.declared.participant.Participant.{Participant}
use Rattle.rtgs_book.specs.declared.refusal.Refusal.{Refusal}
use Rattle.rtgs_book.specs.declared.refusal.Refusal.TheVariants.{OutOfMemory}
use Rattle.rtgs_book.specs.Balance.{balance}
use Rattle.rtgs_book.specs.Books.{is_automatic, is_closed, is_empty}
use Rattle.rtgs_book.specs.Changes.{Leads, changed, with_row}
use Rattle.rtgs_book.specs.Calm.{IsCalm}
use Rattle.rtgs_book.specs.Choice.{Choice, chosen, IsGreatest}
use Rattle.rtgs_book.specs.Commands.{let_in, resolve, with_credit, with_participant, with_state}
use Rattle.rtgs_book.specs.Laws.{CommandFits}
use Rattle.rtgs_book.specs.Lookup.{codes_of}
use Rattle.rtgs_book.specs.Outcome.{OwnReply, Outcome, is_done, resolution_of, first_of}
use Rattle.rtgs_book.specs.Soundness.{FloorsHold, IsSound}
use Rattle.rtgs_book.specs.Step.{OwnStep, Step, Ends, is_followed, may_free}
use Rattle.rtgs_choices.specs.Joining.{without_balances, balances_between, joined_rows}
use Rattle.rtgs_records.specs.accounts.Accounts.{code_of}
use Rattle.rtgs_book.specs.declared.cores.cores.Core.{Core}
use Rattle.rtgs_book.specs.cores.Cores.{IsCoreOf, core_of}
use Rattle.rtgs_book.specs.cores.Following.{AreBalanced, core_after}
use Rattle.rtgs_ledger.specs.Following.{day_after, AddsNoParticipant, FreesOrders}
use Rattle.rtgs_ledger.specs.Kept.{IsPrepared, IsPreparedByItself, IsRefusedByItself, IsCommandRefused, WouldAct}
use Rattle.rtgs_ledger.specs.Kinds.{IsQuiet, answers_its_kind}
use Rattle.rtgs_ledger.specs.Resolving.{IsSettlement, has_moved, moved_between, settling}
use Rattle.rtgs_ledger.proofs.Balances.{Known, all_known, moved_are}
use Rattle.rtgs_ledger.proofs.Loading.{in_order}
use Rattle.rtgs_ledger.proofs.Resolving.{balanced_after, none_settling, starting}
use Rattle.rtgs_ledger.proofs.Inputs.{all_found}
use Rattle.rtgs_ledger.proofs.Whole.{balanced_core, codes_in_core, held_in, same_accounts}

-- ---- the day

day-with_participant : (book : Book) (p : Participant) → (with_row book (AddParticipant p)).day ≡ book.day
unfolding with_participant
day-with_participant book p = refl

day-with_credit : (book : Book) (code : List ℕ) (credit : ℕ) → (with_row book (SetCredit code credit)).day ≡ book.day
unfolding with_credit
day-with_credit book code credit = refl

day-with_state : (book : Book) (number : ℕ) (state : OrderState) → (with_row book (SetState number state)).day
    ≡ book.day
unfolding with_state
day-with_state book number state = refl

day-let_in : (book : Book) (number date : ℕ) → (with_row book (EnterQueue number date)).day ≡ book.day
unfolding let_in
day-let_in book number date = refl

pub day_changed : (rows : List RowChange) (book : Book) → (changed book rows).day ≡ day_after book.day rows
day_changed [] book = refl
day_changed (AddParticipant p ∷ rows) book = day_changed rows (with_row book (AddParticipant p))
    ∙ ap (λ d. day_after d rows) (day-with_participant book p)
day_changed (AddPosting p ∷ rows) book = day_changed rows (with_row book (AddPosting p))
day_changed (AddOrder o ∷ rows) book = day_changed rows (with_row book (AddOrder o))
day_changed (AddMark m ∷ rows) book = day_changed rows (with_row book (AddMark m))
day_changed (SetCredit code credit ∷ rows) book = day_changed rows (with_row book (SetCredit code credit))
    ∙ ap (λ d. day_after d rows) (day-with_credit book code credit)
day_changed (SetBalance code b ∷ rows) book = day_changed rows book
day_changed (SetState number state ∷ rows) book = day_changed rows (with_row book (SetState number state))
    ∙ ap (λ d. day_after d rows) (day-with_state book number state)
day_changed (EnterQueue number date ∷ rows) book = day_changed rows (with_row book (EnterQueue number date))
    ∙ ap (λ d. day_after d rows) (day-let_in book number date)
day_changed (SetDay day ∷ rows) book = day_changed rows (with_row book (SetDay day))

-- the day that a change leaves is that of the book where it leads
pub day_left : (old mid : Book) (core : Core) (rows : List RowChange) → IsCoreOf old core → Leads old rows mid
    → mid.day ≡ day_after core.day rows
unfolding core_of
day_left old mid core rows is leads =
    ap (λ (b : Book). b.day) (sym leads.book) ∙ day_changed rows old
    ∙ ap (λ d. day_after d rows) (sym (ap (λ (c : Core). c.day) is.is))

-- ---- the participants

abbrev pub CreditLeavesAccounts : Type 0
CreditLeavesAccounts = (book : Book) (code : List ℕ) (credit : ℕ)
    → codes_of (with_credit book code credit) ≡ codes_of book

module _ (leaves : CreditLeavesAccounts) where
  pub accounts_stay : (rows : List RowChange) (book : Book) → AllByRecursion AddsNoParticipant rows
      → codes_of (changed book rows) ≡ codes_of book
  unfolding codes_of with_state let_in
  accounts_stay [] book h = refl
  accounts_stay (AddParticipant p ∷ rows) book h = absurd h.0
  accounts_stay (AddPosting p ∷ rows) book h = accounts_stay rows (with_row book (AddPosting p)) h.1
  accounts_stay (AddOrder o ∷ rows) book h = accounts_stay rows (with_row book (AddOrder o)) h.1
  accounts_stay (AddMark m ∷ rows) book h = accounts_stay rows (with_row book (AddMark m)) h.1
  accounts_stay (SetCredit code credit ∷ rows) book h = accounts_stay rows (with_row book (SetCredit code credit)) h.1
      ∙ leaves book code credit
  accounts_stay (SetBalance code b ∷ rows) book h = accounts_stay rows book h.1
  accounts_stay (SetState number state ∷ rows) book h = accounts_stay rows (with_row book (SetState number state)) h.1
  accounts_stay (EnterQueue number date ∷ rows) book h = accounts_stay rows (with_row book (EnterQueue number date)) h.1
  accounts_stay (SetDay day ∷ rows) book h = accounts_stay rows (with_row book (SetDay day)) h.1

-- of the rows without their balances, and of more, none adds a participant
none_joined : (rows more : List RowChange) → AllByRecursion AddsNoParticipant rows
    → AllByRecursion AddsNoParticipant more → AllByRecursion AddsNoParticipant (without_balances rows ++ more)
none_joined [] more h k = k
none_joined (AddParticipant p ∷ rows) more h k = absurd h.0
none_joined (AddPosting p ∷ rows) more h k = (tt, none_joined rows more h.1 k)
none_joined (AddOrder o ∷ rows) more h k = (tt, none_joined rows more h.1 k)
none_joined (AddMark m ∷ rows) more h k = (tt, none_joined rows more h.1 k)
none_joined (SetCredit code credit ∷ rows) more h k = (tt, none_joined rows more h.1 k)
none_joined (SetBalance code b ∷ rows) more h k = none_joined rows more h.1 k
none_joined (SetState number state ∷ rows) more h k = (tt, none_joined rows more h.1 k)
none_joined (EnterQueue number date ∷ rows) more h k = (tt, none_joined rows more h.1 k)
none_joined (SetDay day ∷ rows) more h k = (tt, none_joined rows more h.1 k)

-- the rows of an opening
pub opening_frees : (date : ℕ) (numbers : List ℕ) (day : Day)
    → FreesOrders (map (λ n. EnterQueue n date) numbers ++ SetDay day ∷ [])
opening_frees date [] day = record { participants = (tt, tt); marks = omega arith }
opening_frees date (n ∷ ns) day =
    let rest = opening_frees date ns day in
    record { participants = (tt, rest.participants); marks = rest.marks }

-- ---- whole steps

abbrev outcome : Answer → Book → Outcome
outcome own mid = record { reply = Ok own; book = mid }

-- where nothing follows, the step is the command's own
pub prepared_alone : (book : Book) (core : Core) (command : Command) (own : Answer) (rows : List RowChange)
    → (p : IsPreparedByItself book core command own rows) → is_followed command (outcome own p.book) ≡ false
    → IsPrepared book core command (record { own = own; auto = None }) rows
prepared_alone book core command own rows p none = record {
  book = p.book;
  step = (
    outcome own p.book,
    p.step,
    subst (λ b. Ends b (outcome own p.book) (Ok (record { own = own; auto = None })) p.book) (sym none) (refl, refl),
  );
  leads = p.leads;
  added = p.added;
  in_range = p.in_range;
  balanced = p.balanced;
  repeated = p.repeated;
  nothing = p.nothing;
}

never : (a b : Bool) → (a && false && b) ≡ false
never true b = refl
never false b = refl

pub refused_alone : (book : Book) (command : Command) (refusal : Refusal) → IsRefusedByItself book command refusal
    → IsCommandRefused book command refusal
refused_alone book command refusal (inl e) = inl e
refused_alone book command refusal (inr r) = inr (
  (
    record { reply = Err refusal; book = book },
    r.0,
    subst (λ b. Ends b (record { reply = Err refusal; book = book }) (Err refusal) book)
        (sym (never (may_free command) (is_automatic book.day))) (refl, refl),
  ),
  r.1,
)

-- a command that may free orders, and acted, answers neither of the quiet answers
kind_is_loud : (command : Command) → may_free command ≡ true → answers_its_kind command answer.Nothing ≡ false
kind_is_loud (command.Add code name key) e = absurd (true≢false (sym e))
kind_is_loud (command.SetCredit code credit) e = refl
kind_is_loud (command.Post code reference cents) e = refl
kind_is_loud (command.OpenDay new_day) e = refl
kind_is_loud (command.Order sender new_order) e = refl
kind_is_loud (command.Withdraw sender reference) e = refl
kind_is_loud command.Resolve e = absurd (true≢false (sym e))
kind_is_loud (command.CutOff date) e = absurd (true≢false (sym e))
kind_is_loud (command.CloseDay date) e = absurd (true≢false (sym e))

pub loud : (command : Command) (own : Answer) (rows : List RowChange) → may_free command ≡ true
    → answers_its_kind command own ≡ true → is_done (Ok own) ≡ true → IsQuiet own rows
loud command answer.Added rows free kind done = tt
loud command answer.CreditSet rows free kind done = tt
loud command (answer.Posted number) rows free kind done = tt
loud command answer.Opened rows free kind done = tt
loud command (answer.Settled number mark) rows free kind done = tt
loud command (answer.Queued number place) rows free kind done = tt
loud command (answer.Held number due) rows free kind done = tt
loud command (answer.Withdrawn number) rows free kind done = tt
loud command (answer.Resolved mark count value) rows free kind done = tt
loud command answer.Nothing rows free kind done = absurd (true≢false (sym kind ∙ kind_is_loud command free))
loud command answer.CutOffDone rows free kind done = tt
loud command (answer.Closed rejected) rows free kind done = tt
loud command (answer.Repeated known) rows free kind done = absurd (true≢false (sym done))

quiet_repeats : (own : Answer) (rows : List RowChange) → IsQuiet own rows
    → ((known : _) → own ≡ answer.Repeated known → rows ≡ []) × (own ≡ answer.Nothing → rows ≡ [])
quiet_repeats own rows quiet = (
  λ known e. subst (λ (o : Answer). IsQuiet o rows) e quiet,
  λ e. subst (λ (o : Answer). IsQuiet o rows) e quiet,
)

not_closed : (a closed : Bool) → (a && not closed) ≡ true → closed ≡ false
not_closed a false e = refl
not_closed true true e = absurd (true≢false (sym e))
not_closed false true e = absurd (true≢false (sym e))

pub all_parts : (a b c : Bool) → (a && b && c) ≡ true → (a ≡ true) × (b ≡ true) × (c ≡ true)
all_parts true true c e = (refl, refl, e)
all_parts true false c e = absurd (true≢false (sym e))
all_parts false b c e = absurd (true≢false (sym e))

all_true : (a b c : Bool) → a ≡ true → b ≡ true → c ≡ true → (a && b && c) ≡ true
all_true a b c e f g = rw (e, f, g) refl

neither : (refusal : Refusal) (b : Bool) (x y : Outcome) (one other : Answer) → x.reply ≡ Ok one → y.reply ≡ Ok other
    → Err refusal ≡ (cond b x y).reply → ⊥
neither refusal true x y one other e f g = absurd (let h : Err refusal ≡ Ok one = g ∙ e in cc)
neither refusal false x y one other e f g = absurd (let h : Err refusal ≡ Ok other = g ∙ f in cc)

never_refused : (book : Book) (choice : Choice) (refusal : Refusal) → is_closed book.day.phase ≡ false
    → Err refusal ≡ (resolve book choice).reply → ⊥
unfolding resolve first_of
never_refused book choice refusal opened e =
    neither refusal (is_empty (chosen book choice)) _ _ _ _ refl refl (rw opened at e)

-- where the greatest choice is empty, a resolution settles nothing
resolves_nothing : (book : Book) (choice : Choice) → IsGreatest book choice → is_closed book.day.phase ≡ false
    → is_empty (chosen book choice) ≡ true → OwnStep book Resolve (Ok answer.Nothing) book
unfolding resolve first_of
resolves_nothing book choice greatest opened none = (choice, greatest, rw (opened, none) refl)

abbrev pub Join : Type 0
Join = (old mid new : Book) (one next : List RowChange) → codes_of new ≡ codes_of old → Leads old one mid
    → Leads mid next new → Leads old (joined_rows old one next new) new

-- the rows of a resolution without their balances, before others
unbalanced : (mark : Mark) (old new : List Account) (more : List RowChange) (orders : List Order)
    → without_balances (settling orders mark old new) ++ more
    ≡ map (λ (o : Order). SetState o.number (Settled mark.number)) orders ++ AddMark mark ∷ more
unbalanced mark old new more [] =
    ap (λ rows. AddMark mark ∷ (rows ++ more)) (without (filter (has_moved old) new))
  where
    without : (xs : List Account) → without_balances (map (λ (a : Account). SetBalance (code_of a) a.balance) xs) ≡ []
    without [] = refl
    without (x ∷ xs) = without xs
unbalanced mark old new more (o ∷ orders) =
    ap (λ rows. SetState o.number (Settled mark.number) ∷ rows) (unbalanced mark old new more orders)

module _ (book : Book) (core : Core) (command : Command) (own : Answer) (rows : List RowChange)
    (is : IsCoreOf book core) (p : IsPreparedByItself book core command own rows) (free : may_free command ≡ true)
    (kind : answers_its_kind command own ≡ true) (done : is_done (Ok own) ≡ true)
    (automatic : is_automatic (day_after core.day rows) ≡ true) where
  automatic_between : is_automatic p.book.day ≡ true
  automatic_between = ap is_automatic (day_left book p.book core rows is p.leads) ∙ automatic

  opened_between : is_closed p.book.day.phase ≡ false
  opened_between = not_closed p.book.day.automatic (is_closed p.book.day.phase) automatic_between

  followed : is_followed command (outcome own p.book) ≡ true
  followed = all_true (may_free command) (is_done (Ok own)) (is_automatic p.book.day) free done automatic_between

  whole_step : (settled : Answer) (new : Book) → OwnStep p.book Resolve (Ok settled) new
      → Step book command (Ok (record { own = own; auto = resolution_of (Ok settled) })) new
  whole_step settled new step = (
    outcome own p.book,
    p.step,
    subst (λ b. Ends b (outcome own p.book) (Ok (record { own = own; auto = resolution_of (Ok settled) })) new)
        (sym followed) (Ok settled, step, refl),
  )

  -- nothing of the queues settles
  prepared_quiet : OwnStep p.book Resolve (Ok answer.Nothing) p.book
      → IsPrepared book core command (record { own = own; auto = None }) rows
  prepared_quiet nothing = record {
    book = p.book;
    step = whole_step answer.Nothing p.book nothing;
    leads = p.leads;
    added = p.added;
    in_range = p.in_range;
    balanced = p.balanced;
    repeated = p.repeated;
    nothing = p.nothing;
  }

  -- so it is where a resolution was tried
  pub prepared_still : IsPreparedByItself p.book (core_after core rows) Resolve answer.Nothing []
      → IsPrepared book core command (record { own = own; auto = None }) rows
  prepared_still q = prepared_quiet (subst (OwnStep p.book Resolve (Ok answer.Nothing)) (sym q.leads.book) q.step)

  -- and where the book in between is calm
  pub prepared_calm : ((book : Book) → FloorsHold book → (choice : Choice) × IsGreatest book choice) → IsSound p.book
      → IsCalm p.book → IsPrepared book core command (record { own = own; auto = None }) rows
  prepared_calm exists sound calm =
      let greatest = exists p.book sound.floors in
      prepared_quiet (resolves_nothing p.book greatest.0 greatest.1 opened_between
      (calm automatic_between greatest.0 greatest.1))

  -- the orders that a resolution settles are in the change too
  pub prepared_joined : Join → CreditLeavesAccounts → CommandFits command → FreesOrders rows
      → IsCoreOf p.book (core_after core rows) → (orders : List Order) (mark : Mark) (accounts : List Account)
      → IsSettlement p.book (core_after core rows) orders mark accounts → IsPrepared book core command (record {
        own = own;
        auto = Some (record { mark = mark.number; count = mark.count; value = mark.value });
      }) (without_balances rows ++ settling orders mark core.accounts accounts)
  prepared_joined join leaves fits frees between orders mark accounts s =
      let q = s.prepared in
      let new = q.book in
      let next = settling orders mark (core_after core rows).accounts accounts in
      let all = without_balances rows ++ settling orders mark core.accounts accounts in
      let codes_mid : codes_of p.book ≡ codes_of book =
      ap codes_of (sym p.leads.book) ∙ accounts_stay leaves rows book frees.participants in
      let codes_new : codes_of new ≡ codes_of book =
      ap codes_of (sym q.leads.book) ∙ accounts_stay leaves next p.book
      (none_settling mark (core_after core rows).accounts accounts orders) ∙ codes_mid in
      let codes_after : map code_of accounts ≡ codes_of book =
      s.same ∙ codes_in_core p.book (core_after core rows) between ∙ codes_mid in
      let known = all_known book core.accounts core.accounts
      (all_found core.accounts (in_order book core is)) (balanced_core book core is) in
      let moved : moved_between core.accounts accounts ≡ balances_between book new =
      moved_are book new core.accounts accounts
      (subst (AllByRecursion (Known book core.accounts)) (codes_in_core book core is ∙ sym codes_after) known)
      s.balanced ∙ ap (λ codes. map (λ code. SetBalance code (balance new code))
      (filter (λ code. not (int_eq (balance book code) (balance new code))) codes)) codes_after in
      let rows_are : joined_rows book rows next new ≡ all =
      ap (λ more. without_balances rows ++ more) (unbalanced mark (core_after core rows).accounts accounts
      (balances_between book new) orders ∙ ap (λ balances. map (λ (o : Order). SetState o.number
      (Settled mark.number)) orders ++ AddMark mark ∷ balances) (sym moved)) in
      let leads : Leads book all new = subst (λ changes. Leads book changes new) rows_are
      (join book p.book new rows next codes_new p.leads q.leads) in
      let adding : AllByRecursion AddsNoParticipant all =
      none_joined rows (settling orders mark core.accounts accounts) frees.participants
      (none_settling mark core.accounts accounts orders) in
      let quiet = quiet_repeats own all (loud command own all free kind done) in
      record {
        book = new;
        step = whole_step (answer.Resolved mark.number mark.count mark.value) new q.step;
        leads = leads;
        added = starting new all all adding;
        in_range = λ _. fits;
        balanced = subst (AreBalanced new) (same_accounts (held_in book core) core all refl)
            (balanced_after (held_in book core) all new adding (balanced_core book core is)
            (codes_new ∙ sym (codes_in_core book core is)) leads.balances);
        repeated = quiet.0;
        nothing = quiet.1;
      }

  -- only memory is refused
  pub not_refused : (refusal : Refusal) → IsRefusedByItself p.book Resolve refusal → refusal ≡ OutOfMemory
  not_refused refusal (inl e) = e.0
  not_refused refusal (inr r) =
      absurd (never_refused p.book r.0.0 refusal opened_between (ap (λ (o : Outcome). o.reply) r.0.2))

-- ---- memory that lacks for a change

is_loud : (own : Answer) (rows : List RowChange) → IsQuiet own rows → rows ≢ [] → is_done (Ok own) ≡ true
is_loud answer.Added rows quiet some = refl
is_loud answer.CreditSet rows quiet some = refl
is_loud (answer.Posted number) rows quiet some = refl
is_loud answer.Opened rows quiet some = refl
is_loud (answer.Settled number mark) rows quiet some = refl
is_loud (answer.Queued number place) rows quiet some = refl
is_loud (answer.Held number due) rows quiet some = refl
is_loud (answer.Withdrawn number) rows quiet some = refl
is_loud (answer.Resolved mark count value) rows quiet some = refl
is_loud answer.Nothing rows quiet some = refl
is_loud answer.CutOffDone rows quiet some = refl
is_loud (answer.Closed rejected) rows quiet some = refl
is_loud (answer.Repeated known) rows quiet some = absurd (some quiet)

own_reply : (b : Bool) (reply : OwnReply) (mid : Book) (given : WholeAnswer) (new : Book)
    → Ends b (record { reply = reply; book = mid }) (Ok given) new → reply ≡ Ok given.own
own_reply false (Ok own) mid given new ends =
    let told = ends.0 in
    let same : given ≡ record { own = own; auto = None } = cc in
    ap (λ (whole : WholeAnswer). Ok whole.own) (sym same)
own_reply false (Err refusal) mid given new ends = absurd (let told = ends.0 in cc)
own_reply true (Ok own) mid given new ends =
    let told = ends.2 in
    let same : given ≡ record { own = own; auto = resolution_of ends.0 } = cc in
    ap (λ (whole : WholeAnswer). Ok whole.own) (sym same)
own_reply true (Err refusal) mid given new ends = absurd (let told = ends.2 in cc)

-- the command by itself acts, where the step changes anything
pub would_act : (book new : Book) (command : Command) (given : WholeAnswer) (rows : List RowChange)
    → Step book command (Ok given) new → IsQuiet given.own rows → rows ≢ [] → WouldAct book command
would_act book new command given rows step quiet some = (
  given.own,
  step.0.book,
  subst (λ reply. OwnStep book command reply step.0.book)
      (own_reply (is_followed command step.0) step.0.reply step.0.book given new step.2) step.1,
  is_loud given.own rows quiet some,
)
