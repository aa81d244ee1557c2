-- What the desk says of queues, from the ledger.
use Rattle.std.proofs.Common.{◌≡◌, ◌≢◌, ◌∙◌, ℕ, ◌+◌, ◌<◌, ◌++◌, ◌∷◌, [], pos, Bool, true, false, cond, List, length}
use Rattle.std.proofs.Common.{map, take, get_or, Option, Some, None, Result, Ok, Err, Vec, Global, option_map, refl, sym, ap}
use Rattle.std.proofs.Common.{subst, arith}
use Rattle.std.proofs.lemmas.Grind.{flat_map-append}
use Rattle.std.proofs.lemmas.List.{append-nil, take_more}
use Rattle.std.proofs.lemmas.List.Elements.{filter_more}
use Rattle.std.proofs.lemmas.Option.{same_Some, slice_get-map, slice_get_read, unwrap_or-slice_get}
use Rattle.std.specs.BTreeMap.{get, BTreeMap, Updates}
use Rattle.std.specs.Cmp.Lexicographic.{slice_cmp, bytes_decides, texts_ties}
use Rattle.std.specs.List.{flat_map}
use Rattle.std.specs.Option.{option_map_or}
use Rattle.std.specs.Ordering.{nat_cmp}
use Rattle.std.specs.Prelude.{IfOk, IfErr, slice_get, unwrap_or}
use Rattle.std.specs.Str.{bytes_eq}
use Rattle.rtgs_book.specs.declared.account.Account.{Account}
use Rattle.rtgs_book.specs.declared.book.Book.{Book}
use Rattle.rtgs_book.specs.declared.cores.cores.Core.{Core}
use Rattle.rtgs_book.specs.declared.order.Order.{Order}
use Rattle.rtgs_book.specs.declared.participant.Participant.{Participant}
use Rattle.rtgs_book.specs.declared.queue_reading.QueueReading.{QueueReading}
use Rattle.rtgs_book.specs.declared.receiver_reading.ReceiverReading.{ReceiverReading}
use Rattle.rtgs_book.specs.declared.refusal.Refusal.{Refusal}
use Rattle.rtgs_book.specs.declared.refusal.Refusal.TheVariants.{OutOfMemory}
use Rattle.rtgs_book.specs.Choice.{Choice}
use Rattle.rtgs_book.specs.Lookup.{codes_of}
use Rattle.rtgs_book.specs.Queue.{queue}
use Rattle.rtgs_book.specs.cores.Cores.{account_of, core_of, IsCoreOf}
use Rattle.rtgs_book.specs.cores.Following.{code_of}
use Rattle.rtgs_desk.specs.declared.payments.Payments.{Payments}
use Rattle.rtgs_desk.specs.Payments.{paid_in, paid_to}
use Rattle.rtgs_desk.specs.Queues.{queue_if_any, queue_readings, reading_of_queue, receiver_of, receivers_of}
use Rattle.rtgs_desk.specs.Readings.{Tells, value_of}

-- ---- maps with codes as keys, read at each key

module _ {V A : Type 0} (read : V → A) (none : A) where
  abbrev read_at : BTreeMap (List ℕ) V → List ℕ → A
  read_at values key = option_map_or read (get (slice_cmp nat_cmp) values key) none

  -- a value is put under a key, and what held of what was read there before holds again
  pub read_after : (P : Bool → A → A → Type 0) → ((a : A) → P false a a)
      → (old new : BTreeMap (List ℕ) V) (key : List ℕ) (value : V)
      → Updates (slice_cmp nat_cmp) old new key (Some value) → P true (read_at old key) (read value)
      → (other : List ℕ) → P (bytes_eq key other) (read_at old other) (read_at new other)
  read_after P same old new key value updates here other = by (bytes_eq key other) refl
    where
      by : (b : Bool) → bytes_eq key other ≡ b → P b (read_at old other) (read_at new other)
      by true e =
          let at : key ≡ other = (bytes_decides key other).0 e in
          subst (λ q. P true (read_at old q) (read_at new q)) at
          (subst (λ a. P true (read_at old key) a) (sym (ap (λ o. option_map_or read o none) updates.1)) here)
      by false e = subst (λ a. P false (read_at old other) a)
          (sym (ap (λ o. option_map_or read o none) (updates.2 other (sym (texts_ties key other) ∙ e))))
          (same (read_at old other))

-- ---- orders by their receivers

spread : (b : Bool) (before : List Order) (o : Order) → cond b (before ++ o ∷ []) before
    ≡ before ++ cond b (o ∷ []) []
spread true before o = refl
spread false before o = sym (append-nil before)

-- the next order
pub one_more : (code : List ℕ) (orders : List Order) (i : ℕ) (o : Order) (before after : List Order)
    → i < length orders → o ≡ get_or orders i o → before ≡ paid_to code (take i orders)
    → after ≡ cond (bytes_eq o.receiver code) (before ++ o ∷ []) before → after ≡ paid_to code (take (i + 1) orders)
one_more code orders i o before after less at was is =
    is ∙ spread (bytes_eq o.receiver code) before o
    ∙ (λ j. was j ++ cond (bytes_eq (at j).receiver code) (at j ∷ []) [])
    ∙ sym (filter_more (λ (o : Order). bytes_eq o.receiver code) orders i o less)

-- ---- the codes of a core

own_codes : (book : Book) (ps : List Participant) → map code_of (map (account_of book) ps)
    ≡ map (λ (p : Participant). p.code) ps
own_codes book [] = refl
own_codes book (p ∷ ps) = ap (λ codes. p.code ∷ codes) (own_codes book ps)

pub codes_in_core : (book : Book) (core : Core) → IsCoreOf book core → map code_of core.accounts ≡ codes_of book
unfolding core_of codes_of
codes_in_core book core is = ap (λ (c : Core). map code_of c.accounts) is.is ∙ own_codes book book.participants

each_code : {A : Type 0} (f : List ℕ → List A) (xs : List Account) → flat_map (λ (a : Account). f (code_of a)) xs
    ≡ flat_map f (map code_of xs)
each_code f [] = refl
each_code f (x ∷ xs) = ap (λ ys. f (code_of x) ++ ys) (each_code f xs)

-- what is said of the next one comes behind
pub flat_map_more : {X A : Type 0} (f : X → List A) (xs : List X) (i : ℕ) (x : X) (before after : List A)
    → i < length xs → x ≡ get_or xs i x → before ≡ flat_map f (take i xs) → after ≡ before ++ f x
    → after ≡ flat_map f (take (i + 1) xs)
flat_map_more {X} {A} f xs i x before after less at was is =
    is ∙ (λ j. was j ++ f x)
    ∙ ap (λ (ys : List A). flat_map f (take i xs) ++ ys) (sym (append-nil (f x)))
    ∙ sym (flat_map-append f (take i xs) (x ∷ []))
    ∙ ap (flat_map f) (ap (λ (y : X). take i xs ++ y ∷ []) at ∙ sym (take_more xs i x less))

-- ---- receivers

pub some_receiver : (code : List ℕ) (orders : List Order) (reading : ReceiverReading) → length orders ≢ 0
    → reading ≡ record { queued = length orders; queued_value = pos (value_of orders); to = code }
    → reading ∷ [] ≡ receiver_of code orders
some_receiver code [] reading some is = absurd (some refl)
some_receiver code (o ∷ os) reading some is = ap (λ (r : ReceiverReading). r ∷ []) is

pub no_receiver : (code : List ℕ) (orders : List Order) → length orders ≡ 0 → receiver_of code orders ≡ []
no_receiver code [] none = refl
no_receiver code (o ∷ os) none = absurd (omega (arith, none))

pub receivers_are : (book : Book) (core : Core) (payments : Payments) (orders : List Order) (items : List Account)
    (done : List ReceiverReading) → IsCoreOf book core → items ≡ core.accounts
    → ((code : List ℕ) → paid_in payments code ≡ paid_to code orders)
    → done ≡ flat_map (λ (a : Account). receiver_of (code_of a) (paid_in payments (code_of a))) items
    → done ≡ receivers_of book orders
receivers_are book core payments orders items done is same paid so =
    so ∙ each items
    ∙ ap (flat_map (λ code. receiver_of code (paid_to code orders)))
    (ap (map code_of) same ∙ codes_in_core book core is)
  where
    each : (xs : List Account) → flat_map (λ (a : Account). receiver_of (code_of a) (paid_in payments (code_of a))) xs
        ≡ flat_map (λ code. receiver_of code (paid_to code orders)) (map code_of xs)
    each [] = refl
    each (x ∷ xs) = λ j. receiver_of (code_of x) (paid (code_of x) j) ++ each xs j

-- ---- queues

pub some_queue : (book : Book) (choice : Choice) (code : List ℕ) (orders : List Order) (first : Order)
    (reading : QueueReading) → Some first ≡ slice_get orders 0
    → reading ≡ reading_of_queue book choice code first orders → reading ∷ [] ≡ queue_if_any book choice code orders
some_queue book choice code [] first reading there is = absurd (cc)
some_queue book choice code (o ∷ os) first reading there is =
    let same : first ≡ o = same_Some _ _ there in
    ap (λ (r : QueueReading). r ∷ []) is ∙ ap (λ (f : Order). reading_of_queue book choice code f (o ∷ os) ∷ []) same

pub no_queue : (book : Book) (choice : Choice) (code : List ℕ) (orders : List Order) → None ≡ slice_get orders 0
    → queue_if_any book choice code orders ≡ []
no_queue book choice code [] none = refl
no_queue book choice code (o ∷ os) none = absurd (cc)

pub at_place : (items : List Account) (i : ℕ) (a : Account) → i < length items → a ≡ get_or items i a
    → slice_get items i ≡ Some a
at_place items i a less at = slice_get_read items (length items) i a refl less at

-- the length at a place is that of the account there
pub length_at : (book : Book) (choice : Choice) (core : Core) (lengths : List ℕ) (items : List Account) (i : ℕ)
    (a : Account) → IsCoreOf book core → items ≡ core.accounts → lengths ≡ map choice (codes_of book)
    → slice_get items i ≡ Some a → choice (code_of a) ≡ get_or lengths i 0
length_at book choice core lengths items i a is same chosen there =
    let codes : map code_of items ≡ codes_of book = ap (map code_of) same ∙ codes_in_core book core is in
    sym (ap (λ (o : Option ℕ). unwrap_or o 0) (
    ap (λ (xs : List ℕ). slice_get xs i) (chosen ∙ ap (map choice) (sym codes))
    ∙ slice_get-map choice (map code_of items) i
    ∙ ap (option_map choice) (slice_get-map code_of items i ∙ ap (option_map code_of) there)))
    ∙ unwrap_or-slice_get lengths i 0

pub queues_are : (book : Book) (choice : Choice) (core : Core) (items : List Account) (done : List QueueReading)
    → IsCoreOf book core → items ≡ core.accounts
    → done ≡ flat_map (λ (a : Account). queue_if_any book choice (code_of a) (queue book (code_of a))) items
    → done ≡ queue_readings book choice
queues_are book choice core items done is same so =
    so ∙ each_code (λ code. queue_if_any book choice code (queue book code)) items
    ∙ ap (flat_map (λ code. queue_if_any book choice code (queue book code)))
    (ap (map code_of) same ∙ codes_in_core book core is)

-- ---- what is answered

pub told : (answer : List QueueReading) (result : Result (Vec QueueReading Global) Refusal)
    → IfOk result (λ readings. readings.items ≡ answer) → IfErr result (λ refusal. refusal ≡ OutOfMemory)
    → Tells {X = List QueueReading} {Y = Vec QueueReading Global} (λ readings. readings.items) (Ok answer) result
told answer (Ok readings) ok err = ok
told answer (Err refusal) ok err = err
