-- The tables hold one book at most.
use Rattle.std.proofs.Common.{◌≡◌, ℕ, pos, zero, suc, List, [], ◌∷◌, ◌++◌, map, Option, Some, None, refl, sym, ap, ap₂}
use Rattle.std.proofs.Common.{Bool, true, false, subst, ◌∙◌, arith, add-one}
use Rattle.std.specs.List.{AllByRecursion}
use Rattle.std.specs.List.Sorted.{IsPermutation, IsSorted, IsStrictlySortedBy}
use Rattle.std.specs.Ordering.{nat_cmp, int_cmp, ordering_reverse, is_lt}
use Rattle.std.specs.declared.cmp.Ordering.{Ordering}
use Rattle.std.specs.declared.cmp.Ordering.TheVariants.{Less, Equal}
use Rattle.std.specs.Cmp.{IsTotalOrder}
use Rattle.std.specs.Cmp.Lexicographic.{slice_cmp}
use Rattle.std.proofs.lemmas.Cmp.{nat_list_cmp_total, int_cmp_total, tied_itself}
use Rattle.std.proofs.lemmas.List.Sorted.{IsPermutation-trans, IsPermutation-sym}
use Rattle.sqlite.specs.declared.types.Value.{Value}
use Rattle.sqlite.specs.declared.types.Value.TheVariants.{Null, Int, Text}
use Rattle.sqlite.specs.Order.{Row}
use Rattle.sqlite.specs.Tree.{IsAscending}
use Rattle.sqlite_keyed.proofs.SortLemmas.{sorted_unique}
use Rattle.sqlite_keyed.proofs.ListLemmas.{ascending_from_map}
use Rattle.rtgs_lists.proofs.Lists.{all_of}
use Rattle.rtgs_money.specs.Date.{date_text, IsBusinessDate}
use Rattle.rtgs_book.specs.declared.book.Book.{Book}
use Rattle.rtgs_book.specs.declared.day.Day.{Day}
use Rattle.rtgs_book.specs.declared.phase.Phase.{Phase}
use Rattle.rtgs_book.specs.declared.phase.Phase.TheVariants.{Closed, Open, CutOff}
use Rattle.rtgs_book.specs.declared.participant.Participant.{Participant}
use Rattle.rtgs_book.specs.declared.posting.Posting.{Posting}
use Rattle.rtgs_book.specs.declared.order.Order.{Order}
use Rattle.rtgs_book.specs.declared.mark.Mark.{Mark}
use Rattle.rtgs_book.specs.declared.order_state.OrderState.{OrderState}
use Rattle.rtgs_book.specs.declared.order_state.OrderState.TheVariants.{Queued, Held, Settled, Withdrawn, Rejected}
use Rattle.rtgs_book.specs.Lookup.{codes_of}
use Rattle.rtgs_book.specs.Soundness.{CodesRise}
use Rattle.rtgs_rows.specs.declared.numbers.TheConstants.{VERSION}
use Rattle.rtgs_rows.specs.Rows.{date_value, phase_number, state_number, mark_value, day_row, posting_row, order_row}
use Rattle.rtgs_rows.specs.Rows.{mark_row, forward_row, resolution_number, choice_row}
use Rattle.rtgs_rows.specs.Dues.{without_due, forward_for, forwards_of}
use Rattle.rtgs_rows.specs.declared.forward.Forward.{Forward}
use Rattle.rtgs_rows.proofs.Ordered.{rises, dues_above}
use Rattle.rtgs_rows.specs.Tables.{desk_table, participant_table, posting_table, order_table, mark_table}
use Rattle.rtgs_rows.specs.Tables.{forward_table, resolution_table}
use Rattle.rtgs_rows.specs.Content.{Holding, Content, holding_row, tables_for, rows_in, Rise}
use Rattle.rtgs_rows.specs.Fitting.{FitsDate, FitsPosting, FitsOrder, FitsMark, FitsForward}
use Rattle.rtgs_rows.specs.Keeping.{IsBookOf}

-- ---- dates

-- the law of dates
abbrev DatesTell : Type 0
DatesTell = (one other : ℕ) → IsBusinessDate one → IsBusinessDate other → date_text one ≡ date_text other → one ≡ other

date_value_once : DatesTell → (a b : Option ℕ) → FitsDate a → FitsDate b → date_value a ≡ date_value b → a ≡ b
date_value_once d None None p q e = refl
date_value_once d None (Some b) p q e = absurd (let clash : ◌≡◌ {A = Value} Null (Text (date_text b)) = e in cc)
date_value_once d (Some a) None p q e = absurd (let clash : ◌≡◌ {A = Value} (Text (date_text a)) Null = e in cc)
date_value_once d (Some a) (Some b) p q e = ap Some (d a b p q
    (let texts : ◌≡◌ {A = Value} (Text (date_text a)) (Text (date_text b)) = e in cc))

-- ---- rows

phase_once : (a b : Phase) → phase_number a ≡ phase_number b → a ≡ b
phase_once Closed Closed e = refl
phase_once Closed Open e = absurd (omega arith)
phase_once Closed CutOff e = absurd (omega arith)
phase_once Open Closed e = absurd (omega arith)
phase_once Open Open e = refl
phase_once Open CutOff e = absurd (omega arith)
phase_once CutOff Closed e = absurd (omega arith)
phase_once CutOff Open e = absurd (omega arith)
phase_once CutOff CutOff e = refl

choice_once : (a b : Bool) → resolution_number a ≡ resolution_number b → a ≡ b
choice_once false false e = refl
choice_once false true e = absurd (omega arith)
choice_once true false e = absurd (omega arith)
choice_once true true e = refl

state_once : (a b : OrderState) → state_number a ≡ state_number b → mark_value a ≡ mark_value b → a ≡ b
state_once Queued Queued e f = refl
state_once Queued Held e f = absurd (omega arith)
state_once Queued (Settled n) e f = absurd (omega arith)
state_once Queued Withdrawn e f = absurd (omega arith)
state_once Queued Rejected e f = absurd (omega arith)
state_once Held Queued e f = absurd (omega arith)
state_once Held Held e f = refl
state_once Held (Settled n) e f = absurd (omega arith)
state_once Held Withdrawn e f = absurd (omega arith)
state_once Held Rejected e f = absurd (omega arith)
state_once (Settled m) Queued e f = absurd (omega arith)
state_once (Settled m) Held e f = absurd (omega arith)
state_once (Settled m) (Settled n) e f = ap Settled (let marks : ◌≡◌ {A = Value} (Int (pos m)) (Int (pos n)) = f in cc)
state_once (Settled m) Withdrawn e f = absurd (omega arith)
state_once (Settled m) Rejected e f = absurd (omega arith)
state_once Withdrawn Queued e f = absurd (omega arith)
state_once Withdrawn Held e f = absurd (omega arith)
state_once Withdrawn (Settled n) e f = absurd (omega arith)
state_once Withdrawn Withdrawn e f = refl
state_once Withdrawn Rejected e f = absurd (omega arith)
state_once Rejected Queued e f = absurd (omega arith)
state_once Rejected Held e f = absurd (omega arith)
state_once Rejected (Settled n) e f = absurd (omega arith)
state_once Rejected Withdrawn e f = absurd (omega arith)
state_once Rejected Rejected e f = refl

pub day_once : DatesTell → (version : ℕ) (a b : Day) → FitsDate a.date → FitsDate b.date
    → day_row version a ≡ day_row version b → choice_row a ≡ choice_row b → a ≡ b
day_once d version a b p q e f =
    let dates : date_value a.date ≡ date_value b.date = cc in
    let phases : phase_number a.phase ≡ phase_number b.phase = cc in
    let date = date_value_once d a.date b.date p q dates in
    let phase = phase_once a.phase b.phase phases in
    let choices : resolution_number a.automatic ≡ resolution_number b.automatic = cc in
    let automatic = choice_once a.automatic b.automatic choices in
    λ i. record { date = date i; phase = phase i; automatic = automatic i }

-- so where the rows are those of what the tables hold
same_day : DatesTell → (version : ℕ) {a b a_held b_held : Day} → a_held ≡ a → b_held ≡ b → FitsDate a.date
    → FitsDate b.date → ◌≡◌ {A = List Row} (day_row version b_held ∷ []) (day_row version a_held ∷ [])
    → ◌≡◌ {A = List Row} (choice_row b_held ∷ []) (choice_row a_held ∷ []) → a ≡ b
same_day d version {a = a} {b = b} {a_held = a_held} {b_held = b_held} first second p q e f =
    let rows : day_row version b_held ≡ day_row version a_held = cc in
    let choices : choice_row b_held ≡ choice_row a_held = cc in
    day_once d version a b p q (ap (day_row version) (sym first) ∙ sym rows ∙ ap (day_row version) second)
    (ap choice_row (sym first) ∙ sym choices ∙ ap choice_row second)

holding_once : (a b : Holding) → holding_row a ≡ holding_row b → a ≡ b
holding_once a b e =
    let id : a.id ≡ b.id = cc in
    let code : a.participant.code ≡ b.participant.code = cc in
    let name : a.participant.name ≡ b.participant.name = cc in
    let key : a.participant.key ≡ b.participant.key = cc in
    let credit : a.participant.credit ≡ b.participant.credit = cc in
    let balance : a.balance ≡ b.balance = cc in
    λ i. record {
      id = id i;
      participant = record { code = code i; name = name i; key = key i; credit = credit i };
      balance = balance i;
    }

pub posting_once : DatesTell → (a b : Posting) → FitsPosting a → FitsPosting b → posting_row a ≡ posting_row b → a ≡ b
posting_once d a b p q e =
    let number : a.number ≡ b.number = cc in
    let code : a.code ≡ b.code = cc in
    let reference : a.reference ≡ b.reference = cc in
    let cents : a.cents ≡ b.cents = cc in
    let dates : date_value a.date ≡ date_value b.date = cc in
    let date = date_value_once d a.date b.date p.date q.date dates in
    λ i. record { number = number i; code = code i; reference = reference i; cents = cents i; date = date i }

-- the rows of orders tell them, except their due dates
undated_once : DatesTell → (a b : Order) → FitsOrder a → FitsOrder b → order_row a ≡ order_row b
    → without_due a ≡ without_due b
undated_once d a b p q e =
    let number : a.number ≡ b.number = cc in
    let sender : a.sender ≡ b.sender = cc in
    let reference : a.reference ≡ b.reference = cc in
    let receiver : a.receiver ≡ b.receiver = cc in
    let amount : a.amount ≡ b.amount = cc in
    let dates : date_text a.date ≡ date_text b.date = cc in
    let states : state_number a.state ≡ state_number b.state = cc in
    let marks : mark_value a.state ≡ mark_value b.state = cc in
    let date = d a.date b.date p.undated.date q.undated.date dates in
    let state = state_once a.state b.state states marks in
    λ i. record {
      number = number i;
      sender = sender i;
      reference = reference i;
      receiver = receiver i;
      amount = amount i;
      date = date i;
      due = None;
      state = state i;
    }

forward_once : DatesTell → (a b : Forward) → FitsForward a → FitsForward b → forward_row a ≡ forward_row b → a ≡ b
forward_once d a b p q e =
    let number : a.number ≡ b.number = cc in
    let dates : date_text a.due ≡ date_text b.due = cc in
    let due = d a.due b.due p.due q.due dates in
    λ i. record { number = number i; due = due i }

pub mark_once : DatesTell → (a b : Mark) → FitsMark a → FitsMark b → mark_row a ≡ mark_row b → a ≡ b
mark_once d a b p q e =
    let number : a.number ≡ b.number = cc in
    let dates : date_text a.date ≡ date_text b.date = cc in
    let count : a.count ≡ b.count = cc in
    let value : a.value ≡ b.value = cc in
    let date = d a.date b.date p.date q.date dates in
    λ i. record { number = number i; date = date i; count = count i; value = value i }

rows_once : {A : Type 0} (row : A → Row) (P : A → Type 0) → ((a b : A) → P a → P b → row a ≡ row b → a ≡ b)
    → (xs ys : List A) → AllByRecursion P xs → AllByRecursion P ys → map row xs ≡ map row ys → xs ≡ ys
rows_once row P once [] [] p q e = refl
rows_once row P once [] (y ∷ ys) p q e = absurd cc
rows_once row P once (x ∷ xs) [] p q e = absurd cc
rows_once row P once (x ∷ xs) (y ∷ ys) p q e =
    let head : row x ≡ row y = cc in
    let tail : map row xs ≡ map row ys = cc in
    ap₂ ◌∷◌ (once x y p.0 q.0 head) (rows_once row P once xs ys p.1 q.1 tail)

-- so records of two books, whose rows are those of what the tables hold
same_records : {A : Type 0} {row : A → Row} {P : A → Type 0} → ((a b : A) → P a → P b → row a ≡ row b → a ≡ b)
    → {xs ys xs_held ys_held : List A} → xs_held ≡ xs → ys_held ≡ ys → AllByRecursion P xs → AllByRecursion P ys
    → map row ys_held ≡ map row xs_held → xs ≡ ys
same_records {row = row} {P = P} once {xs = xs} {ys = ys} first second p q e =
    rows_once row P once xs ys p q (ap (map row) (sym first) ∙ sym e ∙ ap (map row) second)

-- ---- orders and their due dates

pub forwards_fit : (os : List Order) → AllByRecursion FitsOrder os → AllByRecursion FitsForward (forwards_of os)
forwards_fit [] h = tt
forwards_fit (o ∷ os) h = by o.due h.0.due (forwards_fit os h.1)
  where
    by : (due : Option ℕ) → FitsDate due → AllByRecursion FitsForward (forwards_of os)
        → AllByRecursion FitsForward (forward_for o.number due ++ forwards_of os)
    by None fits rest = rest
    by (Some due) fits rest = (record { due = fits }, rest)

-- a due date with this number is none of those whose numbers are above it
not_above : (number due : ℕ) (rest fs : List Forward)
    → AllByRecursion (λ (f : Forward). int_cmp (pos number) (pos f.number) ≡ Less) fs
    → ◌≡◌ {A = List Forward} (record { number = number; due = due } ∷ rest) fs → ⊥
not_above number due rest [] above e = absurd cc
not_above number due rest (f ∷ fs) above e =
    let same : number ≡ f.number = cc in
    let tied = tied_itself int_cmp_total (pos number) in
    let low : int_cmp (pos number) (pos number) ≡ Less = subst (λ n. int_cmp (pos number) (pos n) ≡ Less) (sym same)
    above.0 in
    let clash : ◌≡◌ {A = Ordering} Less Equal = sym low ∙ tied in cc

abbrev first_due : List Forward → ℕ
first_due [] = 0
first_due (f ∷ fs) = f.due

abbrev after_first : List Forward → List Forward
after_first [] = []
after_first (f ∷ fs) = fs

-- an order is what it is without its due date, and that date
same_order : (a b : Order) → without_due a ≡ without_due b → a.due ≡ b.due → a ≡ b
same_order a b e due = λ i. record (e i) { due = due i }

-- orders whose numbers rise are given by their rows and the rows of their due dates
orders_once : DatesTell → (xs ys : List Order) → AllByRecursion FitsOrder xs → AllByRecursion FitsOrder ys
    → Rise (λ (o : Order). pos o.number) xs → Rise (λ (o : Order). pos o.number) ys
    → map order_row xs ≡ map order_row ys → forwards_of xs ≡ forwards_of ys → xs ≡ ys
orders_once d [] [] p q up vp e f = refl
orders_once d [] (y ∷ ys) p q up vp e f = absurd cc
orders_once d (x ∷ xs) [] p q up vp e f = absurd cc
orders_once d (x ∷ xs) (y ∷ ys) p q up vp e f =
    let head : order_row x ≡ order_row y = cc in
    let tail : map order_row xs ≡ map order_row ys = cc in
    let same = undated_once d x y p.0 q.0 head in
    let number : x.number ≡ y.number = ap (λ (o : Order). o.number) same in
    by x.due refl y.due refl same number (dues_above x.number xs up.0) (dues_above y.number ys vp.0) f
    (λ rest. orders_once d xs ys p.1 q.1 up.1 vp.1 tail rest)
  where
    by : (a : Option ℕ) → x.due ≡ a → (b : Option ℕ) → y.due ≡ b → without_due x ≡ without_due y
        → x.number ≡ y.number
        → AllByRecursion (λ (f : Forward). int_cmp (pos x.number) (pos f.number) ≡ Less) (forwards_of xs)
        → AllByRecursion (λ (f : Forward). int_cmp (pos y.number) (pos f.number) ≡ Less) (forwards_of ys)
        → (forward_for x.number x.due ++ forwards_of xs) ≡ (forward_for y.number y.due ++ forwards_of ys)
        → (forwards_of xs ≡ forwards_of ys → xs ≡ ys) → ◌≡◌ {A = List Order} (x ∷ xs) (y ∷ ys)
    by None m None n same number high above f more =
        let rest : forwards_of xs ≡ forwards_of ys = rw (m, n) at f in
        ap₂ ◌∷◌ (same_order x y same (m ∙ sym n)) (more rest)
    by (Some a) m (Some b) n same number high above f more =
        let all : ◌≡◌ {A = List Forward} (record { number = x.number; due = a } ∷ forwards_of xs)
        (record { number = y.number; due = b } ∷ forwards_of ys) = rw (m, n) at f in
        let due : a ≡ b = ap first_due all in
        ap₂ ◌∷◌ (same_order x y same (m ∙ ap Some due ∙ sym n)) (more (ap after_first all))
    by (Some a) m None n same number high above f more =
        let all : ◌≡◌ {A = List Forward} (record { number = x.number; due = a } ∷ forwards_of xs) (forwards_of ys) =
        rw (m, n) at f in
        absurd (not_above x.number a (forwards_of xs) (forwards_of ys)
        (subst (λ k. AllByRecursion (λ (f : Forward). int_cmp (pos k) (pos f.number) ≡ Less) (forwards_of ys))
        (sym number) above) all)
    by None m (Some b) n same number high above f more =
        let all : ◌≡◌ {A = List Forward} (forwards_of xs) (record { number = y.number; due = b } ∷ forwards_of ys) =
        rw (m, n) at f in
        absurd (not_above y.number b (forwards_of ys) (forwards_of xs)
        (subst (λ k. AllByRecursion (λ (f : Forward). int_cmp (pos k) (pos f.number) ≡ Less) (forwards_of xs))
        number high) (sym all))

-- ---- participants in the order of their codes

abbrev pub by_code : Participant → Participant → Ordering
by_code p q = slice_cmp nat_cmp p.code q.code

by_code_total : IsTotalOrder by_code
by_code_total = record {
  antisymm = λ x y. nat_list_cmp_total.antisymm x.code y.code;
  trans = λ x y z. nat_list_cmp_total.trans x.code y.code z.code;
  congr = λ x y z. nat_list_cmp_total.congr x.code y.code z.code;
}

-- what rises is sorted
pub sorted_from : {X : Type 0} (cmp : X → X → Ordering) → IsTotalOrder cmp → (xs : List X)
    → IsAscending (λ a b. cmp a b ≡ Less) xs → IsSorted cmp xs
sorted_from cmp total [] up k d p q = absurd (omega arith)
sorted_from cmp total (x ∷ []) up k d p q = absurd (omega arith)
sorted_from cmp total (x ∷ y ∷ ys) up zero d p q = ap is_lt (total.antisymm y x ∙ ap ordering_reverse up.0.0)
sorted_from cmp total (x ∷ y ∷ ys) up (suc k) d p q = rw add-one
    (rw add-one at (sorted_from cmp total (y ∷ ys) up.1 k d (omega arith) (omega arith)))

strict_codes : (xs : List (List ℕ)) → IsStrictlySortedBy (slice_cmp nat_cmp) xs
    → IsAscending (λ a b. slice_cmp nat_cmp a b ≡ Less) xs
unfolding IsStrictlySortedBy
strict_codes [] h = tt
strict_codes (x ∷ xs) h = (h.0, strict_codes xs h.1)

pub rising : (b : Book) → CodesRise b → IsAscending (λ (p q : Participant). by_code p q ≡ Less) b.participants
unfolding codes_of
rising b rise = ascending_from_map (λ (x y : List ℕ). slice_cmp nat_cmp x y ≡ Less) (λ (p : Participant). p.code)
    b.participants (strict_codes _ rise.0)

same_participants : (one other : Book) (ps : List Participant) → CodesRise one → CodesRise other
    → IsPermutation ps one.participants → IsPermutation ps other.participants → other.participants ≡ one.participants
same_participants one other ps r s p q =
    sorted_unique by_code by_code_total one.participants other.participants (rising one r)
    (IsPermutation-trans _ _ _ (IsPermutation-sym _ _ p) q)
    (sorted_from by_code by_code_total other.participants (rising other s))

-- ---- books

pub once : DatesTell → (one other : Book) (c d : Content) → IsBookOf one c → IsBookOf other d
    → tables_for c ≡ tables_for d → other ≡ one
once dates one other c d h k e =
    let ours = h.records.lists in
    let theirs = k.records.lists in
    let holdings : d.holdings ≡ c.holdings = rows_once holding_row (λ _. Unit {0}) (λ a b _ _. holding_once a b)
    d.holdings c.holdings (all_of _ (λ _. tt) _) (all_of _ (λ _. tt) _)
    (sym (ap (rows_in participant_table) e)) in
    let participants = same_participants one other (map (λ (h : Holding). h.participant) c.holdings) h.sound.codes_rise
    k.sound.codes_rise h.records.participants
    (subst (λ hs. IsPermutation (map (λ (h : Holding). h.participant) hs) other.participants) holdings
    k.records.participants) in
    let day = same_day dates VERSION theirs.day ours.day k.fits.day h.fits.day (ap (rows_in desk_table) e)
    (ap (rows_in resolution_table) e) in
    λ i. record {
      participants = participants i;
      postings = same_records (posting_once dates) theirs.postings ours.postings k.fits.postings h.fits.postings
          (ap (rows_in posting_table) e) i;
      orders = orders_once dates other.orders one.orders k.fits.orders h.fits.orders
          (rises (λ (o : Order). o.number) other.orders k.sound.orders_numbered)
          (rises (λ (o : Order). o.number) one.orders h.sound.orders_numbered)
          (ap (map order_row) (sym theirs.orders) ∙ sym (ap (rows_in order_table) e)
          ∙ ap (map order_row) ours.orders)
          (same_records (forward_once dates) theirs.forwards ours.forwards (forwards_fit other.orders k.fits.orders)
          (forwards_fit one.orders h.fits.orders) (ap (rows_in forward_table) e)) i;
      marks = same_records (mark_once dates) theirs.marks ours.marks k.fits.marks h.fits.marks
          (ap (rows_in mark_table) e) i;
      day = day i;
    }
