-- The stored balances after a change are the sums from scratch.
use Rattle.std.proofs.Common.{◌≡◌, inl, inr, ℕ, ℤ, pos, List, [], ◌∷◌, ◌++◌, map, Bool, true, false, cond, Option, Some}
use Rattle.std.proofs.Common.{None, unwrap_or, refl, sym, ap, ◌∙◌}
use Rattle.std.specs.List.{AllByRecursion}
use Rattle.std.specs.Ordering.{int_eq}
use Rattle.std.specs.Str.{bytes_eq}
use Rattle.std.proofs.lemmas.Bool.{cases_Bool}
use Rattle.std.proofs.lemmas.Bool.Decides.{Decides-int_eq}
use Rattle.std.proofs.lemmas.List.Sorted.{IsPermutation-map, IsPermutation-sym}
use Rattle.sqlite_trees.proofs.ListLemmas.{all-permutation}
use Rattle.sqlite_keyed.proofs.ListLemmas.{all_unmap}
use Rattle.rtgs_book.specs.declared.book.Book.{Book}
use Rattle.rtgs_book.specs.declared.participant.Participant.{Participant}
use Rattle.rtgs_book.specs.declared.change.RowChange.{RowChange}
use Rattle.rtgs_book.specs.declared.change.RowChange.TheVariants.{AddParticipant, SetCredit, SetBalance}
use Rattle.rtgs_book.specs.Balance.{balance}
use Rattle.rtgs_book.specs.Lookup.{codes_of}
use Rattle.rtgs_book.specs.Changes.{balance_set, or_else, SetsBalances, StartsEmpty}
use Rattle.rtgs_rows.specs.Content.{Holding, Content, newcomer, with_credit_in, with_balance_in, with_change}
use Rattle.rtgs_rows.specs.Content.{with_changes}
use Rattle.rtgs_rows.specs.Keeping.{AreOf}
use Rattle.rtgs_lists.proofs.Codes.{bytes_eq_comm}
use Rattle.rtgs_rows.proofs.Ordered.{all_codes_back}

-- the rows to come bring each stored balance to its target
abbrev Come : (List ℕ → ℤ) → List RowChange → List Holding → Type 0
Come target rows = AllByRecursion (λ (h : Holding). unwrap_or (balance_set h.participant.code rows) h.balance
    ≡ target h.participant.code)

-- a participant to be added stays at 0
abbrev Starts : (List ℕ → ℤ) → List RowChange → RowChange → Type 0
Starts target rows (AddParticipant p) = (balance_set p.code rows ≡ None) × (target p.code ≡ pos 0)
Starts target rows row = Unit {0}

rest_none : (code : List ℕ) (row : RowChange) (rows : List RowChange) → balance_set code (row ∷ rows) ≡ None
    → balance_set code rows ≡ None
rest_none code (SetBalance other balance) rows h = none_first (balance_set code rows) _ h
  where
    none_first : (a b : Option ℤ) → or_else a b ≡ None → a ≡ None
    none_first None b h = refl
    none_first (Some z) b h = h
rest_none code row rows h = h

start_later : (target : List ℕ → ℤ) (row : RowChange) (rows : List RowChange) (other : RowChange)
    → Starts target (row ∷ rows) other → Starts target rows other
start_later target row rows (AddParticipant p) h = (rest_none p.code row rows h.0, h.1)
start_later target row rows other h = tt

starts_later : (target : List ℕ → ℤ) (row : RowChange) (rows others : List RowChange)
    → AllByRecursion (Starts target (row ∷ rows)) others → AllByRecursion (Starts target rows) others
starts_later target row rows [] h = tt
starts_later target row rows (other ∷ others) h = (
  start_later target row rows other h.0,
  starts_later target row rows
      others h.1,
)

come_snoc : (target : List ℕ → ℤ) (rows : List RowChange) (hs : List Holding) (h : Holding) → Come target rows hs
    → unwrap_or (balance_set h.participant.code rows) h.balance ≡ target h.participant.code
    → Come target rows (hs ++ h ∷ [])
come_snoc target rows [] h all one = (one, tt)
come_snoc target rows (x ∷ hs) h all one = (all.0, come_snoc target rows hs h all.1 one)

come_credit : (target : List ℕ → ℤ) (rows : List RowChange) (code : List ℕ) (credit : ℕ) (hs : List Holding)
    → Come target rows hs → Come target rows (map (with_credit_in code credit) hs)
come_credit target rows code credit [] all = tt
come_credit target rows code credit (h ∷ hs) all = elim (cases_Bool (bytes_eq h.participant.code code)) [
  | inl hit ↦ (rw hit all.0, come_credit target rows code credit hs all.1)
  | inr miss ↦ (rw miss all.0, come_credit target rows code credit hs all.1)
]

later : (set : Option ℤ) (hit : Bool) (balance old : ℤ) → unwrap_or (or_else set (cond hit (Some balance) None)) old
    ≡ unwrap_or set (cond hit balance old)
later None true balance old = refl
later None false balance old = refl
later (Some z) hit balance old = refl

come_balance : (target : List ℕ → ℤ) (rows : List RowChange) (code : List ℕ) (cents : ℤ) (hs : List Holding)
    → Come target (SetBalance code cents ∷ rows) hs → Come target rows (map (with_balance_in code cents) hs)
come_balance target rows code cents [] all = tt
come_balance target rows code cents (h ∷ hs) all =
    let one : unwrap_or (balance_set h.participant.code rows) (cond (bytes_eq h.participant.code code) cents h.balance)
    ≡ target h.participant.code =
    ap (λ hit. unwrap_or (balance_set h.participant.code rows) (cond hit cents h.balance))
    (bytes_eq_comm h.participant.code code) ∙ sym (later (balance_set h.participant.code rows)
    (bytes_eq code h.participant.code) cents h.balance) ∙ all.0 in
    elim (cases_Bool (bytes_eq h.participant.code code)) [
      | inl hit ↦ (rw hit (rw hit at one), come_balance target rows code cents hs all.1)
      | inr miss ↦ (rw miss (rw miss at one), come_balance target rows code cents hs all.1)
    ]

come_on : (target : List ℕ → ℤ) (c : Content) (row : RowChange) (rows : List RowChange) → Starts target (row ∷ rows) row
    → Come target (row ∷ rows) c.holdings → Come target rows ((with_change c row).holdings)
come_on target c (AddParticipant p) rows starts all = come_snoc target rows c.holdings (newcomer c p) all
    (rw (rest_none p.code (AddParticipant p) rows starts.0) (sym starts.1))
come_on target c (SetCredit code credit) rows starts all = come_credit target rows code credit c.holdings all
come_on target c (SetBalance code cents) rows starts all = come_balance target rows code cents c.holdings all
come_on target c row rows starts all = all

arrive : (target : List ℕ → ℤ) (c : Content) (rows : List RowChange) → AllByRecursion (Starts target rows) rows
    → Come target rows c.holdings → AllByRecursion (λ (h : Holding). h.balance ≡ target h.participant.code)
    ((with_changes c rows).holdings)
arrive target c [] starts all = all
arrive target c (row ∷ rows) starts all =
    arrive target (with_change c row) rows (starts_later target row rows rows starts.1)
    (come_on target c row rows starts.0 all)

same_starts : (new : Book) (rows others : List RowChange) → AllByRecursion (StartsEmpty new rows) others
    → AllByRecursion (Starts (balance new) rows) others
same_starts new rows [] h = tt
same_starts new rows (AddParticipant p ∷ others) h = (h.0, same_starts new rows others h.1)
same_starts new rows (other ∷ others) h = (tt, same_starts new rows others h.1)

chosen : (a b : ℤ) → unwrap_or (cond (int_eq a b) None (Some b)) a ≡ b
chosen a b = elim (cases_Bool (int_eq a b)) [ inl same ↦ rw same ((Decides-int_eq a b).0 same) | inr other ↦ rw other ]

begin : (old new : Book) (rows : List RowChange) (hs : List Holding)
    → AllByRecursion (λ (h : Holding). balance_set h.participant.code rows
    ≡ cond (int_eq (balance old h.participant.code) (balance new h.participant.code)) None
    (Some (balance new h.participant.code))) hs
    → AllByRecursion (λ (h : Holding). h.balance ≡ balance old h.participant.code) hs → Come (balance new) rows hs
begin old new rows [] sets stored = tt
begin old new rows (h ∷ hs) sets stored = (
  rw (sets.0, stored.0) (chosen (balance old h.participant.code) (balance new h.participant.code)),
  begin old new
      rows hs sets.1 stored.1,
)

pub balances_after : (old new : Book) (c : Content) (rows : List RowChange) → AreOf new (with_changes c rows)
    → AllByRecursion (λ (h : Holding). h.balance ≡ balance old h.participant.code) c.holdings
    → SetsBalances old rows new → AllByRecursion (StartsEmpty new rows) rows
    → AllByRecursion (λ (h : Holding). h.balance ≡ balance new h.participant.code) ((with_changes c rows).holdings)
unfolding codes_of
balances_after old new c rows are stored sets added =
    let P = λ (code : List ℕ). balance_set code rows ≡ cond (int_eq (balance old code) (balance new code)) None
    (Some (balance new code)) in
    let moved = IsPermutation-sym _ _ (IsPermutation-map (λ (p : Participant). p.code) _ _ are.participants) in
    let last = (with_changes c rows).holdings in
    let after = all_unmap (λ (p : Participant). P p.code) (λ (h : Holding). h.participant) last
    (all_unmap P (λ (p : Participant). p.code) (map (λ (h : Holding). h.participant) last)
    (all-permutation P _ _ moved sets)) in
    let each = all_codes_back P rows c after in
    arrive (balance new) c rows (same_starts new rows rows added) (begin old new rows c.holdings each stored)
