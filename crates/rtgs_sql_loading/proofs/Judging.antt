-- Which rule a fault names.
use Rattle.std.proofs.Common.{◌≡◌, ◌≢◌, ℕ, ℤ, ◌↔◌, Bool, true, false, cond, List, [], ◌∷◌, Some, None, map, option_map}
use Rattle.std.proofs.Common.{unwrap_or, Ok, Err, Result, IfOk, IfErr, OnOk, nat_cmp, refl, sym, ap, subst, subst₂, ◌∙◌}
use Rattle.std.specs.List.{AllByRecursion, list_all}
use Rattle.std.specs.BTreeMap.{BTreeMap}
use Rattle.std.specs.Cmp.Lexicographic.{slice_cmp}
use Rattle.std.specs.Ordering.{eq_by_cmp, int_eq}
use Rattle.std.specs.Set.{is_member}
use Rattle.std.specs.Result.{IsErrAnd}
use Rattle.std.proofs.lemmas.Bool.{and_parts}
use Rattle.std.proofs.lemmas.Bool.Decides.{Decides-int_eq}
use Rattle.std.proofs.lemmas.Cmp.{nat_list_cmp_total, eq_by_cmp_equiv}
use Rattle.std.proofs.Math.Bool.{or-true}
use Rattle.sqlite_keyed.proofs.ListLemmas.{all_weaker, map-map}
use Rattle.rtgs_book.specs.declared.book.Book.{Book}
use Rattle.rtgs_book.specs.Balance.{balance}
use Rattle.rtgs_book.specs.Lookup.{codes_of}
use Rattle.rtgs_book.specs.Totals.{Totals}
use Rattle.rtgs_book.specs.declared.participant.Participant.{Participant}
use Rattle.rtgs_book.specs.declared.fault.Fault.{Fault}
use Rattle.rtgs_book.specs.declared.fault.Fault.TheVariants.{OutOfMemory, StoreFault, NotADeskFile, Inconsistent}
use Rattle.rtgs_book.specs.declared.rule.Rule.{Rule}
use Rattle.rtgs_book.specs.declared.account.Account.{Account}
use Rattle.rtgs_rows.specs.Keeping.{AreBalances}
use Rattle.rtgs_sql_loading.specs.Accounts.{AreReadOf, AreFormed, is_stored}
use Rattle.rtgs_sql_loading.specs.Accounts.{ExplainsRead, ExplainsTrees}
use Rattle.sqlite.specs.Tree.{Trees}

-- a `?` answers the fault that it meets
pub same_fault : {A B : Type 0} (met : Result A Fault) (fault kind : Fault) (answer : Result B Fault) → met ≡ Err fault
    → IsErrAnd answer (λ passed. passed ≡ fault) → answer ≡ Err kind → met ≡ Err kind
same_fault met fault kind (Ok b) was passed e =
    absurd (let clash : ◌≡◌ {A = Result _ Fault} (Ok b) (Err kind) = e in cc)
same_fault met fault kind (Err passed_fault) was passed e =
    let is : passed_fault ≡ kind = cc in
    was ∙ ap Err (sym passed ∙ is)

-- and answers that fault
pub answered : {A B : Type 0} (met : Result A Fault) (fault kind : Fault) (answer : Result B Fault) → met ≡ Err fault
    → IsErrAnd answer (λ passed. passed ≡ fault) → met ≡ Err kind → answer ≡ Err kind
answered met fault kind (Ok b) was passed e = absurd passed
answered met fault kind (Err passed_fault) was passed e =
    let is : fault ≡ kind = cc in
    ap Err (passed ∙ is)

-- what was read was judged
pub judged_book : (stored accounts : List Account) (read book : Book) (answer : Result Book Fault) → read ≡ book
    → stored ≡ accounts → IfOk answer (λ it. it ≡ read) → OnOk answer (AreBalances read stored)
    → IfOk answer (λ it. (it ≡ book) × AreBalances book accounts)
judged_book stored accounts read book (Ok it) same alike given agree =
    (given ∙ same, subst₂ (λ b a. AreBalances b a) same alike agree)
judged_book stored accounts read book (Err fault) same alike given agree = tt

-- nothing was read, for no fault of the tables
pub unread : {A : Type 0} (accounts : List Account) (book : Book) (read : Result A Fault) (fault : Fault)
    (answer : Result Book Fault) → read ≢ Err NotADeskFile → ((rule : Rule) → read ≢ Err (Inconsistent rule))
    → read ≡ Err fault → IsErrAnd answer (λ passed. passed ≡ fault) → IfErr answer (ExplainsRead accounts book)
unread accounts book read fault (Ok it) form rules was passed = tt
unread accounts book read OutOfMemory (Err it) form rules was passed =
    subst (ExplainsRead accounts book) (sym passed) tt
unread accounts book read StoreFault (Err it) form rules was passed = subst (ExplainsRead accounts book) (sym passed) tt
unread accounts book read NotADeskFile (Err it) form rules was passed = absurd (form was)
unread accounts book read (Inconsistent rule) (Err it) form rules was passed = absurd (rules rule was)

-- nothing was read of tables: a row is malformed, or the store failed or memory was refused
pub unread_of : {A : Type 0} (version : ℕ) (trees : Trees) (read : Result A Fault) (fault : Fault)
    (answer : Result Book Fault)
    → (read ≡ Err NotADeskFile → ¬ AreFormed version trees) → ((rule : Rule) → read ≢ Err (Inconsistent rule))
    → read ≡ Err fault → IsErrAnd answer (λ passed. passed ≡ fault) → IfErr answer (ExplainsTrees version trees)
unread_of version trees read fault (Ok it) wrong rules was passed = tt
unread_of version trees read OutOfMemory (Err it) wrong rules was passed =
    subst (ExplainsTrees version trees) (sym passed) tt
unread_of version trees read StoreFault (Err it) wrong rules was passed =
    subst (ExplainsTrees version trees) (sym passed) tt
unread_of version trees read NotADeskFile (Err it) wrong rules was passed =
    subst (ExplainsTrees version trees) (sym passed) (wrong was)
unread_of version trees read (Inconsistent rule) (Err it) wrong rules was passed = absurd (rules rule was)

-- what was read of tables was judged
pub judged_of : (version : ℕ) (trees : Trees) (accounts : List Account) (book : Book) (answer : Result Book Fault)
    → AreReadOf version trees accounts book → IfErr answer (ExplainsRead accounts book)
    → IfErr answer (ExplainsTrees version trees)
judged_of version trees accounts book (Ok it) read why = tt
judged_of version trees accounts book (Err OutOfMemory) read why = tt
judged_of version trees accounts book (Err StoreFault) read why = tt
judged_of version trees accounts book (Err NotADeskFile) read why = absurd why
judged_of version trees accounts book (Err (Inconsistent rule)) read why = (accounts, book, read, why)

-- ---- the stored balances against a map of sums

abbrev same_code : List ℕ → List ℕ → Bool
same_code = eq_by_cmp (slice_cmp nat_cmp)

abbrev code_of : Account → List ℕ
code_of a = a.participant.code

are_members : (all : List Account) → AllByRecursion (λ (a : Account). is_member same_code (map code_of all) (code_of a)
    ≡ true) all
are_members [] = tt
are_members (a ∷ all) = (
  rw ((eq_by_cmp_equiv nat_list_cmp_total).refl (code_of a)) refl,
  all_weaker (λ (b : Account). is_member same_code (map code_of all) (code_of b) ≡ true)
      (λ (b : Account). is_member same_code (map code_of (a ∷ all)) (code_of b) ≡ true)
      (λ b is. rw is (or-true (same_code (code_of b) (code_of a)))) all (are_members all),
)

module _ (sum_of : List ℕ → ℤ) (keys : List (List ℕ)) (sums : BTreeMap (List ℕ) ℤ)
    (totals : Totals (slice_cmp nat_cmp) keys sum_of sums) where
  one_stored : (a : Account) → is_member same_code keys (code_of a) ≡ true
      → is_stored sums a ≡ int_eq a.balance (sum_of (code_of a))
  one_stored a known = ap (λ found. unwrap_or (option_map (int_eq a.balance) found) false)
      (totals (code_of a) ∙ ap (λ b. cond b (Some (sum_of (code_of a))) None) known)

  all_stored : (all : List Account) → AllByRecursion (λ (a : Account). is_member same_code keys (code_of a) ≡ true) all
      → (list_all (is_stored sums) all ≡ true) ↔ AllByRecursion (λ (a : Account). a.balance ≡ sum_of (code_of a)) all
  all_stored [] known = (λ _. tt, λ _. refl)
  all_stored (a ∷ all) known =
      let is = one_stored a known.0 in
      let same = Decides-int_eq a.balance (sum_of (code_of a)) in
      let more = all_stored all known.1 in (
        λ e. let parts = and_parts _ _ e in (same.0 (sym is ∙ parts.0), more.0 parts.1),
        λ each. rw (is ∙ same.1 each.0, more.1 each.1) refl,
      )

pub stored_agree : (book : Book) (all : List Account) (sums : BTreeMap (List ℕ) ℤ)
    → book.participants ≡ map (λ (a : Account). a.participant) all
    → Totals (slice_cmp nat_cmp) (codes_of book) (balance book) sums
    → (list_all (is_stored sums) all ≡ true) ↔ AreBalances book all
unfolding codes_of
stored_agree book all sums same totals =
    let codes : map (λ (p : Participant). p.code) book.participants
    ≡ map code_of all = ap (map (λ (p : Participant). p.code)) same
    ∙ map-map (λ (p : Participant). p.code) (λ (a : Account). a.participant) all in
    all_stored (balance book) (map code_of all) sums (subst (λ keys. Totals (slice_cmp nat_cmp) keys (balance book)
    sums) codes totals) all (are_members all)
