-- What the keeper says of a look.
use Rattle.std.proofs.Common.{◌≡◌, ◌≢◌, ◌⊎◌, inl, inr, ℕ, ◌<◌, ◌==◌, Bool, true, false, List, [], ◌∷◌, Option, Some}
use Rattle.std.proofs.Common.{None, unwrap_or, Err, Result, refl, sym, ap, subst, ◌∙◌, arith, eqb-true}
use Rattle.std.proofs.Common.{eq-eqb, ◌&&◌, nat_lt, true≢false}
use Rattle.std.specs.List.{find}
use Rattle.std.proofs.lemmas.Bool.{cases_Bool}
use Rattle.sqlite.specs.State.{HasCleanDisk}
use Rattle.sqlite.specs.Held.{Held, state}
use Rattle.sqlite_trees.specs.declared.store.Store.{Ghosts}
use Rattle.rtgs_money.specs.Date.{IsBusinessDate}
use Rattle.rtgs_book.specs.declared.book.Book.{Book}
use Rattle.rtgs_book.specs.declared.posting.Posting.{Posting}
use Rattle.rtgs_book.specs.declared.fault.Fault.{Fault}
use Rattle.rtgs_book.specs.declared.fault.Fault.TheVariants.{OutOfMemory, StoreFault, NotADeskFile, Inconsistent}
use Rattle.rtgs_book.specs.declared.rule.Rule.{Rule}
use Rattle.rtgs_book.specs.Commands.{is_date}
use Rattle.rtgs_book.specs.cores.Nexts.{posting_after, is_posting_after, date_of_posting}
use Rattle.rtgs_keeper.specs.Calls.{OnlyReads}
use Rattle.rtgs_rows.specs.declared.numbers.TheConstants.{VERSION}
use Rattle.rtgs_rows.specs.Keeping.{HoldsBook, MayLeave, IsWhole}
use Rattle.rtgs_sql_look_ups.specs.Finding.{IsLook}
use Rattle.rtgs_sql_look_ups.specs.Seeking.{first_of_date}
use Rattle.rtgs_tables.specs.Loading.{MayLeaveNoMore}
use Rattle.rtgs_tables.proofs.Settling.{leaves_less, leaves_on}

-- the tables hold the book still
holds_on : {S A : Type 0} (g : Ghosts S) (old new : Held S) (r : Result A Fault) (book : Book) → IsLook g old new r
    → HasCleanDisk (state g new) → ◌≢◌ r (Err StoreFault) → HoldsBook g old book → HoldsBook g new book
holds_on g old new r book look clean other held =
    (held.0, (look.same clean other).rests VERSION held.0 held.1, held.2)

-- What a look leaves of a keeper over a connection, which had not failed and has failed where the store did.
pub reads_on : {S A K : Type 0} (g : Ghosts S) (conn : K → Held S) (failed : K → Bool) (old new : K)
    (r : Result A Fault) → IsLook g (conn old) (conn new) r → failed old ≡ false
    → (r ≡ Err StoreFault → failed new ≡ true) → (r ≢ Err StoreFault → failed new ≡ false)
    → OnlyReads (λ k. HoldsBook g (conn k)) (λ k. MayLeave g (conn k)) (λ k. HasCleanDisk (state g (conn k)))
    (λ k. IsWhole g (conn k)) (λ k l. MayLeaveNoMore (state g (conn k)) (state g (conn l))) failed old new r
reads_on g conn failed old new r look works fails stays = record {
  honest = λ clean. let low = look.survives.clean in omega (arith, low, clean);
  same = λ clean book held other. holds_on g (conn old) (conn new) r book look clean other held;
  stops = λ clean other left. leaves_less g (conn old) (conn new) look.survives clean other left;
  untouched = λ clean trees left. leaves_on (state g (conn old)) (state g (conn new)) look.survives clean trees left;
  whole = λ clean whole trees left. whole trees (leaves_on (state g (conn old)) (state g (conn new)) look.survives clean
      trees left);
  fault = fails;
  only_fault = λ other. stays other ∙ sym works;
  failed = λ gone. absurd (true≢false (sym gone ∙ works));
}

no_desk : (fault : Fault) → (fault ≡ OutOfMemory) ⊎ (fault ≡ StoreFault) → fault ≢ NotADeskFile
no_desk fault (inl is) e = let clash : OutOfMemory ≡ NotADeskFile = sym is ∙ e in cc
no_desk fault (inr is) e = let clash : StoreFault ≡ NotADeskFile = sym is ∙ e in cc

no_rule : (fault : Fault) (rule : Rule) → (fault ≡ OutOfMemory) ⊎ (fault ≡ StoreFault) → fault ≢ Inconsistent rule
no_rule fault rule (inl is) e = let clash : OutOfMemory ≡ Inconsistent rule = sym is ∙ e in cc
no_rule fault rule (inr is) e = let clash : StoreFault ≡ Inconsistent rule = sym is ∙ e in cc

-- ---- a posting without a date is of no date

date_same : (o : Option ℕ) (d : ℕ) → 0 < d → (unwrap_or o 0 == d) ≡ is_date o d
date_same None d low = elim (cases_Bool (0 == d)) [
  | inl same ↦ absurd (let e = eqb-true 0 d same in omega arith)
  | inr other ↦ other
]
date_same (Some x) d low = refl

find_same : {A : Type 0} (p q : A → Bool) → ((a : A) → p a ≡ q a) → (xs : List A) → find p xs ≡ find q xs
find_same p q same [] = refl
find_same p q same (x ∷ xs) = rw (same x, find_same p q same xs) refl

pub posting_of_date : (book : Book) (d n : ℕ) → 0 < d
    → first_of_date (λ (p : Posting). p.number) date_of_posting d n book.postings ≡ posting_after book d n
unfolding posting_after
posting_of_date book d n low = find_same (λ (p : Posting). (date_of_posting p == d) && nat_lt n p.number)
    (is_posting_after d n) (λ p. ap (λ b. b && nat_lt n p.number) (date_same p.date d low)) book.postings

pub some_date : (d : ℕ) → IsBusinessDate d → 0 < d
some_date d is = elim (cases_Bool (d == 0)) [
  | inl none ↦ absurd (let e = eqb-true d 0 none in let year = (subst IsBusinessDate e is).from_year in omega
      (arith, year))
  | inr some ↦ above d (λ none. no_clash _ (eq-eqb d 0 none) some)
]
  where
    no_clash : (b : Bool) → b ≡ true → b ≡ false → ⊥
    no_clash b one other = let clash : true ≡ false = sym one ∙ other in cc

    above : (d : ℕ) → d ≢ 0 → 0 < d
    above d some = omega (arith, some)
