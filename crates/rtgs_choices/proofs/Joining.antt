-- Two changes as one.
use Rattle.std.proofs.Common.{◌≡◌, ℕ, ℤ, Bool, true, false, cond, not, ◌&&◌, List, [], ◌∷◌, ◌++◌, map, filter}
use Rattle.std.proofs.Common.{Some, None, refl, sym, ap, ◌∙◌, subst}
use Rattle.std.specs.List.{AllByRecursion, list_any}
use Rattle.std.specs.Ordering.{int_eq}
use Rattle.std.specs.Str.{bytes_eq}
use Rattle.rtgs_book.specs.declared.book.Book.{Book}
use Rattle.rtgs_book.specs.declared.change.RowChange.{RowChange}
use Rattle.rtgs_book.specs.declared.change.RowChange.TheVariants.{AddParticipant, AddPosting, AddOrder, AddMark}
use Rattle.rtgs_book.specs.declared.change.RowChange.TheVariants.{SetCredit, SetBalance, SetState, EnterQueue, SetDay}
use Rattle.rtgs_book.specs.Balance.{balance}
use Rattle.rtgs_book.specs.Changes.{changed, balance_set, with_row, SetsBalances, Leads}
use Rattle.rtgs_book.specs.Lookup.{codes_of}
use Rattle.rtgs_choices.specs.Joining.{without_balances, balances_between, joined_rows}
use Rattle.rtgs_choices.proofs.Rows.{balance_set-rows, changed-append, known_codes}
use Rattle.rtgs_lists.proofs.Lists.{all_weaker}

-- ---- balances change no book

changed-kept : (row : RowChange) (rows : List RowChange) (book : Book)
    → ((later : Book) → changed later (without_balances rows) ≡ changed later rows)
    → changed book (without_balances (row ∷ rows)) ≡ changed book (row ∷ rows)
changed-kept (SetBalance code cents) rows book rest = rest book
changed-kept (AddParticipant p) rows book rest = rest (with_row book (AddParticipant p))
changed-kept (AddPosting p) rows book rest = rest (with_row book (AddPosting p))
changed-kept (AddOrder o) rows book rest = rest (with_row book (AddOrder o))
changed-kept (AddMark m) rows book rest = rest (with_row book (AddMark m))
changed-kept (SetCredit code credit) rows book rest = rest (with_row book (SetCredit code credit))
changed-kept (SetState number state) rows book rest = rest (with_row book (SetState number state))
changed-kept (EnterQueue number date) rows book rest = rest (with_row book (EnterQueue number date))
changed-kept (SetDay day) rows book rest = rest (with_row book (SetDay day))

pub changed-without : (rows : List RowChange) (book : Book) → changed book (without_balances rows) ≡ changed book rows
changed-without [] book = refl
changed-without (row ∷ rows) book = changed-kept row rows book (changed-without rows)

pub changed-by_balances : (f : List ℕ → ℤ) (codes : List (List ℕ)) (book : Book)
    → changed book (map (λ code. SetBalance code (f code)) codes) ≡ book
changed-by_balances f [] book = refl
changed-by_balances f (code ∷ codes) book = changed-by_balances f codes book

-- ---- and other rows set no balance

set-past : (code : List ℕ) (row : RowChange) (rows more : List RowChange)
    → balance_set code (without_balances rows ++ more) ≡ balance_set code more
    → balance_set code (without_balances (row ∷ rows) ++ more) ≡ balance_set code more
set-past code (SetBalance other cents) rows more rest = rest
set-past code (AddParticipant p) rows more rest = rest
set-past code (AddPosting p) rows more rest = rest
set-past code (AddOrder o) rows more rest = rest
set-past code (AddMark m) rows more rest = rest
set-past code (SetCredit other credit) rows more rest = rest
set-past code (SetState number state) rows more rest = rest
set-past code (EnterQueue number date) rows more rest = rest
set-past code (SetDay day) rows more rest = rest

balance_set-past : (code : List ℕ) (rows more : List RowChange)
    → balance_set code (without_balances rows ++ more) ≡ balance_set code more
balance_set-past code [] more = refl
balance_set-past code (row ∷ rows) more = set-past code row rows more (balance_set-past code rows more)

turned : (b : Bool) (z : ℤ) → cond (not b) (Some z) None ≡ cond b None (Some z)
turned true z = refl
turned false z = refl

module _ (old mid new : Book) (one next : List RowChange) (same : codes_of new ≡ codes_of old) where
  set_right : (code : List ℕ) → list_any (bytes_eq code) (codes_of old) ≡ true
      → balance_set code (joined_rows old one next new)
      ≡ cond (int_eq (balance old code) (balance new code)) None (Some (balance new code))
  set_right code known =
      balance_set-past code one (without_balances next ++ balances_between old new)
      ∙ balance_set-past code next (balances_between old new)
      ∙ balance_set-rows (λ c. not (int_eq (balance old c) (balance new c))) (balance new) code (codes_of old)
      ∙ (λ i. cond (known i && not (int_eq (balance old code) (balance new code))) (Some (balance new code)) None)
      ∙ turned (int_eq (balance old code) (balance new code)) (balance new code)

  pub sets_joined : SetsBalances old (joined_rows old one next new) new
  sets_joined =
      subst (AllByRecursion (λ code. balance_set code (joined_rows old one next new)
      ≡ cond (int_eq (balance old code) (balance new code)) None (Some (balance new code)))) (sym same)
      (all_weaker (λ code. list_any (bytes_eq code) (codes_of old) ≡ true) _ set_right (codes_of old)
      (known_codes (codes_of old)))

  -- two changes, one after the other, lead where the joined one leads
  pub joined_leads : changed old one ≡ mid → changed mid next ≡ new → Leads old (joined_rows old one next new) new
  joined_leads first second = record {
    book =
        changed-append old (without_balances one) (without_balances next ++ balances_between old new)
        ∙ ap (λ (b : Book). changed b (without_balances next ++ balances_between old new))
        (changed-without one old ∙ first)
        ∙ changed-append mid (without_balances next) (balances_between old new)
        ∙ ap (λ (b : Book). changed b (balances_between old new)) (changed-without next mid ∙ second)
        ∙ changed-by_balances (balance new)
        (filter (λ code. not (int_eq (balance old code) (balance new code))) (codes_of old)) new;
    balances = sets_joined;
  }
