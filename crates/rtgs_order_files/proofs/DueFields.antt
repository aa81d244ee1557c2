-- What stands after the amount of a row.
use Rattle.std.proofs.Common.{◌≡◌, ◌≢◌, ◌/◌, ◌%◌, ◌==◌, ℕ, true, List, [], ◌∷◌, ◌++◌, length, Option, Some, None}
use Rattle.std.proofs.Common.{refl, sym, ap, ◌∙◌, arith}
use Rattle.std.proofs.lemmas.Bool.{eqb-true}
use Rattle.std.proofs.lemmas.List.{length-append}
use Rattle.rtgs_money.specs.Date.{IsBusinessDate, date_text}
use Rattle.rtgs_money.specs.Digits.{digits}
use Rattle.rtgs_order_files.specs.declared.columns.Columns.{Columns}
use Rattle.rtgs_order_files.specs.declared.columns.Columns.TheVariants.{WithoutDue, WithDue}
use Rattle.rtgs_order_files.specs.OrderFile.{FitsColumns, due_fields, field_or_none}

-- no two dates have one text
abbrev pub DatesDiffer : Type 0
DatesDiffer = (one other : ℕ) → IsBusinessDate one → IsBusinessDate other → date_text one ≡ date_text other
    → one ≡ other

-- a date's text is no empty field
not_empty : (date : ℕ) → [] ≢ date_text date
unfolding date_text
not_empty date e =
    let none : length (date_text date) ≡ 0 = sym (ap length e) in
    let some = length-append (digits 4 (date / 10000)) (45 ∷ digits 2 (date / 100 % 100) ++ 45 ∷ digits 2 (date % 100))
    in
    omega arith

-- there is one field at most
pub as_field : (columns : Columns) (due : Option ℕ)
    → (field : Option (List ℕ)) × (due_fields columns due ≡ field_or_none field)
as_field WithoutDue due = (None, refl)
as_field WithDue None = (Some [], refl)
as_field WithDue (Some due) = (Some (date_text due), refl)

-- an empty field says that there is no due date
pub empty_tells : (text : List ℕ) (due : Option ℕ) → (length text == 0) ≡ true → text ∷ [] ≡ due_fields WithDue due
    → None ≡ due
empty_tells [] None n e = refl
empty_tells [] (Some due) n e = absurd (not_empty due (cc e))
empty_tells (b ∷ text) due n e = absurd (omega (arith, eqb-true (length (b ∷ text)) 0 n))

-- the text of a date alone names the due date
pub date_tells : (text : List ℕ) (date : ℕ) (due : Option ℕ) → text ≡ date_text date
    → ((other : ℕ) → IsBusinessDate other → text ≡ date_text other → date ≡ other)
    → FitsColumns WithDue due → text ∷ [] ≡ due_fields WithDue due → Some date ≡ due
date_tells text date None spelt same fits e = absurd (not_empty date (cc (e, spelt)))
date_tells text date (Some due) spelt same fits e = ap (λ d. Some d) (same due fits (cc e))

-- the fields determine the due date
pub same_due : DatesDiffer → (columns : Columns) (a b : Option ℕ) → FitsColumns columns a → FitsColumns columns b
    → due_fields columns a ≡ due_fields columns b → a ≡ b
same_due differ WithoutDue a b ga gb e = ga ∙ sym gb
same_due differ WithDue None None ga gb e = refl
same_due differ WithDue None (Some due) ga gb e = absurd (not_empty due (cc e))
same_due differ WithDue (Some due) None ga gb e = absurd (not_empty due (cc e))
same_due differ WithDue (Some due) (Some other) ga gb e = ap (λ d. Some d) (differ due other ga gb (cc e))
