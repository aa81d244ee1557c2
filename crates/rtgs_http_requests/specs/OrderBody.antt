-- The body of an order: the values that it is to have, and the order that they spell.
use Rattle.std.specs.Prelude.{◌≡◌, ℕ, List, codes, Option, None, Some, Result, Ok, Err}
use Rattle.serde_json.specs.Data.{Data, unsigned, number, string, object, Members, member, no_members}
use Rattle.rtgs_money.specs.Amounts.{IsAmount}
use Rattle.rtgs_money.specs.Forms.{IsCode, IsReference}
use Rattle.rtgs_money.specs.declared.lexical.Lexical.TheVariants.{BadCode, BadReference, BadAmount}
use Rattle.rtgs_book.specs.declared.new_order.NewOrder.{NewOrder}
use Rattle.rtgs_http_requests.specs.Spelling.{SpellsDate}
use Rattle.rtgs_http_requests.specs.Steps.{Then}
use Rattle.rtgs_http_requests.specs.declared.http_fault.HttpFault.{HttpFault}
use Rattle.rtgs_http_requests.specs.declared.http_fault.HttpFault.TheVariants as fault

-- a reference, a receiver, an amount that is not negative, and perhaps a due date, none yet judged by its form
pub record OrderValues : Type 0 where
  pub reference : List ℕ
  pub to : List ℕ
  pub amount : ℕ
  pub due : Option (List ℕ)

-- a member with a text, where there is one, before others
abbrev pub perhaps_text : List ℕ → Option (List ℕ) → Members → Members
perhaps_text key None members = members
perhaps_text key (Some text) members = member key (string text) members

-- the value is an object with exactly the keys of these values
abbrev pub HasOrder : OrderValues → Data → Type 0
HasOrder values value =
    value ≡ object (member (codes "amount") (number (unsigned values.amount))
    (perhaps_text (codes "due") values.due
    (member (codes "reference") (string values.reference) (member (codes "to") (string values.to) no_members))))

-- the due date that a text is, and none where there is no text
abbrev pub SpellsDue : Option (List ℕ) → Result (Option ℕ) HttpFault → Type 0
SpellsDue None outcome = outcome ≡ Ok None
SpellsDue (Some text) outcome = Then (SpellsDate text) (λ date given. given ≡ Ok (Some date)) outcome

-- what the values say of an order, with this due date
abbrev pub said_by : OrderValues → Option ℕ → NewOrder
said_by values due = record {
  reference = values.reference;
  receiver = values.to;
  amount = values.amount;
  due = due;
}

-- the order that the values are, or the first of them that is not of its form: reference, receiver, amount, due date
pub record SpellsOrder (values : OrderValues) (outcome : Result NewOrder HttpFault) : Type 0 where
  pub due : IsReference values.reference → IsCode values.to → IsAmount values.amount
      → Then (SpellsDue values.due) (λ due given. given ≡ Ok (said_by values due)) outcome
  pub bad_reference : ¬ IsReference values.reference → outcome ≡ Err (fault.Form BadReference)
  pub bad_code : IsReference values.reference → ¬ IsCode values.to → outcome ≡ Err (fault.Form BadCode)
  pub bad_amount : IsReference values.reference → IsCode values.to → ¬ IsAmount values.amount
      → outcome ≡ Err (fault.Form BadAmount)
