-- What a check says of a book.
use Rattle.std.specs.Prelude.{ℕ, ◌<◌, ⊤}
use Rattle.rtgs_book.specs.declared.rule.Rule.{Rule}
use Rattle.rtgs_book.specs.declared.rule.Rule.TheVariants.{OrderNumbers, PostingNumbers, MarkNumbers, ParticipantCodes}
use Rattle.rtgs_book.specs.declared.rule.Rule.TheVariants.{Keys, OrderReferences, PostingReferences, Parties, Marks}
use Rattle.rtgs_book.specs.declared.rule.Rule.TheVariants.{Queues, Dates, Floors, Total, StoredBalances, AutomaticDay}
use Rattle.rtgs_book.specs.declared.rule.Rule.TheVariants.{Calm}
use Rattle.rtgs_book.specs.declared.fault.Fault.{Fault}
use Rattle.rtgs_book.specs.declared.fault.Fault.TheVariants.{OutOfMemory, Inconsistent}
use Rattle.rtgs_book.specs.Books.{Book}
use Rattle.rtgs_book.specs.Soundness.{OrdersAreNumbered, PostingsAreNumbered, MarksAreNumbered, CodesRise}
use Rattle.rtgs_book.specs.Soundness.{KeysAreDistinct, OrderReferencesAreDistinct, PostingReferencesAreDistinct}
use Rattle.rtgs_book.specs.Soundness.{PartiesAreKnown, MarksFitOrders, QueuesFit, DatesFit, FloorsHold, TotalFits}
use Rattle.rtgs_book.specs.Soundness.{AutomaticFits}
use Rattle.rtgs_book.specs.Calm.{IsCalm}

-- the number by which a rule is known
abbrev pub rule_number : Rule → ℕ
rule_number OrderNumbers = 1
rule_number PostingNumbers = 2
rule_number MarkNumbers = 3
rule_number ParticipantCodes = 4
rule_number Keys = 5
rule_number OrderReferences = 6
rule_number PostingReferences = 7
rule_number Parties = 8
rule_number Marks = 9
rule_number Queues = 10
rule_number Dates = 11
rule_number Floors = 12
rule_number Total = 13
rule_number StoredBalances = 14
rule_number AutomaticDay = 15
rule_number Calm = 16

abbrev pub Keeps : Book → Rule → Type 0
Keeps book OrderNumbers = OrdersAreNumbered book
Keeps book PostingNumbers = PostingsAreNumbered book
Keeps book MarkNumbers = MarksAreNumbered book
Keeps book ParticipantCodes = CodesRise book
Keeps book Keys = KeysAreDistinct book
Keeps book OrderReferences = OrderReferencesAreDistinct book
Keeps book PostingReferences = PostingReferencesAreDistinct book
Keeps book Parties = PartiesAreKnown book
Keeps book Marks = MarksFitOrders book
Keeps book Queues = QueuesFit book
Keeps book Dates = DatesFit book
Keeps book Floors = FloorsHold book
Keeps book Total = TotalFits book
Keeps book StoredBalances = ⊤
Keeps book AutomaticDay = AutomaticFits book
Keeps book Calm = IsCalm book

-- the book keeps each rule before this one
abbrev pub KeepsBefore : Book → Rule → Type 0
KeepsBefore book rule = (other : Rule) → rule_number other < rule_number rule → Keeps book other

-- of the rules that the book breaks, this is the first
pub record BreaksFirst (book : Book) (rule : Rule) : Type 0 where
  pub broken : ¬ Keeps book rule
  pub before : KeepsBefore book rule

-- why a check finds no sound book: memory was refused, or it names the first rule that is broken
abbrev pub Explains : Book → Fault → Type 0
Explains book OutOfMemory = ⊤
Explains book (Inconsistent rule) = BreaksFirst book rule
Explains book fault = ⊥
