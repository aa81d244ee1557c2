-- A step is determined, and there is one.
use Rattle.std.proofs.Common.{◌≡◌, refl, sym, ap, ◌∙◌}
use Rattle.rtgs_book.specs.declared.command.Command.TheVariants.{Add, SetCredit, Post, OpenDay, Order, Withdraw}
use Rattle.rtgs_book.specs.declared.command.Command.TheVariants.{Resolve, CutOff, CloseDay}
use Rattle.rtgs_book.specs.declared.book.Book.{Book}
use Rattle.rtgs_book.specs.declared.command.Command.{Command}
use Rattle.rtgs_book.specs.Choice.{Choice, IsGreatest}
use Rattle.rtgs_book.specs.Commands.{add, set_credit, post, open_day, order, withdraw, resolve, cut_off, close_day}
use Rattle.rtgs_book.specs.Outcome.{OwnReply, Outcome}
use Rattle.rtgs_book.specs.Soundness.{FloorsHold}
use Rattle.rtgs_book.specs.Step.{ByGreatest, Gives, OwnStep}

-- a book has one greatest choice at most
abbrev pub GreatestIsUnique : Type 0
GreatestIsUnique = (book : Book) (one other : Choice) → IsGreatest book one → IsGreatest book other → one ≡ other

by_greatest : GreatestIsUnique → (book : Book) (f : Choice → Outcome) (a b : Outcome) → ByGreatest book f a
    → ByGreatest book f b → a ≡ b
by_greatest unique book f a b h k = h.2 ∙ ap f (unique book h.0 k.0 h.1 k.1) ∙ sym k.2

pub gives_one : GreatestIsUnique → (book : Book) (command : Command) (a b : Outcome) → Gives book command a
    → Gives book command b → a ≡ b
gives_one unique book (Add code name key) a b h k = h ∙ sym k
gives_one unique book (SetCredit code credit) a b h k = h ∙ sym k
gives_one unique book (Post code reference cents) a b h k = h ∙ sym k
gives_one unique book (OpenDay new_day) a b h k = h ∙ sym k
gives_one unique book (Order sender new_order) a b h k = h ∙ sym k
gives_one unique book (Withdraw sender reference) a b h k = h ∙ sym k
gives_one unique book Resolve a b h k = by_greatest unique book (resolve book) a b h k
gives_one unique book (CutOff date) a b h k = h ∙ sym k
gives_one unique book (CloseDay date) a b h k = by_greatest unique book (λ choice. close_day book choice date) a b h k

pub step_determined : GreatestIsUnique → (old new last : Book) (command : Command) (reply other : OwnReply)
    → OwnStep old command reply new
    → OwnStep old command other last → (reply ≡ other) × (new ≡ last)
step_determined unique old new last command reply other h k =
    let same = gives_one unique old command (record { reply = reply; book = new })
    (record { reply = other; book = last }) h k in
    (ap (λ (o : Outcome). o.reply) same, ap (λ (o : Outcome). o.book) same)

-- a book whose floors hold has a greatest choice
abbrev pub GreatestExists : Type 0
GreatestExists = (book : Book) → FloorsHold book → (choice : Choice) × IsGreatest book choice

pub step_there : GreatestExists → (book : Book) (command : Command) → FloorsHold book
    → (reply : OwnReply) × (new : Book) × OwnStep book command reply new
step_there exists book (Add code name key) holds = let o = add book code name key in (o.reply, o.book, refl)
step_there exists book (SetCredit code credit) holds = let o = set_credit book code credit in (o.reply, o.book, refl)
step_there exists book (Post code reference cents) holds = let o = post book code reference cents
    in (o.reply, o.book, refl)
step_there exists book (OpenDay new_day) holds = let o = open_day book new_day in (o.reply, o.book, refl)
step_there exists book (Order sender new_order) holds =
    let o = order book sender new_order in (o.reply, o.book, refl)
step_there exists book (Withdraw sender reference) holds = let o = withdraw book sender reference
    in (o.reply, o.book, refl)
step_there exists book Resolve holds = let g = exists book holds in let o = resolve book g.0
    in (o.reply, o.book, (g.0, g.1, refl))
step_there exists book (CutOff date) holds = let o = cut_off book date in (o.reply, o.book, refl)
step_there exists book (CloseDay date) holds = let g = exists book holds in let o = close_day book g.0 date
    in (o.reply, o.book, (g.0, g.1, refl))
