use Rattle.std.proofs.Common.{◌≡◌, ◌++◌, ◌∷◌, [], rules, append_assoc, string_bytes}
use Rattle.std.specs.Prelude.{decimal}
use Rattle.rtgs_book.specs.Standings.{standing_of, word_of}
use Rattle.rtgs_statements.specs.Listings.{csv_line}
use Rattle.rtgs_statements.proofs.listed.line_of_order.Goals as goal

pub returns : goal.returns
unfolding csv_line
returns c =
    let order = c.args.order.now in
    let one : string_bytes c.write.new.self ≡ decimal order.number
    ++ (44 ∷ (order.sender ++ (44 ∷ (order.reference ++ (44 ∷ []))))) = search rules in
    let two : string_bytes c.write-2.new.self ≡ string_bytes c.write.new.self
    ++ (order.receiver ++ (44 ∷ (decimal order.amount ++ (44 ∷ (c.args.due.now ++ (44 ∷ [])))))) = search rules in
    let three : string_bytes c.writeln.new.self ≡ string_bytes c.write-2.new.self
    ++ (word_of (standing_of order.state) ++ (44 ∷ (c.args.mark.now ++ (10 ∷ [])))) = search rules in
    rw (three, two, one) (simp append_assoc)
