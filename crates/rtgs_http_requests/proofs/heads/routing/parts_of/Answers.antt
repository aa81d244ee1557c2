use Rattle.std.proofs.Common.{List, ℕ, ap, subst, sym, ◌∙◌}
use Rattle.rtgs_http_requests.specs.heads.Parameters.{first_part, parts_of}
use Rattle.rtgs_http_requests.proofs.heads.Texts.{AreAscii, walk_ascii, parts_shown, next_shown}
use Rattle.rtgs_http_requests.proofs.heads.routing.parts_of.Goals as goal

pub returns-in-Some-next : goal.returns-in-Some-next
returns-in-Some-next c =
    let given = rw c.in-Some.is at c.next.ensures.steps in
    let more = rw c.in-Some-next.is at c.next-2.ensures.steps in
    let ascii = subst (λ (parts : List (List ℕ × List ℕ)). AreAscii parts) (sym c.iter-parts.ensures.value)
    (walk_ascii c.args.params.now.pattern.now c.args.params.now.text.now c.args.params.now.path.now
    c.args.params.now.names.now 0 0 c.requires) in
    parts_shown c.iter-parts.result c.next.new.self given.0 c.in-Some.first.now c.in-Some-next.second.now ascii given.1
    given.3 (next_shown c.next.new.self c.next-2.new.self more.0 c.in-Some-next.second.now more.1 more.3)
    ∙ ap (λ (parts : List (List ℕ × List ℕ)). parts_of parts) c.iter-parts.ensures.value

pub returns-in-None : goal.returns-in-None
returns-in-None c =
    let given = rw c.in-Some.is at c.next.ensures.steps in
    let none = rw c.in-None.is at c.next-2.ensures.steps in
    let ascii = subst (λ (parts : List (List ℕ × List ℕ)). AreAscii parts) (sym c.iter-parts.ensures.value)
    (walk_ascii c.args.params.now.pattern.now c.args.params.now.text.now c.args.params.now.path.now
    c.args.params.now.names.now 0 0 c.requires) in
    parts_shown c.iter-parts.result c.next.new.self given.0 c.in-Some.first.now _ ascii given.1 given.3 (λ _.
    sym (ap (λ (parts : List (List ℕ × List ℕ)). first_part parts) none))
    ∙ ap (λ (parts : List (List ℕ × List ℕ)). parts_of parts) c.iter-parts.ensures.value
