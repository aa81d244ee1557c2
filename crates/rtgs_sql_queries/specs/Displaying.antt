-- What a query shows of a database, and why it shows nothing, whatever the schema is. The words are the engine's: how
-- it understands a text over a schema, and what is an answer to that.
use Rattle.std.specs.Prelude.{◌≡◌, ◌⊎◌, ℕ, List, [], None, Ok, Err}
use Rattle.sqlite.specs.Order.{Row}
use Rattle.sqlite.specs.Effect.{Database, Reads, RefusesToRead}
use Rattle.sqlite.specs.Listing.{understood}
use Rattle.sqlite.specs.declared.error.Error.{Error}
use Rattle.sqlite_resolve.specs.declared.compiled.Compiled.{Compiled}
use Rattle.sqlite_resolve.specs.declared.error.CompileError.{CompileError}

-- the rows are an answer to the text
abbrev pub Displays : Database → List ℕ → List Row → Type 0
Displays db text rows = (c : Compiled) × (understood db.schema text ≡ Ok c) × Reads c.command db [] rows

-- The text has no answer: the schema has not what it names, or the engine cannot compute what that stands for, as a sum
-- in a view that is too large.
abbrev pub HasNoAnswer : Database → List ℕ → Type 0
HasNoAnswer db text = ((fault : CompileError) × (understood db.schema text ≡ Err fault))
    ⊎ ((c : Compiled) × (understood db.schema text ≡ Ok c) × (why : Error) × RefusesToRead None c.command db [] why)
