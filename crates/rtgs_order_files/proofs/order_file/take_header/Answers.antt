use Rattle.std.proofs.Common.{◌≡◌, ◌∷◌, List, ap, ◌∙◌, inr, refl}
use Rattle.csv.specs.Records.{fields_of}
use Rattle.rtgs_order_files.specs.declared.columns.Columns.{Columns}
use Rattle.rtgs_order_files.specs.OrderFile.{CsvFields, header}
use Rattle.rtgs_order_files.specs.Reading.{left_of}
use Rattle.rtgs_order_files.proofs.ReaderSteps.{stepped}
use Rattle.rtgs_order_files.proofs.order_file.take_header.Goals as goal

pub of_reader-requires : goal.of_reader-requires
of_reader-requires c = rw (c.in-Some-Err.is, c.in-Some-Err.field-0-is) at
    (stepped c.args.records.now c.next.new.self c.next.result c.requires c.next.ensures.steps)

pub returns-in-None-clause-fault : goal.returns-in-None-clause-fault
returns-in-None-clause-fault c =
    let none = rw c.in-None.is at (stepped c.args.records.now c.next.new.self c.next.result c.requires
    c.next.ensures.steps) in
    inr (refl, λ columns under e. cc (none, e))

pub returns-in_default-clause-fault : goal.returns-in_default-clause-fault
returns-in_default-clause-fault c =
    let one = rw (c.in-Some-Ok.is, c.in-Some-Ok.field-0-is) at
    (stepped c.args.records.now c.next.new.self c.next.result c.requires c.next.ensures.steps) in
    inr (
      refl,
      λ (columns : Columns) (under : List CsvFields) (e : left_of c.args.records.now ≡ header columns ∷ under).
          let same : fields_of c.in-Some-Ok.first ≡ header columns = cc (one.1, e) in
          cc (c.named.ensures.found columns same, c.in_default.is),
    )

pub returns-clause-reading : goal.returns-clause-reading
returns-clause-reading c = (rw (c.in-Some-Ok.is, c.in-Some-Ok.field-0-is) at
    (stepped c.args.records.now c.next.new.self c.next.result c.requires c.next.ensures.steps)).0

pub returns-clause-taken : goal.returns-clause-taken
returns-clause-taken c =
    let one = rw (c.in-Some-Ok.is, c.in-Some-Ok.field-0-is) at
    (stepped c.args.records.now c.next.new.self c.next.result c.requires c.next.ensures.steps) in
    one.1 ∙ ap (λ (f : CsvFields). f ∷ left_of c.next.new.self) (c.in-Some.ensures.value)
