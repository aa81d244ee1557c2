use Rattle.rtgs_book_file.proofs.Counting.{read_in}
use Rattle.rtgs_book_file.proofs.schema_size.listed_in.Goals as goal

pub returns-in-Some : goal.returns-in-Some
returns-in-Some g c = read_in _ _ c.counted.result.listed (record {
  old = c.in-Some.unopened;
  new = c.counted.new.files;
  has_sums = c.in-Some.has_sums;
  held_it = c.in-Some.ensures.same;
  counts = c.counted.ensures;
})
