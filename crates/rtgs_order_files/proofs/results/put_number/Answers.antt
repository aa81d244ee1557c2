use Rattle.rtgs_order_files.proofs.results.put_number.Goals as goal

pub returns : goal.returns
returns g c = rw c.format.ensures.text at c.put_line.ensures
