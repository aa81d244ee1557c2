use Rattle.rtgs_order_files.proofs.results.put_stop.Goals as goal

pub returns : goal.returns
returns g c = rw (c.as_str.ensures.value, c.format.ensures.text, c.number.ensures, c.kind.ensures) at c.put_line.ensures
