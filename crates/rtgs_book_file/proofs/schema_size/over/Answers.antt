use Rattle.std.proofs.Common.{◌∙◌, ap, sym, subst, IsTrue}
use Rattle.sqlite_wal.specs.Files.{seen_image}
use Rattle.rtgs_book_file.proofs.schema_size.over.Goals as goal

pub returns-in-Ok-with_sums-clause-usable : goal.returns-in-Ok-with_sums-clause-usable
returns-in-Ok-with_sums-clause-usable g c =
    subst (λ p. IsTrue (g.D.Disk.is_usable p.0) × IsTrue (g.D.Disk.is_usable p.1)) (sym c.in-Ok-with_sums.ensures.files)
    (subst (λ p. IsTrue (g.D.Disk.is_usable p.0) × IsTrue (g.D.Disk.is_usable p.1)) (sym c.in-Ok.ensures.files)
    (c.requires.log, c.requires.db))

pub returns-in-Ok-with_sums-clause-same : goal.returns-in-Ok-with_sums-clause-same
returns-in-Ok-with_sums-clause-same g c =
    ap (λ p. seen_image g.D.Disk p.0 p.1) (c.in-Ok-with_sums.ensures.files ∙ c.in-Ok.ensures.files)
