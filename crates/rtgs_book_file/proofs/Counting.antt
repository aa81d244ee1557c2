-- What a store read is said of it where anything is known.
use Rattle.std.proofs.Common.{◌≡◌, subst}
use Rattle.sqlite.specs.Files.{image_of}
use Rattle.sqlite.specs.Recovery.{Image}
use Rattle.sqlite_disk.specs.declared.Disk.{Ghosts}
use Rattle.sqlite_disk.specs.declared.Files.{Files}
use Rattle.rtgs_book_file.specs.Counting.{IsListingOf, IsReadIn}
use Rattle.rtgs_book_file.specs.declared.object_count.ObjectCount.{ObjectCount}
use Rattle.rtgs_book_file.specs.declared.object_count.ObjectCount.TheVariants.{Objects, WithoutSums, Unknown}

pub read_in : {D : Type 0} (g : Ghosts D) (held : Image) (listed : ObjectCount) → IsListingOf g held listed
    → IsReadIn g held listed
read_in g held (Objects count) read = read
read_in g held WithoutSums read = read
read_in g held Unknown read = tt

-- what was read of files is said of what they held
pub read_of : {D : Type 0} (g : Ghosts D) (files : Files D) (held : Image) (listed : ObjectCount) → image_of g files
    ≡ held
    → IsReadIn g (image_of g files) listed → IsReadIn g held listed
read_of g files held listed same = subst (λ held. IsReadIn g held listed) same
