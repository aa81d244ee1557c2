use Rattle.std.proofs.Common.{◌≡◌, ◌+◌, List, ℕ, Option, Some, None, IfSome, option_map, take}
use Rattle.rtgs_order_files.specs.declared.limits.TheConstants.{MOST_BYTES}
use Rattle.rtgs_cli.proofs.imports.order_file.read_bytes.Goals as goal

-- what is known of a beginning is known of as much of the whole
of_whole : (known : Option (List ℕ)) (count : ℕ) (items : List ℕ)
    → IfSome (option_map (take count) known) (λ left. items ≡ left) → IfSome known (λ left. items ≡ take count left)
of_whole None count items is = tt
of_whole (Some left) count items is = is

pub returns : goal.returns
returns g c =
    let bytes = c.in_ok-read_to_end.ensures.bytes in
    of_whole (g.R.Read.remaining c.args.reader) (MOST_BYTES + 1) c.read_to_end.new.buf.items
    (rw (c.take.ensures.limit, c.take.ensures.inner, c.new-bytes.ensures.items) at bytes)
