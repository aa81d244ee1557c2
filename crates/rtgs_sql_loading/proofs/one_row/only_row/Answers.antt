use Rattle.std.proofs.Common.{◌≡◌, Option, Some, None, get_or, refl, sym, ap, ◌∙◌}
use Rattle.rtgs_sql_loading.proofs.one_row.only_row.Goals as goal
