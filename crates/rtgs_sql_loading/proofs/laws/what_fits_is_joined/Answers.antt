use Rattle.rtgs_sql_loading.proofs.Fitting.{both_ways}
use Rattle.rtgs_sql_loading.proofs.laws.what_fits_is_joined.Goals as goal

pub returns : goal.returns
returns c undated_orders forwards up rise = both_ways undated_orders forwards up rise
