use Rattle.rtgs_http_requests.proofs.Lower.{LowerLaws}
use Rattle.rtgs_http_requests.proofs.StepsOnce.{answered_once}
use Rattle.rtgs_http_requests.proofs.laws.answers_are_determined.Goals as goal

pub returns : goal.returns
returns c =
    let laws : LowerLaws = record {
      dates = c.dates_have_distinct_texts.ensures;
      rows = c.rows_are_determined.ensures;
      files = c.order_files_have_no_fault.ensures;
      faults = c.faults_are_determined.ensures;
      regions = c.regions_are_determined.ensures;
      not_long = c.outcomes_are_apart.ensures.long;
      not_open = c.outcomes_are_apart.ensures.unfinished;
      long_is_not_open = c.outcomes_are_apart.ensures.length;
      heads = c.heads_are_determined.ensures.head;
      lengths = c.heads_are_determined.ensures.length;
      keys = c.keys_are_determined.ensures;
    } in
    answered_once laws
