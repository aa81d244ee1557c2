-- Laws of the crates and the modules below that are cited together.
use Rattle.std.proofs.Common.{◌≡◌, ℕ, List, Option}
use Rattle.std.specs.Prelude.{◌≢◌}
use Rattle.httparse.specs.Grammar.{RequestHead}
use Rattle.rtgs_money.specs.Date.{IsBusinessDate, date_text}
use Rattle.rtgs_order_files.specs.OrderFile.{IsOrderFile, IsFaultOf}
use Rattle.rtgs_order_files.specs.declared.batch_fault.BatchFault.{BatchFault}
use Rattle.rtgs_order_files.specs.declared.batch_fault.BatchFault.TheVariants.{OutOfMemory}
use Rattle.rtgs_book.specs.declared.new_order.NewOrder.{NewOrder}
use Rattle.rtgs_http_requests.specs.feeds.Region.{StartsWith, IsTooLong, IsOpen}
use Rattle.rtgs_http_requests.specs.heads.Fields.{Fields, HasKey}
use Rattle.rtgs_http_requests.specs.heads.Heads.{IsGoodHead}

pub record LowerLaws : Type 0 where
  pub dates : (one other : ℕ) → IsBusinessDate one → IsBusinessDate other → date_text one ≡ date_text other
      → one ≡ other
  pub rows : (bytes : List ℕ) (one other : List NewOrder) → IsOrderFile bytes one → IsOrderFile bytes other
      → one ≡ other
  pub files : (bytes : List ℕ) (rows : List NewOrder) (fault : BatchFault)
      → IsOrderFile bytes rows → IsFaultOf bytes fault → fault ≡ OutOfMemory
  pub faults : (bytes : List ℕ) (one other : BatchFault)
      → IsFaultOf bytes one → IsFaultOf bytes other → one ≢ OutOfMemory → other ≢ OutOfMemory → one ≡ other
  pub regions : (input one other rest more : List ℕ) → StartsWith input one rest → StartsWith input other more
      → one ≡ other
  pub not_long : (input region rest : List ℕ) → StartsWith input region rest → ¬ IsTooLong input
  pub not_open : (input region rest : List ℕ) → StartsWith input region rest → ¬ IsOpen input
  pub long_is_not_open : (input : List ℕ) → IsTooLong input → ¬ IsOpen input
  pub heads : (region : List ℕ) (one other : RequestHead) (declared more : Option ℕ)
      → IsGoodHead region one declared → IsGoodHead region other more → one ≡ other
  pub lengths : (region : List ℕ) (one other : RequestHead) (declared more : Option ℕ)
      → IsGoodHead region one declared → IsGoodHead region other more → declared ≡ more
  pub keys : (fields : Fields) (one other : Option (List ℕ)) → HasKey fields one → HasKey fields other → one ≡ other
