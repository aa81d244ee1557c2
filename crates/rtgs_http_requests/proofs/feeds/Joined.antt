-- Two pieces as one.
use Rattle.std.proofs.Common.{◌≡◌, ◌≤◌, ◌+◌, ◌++◌, ℕ, List, length, take, sym, ap, subst, ◌∙◌, arith, append_assoc}
use Rattle.std.proofs.Common.{length-append}
use Rattle.std.proofs.Math.Seq.{take-append-add}
use Rattle.rtgs_http_requests.specs.feeds.Body.{Body, TakesBody, with_bytes}
use Rattle.rtgs_http_requests.specs.feeds.Pieces.{body_step_behind, head_step_behind}
use Rattle.rtgs_http_requests.specs.feeds.Region.{TakesHead, IsTooLong}
use Rattle.rtgs_http_requests.specs.declared.feeds.body_step.BodyStep.{BodyStep}
use Rattle.rtgs_http_requests.specs.declared.feeds.body_step.BodyStep.TheVariants as body
use Rattle.rtgs_http_requests.specs.declared.feeds.head_step.HeadStep.{HeadStep}
use Rattle.rtgs_http_requests.specs.declared.feeds.head_step.HeadStep.TheVariants.{More, Region, TooLong}
use Rattle.rtgs_http_requests.specs.declared.feeds.limits.TheConstants.{LONGEST_HEAD}

-- what stands behind the first piece stands behind both
behind : (old first more mid : List ℕ) → mid ≡ old ++ first → mid ++ more ≡ old ++ (first ++ more)
behind old first more mid e = ap (λ t. t ++ more) e ∙ append_assoc old first more

within : (first second : List ℕ) (taken : ℕ) → taken ≤ length second → length first + taken ≤ length (first ++ second)
within first second taken le = omega (arith, le, length-append first second)

-- the first bytes of both are the first piece and then bytes of the second
front : (old first second mid : List ℕ) (taken : ℕ) → mid ≡ old ++ first
    → mid ++ take taken second ≡ old ++ take (length first + taken) (first ++ second)
front old first second mid taken e = behind old first (take taken second) mid e
    ∙ ap (λ t. old ++ t) (sym (take-append-add first second taken))

pub heads_join : (old first second mid new : List ℕ) (step : HeadStep) → TakesHead old first More mid
    → TakesHead mid second step new
    → TakesHead old (first ++ second) (head_step_behind (length first) step) new
heads_join old first second mid new More x y = (y.0 ∙ behind old first second mid x.0, y.1)
heads_join old first second mid new (Region taken) x y = (
  within first second taken y.0,
  y.1
      ∙ front old first second mid taken x.0,
  y.2,
)
heads_join old first second mid new TooLong x y =
    let both : mid ++ second ≡ old ++ (first ++ second) = behind old first second mid x.0 in
    let P : List ℕ → Type 0 = λ t. IsTooLong t in
    (y.0 ∙ ap (λ t. take LONGEST_HEAD t) both, subst P both y.1)

-- the bytes of a body behind more bytes of it
joined : (old mid : Body) (first more : List ℕ) → mid ≡ with_bytes old first
    → with_bytes mid more ≡ with_bytes old (first ++ more)
joined old mid first more e =
    let with : List ℕ → Body = λ t. record { wanted = old.wanted; bytes = t } in
    ap (λ b. with_bytes b more) e ∙ ap with (append_assoc old.bytes first more)

pub bodies_join : (old mid new : Body) (first second : List ℕ) (step : BodyStep) → TakesBody old first body.More mid
    → TakesBody mid second step new
    → TakesBody old (first ++ second) (body_step_behind (length first) step) new
bodies_join old mid new first second body.More x y = (y.0 ∙ joined old mid first second x.0, y.1)
bodies_join old mid new first second (body.Full taken) x y =
    let begun : with_bytes mid (take taken second) ≡ with_bytes old (first ++ take taken second) =
    joined old mid first (take taken second) x.0 in
    let whole : with_bytes old (first ++ take taken second) ≡ with_bytes old
    (take (length first + taken) (first ++ second)) =
    ap (λ t. with_bytes old t) (sym (take-append-add first second taken)) in
    (within first second taken y.0, y.1 ∙ begun ∙ whole, y.2)
