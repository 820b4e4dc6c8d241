use Rattle.std.proofs.Common.{ℕ, subst}
use Rattle.sip_engine_request.specs.Next.{IsNext}
use Rattle.sip_engine_request.proofs.Moments.{first_is_next}
use Rattle.sip_engine_request.proofs.next.next_due.Goals as goal

pub returns-in-Some : goal.returns-in-Some
returns-in-Some g c =
    subst (λ (due : ℕ). IsNext c.args.proxy.now.state.requests due) c.in-Some.ensures.2
    (first_is_next c.args.proxy.now.state.requests c.in-Some.ensures.0 c.in-Some.ensures.1)
