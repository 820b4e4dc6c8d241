-- Each step stands at its moment.
use Rattle.std.proofs.Common.{◌≡◌, inl, inr, ℕ, ◌≤◌, sym, ap, subst, ◌∙◌, List, [], ◌∷◌}
use Rattle.sip_event.specs.declared.event.StepOut.{StepOut}
use Rattle.sip_event.specs.declared.event.Event.TheVariants.{Datagram, Time, Fault}
use Rattle.model_steps.specs.state.declared.server.Server.{Server}
use Rattle.model_steps.specs.state.declared.proxy_state.ProxyState.{ProxyState}
use Rattle.model_steps.specs.state.State.{first_state}
use Rattle.model_steps.specs.Step.{Act, Given, Passing, IsStep}
use Rattle.sip_model.specs.Run.{Link, under, IsChain}
use Rattle.sip_model.specs.Access.{moment_in, StandsAt}
use Rattle.sip_model.proofs.Steps.{stands_at}
use Rattle.sip_model.proofs.StepParts.{step_parts}
use Rattle.sip_model.proofs.Deadlines.{chain_passes_none}
use Rattle.sip_model.proofs.Again.{chain_again}
use Rattle.sip_model.proofs.Moments.{stands_later}

-- after the moment of the state before
step_stands : (server : Server) (old : ProxyState) (act : Act) (out : StepOut) (new : ProxyState) → old.moment ≤ stands_at old act out → IsStep server old act out new
    → StandsAt old.moment act out.at
step_stands server old (Given (Datagram at word from bytes)) out new later h = h.does.at_moment
step_stands server old (Given (Time at)) out new later h = h.at_moment
step_stands server old (Given (Fault at ticket)) out new later h = h.does.at_moment
step_stands server old (Passing at) out new later (inl quiet) = (quiet.no_earlier, quiet.no_later)
step_stands server old (Passing at) out new later (inr (inl due)) = (later, due.is_due)
step_stands server old (Passing at) out new later (inr (inr goes)) = (later, goes.is_due)

-- the moment of a state is that of its history
chain_moment : (server : Server) (first : ℕ) (history : List Link) (last : ProxyState) → IsChain server (first_state first) history last → last.moment ≡ moment_in history
chain_moment server first [] last chain = ap (λ (s : ProxyState). s.moment) chain
chain_moment server first (link ∷ history) last chain =
    ap (λ (s : ProxyState). s.moment) chain.0 ∙ sym (step_parts (under server link.config) link.before link.act link.out link.after chain.1).is_at

-- so the last step of a history stands at its moment
pub stands_of_chain : (server : Server) (first : ℕ) (link : Link) (history : List Link) (last : ProxyState) → IsChain server (first_state first) (link ∷ history) last
    → StandsAt (moment_in history) link.act link.out.at
stands_of_chain server first link history last chain =
    subst (λ (moment : ℕ). StandsAt moment link.act link.out.at) (chain_moment server first history link.before chain.2)
    (step_stands (under server link.config) link.before link.act link.out link.after
    (stands_later (under server link.config) link.before link.act link.out link.after (chain_passes_none server first history link.before chain.2)
    (chain_again server first history link.before chain.2) chain.1) chain.1)
