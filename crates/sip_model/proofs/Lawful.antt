-- Every step of a run is lawful by its history.
use Rattle.std.proofs.Common.{ℕ, List, [], ◌∷◌, Option, sym, subst}
use Rattle.sip_location.specs.Sameness.{SameBindings}
use Rattle.sip_event.specs.declared.event.StepOut.{StepOut}
use Rattle.sip_event.specs.declared.event.Event.{Event}
use Rattle.model_steps.specs.state.declared.server.Server.{Server}
use Rattle.model_steps.specs.state.declared.proxy_state.ProxyState.{ProxyState}
use Rattle.model_steps.specs.state.State.{first_state}
use Rattle.model_steps.specs.Step.{NoneBefore, NoneAgainBefore, originals}
use Rattle.sip_model.specs.Run.{Link, under, IsChain, IsRun}
use Rattle.sip_model.specs.Bindings.{bindings_after}
use Rattle.sip_model.specs.Access.{IsOwed, IsLawful, Access}
use Rattle.sip_model.specs.Parts.{HasParts}
use Rattle.sip_model.proofs.Registers.{bindings_of_chain}
use Rattle.sip_model.proofs.Sixteen.{few_of_chain}
use Rattle.sip_model.proofs.Services.{serves_of_step}
use Rattle.sip_model.proofs.Owing.{owed_of_step, honest_of_chain}
use Rattle.sip_model.proofs.Repeats.{step_repeats}
use Rattle.sip_model.proofs.Went.{went_of_chain}
use Rattle.sip_model.proofs.Followed.{step_records}
use Rattle.sip_model.proofs.MadeFinals.{best_made}
use Rattle.sip_model.proofs.AllSent.{step_sends}
use Rattle.sip_model.proofs.Steady.{steady_in_step}
use Rattle.sip_model.proofs.Causes.{step_causes}
use Rattle.sip_model.proofs.Orders.{chain_named}
use Rattle.sip_model.proofs.Paying.{owed_pays}
use Rattle.sip_model.proofs.StepParts.{step_parts}
use Rattle.sip_model.proofs.Audited.{rising_of_step}
use Rattle.sip_model.proofs.Standing.{stands_of_chain}
use Rattle.sip_model.proofs.Under.{honest_under}
use Rattle.sip_model.proofs.Places.{all_weaker}
use Rattle.sip_model.proofs.Sameness.{serves_same, owed_same}

-- the last step of a chain is lawful by the history before it
lawful_of_chain : (server : Server) (first : ℕ) (link : Link) (history : List Link) (last : ProxyState) → IsChain server (first_state first) (link ∷ history) last
    → IsLawful server history link
lawful_of_chain server first link history last chain =
    let before : SameBindings link.before.moment link.before.bindings (bindings_after server history) = bindings_of_chain server first history link.before chain.2 in
    let parts : HasParts (under server link.config) link.before link.act link.out link.after =
    step_parts (under server link.config) link.before link.act link.out link.after chain.1 in
    record {
      stands = stands_of_chain server first link history last chain;
      bindings = before;
      binds = subst (λ (s : ProxyState). SameBindings s.moment s.bindings (bindings_after server (link ∷ history))) chain.0
          (bindings_of_chain server first (link ∷ history) last chain);
      serves = serves_same (under server link.config) link.before.bindings (bindings_after server history) link.before link.act link.out before
          (serves_of_step (under server link.config) link.before link.act link.out link.after chain.1);
      owed =
          all_weaker (IsOwed (under server link.config) (link ∷ history) link.before link.act link.before.bindings)
          (IsOwed (under server link.config) (link ∷ history) link.before link.act (bindings_after server history))
          (originals link.out.packets) (owed_same (under server link.config) (link ∷ history) link.before link.act link.before.bindings (bindings_after server history)
          before)
          (owed_of_step (under server link.config) history link chain.1 (few_of_chain server first history link.before chain.2)
          (honest_under server link.config history link.before.requests (honest_of_chain server first history link.before chain.2)));
      sent = step_sends (under server link.config) link.config history link.before link.act link.out link.after best_made chain.1
          (steady_in_step server first link history chain.2);
      again = step_causes (under server link.config) link.before link.act link.out link.after chain.1;
      repeats = step_repeats (under server link.config) link.before link.act link.out link.after chain.1;
      went = went_of_chain server first link history last chain;
      pays = owed_pays (under server link.config) (link ∷ history) link chain.1 (chain_named server first history link.before chain.2).numbers.differ
          (steady_in_step server first link history chain.2);
      none_passed = subst (λ (moment : ℕ). NoneBefore moment link.before.requests) (sym parts.is_at) parts.none_passed;
      none_again = subst (λ (moment : ℕ). NoneAgainBefore moment link.before.requests) (sym parts.is_at) parts.none_again;
      records = step_records (under server link.config) link.before link.act link.out link.after chain.1;
      rise = rising_of_step server first link history chain.1 chain.2;
    }

-- Every step of a chain from a first state is lawful by the history before it
pub access_of_chain : (server : Server) (first : ℕ) (history : List Link) (last : ProxyState) → IsChain server (first_state first) history last → Access server history
access_of_chain server first [] last chain = tt
access_of_chain server first (link ∷ history) last chain =
    (lawful_of_chain server first link history last chain, access_of_chain server first history link.before chain.2)

-- So is every step of a run
pub access_of_run : (server : Server) (first : ℕ) (events : List Event) (until : Option ℕ) (steps : List StepOut) (history : List Link) (last : ProxyState)
    → IsRun server (first_state first) events until steps history last → Access server history
access_of_run server first events until steps history last run = access_of_chain server first history last run.chain
