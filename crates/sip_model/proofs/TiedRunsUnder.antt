-- Two runs over the same periods, side by side.
use Rattle.std.proofs.Common.{◌≡◌, ◌∙◌, ℕ, ◌≤◌, List, [], ◌∷◌, ◌++◌, Option, None, refl, sym, ap₂, subst}
use Rattle.sip_event.specs.declared.event.Event.{Event}
use Rattle.sip_event.specs.declared.event.StepOut.{StepOut}
use Rattle.model_steps.specs.state.declared.server.Server.{Server}
use Rattle.model_steps.specs.state.declared.proxy_state.ProxyState.{ProxyState}
use Rattle.model_steps.specs.state.SameState.{SameState}
use Rattle.model_steps.specs.state.State.{first_state}
use Rattle.model_steps.specs.Step.{Act, IsStep}
use Rattle.sip_model.specs.Run.{Link, under, IsChain, IsRun}
use Rattle.sip_model.specs.Periods.{Period, until_of, IsRunUnder}
use Rattle.model_transactions.specs.Queue.{Entry}
use Rattle.sip_model.specs.TimerOrder.{queue_from}
use Rattle.sip_model.proofs.Along.{queued_earlier, queued_later}
use Rattle.sip_model.specs.Ties.{AreOne, AreOrderly, IsOrderly}
use Rattle.sip_model.proofs.TiedAlike.{Sameness}
use Rattle.sip_model.proofs.Reached.{Histories}
use Rattle.sip_model.proofs.TiedRuns.{joined_chain, runs_one}
use Rattle.sip_model.proofs.Chains.{chain_under, chain_back}

-- ---- histories

-- no time passes behind a period's last event
no_until : (periods : List Period) → until_of periods None ≡ None
no_until [] = refl
no_until (period ∷ periods) = refl

run_alone : (server : Server) (first : ProxyState) (events : List Event) (periods : List Period) (steps : List StepOut) (history : List Link) (last : ProxyState)
    → IsRun server first events (until_of periods None) steps history last → IsRun server first events None steps history last
run_alone server first events periods steps history last h = subst (λ (o : Option ℕ). IsRun server first events o steps history last) (no_until periods) h

-- ---- both, period by period

module _ (sameness : Sameness)
    (steps_same : (server : Server) (left right : ProxyState) (act : Act) (out : StepOut) (new : ProxyState) → SameState left right → left.moment ≤ out.at
    → IsStep server left act out new → IsStep server right act out new)
    (histories : Histories)
    (stands : (server : Server) (old new : ProxyState) (act : Act) (out : StepOut) → IsStep server old act out new → new.moment ≡ out.at)
    (rises : (server : Server) (first : ℕ) (link : Link) (history : List Link) (last : ProxyState) → IsChain server (first_state first) (link ∷ history) last
    → link.before.moment ≤ last.moment)
    (server : Server) (first : ℕ) where
  pub runs_under_one : (periods : List Period) (queue : List Entry) (past : List Link) (start other_start last end : ProxyState) (steps others : List StepOut)
      (history its : List Link)
      → IsChain server (first_state first) past start → SameState start other_start
      → IsRunUnder server start periods None steps history last → IsRunUnder server other_start periods None others its end → AreOrderly server queue history
      → AreOrderly server queue its
      → AreOne steps others last end
  runs_under_one [] queue past start other_start last end steps others history its reached same h k orderly ordered = record {
    steps_are = h.no_steps ∙ sym k.no_steps;
    state = subst (λ (s : ProxyState). SameState s end) (sym h.stays) (subst (λ (s : ProxyState). SameState start s) (sym k.stays) same);
  }
  runs_under_one (period ∷ periods) queue past start other_start last end steps others history its reached same h k orderly ordered =
      both
      (runs_under_one periods (queue_from queue h.earlier) (h.earlier ++ past) h.middle k.middle last end h.further k.further h.later k.later
      (joined_chain server (first_state first) start h.middle past h.earlier reached chain) own.0.state h.behind k.behind
      (queued_later Orderly queue h.earlier h.later mine)
      (subst (λ (q : List Entry). AreOrderly server q k.later) (sym own.1) (queued_later Orderly queue k.earlier k.later theirs))) where
        Orderly : List Entry → Link → Type 0
        Orderly standing link = IsOrderly (under server link.config) standing link.before link.act link.out link.after

        mine : AreOrderly server queue (h.later ++ h.earlier)
        mine = subst (AreOrderly server queue) h.of_history orderly

        theirs : AreOrderly server queue (k.later ++ k.earlier)
        theirs = subst (AreOrderly server queue) k.of_history ordered

        own : AreOne h.own k.own h.middle k.middle × (queue_from queue h.earlier ≡ queue_from queue k.earlier)
        own =
            runs_one sameness steps_same histories stands rises (under server period.config) first past start
            (chain_under server period.config (first_state first) past start reached) queue other_start h.middle k.middle period.events
            h.own k.own h.earlier k.earlier same (run_alone (under server period.config) start period.events periods h.own h.earlier h.middle h.is_run)
            (run_alone (under server period.config) other_start period.events periods k.own k.earlier k.middle k.is_run)
            (queued_earlier Orderly queue h.earlier h.later mine) (queued_earlier Orderly queue k.earlier k.later theirs)

        chain : IsChain server start h.earlier h.middle
        chain = chain_back server period.config start h.earlier h.middle h.is_run.chain

        both : AreOne h.further k.further last end → AreOne steps others last end
        both rest = record { steps_are = h.of_steps ∙ ap₂ (λ (a b : List StepOut). a ++ b) own.0.steps_are rest.steps_are ∙ sym k.of_steps; state = rest.state }
