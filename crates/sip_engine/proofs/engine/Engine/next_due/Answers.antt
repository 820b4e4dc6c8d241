use Rattle.std.proofs.Common.{◌≡◌, ◌≤◌, ◌<◌, ℕ, Some, IfSome, subst}
use Rattle.sip_model.specs.steps_model.Step.{NoneAgainBy, NoneBy}
use Rattle.sip_engine.specs.Engine.{Engine}
use Rattle.sip_engine.proofs.Waiting.{no_earlier, none_by}
use Rattle.sip_engine.proofs.engine.Engine.next_due.Goals as goal

pub returns-clause-later : goal.returns-clause-later
returns-clause-later g c =
    let state = c.self.inside.proxy.state in
    subst (λ (e : Engine). IfSome c.next_due.result (λ due. e.state.moment ≤ due)) c.self.view_is
    (no_earlier state.requests state.moment c.next_due.result (c.reached_states_are_sound.ensures.none_before c.self.inside.judge state c.self.invariant)
    (c.reached_states_are_sound.ensures.none_again c.self.inside.judge state c.self.invariant) (c.next_moment_is_first.ensures.from_then state.requests)
    c.next_due.ensures)

pub returns-clause-none_by : goal.returns-clause-none_by
returns-clause-none_by g c =
    let state = c.self.inside.proxy.state in
    let laws = c.next_moment_is_first.ensures in
    subst (λ (e : Engine). (m : ℕ) → ((due : ℕ) → c.next_due.result ≡ Some due → m < due) → NoneBy m e.state.requests × NoneAgainBy m e.state.requests) c.self.view_is
    (none_by state.requests c.next_due.result (laws.before state.requests) (laws.before_again state.requests) (laws.never state.requests)
    (laws.never_again state.requests) c.next_due.ensures)
