use Rattle.std.proofs.Common.{◌≤◌, ℕ, sym, subst}
use Rattle.model_steps.specs.Step.{NoneBefore, NoneAgainBefore}
use Rattle.sip_fork.specs.Contexts.{AreOnTime, Contexts}
use Rattle.sip_fork.proofs.OnTime.{come, told}
use Rattle.sip_fork.proofs.Tying.{contexts}
use Rattle.sip_fork.proofs.Later.{tied_later, none_due, no_less, still_early}
use Rattle.sip_fork.proofs.contexts.Contexts.reach.Goals as goal

pub reach-requires : goal.reach-requires
reach-requires g c =
    none_due c.timers_stand_for_moments.ensures c.self.inside.timers.pending c.self.inside.timers.reached c.args.moment c.self.inside.table.rows c.self.invariant.tied
    c.if-moment-gt0.true
    (subst (λ (v : Contexts). NoneBefore c.args.moment v.requests) (sym c.self.view_is) c.requires.none)
    (subst (λ (v : Contexts). NoneAgainBefore c.args.moment v.requests) (sym c.self.view_is) c.requires.none_again)

pub invariant_of-self : goal.invariant_of-self
invariant_of-self g c =
    let later : c.self.inside.timers.reached ≤ c.reach.new.self.reached = no_less c.self.inside.timers.reached _ c.reach.new.self.reached c.reach.ensures.later in
    record {
      tied = tied_later c.time_passes.ensures.request c.self.inside.timers.pending c.reach.new.self.pending c.self.inside.timers.reached c.reach.new.self.reached
          c.self.inside.table.rows c.self.invariant.tied c.reach.ensures.same
          later
          (still_early c.self.inside.timers.reached c.args.moment c.reach.new.self.reached c.reach.ensures.later c.self.invariant.tied.early c.requires.early);
      on_time = subst (λ (n : ℕ). AreOnTime n c.reach.new.self.reached (contexts c.self.inside.table.rows)) (sym c.max-self-inside.ensures)
          (come c.time_passes.ensures.request c.self.inside.moment c.self.inside.timers.reached c.args.moment c.reach.new.self.reached (contexts c.self.inside.table.rows)
          c.self.invariant.on_time c.requires.early
          later
          (told c.self.inside.timers.reached c.args.moment c.reach.new.self.reached c.reach.ensures.later));
    }
