-- The moments of an open request that is kept are those of timers that it names.
use Rattle.std.proofs.Common.{◌≡◌, ℕ, ◌≤◌, Bool, List, [], ◌∷◌, ◌++◌, length, Option, Some, None, refl, arith, eqb}
use Rattle.std.specs.Prelude.{count_by}
use Rattle.std.specs.Option.{option_to_list}
use Rattle.std.specs.List.{AllByRecursion, filter_map, cons_option}
use Rattle.sip_timers.specs.declared.timer.Owner.TheVariants as Of
use Rattle.sip_timers.specs.declared.timer.Timer.{Timer}
use Rattle.sip_dialog_updates.specs.state.declared.branch.Branch.{Branch}
use Rattle.sip_dialog_updates.specs.state.declared.open_request.OpenRequest.{OpenRequest}
use Rattle.sip_dialog_updates.specs.state.State.{is_invite, phase_deadline, side_deadline, deadlines_of}
use Rattle.model_steps.specs.context_model.Retransmission.{answer_due, branch_due, resends_of}
use Rattle.sip_request.specs.transactions_model.Ties.{branch_timers, branches_timers, due_at, owner_of, part_timers, side_timers}
use Rattle.sip_request.specs.transactions_model.declared.timer_keys.TimerKeys.{TimerKeys}
use Rattle.sip_fork.proofs.Lists.{count-append, all_append, all_weaker}
use Rattle.sip_fork.proofs.Parts.{count_part}
use Rattle.sip_request.specs.transactions_model.Fits.{BranchFits}
use Rattle.sip_request.specs.Named.{named_by}
use Rattle.sip_request.specs.declared.request.Request.{Request}
use Rattle.sip_fork.specs.Contexts.{IsKept}
use Rattle.sip_fork.specs.Timing.{Timing}

-- whether a timer is due at a moment
abbrev pub due_then : ℕ → Timer → Bool
due_then moment t = eqb t.due moment

-- ---- branches

-- moments of branches are those of timers that they name
branch_moments : (r : OpenRequest) (f : Branch → Option ℕ) (Q : Branch → Type 0) → ((b : Branch) (due : ℕ) → Q b → f b ≡ Some due → 1 ≤ due_at due (branch_timers r b))
    → (bs : List Branch) (keys : List TimerKeys) → length keys ≡ length bs → AllByRecursion Q bs
    → AllByRecursion (λ (m : ℕ). 1 ≤ count_by (due_then m) (branches_timers r bs keys)) (filter_map f bs)
branch_moments r f Q has [] keys long all = tt
branch_moments r f Q has (b ∷ bs) [] long all = absurd (omega (arith, long))
branch_moments r f Q has (b ∷ bs) (key ∷ keys) long all = by_moment (f b) refl (branch_moments r f Q has bs keys (omega (arith, long)) all.1) where
  mine : List Timer
  mine = part_timers r.number (owner_of b) key (branch_timers r b)

  others : List Timer
  others = branches_timers r bs keys

  further : (ms : List ℕ) → AllByRecursion (λ (m : ℕ). 1 ≤ count_by (due_then m) others) ms → AllByRecursion (λ (m : ℕ). 1 ≤ count_by (due_then m) (mine ++ others)) ms
  further ms a = all_weaker (λ (m : ℕ). 1 ≤ count_by (due_then m) others) (λ (m : ℕ). 1 ≤ count_by (due_then m) (mine ++ others))
      (λ m h. omega (arith, h, count-append (due_then m) mine others)) ms a

  by_moment : (o : Option ℕ) → f b ≡ o → AllByRecursion (λ (m : ℕ). 1 ≤ count_by (due_then m) others) (filter_map f bs)
      → AllByRecursion (λ (m : ℕ). 1 ≤ count_by (due_then m) (mine ++ others)) (cons_option o (filter_map f bs))
  by_moment None e rest = further (filter_map f bs) rest
  by_moment (Some m) e rest =
      let counted : count_by (due_then m) mine ≡ due_at m (branch_timers r b) = count_part (due_then m) r.number (owner_of b) key (branch_timers r b) in
      (omega (arith, has b m all.0 e, counted, count-append (due_then m) mine others), further (filter_map f bs) rest)

-- ---- the whole

module _ (timing : Timing) (reached : ℕ) (r : Request) (kept : IsKept reached r) where
  abbrev of_side : List Timer
  of_side = part_timers r.open_request.number Of.Server r.side (side_timers r.open_request)

  abbrev of_branches : List Timer
  of_branches = branches_timers r.open_request r.open_request.branches r.branches

  abbrev Named : ℕ → Type 0
  Named m = 1 ≤ count_by (due_then m) (named_by r)

  side_named : (m : ℕ) → 1 ≤ due_at m (side_timers r.open_request) → Named m
  side_named m h =
      let counted : count_by (due_then m) of_side ≡ due_at m (side_timers r.open_request) =
      count_part (due_then m) r.open_request.number Of.Server r.side (side_timers r.open_request) in
      omega (arith, h, counted, count-append (due_then m) of_side of_branches)

  option_named : (o : Option ℕ) → ((m : ℕ) → o ≡ Some m → 1 ≤ due_at m (side_timers r.open_request)) → AllByRecursion Named (option_to_list o)
  option_named None f = tt
  option_named (Some m) f = (side_named m (f m refl), tt)

  branches_named : (f : Branch → Option ℕ) → ((b : Branch) (due : ℕ) → BranchFits (is_invite r.open_request) b → f b ≡ Some due
      → 1 ≤ due_at due (branch_timers r.open_request b)) → AllByRecursion Named (filter_map f r.open_request.branches)
  branches_named f has =
      all_weaker (λ (m : ℕ). 1 ≤ count_by (due_then m) of_branches) Named (λ m h. omega (arith, h, count-append (due_then m) of_side of_branches))
      (filter_map f r.open_request.branches)
      (branch_moments r.open_request f (BranchFits (is_invite r.open_request)) has r.open_request.branches r.branches kept.keys kept.fits.branches)

  pub deadlines_named : AllByRecursion (λ (m : ℕ). 1 ≤ count_by (due_then m) (named_by r)) (deadlines_of r.open_request)
  deadlines_named =
      all_append Named (option_to_list (side_deadline r.open_request.side)) (filter_map (λ (b : Branch). phase_deadline b.phase) r.open_request.branches)
      (option_named (side_deadline r.open_request.side) (λ m e. timing.side_ends r.open_request m kept.fits e))
      (branches_named (λ (b : Branch). phase_deadline b.phase) (λ b due fits e. timing.branch_ends r.open_request b due fits e))

  pub resends_named : AllByRecursion (λ (m : ℕ). 1 ≤ count_by (due_then m) (named_by r)) (resends_of r.open_request)
  resends_named =
      all_append Named (option_to_list (answer_due r.open_request)) (filter_map (branch_due r.open_request) r.open_request.branches)
      (option_named (answer_due r.open_request) (λ m e. timing.answer_again r.open_request m e))
      (branches_named (branch_due r.open_request) (λ b due fits e. timing.branch_again r.open_request b due e))
