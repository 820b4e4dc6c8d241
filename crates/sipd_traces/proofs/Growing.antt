-- What a history adds.
use Rattle.std.proofs.Common.{◌≡◌, ℕ, List, [], ◌∷◌, ◌++◌, Option, refl, sym, ◌∙◌, ap, subst, append_assoc, append-nil}
use Rattle.std.specs.Io.KnownBytes.{Appends}
use Rattle.std.specs.List.{flat_map}
use Rattle.std.proofs.KnownBytes.{Appends-nil, Appends-trans}
use Rattle.sip_model.specs.Run.{Link}
use Rattle.sip_listener.specs.Heard.{Heard, Tells, heard_at, heard_of}
use Rattle.sipd_capture.specs.declared.choice.CaptureChoice.{CaptureChoice}
use Rattle.sipd_ladder.specs.Hearing.{place_at, rungs_with}
use Rattle.sipd_ladder.specs.declared.hearing.Ladder.{Ladder}
use Rattle.sipd_ladder.specs.declared.rung.AddrName.{AddrName}
use Rattle.sipd_ladder.specs.declared.rung.Rung.{Rung}
use Rattle.sipd_telling.specs.Onward.{HearsAll}
use Rattle.sipd_traces.specs.Ladders.{AddsRungs, ladder_behind, ladder_with}
use Rattle.sipd_traces.specs.Traces.{adds_frames, step_frames}

-- ---- frames

frames_joined : (choice : CaptureChoice) (a b : List Heard)
    → flat_map (step_frames choice) (a ++ b) ≡ flat_map (step_frames choice) a ++ flat_map (step_frames choice) b
frames_joined choice [] b = refl
frames_joined choice (step ∷ a) b =
    ap (λ (l : List ℕ). step_frames choice step ++ l) (frames_joined choice a b)
    ∙ sym (append_assoc (step_frames choice step) (flat_map (step_frames choice) a) (flat_map (step_frames choice) b))

one_more : (choice : CaptureChoice) (history : List Link) (link : Link)
    → flat_map (step_frames choice) (heard_of history) ++ step_frames choice (heard_at link) ≡ flat_map (step_frames choice) (heard_of (link ∷ history))
one_more choice history link =
    ap (λ (l : List ℕ). flat_map (step_frames choice) (heard_of history) ++ l) (sym (append-nil (step_frames choice (heard_at link))))
    ∙ sym (frames_joined choice (heard_of history) (heard_at link ∷ []))

pub all_frames : (choice : CaptureChoice) (old new : Option (List ℕ)) (history : List Link) → Tells (adds_frames choice) old new history
    → Appends old new (flat_map (step_frames choice) (heard_of history))
all_frames choice old new [] h = subst (λ (x : Option (List ℕ)). Appends old x []) (sym h) (Appends-nil old)
all_frames choice old new (link ∷ history) h =
    subst (λ (l : List ℕ). Appends old new l) (one_more choice history link)
    (Appends-trans old h.half new (flat_map (step_frames choice) (heard_of history)) (step_frames choice (heard_at link))
    (all_frames choice old h.half history h.earlier) h.last)

pub steps_frames : (choice : CaptureChoice) (old new : Option (List ℕ)) (steps : List Heard) → HearsAll (adds_frames choice) old new steps
    → Appends old new (flat_map (step_frames choice) steps)
steps_frames choice old new [] h = subst (λ (x : Option (List ℕ)). Appends old x []) (sym h) (Appends-nil old)
steps_frames choice old new (step ∷ steps) h =
    Appends-trans old h.half new (step_frames choice step) (flat_map (step_frames choice) steps) h.first (steps_frames choice h.half new steps h.others)

-- ---- rungs

abbrev of_parts : List ℕ → List Rung → List AddrName → Ladder
of_parts call_id rungs names = record { call_id = call_id; rungs = rungs; names = names }

-- each of its parts is that of the other
same_ladder : (one other : Ladder) → one.call_id ≡ other.call_id → one.rungs ≡ other.rungs → one.names ≡ other.names → one ≡ other
same_ladder one other call_id rungs names =
    ap (λ (x : List ℕ). of_parts x one.rungs one.names) call_id ∙ ap (λ (x : List Rung). of_parts other.call_id x one.names) rungs
    ∙ ap (λ (x : List AddrName). of_parts other.call_id other.rungs x) names

-- a step leads from a ladder to the one that has it
one_step : (old : Ladder) (step : Heard) (new : Ladder) → AddsRungs old step new → new ≡ ladder_with old step
one_step old step new h =
    same_ladder new (ladder_with old step) h.same
    (h.rungs ∙ ap (λ (names : List AddrName). rungs_with old.call_id (place_at step.config.offset names) step.event step.out old.rungs) h.names) h.names

behind_more : (ladder : Ladder) (a : List Heard) (step : Heard) → ladder_behind ladder (a ++ step ∷ []) ≡ ladder_with (ladder_behind ladder a) step
behind_more ladder [] step = refl
behind_more ladder (first ∷ a) step = behind_more (ladder_with ladder first) a step

pub all_rungs : (old new : Ladder) (history : List Link) → Tells AddsRungs old new history → new ≡ ladder_behind old (heard_of history)
all_rungs old new [] h = h
all_rungs old new (link ∷ history) h =
    one_step h.half (heard_at link) new h.last
    ∙ ap (λ (ladder : Ladder). ladder_with ladder (heard_at link)) (all_rungs old h.half history h.earlier)
    ∙ sym (behind_more old (heard_of history) (heard_at link))

pub steps_rungs : (old new : Ladder) (steps : List Heard) → HearsAll AddsRungs old new steps → new ≡ ladder_behind old steps
steps_rungs old new [] h = h
steps_rungs old new (step ∷ steps) h =
    steps_rungs h.half new steps h.others ∙ ap (λ (ladder : Ladder). ladder_behind ladder steps) (one_step old step h.half h.first)
