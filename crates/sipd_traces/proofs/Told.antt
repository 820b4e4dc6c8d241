-- Records that are told, seen by what a listener keeps.
use Rattle.std.proofs.Common.{◌≡◌, ◌∙◌, refl, ap, sym, subst, append-nil, map, ℕ, Bool, Result, Ok, Err, List, [], ◌∷◌, Option, None, Some}
use mathlib.Core.Option as maybe
use Rattle.std.specs.Prelude.{OnOk, ⊤, length, string_bytes}
use Rattle.std.specs.Borrow.{GName, MutBor}
use Rattle.std.specs.Option.{ghost_name_of}
use Rattle.std.specs.Io.KnownBytes.{Appends, Keeps, append_known}
use Rattle.std.specs.List.{flat_map}
use Rattle.std.proofs.KnownBytes.{Appends-trans}
use Rattle.sip_listener.specs.Heard.{Heard}
use Rattle.sipd_exit.specs.declared.exit.Exit.{Exit}
use Rattle.sipd_record_files.specs.Named.{AreNamed}
use Rattle.sipd_arguments.specs.declared.call.TraceCall.{TraceCall}
use Rattle.sipd_capture.specs.declared.choice.CaptureChoice.{CaptureChoice}
use Rattle.sipd_telling.specs.Onward.{HearsAll}
use Rattle.sipd_telling.specs.Records.{TellsFiles}
use Rattle.sipd_ladder.specs.declared.hearing.Ladder.{Ladder}
use Rattle.sipd_capture.specs.Headers.{file_head}
use Rattle.sipd_traces.specs.Ladders.{AddsRungs, IsUnheard, PrintsLadder, shown_ladder}
use Rattle.sipd_traces.specs.Traces.{TracesStep, WritesCapture, WritesChosen, WritesOut, adds_frames, capture_of, step_frames}
use Rattle.sipd_traces.proofs.Growing.{steps_frames}

-- the same records, told to another listener
files_as : {L M : Type 0} (hears : L → Heard → L → Type 0) (others : M → Heard → M → Type 0) (count : ℕ) (old new : L) (heard heard_then : M)
    → (h : TellsFiles hears count old new) → HearsAll others heard heard_then h.tells.day → TellsFiles others count heard heard_then
files_as hears others count old new heard heard_then h told =
    record { reached = h.reached; tells = record { day = h.tells.day; says = h.tells.says; heard = told } }

-- ---- a listener that has another one

abbrev pub hears_in : {L M : Type 0} → (L → M) → (M → Heard → M → Type 0) → L → Heard → L → Type 0
hears_in inner hears old step new = hears (inner old) step (inner new)

seen : {L M : Type 0} (inner : L → M) (hears : M → Heard → M → Type 0) (old new : L) (steps : List Heard)
    → HearsAll (hears_in inner hears) old new steps → HearsAll hears (inner old) (inner new) steps
seen inner hears old new [] h = ap inner h
seen inner hears old new (step ∷ steps) h = record { half = inner h.half; first = h.first; others = seen inner hears h.half new steps h.others }

pub seen_files : {L M : Type 0} (inner : L → M) (hears : M → Heard → M → Type 0) (count : ℕ) (old new : L)
    → TellsFiles (hears_in inner hears) count old new → TellsFiles hears count (inner old) (inner new)
seen_files inner hears count old new h =
    files_as (hears_in inner hears) hears count old new (inner old) (inner new) h (seen inner hears old new h.tells.day h.tells.heard)

-- ---- a writer that is lent, beside a choice

-- what it kept while it was told steps
pub record Kept {L N : Type 0} (choice_of : L → CaptureChoice) (contents : L → Option (List ℕ)) (writer : L → N) (old new : L) (steps : List Heard) : Type 0 where
  pub same : choice_of new ≡ choice_of old
  pub lent : writer new ≡ writer old
  pub told : HearsAll (adds_frames (choice_of old)) (contents old) (contents new) steps

abbrev pub hears_by : {L N : Type 0} → (L → CaptureChoice) → (L → Option (List ℕ)) → (L → N) → L → Heard → L → Type 0
hears_by choice_of contents writer old step new =
    TracesStep (choice_of old) (choice_of new) (writer old) (writer new) (contents old) step (contents new)

kept_one : {L N : Type 0} (choice_of : L → CaptureChoice) (contents : L → Option (List ℕ)) (writer : L → N) (old half new : L) (step : Heard)
    (steps : List Heard) → hears_by choice_of contents writer old step half → Kept choice_of contents writer half new steps
    → Kept choice_of contents writer old new (step ∷ steps)
kept_one choice_of contents writer old half new step steps first h = record {
  same = h.same ∙ first.same;
  lent = h.lent ∙ first.lent;
  told = record {
    half = contents half;
    first = first.written;
    others = subst (λ (c : CaptureChoice). HearsAll (adds_frames c) (contents half) (contents new) steps) first.same h.told;
  };
}

kept : {L N : Type 0} (choice_of : L → CaptureChoice) (contents : L → Option (List ℕ)) (writer : L → N) (old new : L) (steps : List Heard)
    → HearsAll (hears_by choice_of contents writer) old new steps → Kept choice_of contents writer old new steps
kept choice_of contents writer old new [] h = record { same = ap choice_of h; lent = ap writer h; told = ap contents h }
kept choice_of contents writer old new (step ∷ steps) h =
    kept_one choice_of contents writer old h.half new step steps h.first (kept choice_of contents writer h.half new steps h.others)

-- the frames of records, behind what it had
pub record Framed {L N : Type 0} (choice_of : L → CaptureChoice) (contents : L → Option (List ℕ)) (writer : L → N) (count : ℕ) (old new : L) : Type 0 where
  pub lent : writer new ≡ writer old
  pub files : TellsFiles (adds_frames (choice_of old)) count (contents old) (contents new)

framed_by : {L N : Type 0} (choice_of : L → CaptureChoice) (contents : L → Option (List ℕ)) (writer : L → N) (count : ℕ) (old new : L)
    → (h : TellsFiles (hears_by choice_of contents writer) count old new) → Kept choice_of contents writer old new h.tells.day
    → Framed choice_of contents writer count old new
framed_by choice_of contents writer count old new h k = record {
  lent = k.lent;
  files = files_as (hears_by choice_of contents writer) (adds_frames (choice_of old)) count old new (contents old) (contents new) h k.told;
}

pub framed : {L N : Type 0} (old new : L) (choice_of : L → CaptureChoice) (contents : L → Option (List ℕ)) (writer : L → N) (count : ℕ)
    → TellsFiles (hears_by choice_of contents writer) count old new → Framed choice_of contents writer count old new
framed old new choice_of contents writer count h =
    framed_by choice_of contents writer count old new h (kept choice_of contents writer old new h.tells.day h.tells.heard)

-- ---- the writer that was lent

abbrev name_or : GName → maybe.Option GName → GName
name_or other maybe.none = other
name_or other (maybe.some name) = name

-- is known by its name
pub same_name : (one other : GName) → maybe.some one ≡ maybe.some other → one ≡ other
same_name one other h = ap (name_or other) h

abbrev IsNameless : maybe.Option GName → Type 0
IsNameless maybe.none = ⊤
IsNameless (maybe.some name) = ⊥

pub no_name : {X : Type 0} (writer : Option (MutBor X)) (name : GName) → writer ≡ None → ghost_name_of writer ≡ maybe.some name → ⊥
no_name {X} writer name is h = subst IsNameless (sym (ap (λ (w : Option (MutBor X)). ghost_name_of w) is) ∙ h) tt

-- ---- a capture that was written

-- what was added stays
appended : (old told new : Option (List ℕ)) (bytes : List ℕ) → Appends old told bytes → Keeps told new → Appends old new bytes
appended None told new bytes h k = tt
appended (Some x) (Some y) (Some z) bytes h k = k ∙ h
appended (Some x) None new bytes h k = absurd h
appended (Some x) (Some y) None bytes h k = absurd k

pub captured : (choice : CaptureChoice) (result : Result Unit Exit) (count : ℕ) (old begun told new : Option (List ℕ)) → Appends old begun file_head
    → OnOk result (TellsFiles (adds_frames choice) count begun told) → Keeps told new → OnOk result (WritesCapture choice count old new)
captured choice (Ok x) count old begun told new head days keeps = record {
  day = days.tells.day;
  reached = days.reached;
  says = days.tells.says;
  written =
      appended old told new (capture_of choice days.tells.day)
      (Appends-trans old begun told file_head (flat_map (step_frames choice) days.tells.day) head
      (steps_frames choice begun told days.tells.day days.tells.heard))
      keeps;
}
captured choice (Err e) count old begun told new head days keeps = tt

-- of which records
pub written_of : (call : TraceCall) (files : List (List ℕ)) (count : ℕ) (old new : Option (List ℕ)) → AreNamed (map string_bytes call.records.items) files
    → length files ≡ count → WritesChosen call count old new → WritesOut call old new
written_of call files count old new named many written =
    record { files = files; named = named; written = subst (λ (n : ℕ). WritesChosen call n old new) (sym many) written }

pub written_out : (call : TraceCall) (result : Result Unit Exit) (files : List (List ℕ)) (count : ℕ) (old new : Option (List ℕ))
    → AreNamed (map string_bytes call.records.items) files → length files ≡ count → OnOk result (WritesChosen call count old new)
    → OnOk result (WritesOut call old new)
written_out call (Ok x) files count old new named many written = written_of call files count old new named many written
written_out call (Err e) files count old new named many written = tt

-- what is written by way of a buffer
unbuffered : (known : Option (List ℕ)) → append_known known [] ≡ known
unbuffered None = refl
unbuffered (Some xs) = ap (λ (l : List ℕ). Some l) (append-nil xs)

pub handed_back : (choice : CaptureChoice) (count : ℕ) (file buffered held written : Option (List ℕ)) → buffered ≡ append_known file []
    → WritesCapture choice count buffered held → Keeps held written → WritesCapture choice count file written
handed_back choice count file buffered held written is h keeps = record {
  day = h.day;
  reached = h.reached;
  says = h.says;
  written =
      appended file held written (capture_of choice h.day)
      (subst (λ (known : Option (List ℕ)). Appends known held (capture_of choice h.day)) (is ∙ unbuffered file) h.written) keeps;
}

-- a ladder that was printed
pub laddered : {L : Type 0} (first told : L) (inner : L → Ladder) (result : Result Unit Exit) (svg : Bool) (paths files : List (List ℕ))
    (count : ℕ) (old new : Option (List ℕ)) → IsUnheard (inner first) → AreNamed paths files → length files ≡ count
    → OnOk result (TellsFiles (hears_in inner AddsRungs) count first told)
    → Appends old new (shown_ladder svg (inner told)) → OnOk result (PrintsLadder svg paths old new)
laddered first told inner (Ok x) svg paths files count old new unheard named many days printed = record {
  first = inner first;
  unheard = unheard;
  ladder = inner told;
  files = files;
  named = named;
  days = subst (λ (n : ℕ). TellsFiles AddsRungs n (inner first) (inner told)) (sym many) (seen_files inner AddsRungs count first told days);
  printed = printed;
}
laddered first told inner (Err e) svg paths files count old new unheard named many days printed = tt
