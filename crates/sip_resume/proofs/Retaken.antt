-- The events of a record, one behind the other.
use Rattle.std.proofs.Common.{◌≡◌, inl, inr, ℕ, ◌+◌, Ok, Err, List, [], ◌∷◌, Option, None, Some, sym, ◌∙◌, subst}
use Rattle.std.specs.Prelude.{IfNone, IfSome}
use Rattle.std.specs.Io.KnownBytes.{IsAtEnd, Keeps}
use Rattle.sip_event.specs.declared.event.Event.{Event}
use Rattle.sip_event.specs.declared.event.StepOut.{StepOut}
use Rattle.sip_model.specs.state.declared.server.Server.{Server}
use Rattle.sip_model.specs.TimerOrder.{Standing}
use Rattle.sip_replay_script.specs.Lines.{Reading, IsOver, pending}
use Rattle.sip_replay_script.specs.declared.read_stop.ReadStop.{ReadStop}
use Rattle.sip_replay_script.specs.declared.read_stop.ReadStop.TheVariants as stops
use Rattle.sip_replay_script.specs.Recorded.{RecordStops, GivesRecorded, IsCutRecord}
use Rattle.sip_journal.specs.Record.{Notes}
use Rattle.sip_resume.specs.Errors.{end_at}
use Rattle.sip_resume.specs.Outputs.{Outputs}
use Rattle.sip_resume.specs.Resumes.{EndsHere, TakesNext, TakesOwn, UnreadStops}
use Rattle.sip_resume.specs.declared.error.ResumeError.{ResumeError}
use Rattle.sip_resume.specs.declared.error.ResumeError.TheVariants as errors

-- the next event, taken and told
pub takes_next : (server : Server) (old new : Standing) (part rest : Reading) (middle after : Option (List ℕ)) (outs outs_then : Outputs) (event : Event) (out : StepOut)
    → GivesRecorded part rest middle after event → TakesOwn server old new event outs.shown outs_then.shown out → Notes outs.written outs_then.written (event ∷ [])
    → TakesNext server old new part rest middle after outs outs_then out
takes_next server old new part rest middle after outs outs_then event out gives takes noted = record { event = event; gives = gives; takes = takes; noted = noted }

-- ---- the end of a record

-- what is left of known bytes
abbrev pub left_of : Option (List ℕ) → List ℕ
left_of None = []
left_of (Some rest) = rest

-- ---- the end, seen

empty_of : (a b : Option (List ℕ)) → Keeps a b → IsAtEnd b → IfSome a EndsHere
empty_of None b k e = tt
empty_of (Some xs) None k e = absurd k
empty_of (Some xs) (Some ys) k e = inl (sym k ∙ e)

over_ends : (old new : Reading) (before after : Option (List ℕ)) → IsOver old new before after → IfSome (pending old before) EndsHere
over_ends old new before after h = empty_of (pending old before) (pending new after) h.kept h.at_end

cut_ends : (rest : Option (List ℕ)) → IfSome rest IsCutRecord → IfSome rest EndsHere
cut_ends None h = tt
cut_ends (Some rest) h = inr h

-- no event is read, and the record ends there
pub ends_so : (F : Type 0) (script : Option (List ℕ)) (stop : ReadStop) (first : ℕ) (u : Unit {0}) → RecordStops F script stop → Ok u ≡ end_at stop first
    → IfSome script EndsHere
ends_so F script stops.NoMemory first u h e = absurd cc
ends_so F script stops.Damaged first u h e = absurd cc
ends_so F script stops.Cut first u h e = cut_ends script h
ends_so F script stops.Read first u h e = absurd cc

-- or why it isn't taken further
pub stops_so : (F : Type 0) (script : Option (List ℕ)) (number : ℕ) (stop : ReadStop) (first : ℕ) (e : ResumeError) → first ≡ number + 1 → RecordStops F script stop
    → Err e ≡ end_at stop first → UnreadStops F script number e
stops_so F script number stops.NoMemory first e is h same = let this : errors.NoMemory ≡ e = cc in subst (λ (x : ResumeError). UnreadStops F script number x) this tt
stops_so F script number stops.Damaged first e is h same = let this : errors.Damaged first ≡ e = cc in
    subst (λ (x : ResumeError). UnreadStops F script number x) this (h, is)
stops_so F script number stops.Cut first e is h same = absurd cc
stops_so F script number stops.Read first e is h same = let this : errors.Read ≡ e = cc in subst (λ (x : ResumeError). UnreadStops F script number x) this h

pub none_ends : (found : Option Event) (old new : Reading) (before after : Option (List ℕ)) → IfNone found (IsOver old new before after)
    → IfNone found (IfSome (pending old before) EndsHere)
none_ends None old new before after h = over_ends old new before after h
none_ends (Some event) old new before after h = tt
