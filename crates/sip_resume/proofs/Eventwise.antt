-- The events of a record, one behind the other, up to a configuration or the end.
use Rattle.std.proofs.Common.{◌≡◌, inl, inr, ℕ, ◌+◌, ◌≤◌, ◌<◌, List, [], ◌∷◌, ◌++◌, Option, None, Some, refl, sym, ◌∙◌, ap, subst, arith, cond}
use Rattle.std.specs.Prelude.{IfSome, count_by}
use Rattle.std.specs.Io.KnownBytes.{Keeps}
use Rattle.std.proofs.KnownBytes.{Appends-nil, Consumes-nil, Consumes-trans}
use Rattle.std.proofs.lemmas.List.Sums.{sum_by-append}
use Rattle.sip_event.specs.declared.event.Event.{Event}
use Rattle.sip_event.specs.declared.event.StepOut.{StepOut}
use Rattle.sip_model.specs.state.declared.server.Server.{Server}
use Rattle.sip_model.specs.TimerOrder.{Standing}
use Rattle.sip_replay_script.specs.Lines.{Reading, is_end, left, pending}
use Rattle.sip_replay_script.specs.Recorded.{IsDamagedRecord}
use Rattle.sip_journal.specs.Configurations.{ComesNext, IsDamagedConfiguration}
use Rattle.sip_journal.specs.declared.upcoming.Upcoming.{Upcoming}
use Rattle.sip_journal.specs.declared.upcoming.Upcoming.TheVariants as upcoming
use Rattle.sip_replay_script.proofs.RecordTexts.{record_all, record_one}
use Rattle.sip_replay_script.proofs.Written.{keeps_consumes}
use Rattle.sip_journal.specs.Record.{Notes}
use Rattle.sip_journal.proofs.Noting.{notes_nothing, notes_both}
use Rattle.sip_resume.specs.Outputs.{Outputs}
use Rattle.sip_resume.specs.Resumes.{EndsHere, IsNext, JournalAt, ResumeStops, RunsOut, StopsAmong, TakesNext}
use Rattle.sip_resume.specs.Parts.{NextStops, SaysNoneAt, EndsAt, TakesEvents}
use Rattle.sip_resume.specs.declared.error.ResumeError.{ResumeError}
use Rattle.sip_resume.specs.declared.error.ResumeError.TheVariants as errors
use Rattle.sip_resume.proofs.Running.{RunsJoin, runs_on_nothing, runs_on_one, shown_both}
use Rattle.sip_segment_config.proofs.SoFar.{if_kept}

-- ---- what is known of bytes that stay

next_kept : (a b : Option (List ℕ)) (event : Event) → Keeps a b → IsNext b event → IsNext a event
next_kept a b event kept h = record { text = h.text; says = h.says; begins = if_kept (λ bytes. (further : List ℕ) × (bytes ≡ h.text ++ further)) a b kept h.begins }

among_kept : (server : Server) (old new : Standing) (a b : Option (List ℕ)) (outs outs_then : Outputs) → Keeps a b → StopsAmong server old new b outs outs_then
    → StopsAmong server old new a outs outs_then
among_kept server old new a b outs outs_then kept (inl h) = inl (record { event = h.event; next = next_kept a b h.event kept h.next; part = h.part })
among_kept server old new a b outs outs_then kept (inr h) = inr (record { event = h.event; next = next_kept a b h.event kept h.next; part = h.part })

out_kept : (server : Server) (old new : Standing) (a b : Option (List ℕ)) (outs outs_then : Outputs) → Keeps a b → RunsOut server old new b outs outs_then
    → RunsOut server old new a outs outs_then
out_kept server old new a b outs outs_then kept (inl h) = inl h
out_kept server old new a b outs outs_then kept (inr h) = inr (among_kept server old new a b outs outs_then kept h)

stops_kept : (server : Server) (old new : Standing) (spent : Type 0) (a b : Option (List ℕ)) (lines : ℕ) (outs outs_then : Outputs) (e : ResumeError) → Keeps a b
    → ResumeStops server old new spent b lines outs outs_then e
    → ResumeStops server old new spent a lines outs outs_then e
stops_kept server old new spent a b lines outs outs_then errors.NoMemory kept h = out_kept server old new a b outs outs_then kept h
stops_kept server old new spent a b lines outs outs_then (errors.Damaged line) kept h = (h.0, if_kept IsDamagedRecord a b kept h.1, h.2, h.3)
stops_kept server old new spent a b lines outs outs_then errors.Read kept h = h
stops_kept server old new spent a b lines outs outs_then errors.Step kept h = record {
  event = h.event;
  next = next_kept a b h.event kept h.next;
  runs = h.runs;
  shown = h.shown;
  refused = h.refused;
}
stops_kept server old new spent a b lines outs outs_then errors.Journal kept h = record {
  event = h.event;
  next = next_kept a b h.event kept h.next;
  runs = h.runs;
  shown = h.shown;
  failed = h.failed;
}
stops_kept server old new spent a b lines outs outs_then errors.Write kept h = among_kept server old new a b outs outs_then kept h

none_at : (rest : Option (List ℕ)) (e : ResumeError) → IfSome rest IsDamagedConfiguration → SaysNoneAt rest e
none_at rest errors.NoMemory h = tt
none_at rest (errors.Damaged line) h = h
none_at rest errors.Read h = tt
none_at rest errors.Step h = tt
none_at rest errors.Journal h = tt
none_at rest errors.Write h = tt

-- ---- the next event, behind a look at it

pub taken_behind : (server : Server) (old new : Standing) (part mid rest : Reading) (before middle after : Option (List ℕ)) (outs outs_then : Outputs) (out : StepOut)
    → Keeps (pending part before) (pending mid middle)
    → mid.number ≡ part.number → left mid ≤ left part → TakesNext server old new mid rest middle after outs outs_then out
    → TakesNext server old new part rest before after outs outs_then out
taken_behind server old new part mid rest before middle after outs outs_then out kept number fewer h = record {
  event = h.event;
  gives = record {
    given = record {
      text = h.gives.given.text;
      says = h.gives.given.says;
      consumes = keeps_consumes (pending part before) (pending mid middle) (pending rest after) h.gives.given.text kept h.gives.given.consumes;
      number = h.gives.given.number ∙ ap (λ n. n + count_by is_end h.gives.given.text) number;
      fewer = less_behind (left rest) (left mid) (left part) h.gives.given.fewer fewer;
    };
    recorded = h.gives.recorded;
  };
  takes = h.takes;
  noted = h.noted;
} where
  less_behind : (a b c : ℕ) → a < b → b ≤ c → a < c
  less_behind a b c h k = omega (arith, h, k)

pub ends_behind : (old new : Standing) (part mid : Reading) (before middle : Option (List ℕ)) (outs outs_then : Outputs)
    → Keeps (pending part before) (pending mid middle) → new ≡ old → IfSome (pending mid middle) EndsHere
    → outs_then ≡ outs → EndsAt old new part before outs outs_then
ends_behind old new part mid before middle outs outs_then kept same ends noted = record {
  state = same;
  ends = if_kept EndsHere (pending part before) (pending mid middle) kept ends;
  noted = noted;
}

pub stops_behind : (server : Server) (old new : Standing) (spent : Type 0) (part mid : Reading) (before middle : Option (List ℕ)) (outs outs_then : Outputs)
    (e : ResumeError) → Keeps (pending part before) (pending mid middle)
    → mid.number ≡ part.number → IfSome (pending part before) IsDamagedConfiguration → ResumeStops server old new spent (pending mid middle) mid.number outs outs_then e
    → JournalAt outs.written outs_then.written e
    → NextStops server old new spent (pending part before) part.number outs outs_then e
stops_behind server old new spent part mid before middle outs outs_then e kept number none h told = record {
  why = subst (λ (n : ℕ). ResumeStops server old new spent (pending part before) n outs outs_then e) number
      (stops_kept server old new spent (pending part before) (pending mid middle) mid.number outs outs_then e kept h);
  told = told;
  none = none_at (pending part before) e none;
}

-- ---- events so far

pub counts_add : (text more : List ℕ) → count_by is_end (text ++ more) ≡ count_by is_end text + count_by is_end more
counts_add text more = sum_by-append (λ b. cond (is_end b) 1 0) text more

pub numbers_add : (old mid new : ℕ) (text more : List ℕ) → mid ≡ old + count_by is_end text → new ≡ mid + count_by is_end more
    → new ≡ old + count_by is_end (text ++ more)
numbers_add old mid new text more h1 h2 = let sum : count_by is_end (text ++ more) ≡ count_by is_end text + count_by is_end more = counts_add text more in
    omega (arith, h1, h2, sum)

pub events_nothing : (server : Server) (state : Standing) (before : Option (List ℕ)) (lines : ℕ) (outs : Outputs)
    → TakesEvents server state state before before lines lines outs outs None
events_nothing server state before lines outs =
    let none = runs_on_nothing server state in
    record {
      events = [];
      text = [];
      says = refl;
      consumes = Consumes-nil before;
      counted = omega arith;
      runs = none.runs;
      last_is = none.last_is;
      shown = Appends-nil outs.shown;
      noted = notes_nothing outs.written;
    }

pub events_more : RunsJoin → (server : Server) (first mid new : Standing) (part rest : Reading) (before middle after : Option (List ℕ)) (lines half_lines : ℕ)
    (outs half whole : Outputs) (last : Option StepOut) (out : StepOut)
    → half_lines ≡ part.number → TakesEvents server first mid before (pending part middle) lines half_lines outs half last
    → TakesNext server mid new part rest middle after half whole out
    → TakesEvents server first new before (pending rest after) lines rest.number outs whole (Some out)
events_more join server first mid new part rest before middle after lines half_lines outs half whole last out is h next =
    let run = runs_on_one join server first mid new h.events next.event out half.shown whole.shown h.runs next.takes in
    record {
      events = h.events ++ next.event ∷ [];
      text = h.text ++ next.gives.given.text;
      says = record_all h.events (next.event ∷ []) h.text next.gives.given.text h.says (record_one next.gives.given.text next.event next.gives.recorded);
      consumes = Consumes-trans before (pending part middle) (pending rest after) h.text next.gives.given.text h.consumes next.gives.given.consumes;
      counted = numbers_add lines half_lines rest.number h.text next.gives.given.text h.counted
          (next.gives.given.number ∙ ap (λ n. n + count_by is_end next.gives.given.text) (sym is));
      runs = run.runs;
      last_is = run.last_is;
      shown = shown_both outs.shown half.shown whole.shown h.runs.steps next.takes.runs.steps h.shown next.takes.all;
      noted = notes_both record_all outs.written half.written whole.written h.events (next.event ∷ []) h.noted next.noted;
    }

-- the events that were taken before are told, unless the journal has failed
pub noted_at : (written half whole : Option (Option (List ℕ))) (events : List Event) (e : ResumeError) → Notes written half events → JournalAt half whole e
    → Notes written whole events
noted_at written half whole events errors.NoMemory h told = subst (λ (o : Option (Option (List ℕ))). Notes written o events) (sym told) h
noted_at written half whole events (errors.Damaged line) h told = subst (λ (o : Option (Option (List ℕ))). Notes written o events) (sym told) h
noted_at written half whole events errors.Read h told = subst (λ (o : Option (Option (List ℕ))). Notes written o events) (sym told) h
noted_at written half whole events errors.Step h told = subst (λ (o : Option (Option (List ℕ))). Notes written o events) (sym told) h
noted_at written half whole events errors.Journal h told = subst (λ (o : Option (Option (List ℕ))). Notes written o events) (sym told) tt
noted_at written half whole events errors.Write h told = subst (λ (o : Option (Option (List ℕ))). Notes written o events) (sym told) h

-- ---- in the loop

pub events_begun : (server : Server) (state : Standing) (before : Option (List ℕ)) (lines taken : ℕ) (outs : Outputs) → taken ≡ lines
    → TakesEvents server state state before before lines taken outs outs None
events_begun server state before lines taken outs is = subst (λ (n : ℕ). TakesEvents server state state before before lines n outs outs None) (sym is)
    (events_nothing server state before lines outs)

-- of the server as it is then
pub events_next : RunsJoin → (server then_server : Server) (first mid new : Standing) (part rest : Reading) (before middle after : Option (List ℕ))
    (lines half_lines taken : ℕ) (outs half whole : Outputs) (last : Option StepOut) (out : StepOut) → then_server ≡ server
    → half_lines ≡ part.number → taken ≡ rest.number → TakesEvents server first mid before (pending part middle) lines half_lines outs half last
    → TakesNext then_server mid new part rest middle after half whole out
    → TakesEvents server first new before (pending rest after) lines taken outs whole (Some out)
events_next join server then_server first mid new part rest before middle after lines half_lines taken outs half whole last out same is took h next =
    subst (λ (n : ℕ). TakesEvents server first new before (pending rest after) lines n outs whole (Some out)) (sym took)
    (events_more join server first mid new part rest before middle after lines half_lines outs half whole last out is h
    (subst (λ (s : Server). TakesNext s mid new part rest middle after half whole out) same next))

pub still_left : (n : ℕ) → n ≤ n
still_left n = omega arith

pub less_left : (new mid old : ℕ) → new < mid → mid ≤ old → new ≤ old
less_left new mid old h k = omega (arith, h, k)

-- what comes next may be an event, of which nothing was passed
pub event_kept : (next : Upcoming) (old new : Reading) (before after : Option (List ℕ)) → next ≡ upcoming.Event → ComesNext next old new before after
    → Keeps (pending old before) (pending new after)
event_kept next old new before after is h = let known : ComesNext upcoming.Event old new before after = subst (λ (n : Upcoming). ComesNext n old new before after) is h in
    known.0

-- and no configuration comes next
pub event_none : (next : Upcoming) (old new : Reading) (before after : Option (List ℕ)) → next ≡ upcoming.Event → ComesNext next old new before after
    → IfSome (pending old before) IsDamagedConfiguration
event_none next old new before after is h = let known : ComesNext upcoming.Event old new before after = subst (λ (n : Upcoming). ComesNext n old new before after) is h in
    known.1

pub next_fewer : (server : Server) (old new : Standing) (part rest : Reading) (before after : Option (List ℕ)) (outs outs_then : Outputs) (out : StepOut)
    → TakesNext server old new part rest before after outs outs_then out → left rest < left part
next_fewer server old new part rest before after outs outs_then out h = h.gives.given.fewer
