-- What is due happens.
use Rattle.std.proofs.Common.{◌≡◌, ◌≢◌, ◌⊎◌, false, inl, inr, ℕ, ◌+◌, ◌≤◌, ◌<◌, List, [], ◌∷◌, ◌++◌, max, Option, None, Some, Result, Ok, Err, refl, sym, ◌∙◌, ap, ap₂}
use Rattle.std.proofs.Common.{subst, arith, append-nil, append_assoc}
use Rattle.std.specs.Prelude.{IfSome, IsSome}
use Rattle.std.specs.List.{AllByRecursion}
use Rattle.sip_loop.specs.Printing.{Prints}
use Rattle.std.proofs.lemmas.List.{reverse-append}
use Rattle.sip_transport.specs.declared.datagram.Given.{Given}
use Rattle.sip_event.specs.declared.event.Event.{Event}
use Rattle.sip_event.specs.declared.event.Event.TheVariants.{Time}
use Rattle.sip_event.specs.declared.event.StepOut.{StepOut}
use Rattle.sip_event.specs.declared.packet.Packet.{Packet}
use Rattle.sip_audit.specs.declared.record.Record.{Record}
use Rattle.sip_model.specs.state.declared.server.Server.{Server}
use Rattle.sip_model.specs.state.declared.proxy_state.ProxyState.{ProxyState}
use Rattle.sip_model.specs.TimerOrder.{IsFirstOf, IsQueueAfter, Standing}
use Rattle.sip_model.specs.state.State.{deadlines, first_state}
use Rattle.sip_run.specs.engine.context_model.Retransmission.{resends}
use Rattle.sip_model.specs.Ends.{steps_left}
use Rattle.sip_model.specs.Run.{Link, IsChain, events_of, steps_of}
use Rattle.sip_model.specs.steps_model.Step.{Act, Given as ForEvent, Passing, IsDeadline, IsResend, IsStep, IsTime, moment_of}
use Rattle.sip_run.specs.engine.declared.error.StepError.{StepError}
use Rattle.sip_run.specs.engine.declared.error.StepError.TheVariants as steps
use Rattle.sip_run.specs.engine.StepError.{refusal_at}
use Rattle.model_transactions.specs.Queue.{Entry}
use Rattle.sip_model.proofs.Along.{queue_next}
use Rattle.sip_model.proofs.SettledTimers.{stays_settled}
use Rattle.sip_run.specs.Due.{Fires, NothingDueBy}
use Rattle.sip_run.specs.Refusals.{RefusesStep}
use Rattle.sip_journal.specs.Record.{Notes}
use Rattle.sip_loop.specs.ServeErrors.{refusal_of_step}
use Rattle.sip_run.specs.engine.engine_time.Next.{IsNext}
use Rattle.sip_loop.specs.Serving.{AreAt, FallsDue, HasFailed, IsWhy, Kept, MayFallDue, Point, Told, packets_of, untold_in}
use Rattle.sip_loop.specs.Courses.{Breaks, Course, FiresOne, Happens, HappensAll, HappensSome, HappensTo, IsNoFurther, IsWhyDue, LeavesFewer, Others, TakesDue, told_with}
use Rattle.sip_loop.specs.Courses.{waiting_at}
use Rattle.sip_loop.specs.declared.serve_error.ServeError.{ServeError}
use Rattle.sip_loop.specs.declared.serve_error.ServeError.TheVariants as refusals
use Rattle.sip_loop.proofs.Courses.{course_event, course_fires, course_nothing, course_takes, stopped_at, taken_at}
use Rattle.sip_loop.proofs.Gathering.{packets_both, records_both, told_failed}
use Rattle.sip_loop.proofs.Printed.{prints_nothing}
use Rattle.sip_loop.proofs.Sayable.{small_moment}

-- ---- refusals

pub is_some : {X : Type 0} (o : Option X) → (o ≡ None → ⊥) → IsSome o
is_some None h = absurd (h refl)
is_some (Some x) h = refl

-- what is taken isn't refused
pub ok_not_refused : {X E : Type 0} (refusal : Option E) (x : X) → IfSome refusal (λ e. ◌≡◌ {A = Result X E} (Ok x) (Err e)) → refusal ≡ None
ok_not_refused None x h = refl
ok_not_refused (Some e) x h = absurd (cc)

-- a step that isn't refused for want of memory is refused as the server says
pub why_due : (at : ℕ) (e : StepError) → (refusal_at at ≡ None → e ≡ steps.NoMemory) → IsWhyDue (refusal_of_step e) at
why_due at steps.NoMemory h = tt
why_due at steps.MomentTooLarge h = is_some (refusal_at at) (λ none. let e = h none in cc)
why_due at steps.Worn h = is_some (refusal_at at) (λ none. let e = h none in cc)

pub why_refuses : (at : ℕ) (e : StepError) (o : Option StepError) → refusal_at at ≡ o → RefusesStep o e → IsWhyDue (refusal_of_step e) at
why_refuses at e None is h = subst (λ (x : StepError). IsWhyDue (refusal_of_step x) at) (sym h) tt
why_refuses at e (Some r) is h = why_due at e (λ none. absurd (cc))

-- and where it refuses nothing, memory ran out
pub no_memory : (at : ℕ) (e : ServeError) → refusal_at at ≡ None → IsWhyDue e at → e ≡ refusals.NoMemory
no_memory at refusals.NoMemory none h = refl
no_memory at refusals.Journal none h = absurd h
no_memory at refusals.Audit none h = absurd h
no_memory at refusals.Link none h = absurd h
no_memory at refusals.Step none h = absurd (let some : IsSome (refusal_at at) = h in cc)

pub due_not_link : (at : ℕ) (e : ServeError) → IsWhyDue e at → e ≡ refusals.Link → ⊥
due_not_link at refusals.NoMemory h is = cc
due_not_link at refusals.Journal h is = cc
due_not_link at refusals.Audit h is = cc
due_not_link at refusals.Link h is = h
due_not_link at refusals.Step h is = cc

pub due_not_journal : (at : ℕ) (e : ServeError) → IsWhyDue e at → e ≡ refusals.Journal → ⊥
due_not_journal at refusals.NoMemory h is = cc
due_not_journal at refusals.Journal h is = h
due_not_journal at refusals.Audit h is = cc
due_not_journal at refusals.Link h is = cc
due_not_journal at refusals.Step h is = cc

-- ---- what isn't due yet

some_is : {m n : ℕ} → Some m ≡ Some n → m ≡ n
some_is h = cc

-- ---- one step

-- it is one up to each moment by which it stands
by_deadline : (server : Server) (old new : ProxyState) (at by : ℕ) (out : StepOut) → out.at ≤ moment_of old by → IsDeadline server old at out new
    → IsDeadline server old by out new
by_deadline server old new at by out le d = record {
  request = d.request;
  change = d.change;
  is_open = d.is_open;
  passes = d.passes;
  is_due = le;
  is_first = d.is_first;
  none_again = d.none_again;
  does = d.does;
}

by_resend : (server : Server) (old new : ProxyState) (at by : ℕ) (out : StepOut) → out.at ≤ moment_of old by → IsResend server old at out new
    → IsResend server old by out new
by_resend server old new at by out le d = record {
  request = d.request;
  packets = d.packets;
  next = d.next;
  is_open = d.is_open;
  goes = d.goes;
  is_due = le;
  is_first = d.is_first;
  none_again = d.none_again;
  does = d.does;
}

abbrev pub DueEnds : Server → Type 0
DueEnds server = (first : ℕ) (history : List Link) (old new : ProxyState) (at : ℕ) (out : StepOut) → IsChain server (first_state first) history old
    → IsDeadline server old at out new ⊎ IsResend server old at out new → steps_left at new < steps_left at old

abbrev pub MomentRises : Server → Type 0
MomentRises server = (first : ℕ) (link : Link) (history : List Link) (last : ProxyState) → IsChain server (first_state first) (link ∷ history) last
    → link.before.moment ≤ last.moment

abbrev pub StepsStand : Server → Type 0
StepsStand server = (old new : ProxyState) (act : Act) (out : StepOut) → IsStep server old act out new → new.moment ≡ out.at

module _ (server : Server) (ends : DueEnds server) (rises : MomentRises server) (stands : StepsStand server) where
  -- fewer such steps are left by each moment by which it stands
  fewer_by : (old new : ProxyState) (at first : ℕ) (history : List Link) (out : StepOut) → IsChain server (first_state first) history old
      → IsDeadline server old at out new ⊎ IsResend server old at out new → LeavesFewer at old new
  fewer_by old new at first history out chain (inl d) = λ by le.
      (let fewer : steps_left by new < steps_left by old = ends first history old new by out chain
      (inl (by_deadline server old new at by out (let due : out.at ≤ moment_of old at = d.is_due in omega (arith, due, le)) d)) in omega (arith, fewer))
  fewer_by old new at first history out chain (inr d) = λ by le.
      (let fewer : steps_left by new < steps_left by old = ends first history old new by out chain
      (inr (by_resend server old new at by out (let due : out.at ≤ moment_of old at = d.is_due in omega (arith, due, le)) d)) in omega (arith, fewer))

  by_then : (old new : ProxyState) (at : ℕ) (out : StepOut) → IsDeadline server old at out new ⊎ IsResend server old at out new → out.at ≤ moment_of old at
  by_then old new at out (inl d) = d.is_due
  by_then old new at out (inr d) = d.is_due

  none_recorded : (old new : ProxyState) (at : ℕ) (out : StepOut) → IsDeadline server old at out new ⊎ IsResend server old at out new → out.records ≡ []
  none_recorded old new at out (inl d) = d.does.records
  none_recorded old new at out (inr d) = d.does.records

  pub fires_one : (old new : Standing) (at first : ℕ) (history : List Link) (out : StepOut) → IsChain server (first_state first) history old.state
      → IsFirstOf server old.queue old.state at out new.state → IsQueueAfter old new
      → FiresOne server old at out new
  fires_one old new at first history out chain happens queue = record {
    happens = happens;
    queue = queue;
    rises = rises first (record { config = server.config; before = old.state; act = Passing at; out = out; after = new.state }) history new.state
        (refl, inr happens.happens, chain);
    stands = stands old.state new.state (Passing at) out (inr happens.happens);
    in_time = by_then old.state new.state at out happens.happens;
    no_records = none_recorded old.state new.state at out happens.happens;
    fewer = fewer_by old.state new.state at first history out chain happens.happens;
  }

  pub fires_some : (old new : Standing) (at first : ℕ) (history : List Link) (fired : Option StepOut) → IsChain server (first_state first) history old.state
      → IfSome fired (λ out. Fires server old at out new)
      → IfSome fired (λ out. FiresOne server old at out new)
  fires_some old new at first history None chain h = tt
  fires_some old new at first history (Some out) chain h = fires_one old new at first history out chain h.happens h.queue

-- ---- what happened

-- the step of a moment alone
abbrev pub own_at : ℕ → StepOut
own_at at = record { at = at; packets = []; records = [] }

module _ (server : Server) where
  pub happens_nothing : (state : Standing) (at : ℕ) → Happens server state state at []
  happens_nothing state at = record {
    history = [];
    is_run = record { chain = refl; paced = tt; of_events = refl; of_steps = refl; configured = tt };
    turns = tt;
    queue = refl;
    no_records = refl;
    stand = tt;
  }

  at_more : (at : ℕ) (outs : List StepOut) (out : StepOut) → AreAt at outs → out.at ≡ at → AreAt at (outs ++ out ∷ [])
  at_more at [] out all is = (is, tt)
  at_more at (x ∷ outs) out all is = (all.0, at_more at outs out all.1 is)

  is_some_more : (outs : List StepOut) (out : StepOut) → outs ++ out ∷ [] ≢ []
  is_some_more [] out e = cc
  is_some_more (x ∷ outs) out e = cc

  pub happens_more : (old middle new : Standing) (at : ℕ) (outs : List StepOut) (out : StepOut) → Happens server old middle at outs → FiresOne server middle at out new
      → out.at ≡ at → Happens server old new at (outs ++ out ∷ [])
  happens_more old middle new at outs out h fires is = record {
    history = record { config = server.config; before = middle.state; act = Passing at; out = out; after = new.state } ∷ h.history;
    is_run = record {
      chain = (refl, inr fires.happens.happens, h.is_run.chain);
      paced = (refl, h.is_run.paced);
      of_events = h.is_run.of_events;
      of_steps = reverse-append (out ∷ []) (steps_of h.history) ∙ ap (λ (l : List StepOut). l ++ out ∷ []) h.is_run.of_steps;
      configured = (refl, h.is_run.configured);
    };
    turns = (subst (λ (q : List Entry). IsFirstOf server q middle.state at out new.state) h.queue fires.happens, h.turns);
    queue = queue_next old middle new h.history h.queue fires.queue;
    no_records = records_both outs (out ∷ []) ∙ ap₂ (λ (a b : List Record). a ++ b) h.no_records (append-nil out.records ∙ fires.no_records);
    stand = at_more at outs out h.stand is;
  }

  -- the first
  pub all_first : (old new : Standing) (at : ℕ) (out : StepOut) (before after : List Packet) → FiresOne server old at out new → out.at ≡ at
      → after ≡ before ++ out.packets → HappensAll server old new at before after
  all_first old new at out before after fires is more = record {
    outs = out ∷ [];
    some = is_some_more [] out;
    happens = happens_more old old new at [] out (happens_nothing old at) fires is;
    settled = stays_settled old new fires.queue;
    added = more ∙ ap (λ (l : List Packet). before ++ l) (sym (append-nil out.packets));
  }

  pub all_more : (old middle new : Standing) (at : ℕ) (out : StepOut) (before half after : List Packet) → HappensAll server old middle at before half
      → FiresOne server middle at out new → out.at ≡ at
      → after ≡ half ++ out.packets → HappensAll server old new at before after
  all_more old middle new at out before half after h fires is more = record {
    outs = h.outs ++ out ∷ [];
    some = is_some_more h.outs out;
    happens = happens_more old middle new at h.outs out h.happens fires is;
    settled = stays_settled middle new fires.queue;
    added =
        more ∙ ap (λ (l : List Packet). l ++ out.packets) h.added ∙ append_assoc before (packets_of h.outs) out.packets
        ∙ ap (λ (l : List Packet). before ++ l) (sym (packets_both h.outs (out ∷ []) ∙ ap (λ (l : List Packet). packets_of h.outs ++ l) (append-nil out.packets)));
  }

  pub to_more : (old middle new : Standing) (at : ℕ) (out : StepOut) → HappensTo server old middle at → FiresOne server middle at out new → out.at ≡ at
      → HappensTo server old new at
  to_more old middle new at out h fires is = record { outs = h.outs ++ out ∷ []; happens = happens_more old middle new at h.outs out h.happens fires is }

  -- ---- and the moment was taken

  all_later : (dues : List ℕ) (m : ℕ) → AllByRecursion (λ (due : ℕ). m < due) dues → AllByRecursion (λ (due : ℕ). m ≤ due) dues
  all_later [] m h = tt
  all_later (due ∷ dues) m h = (let later : m < due = h.0 in omega (arith, later), all_later dues m h.1)

  -- a state that stands at a moment, by which nothing is due, has taken it: nothing changes
  is_taken : (state : ProxyState) (at : ℕ) → state.moment ≡ at → NothingDueBy (moment_of state at) state → IsTime server state at (own_at at) state
  is_taken state at is none =
      let counts : moment_of state at ≡ at = omega (arith, is) in
      record {
        none_due = none.none;
        none_again_due = none.none_again;
        at_moment = sym counts;
        quiet = record {
          no_earlier = omega (arith, is);
          no_later = omega arith;
          none_passed = all_later (deadlines state.requests) at (subst (λ (m : ℕ). AllByRecursion (λ (due : ℕ). m < due) (deadlines state.requests)) counts none.none);
          none_again_passed = all_later (resends state.requests) at (subst (λ (m : ℕ). AllByRecursion (λ (due : ℕ). m < due) (resends state.requests)) counts
              none.none_again);
          does = record {
            at_moment = refl;
            sends = refl;
            repeats = refl;
            records = refl;
            leaves = record { moment = is; next = refl; bindings = λ aor moment le. refl; nonces = refl; requests = refl; dialogs = λ p. refl };
          };
        };
      }

  pub takes_due : (old new : Standing) (at : ℕ) (before after : List Packet) → HappensAll server old new at before after → refusal_at at ≡ None
      → NothingDueBy (moment_of new.state at) new.state
      → new.state.moment ≡ at → TakesDue server old new at before after
  takes_due old new at before after h not_refused none stands = record {
    outs = h.outs;
    own = own_at at;
    some = h.some;
    stand = h.happens.stand;
    history = record { config = server.config; before = new.state; act = ForEvent (Time at); out = own_at at; after = new.state } ∷ h.happens.history;
    is_run = record {
      chain = (refl, is_taken new.state at stands none, h.happens.is_run.chain);
      paced = (tt, h.happens.is_run.paced);
      of_events = reverse-append (Time at ∷ []) (events_of h.happens.history) ∙ ap (λ (l : List Event). l ++ Time at ∷ []) h.happens.is_run.of_events;
      of_steps = reverse-append (own_at at ∷ []) (steps_of h.happens.history) ∙ ap (λ (l : List StepOut). l ++ own_at at ∷ []) h.happens.is_run.of_steps;
      configured = (refl, h.happens.is_run.configured);
    };
    turns = (record { none_due = none; not_refused = not_refused }, h.happens.turns);
    queue = queue_next old new new h.happens.history h.happens.queue h.settled;
    no_records = records_both h.outs (own_at at ∷ []) ∙ ap₂ (λ (a b : List Record). a ++ b) h.happens.no_records refl;
    none_recorded = refl;
    stands = stands;
    sayable = small_moment at not_refused;
    added =
        h.added ∙ ap (λ (l : List Packet). before ++ l)
        (sym (packets_both h.outs (own_at at ∷ []) ∙ append-nil (packets_of h.outs)));
  }

  -- ---- in its order

  pub may_fall : (reading due m : ℕ) → due ≤ max reading m → MayFallDue due (waiting_at (Some reading) [] m)
  may_fall reading due m le = record { idle = record { clear = refl; whole = refl; all_sent = refl }; reading = reading; is_open = refl; in_time = le }

  -- it was taken and told, and what it hands out waits
  pub due_told : (old new : Standing) (reading due : ℕ) (waiting : List Packet) (others : Others) (g : Option (List Given)) (w w2 : Kept)
      → due ≤ max reading old.state.moment → TakesDue server old new due [] waiting
      → Notes w.bytes w2.bytes (Time due ∷ []) → (w.faulted ≡ false) × (w2.faulted ≡ false)
      → Course server old new (waiting_at (Some reading) [] old.state.moment) (waiting_at (Some reading) waiting new.state.moment) (told_with others g w)
      (told_with others g w2) [] 0 0
  due_told old new reading due waiting others g w w2 le t noted whole =
      subst (λ (rs : List Record). Course server old new (waiting_at (Some reading) [] old.state.moment) (waiting_at (Some reading) waiting new.state.moment)
      (told_with others g w) (told_with others g w2) rs 0 0) t.none_recorded
      (course_event server old new (waiting_at (Some reading) [] old.state.moment) (FallsDue due) t.outs t.own t.history (may_fall reading due old.state.moment le)
      (t.some, t.stand) t.is_run t.turns t.queue (t.no_records ∙ sym t.none_recorded) t.sayable
      waiting new.state.moment others.heard g others.readings w w2 others.log others.log others.words t.added t.stands noted whole
      (subst (λ (rs : List Record). Prints others.log.bytes others.log.bytes rs) (sym t.none_recorded) (prints_nothing others.log.bytes))
      (λ some. absurd (some t.none_recorded)) refl)

  -- it was taken, and the journal failed
  pub due_untold : (old new : Standing) (reading due : ℕ) (waiting : List Packet) (others : Others) (g : Option (List Given)) (w w2 : Kept)
      → due ≤ max reading old.state.moment
      → TakesDue server old new due [] waiting → HasFailed w2 → Breaks server old new (waiting_at (Some reading) [] old.state.moment) (told_with others g w)
      (told_with others g w2) 0 refusals.Journal
  due_untold old new reading due waiting others g w w2 le h failed = record {
    to = taken_at (waiting_at (Some reading) [] old.state.moment) (FallsDue due) h.outs h.own;
    records = h.own.records;
    asks = 0;
    course = course_takes server old new (waiting_at (Some reading) [] old.state.moment) (FallsDue due) h.outs h.own h.history (may_fall reading due old.state.moment le)
        (h.some, h.stand) h.is_run h.turns h.queue (h.no_records ∙ sym h.none_recorded) h.sayable
        (told_with others g w) (told_with others g w2) (told_failed others.heard g others.readings w w2 others.log others.words failed.0) failed refl;
    why = record { cause = FallsDue due; records = h.own.records; untold = refl };
  }

  why_not : (due : ℕ) (p : Point) (state : ProxyState) (e : ServeError) → MayFallDue due p → IsNext state.requests due → IsWhyDue e due → IsWhy e p state
  why_not due p state refusals.NoMemory comes first h = ap untold_in comes.idle.clear
  why_not due p state refusals.Journal comes first h = absurd h
  why_not due p state refusals.Audit comes first h = absurd h
  why_not due p state refusals.Link comes first h = absurd h
  why_not due p state refusals.Step comes first h = record { cause = FallsDue due; comes = comes; first = first; refused = h }

  -- it wasn't taken
  pub due_broken : (old new : Standing) (reading due : ℕ) (t : Told) (e : ServeError) → due ≤ max reading old.state.moment → IsNext old.state.requests due
      → HappensSome server old new due e → Breaks server old new (waiting_at (Some reading) [] old.state.moment) t t 0 e
  due_broken old new reading due t e le first (inl some) =
      let comes : MayFallDue due (waiting_at (Some reading) [] old.state.moment) = may_fall reading due old.state.moment le in
      record {
        to = stopped_at (waiting_at (Some reading) [] old.state.moment) (FallsDue due) some.1.outs;
        records = [];
        asks = 0;
        course = course_fires server old new (waiting_at (Some reading) [] old.state.moment) due some.1.outs some.1.happens.history t comes some.1.happens.stand
            some.1.happens.is_run some.1.happens.turns some.1.happens.queue some.1.happens.no_records;
        why = subst (λ (x : ServeError). IsWhy x (stopped_at (waiting_at (Some reading) [] old.state.moment) (FallsDue due) some.1.outs) new.state) (sym some.0) refl;
      }
  due_broken old new reading due t e le first (inr none) =
      subst (λ (s : Standing). Breaks server old s (waiting_at (Some reading) [] old.state.moment) t t 0 e) (sym none.same)
      (record {
        to = waiting_at (Some reading) [] old.state.moment;
        records = [];
        asks = 0;
        course = course_nothing server old (waiting_at (Some reading) [] old.state.moment) t tt;
        why = why_not due (waiting_at (Some reading) [] old.state.moment) old.state e (may_fall reading due old.state.moment le) first none.why;
      })

  -- ---- refusals

  pub some_not_link : (old new : Standing) (at : ℕ) (e : ServeError) → HappensSome server old new at e → e ≡ refusals.Link → ⊥
  some_not_link old new at e (inl some) is = (let nothing : e ≡ refusals.NoMemory = some.0 in cc)
  some_not_link old new at e (inr none) is = due_not_link at e none.why is

  pub some_not_journal : (old new : Standing) (at : ℕ) (e : ServeError) → HappensSome server old new at e → e ≡ refusals.Journal → ⊥
  some_not_journal old new at e (inl some) is = (let nothing : e ≡ refusals.NoMemory = some.0 in cc)
  some_not_journal old new at e (inr none) is = due_not_journal at e none.why is

-- ---- what is left

pub fewer_further : (old new : ProxyState) (at : ℕ) → old.moment ≡ at → LeavesFewer at old new → IsNoFurther old new
fewer_further old new at is fewer = λ by. (let h : steps_left by new + 1 ≤ steps_left by old = fewer by (omega (arith, is)) in omega (arith, h))

pub further_on : (a b c : ProxyState) → IsNoFurther a b → IsNoFurther b c → IsNoFurther a c
further_on a b c first second = λ at. (let x : steps_left at b ≤ steps_left at a = first at in let y : steps_left at c ≤ steps_left at b = second at in
    omega (arith, x, y))

pub further_same : (a : ProxyState) → IsNoFurther a a
further_same a = λ at. omega arith

pub fewer_on : (old middle new : ProxyState) (at : ℕ) → LeavesFewer at old middle → IsNoFurther middle new → LeavesFewer at old new
fewer_on old middle new at fewer further = λ by le. (let x : steps_left by middle + 1 ≤ steps_left by old = fewer by le in
    let y : steps_left by new ≤ steps_left by middle = further by in omega (arith, x, y))
