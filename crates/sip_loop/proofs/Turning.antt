-- A turn, of its pieces, and turns, one behind the other.
use Rattle.std.proofs.Common.{◌≡◌, ◌≢◌, ◌⊎◌, false, inl, inr, ℕ, ◌+◌, ◌≤◌, ◌<◌, zero, suc, List, [], ◌∷◌, ◌++◌, Option, None, Some, refl, sym, ◌∙◌, ap, subst, arith}
use Rattle.std.proofs.Common.{append-nil}
use Rattle.rand_core.specs.Stream.{Stream}
use Rattle.sip_transport.specs.declared.datagram.Given.{Given}
use Rattle.sip_transport.specs.declared.datagram.HeardDatagram.{HeardDatagram}
use Rattle.sip_transport.specs.Told.{IsWritable, and_then, counted}
use Rattle.sip_event.specs.declared.event.Event.TheVariants.{Datagram, Time}
use Rattle.sip_event.specs.declared.event.StepOut.{StepOut}
use Rattle.sip_uri.specs.declared.addr.Addr.{Addr}
use Rattle.sip_audit.specs.declared.record.Record.{Record}
use Rattle.sip_journal.specs.Record.{Notes}
use Rattle.sip_model.specs.state.declared.server.Server.{Server}
use Rattle.sip_model.specs.state.declared.proxy_state.ProxyState.{ProxyState}
use Rattle.sip_model.specs.TimerOrder.{IsQueueAfter, Standing}
use Rattle.sip_model.specs.state.State.{first_state}
use Rattle.sip_model.specs.Run.{Link, IsChain, event_moment}
use Rattle.sip_model.specs.Access.{Access}
use Rattle.sip_model.specs.Bounds.{IsBounded}
use Rattle.sip_model.specs.steps_model.Step.{Given as ForEvent, IsStep, moment_of}
use Rattle.sip_run.specs.engine.declared.error.StepError.{StepError}
use Rattle.sip_run.specs.engine.declared.error.StepError.TheVariants as steps
use Rattle.sip_run.specs.engine.StepError.{refusal_at, refusal_of}
use Rattle.model_transactions.specs.Queue.{Entry}
use Rattle.sip_run.specs.Due.{NothingDueBy}
use Rattle.sip_run.specs.Refusals.{refusal_of_event}
use Rattle.sip_loop.specs.Counts.{counted_times, IsAskedWithin}
use Rattle.sip_loop.specs.Printing.{Prints}
use Rattle.sip_loop.specs.ServeErrors.{IsOfHanding, refusal_of_step}
use Rattle.sip_loop.specs.Serving.{AreInTurn, Arrival, Brought, HasFailed, IsServed, IsToldMore, IsTurnOf, IsUnserved, IsWhy, Kept, MayBring, Point, Serves, Silence}
use Rattle.sip_loop.specs.Serving.{Told, Turn}
use Rattle.sip_loop.specs.Serving.{behind_word, between_turns, event_of_turn, reading_of, told_by, word_from}
use Rattle.sip_loop.specs.Courses.{Breaks, BreaksOff, Course, Goes, IsWhyStep, LinkFails, StepFails, TakesTurn, TurnBreaks, TurnGoes, waiting_at}
use Rattle.sip_loop.specs.declared.serve_error.ServeError.{ServeError}
use Rattle.sip_loop.specs.declared.serve_error.ServeError.TheVariants as refusals
use Rattle.sip_loop.proofs.Courses.{asked_at, course_asks, course_event, course_nothing, course_on, course_reads, course_takes, course_tells, taken_at, unlogged_at}
use Rattle.sip_loop.proofs.Gathering.{told_failed, told_one}
use Rattle.sip_loop.proofs.Handed.{breaks_on}
use Rattle.sip_loop.proofs.Printed.{prints_untold}
use Rattle.sip_loop.proofs.Runs.{chain_on}
use Rattle.sip_loop.proofs.Sayable.{datagram_says, small_moment}
use Rattle.sip_loop.proofs.WhatIsDue.{is_some}

-- ---- refusals

-- a step that isn't refused for want of memory is refused as the server says
why_step : (turn : Turn) (state : ProxyState) (e : StepError) → (refusal_of_event state (event_of_turn turn) ≡ None → e ≡ steps.NoMemory)
    → IsWhyStep (refusal_of_step e) state turn
why_step turn state steps.NoMemory h = tt
why_step turn state steps.MomentTooLarge h = is_some (refusal_of_event state (event_of_turn turn)) (λ none. let e = h none in cc)
why_step turn state steps.Worn h = is_some (refusal_of_event state (event_of_turn turn)) (λ none. let e = h none in cc)

pub handing_not_link : (e : ServeError) (written : Option (Option (List ℕ))) → IsOfHanding e written → e ≡ refusals.Link → ⊥
handing_not_link refusals.NoMemory written h is = cc
handing_not_link refusals.Journal written h is = cc
handing_not_link refusals.Audit written h is = h
handing_not_link refusals.Link written h is = h
handing_not_link refusals.Step written h is = h

pub handing_journal : (e : ServeError) (written : Option (Option (List ℕ))) → IsOfHanding e written → e ≡ refusals.Journal → written ≡ None
handing_journal refusals.NoMemory written h is = absurd (cc)
handing_journal refusals.Journal written h is = h
handing_journal refusals.Audit written h is = absurd h
handing_journal refusals.Link written h is = absurd h
handing_journal refusals.Step written h is = absurd h

-- a refused step is no failure of the link
pub not_link : (e : StepError) → refusal_of_step e ≡ refusals.Link → ⊥
not_link steps.NoMemory e = cc
not_link steps.MomentTooLarge e = cc
not_link steps.Worn e = cc

pub not_journal : (e : StepError) → refusal_of_step e ≡ refusals.Journal → ⊥
not_journal steps.NoMemory e = cc
not_journal steps.MomentTooLarge e = cc
not_journal steps.Worn e = cc

-- ---- a turn's event

pub takes_arrival : (server : Server) (old new : Standing) (at word : ℕ) (from : Addr) (bytes held : List ℕ) (heard heard_now : Option (List (Option HeardDatagram)))
    (words left : Stream) (out : StepOut) → bytes ≡ held
    → heard_now ≡ and_then heard (Some (record { from = from; bytes = held })) → word ≡ word_from words → left ≡ behind_word words → refusal_of old.state at ≡ None
    → IsWritable from held
    → IsStep server old.state (ForEvent (Datagram at word from bytes)) out new.state → IsQueueAfter old new
    → TakesTurn server old at heard heard_now words left (Arrival at (record { from = from; bytes = held }) word) out new
takes_arrival server old new at word from bytes held heard heard_now words left out same told drawn behind none writable step queue = record {
  is_at = refl;
  step = subst (λ (l : List ℕ). IsStep server old.state (ForEvent (Datagram at word from l)) out new.state) same step;
  queue = queue;
  not_refused = none;
  sayable = datagram_says old.state at word from held none writable;
  hears = told ∙ told_one heard (Some (record { from = from; bytes = held }));
  draws = (drawn, behind);
}

pub takes_silence : (server : Server) (old new : Standing) (at : ℕ) (heard heard_now : Option (List (Option HeardDatagram))) (words : Stream) (out : StepOut)
    → heard_now ≡ and_then heard None → refusal_at at ≡ None
    → IsStep server old.state (ForEvent (Time at)) out new.state → IsQueueAfter old new → TakesTurn server old at heard heard_now words words (Silence at) out new
takes_silence server old new at heard heard_now words out told none step queue = record {
  is_at = refl;
  step = step;
  queue = queue;
  not_refused = none;
  sayable = small_moment at none;
  hears = told ∙ told_one heard None;
  draws = refl;
}

pub fails_arrival : (old : ProxyState) (at word : ℕ) (from : Addr) (held : List ℕ) (heard heard_now : Option (List (Option HeardDatagram))) (words left : Stream)
    (e : StepError)
    → heard_now ≡ and_then heard (Some (record { from = from; bytes = held })) → word ≡ word_from words → left ≡ behind_word words
    → (refusal_of old at ≡ None → e ≡ steps.NoMemory)
    → StepFails old at heard heard_now words left (refusal_of_step e)
fails_arrival old at word from held heard heard_now words left e told drawn behind refused = record {
  turn = Arrival at (record { from = from; bytes = held }) word;
  is_at = refl;
  hears = told ∙ told_one heard (Some (record { from = from; bytes = held }));
  draws = (drawn, behind);
  why = why_step (Arrival at (record { from = from; bytes = held }) word) old e refused;
}

pub fails_silence : (old : ProxyState) (at : ℕ) (heard heard_now : Option (List (Option HeardDatagram))) (words : Stream) (e : StepError)
    → heard_now ≡ and_then heard None
    → (refusal_at at ≡ None → e ≡ steps.NoMemory)
    → StepFails old at heard heard_now words words (refusal_of_step e)
fails_silence old at heard heard_now words e told refused = record {
  turn = Silence at;
  is_at = refl;
  hears = told ∙ told_one heard None;
  draws = refl;
  why = why_step (Silence at) old e refused;
}

moment_is : (turn : Turn) → event_moment (event_of_turn turn) ≡ reading_of turn
moment_is (Silence at) = refl
moment_is (Arrival at heard word) = refl

in_turn : (server : Server) (queue : List Entry) (old new : ProxyState) (turn : Turn) (out : StepOut)
    → NothingDueBy (moment_of old (event_moment (event_of_turn turn))) old → refusal_of_event old (event_of_turn turn) ≡ None
    → IsTurnOf server queue old (ForEvent (event_of_turn turn)) out new
in_turn server queue old new (Silence at) out none not_refused = record { none_due = none; not_refused = not_refused }
in_turn server queue old new (Arrival at heard word) out none not_refused = record { none_due = none; not_refused = not_refused }

-- ---- the rest of a turn

module _ (server : Server) (old : Standing) (at : ℕ) (none_due : NothingDueBy (moment_of old.state at) old.state) (h h2 : Option (List (Option HeardDatagram)))
    (g : Option (List Given)) (r : Option (List ℕ)) (w l : Kept) (ws ws2 : Stream) where
  -- the link failed
  pub turn_unheard : (new : Standing) (e : ServeError) → new ≡ old → LinkFails h h2 ws ws2 e
      → TurnBreaks server old new at (told_by h g r w l ws) (told_by h2 g r w l ws2) e
  turn_unheard new e same fails =
      subst (λ (x : ServeError). TurnBreaks server old new at (told_by h g r w l ws) (told_by h2 g r w l ws2) x) (sym fails.failed)
      (subst (λ (s : Standing). TurnBreaks server old s at (told_by h g r w l ws) (told_by h2 g r w l ws2) refusals.Link) (sym same)
      (subst (λ (o : Option (List (Option HeardDatagram))). TurnBreaks server old old at (told_by h g r w l ws) (told_by o g r w l ws2) refusals.Link) (sym fails.hears)
      (subst (λ (s : Stream). TurnBreaks server old old at (told_by h g r w l ws) (told_by h g r w l s) refusals.Link) (sym fails.draws)
      (record {
        to = waiting_at (Some at) [] old.state.moment;
        records = [];
        asks = 0;
        course = course_nothing server old (waiting_at (Some at) [] old.state.moment) (told_by h g r w l ws) tt;
        why = record { idle = record { clear = refl; whole = refl; all_sent = refl }; reading = at; is_open = refl; none_due = none_due };
      }))))

  why_not : (turn : Turn) (e : ServeError) → reading_of turn ≡ at → IsWhyStep e old.state turn → IsWhy e (asked_at at turn old.state.moment) old.state
  why_not turn refusals.NoMemory is why = refl
  why_not turn refusals.Journal is why = absurd why
  why_not turn refusals.Audit is why = absurd why
  why_not turn refusals.Link is why = absurd why
  why_not turn refusals.Step is why = record {
    cause = Brought turn;
    comes = record { asked = refl; whole = refl; all_sent = refl };
    first = subst (λ (n : ℕ). NothingDueBy (moment_of old.state n) old.state) (sym is) none_due;
    refused = why;
  }

  -- the step wasn't taken
  pub turn_untaken : (new : Standing) (e : ServeError) → new ≡ old → StepFails old.state at h h2 ws ws2 e
      → TurnBreaks server old new at (told_by h g r w l ws) (told_by h2 g r w l ws2) e
  turn_untaken new e same fails =
      subst (λ (s : Standing). TurnBreaks server old s at (told_by h g r w l ws) (told_by h2 g r w l ws2) e) (sym same)
      (record {
        to = asked_at at fails.turn old.state.moment;
        records = [];
        asks = 1;
        course = course_asks server old old.state.moment at fails.turn h h2 g r w l ws ws2 fails.is_at fails.hears fails.draws;
        why = why_not fails.turn e fails.is_at fails.why;
      })

  pub turn_broken : (new : Standing) (e : ServeError) → new ≡ old → (LinkFails h h2 ws ws2 e ⊎ StepFails old.state at h h2 ws ws2 e)
      → TurnBreaks server old new at (told_by h g r w l ws) (told_by h2 g r w l ws2) e
  turn_broken new e same (inl fails) = turn_unheard new e same fails
  turn_broken new e same (inr fails) = turn_untaken new e same fails

  -- the event was taken
  module _ (middle : Standing) (turn : Turn) (out : StepOut) (takes : TakesTurn server old at h h2 ws ws2 turn out middle) (stands : middle.state.moment ≡ out.at) where
    asks : Course server old old (waiting_at (Some at) [] old.state.moment) (asked_at at turn old.state.moment) (told_by h g r w l ws) (told_by h2 g r w l ws2) [] 0 1
    asks = course_asks server old old.state.moment at turn h h2 g r w l ws ws2 takes.is_at takes.hears takes.draws

    turns : AreInTurn server old.queue (record { config = server.config; before = old.state; act = ForEvent (event_of_turn turn); out = out; after = middle.state } ∷ [])
    turns = (
      in_turn server old.queue old.state middle.state turn out (subst (λ (n : ℕ). NothingDueBy (moment_of old.state n) old.state) (sym (moment_is turn ∙ takes.is_at))
          none_due) takes.not_refused,
      tt,
    )

    comes : MayBring turn (asked_at at turn old.state.moment)
    comes = record { asked = refl; whole = refl; all_sent = refl }

    -- and the journal failed
    pub turn_untold : (w2 : Kept) → HasFailed w2 → TurnBreaks server old middle at (told_by h g r w l ws) (told_by h2 g r w2 l ws2) refusals.Journal
    turn_untold w2 failed = record {
      to = taken_at (asked_at at turn old.state.moment) (Brought turn) [] out;
      records = [] ++ out.records;
      asks = 1 + 0;
      course = course_on server old old middle (waiting_at (Some at) [] old.state.moment) (asked_at at turn old.state.moment)
          (taken_at (asked_at at turn old.state.moment) (Brought turn) [] out)
          (told_by h g r w l ws) (told_by h2 g r w l ws2) (told_by h2 g r w2 l ws2) [] out.records 0 1 0 0 tt asks
          (course_takes server old middle (asked_at at turn old.state.moment) (Brought turn) [] out
          (record { config = server.config; before = old.state; act = ForEvent (event_of_turn turn); out = out; after = middle.state } ∷ []) comes refl
          (record { chain = (refl, takes.step, refl); paced = (tt, tt); of_events = refl; of_steps = refl; configured = (refl, tt) }) turns takes.queue
          (append-nil out.records) takes.sayable
          (told_by h2 g r w l ws2) (told_by h2 g r w2 l ws2) (told_failed h2 g r w w2 l ws2 failed.0) failed refl);
      why = record { cause = Brought turn; records = out.records; untold = refl };
    }

    -- it was told, and its lines weren't printed
    pub turn_unlogged : (w2 l2 : Kept) (e : ServeError) → Notes w.bytes w2.bytes (event_of_turn turn ∷ []) → (w.faulted ≡ false) × (w2.faulted ≡ false) → HasFailed l2
        → ((e ≡ refusals.NoMemory) ⊎ (e ≡ refusals.Audit))
        → TurnBreaks server old middle at (told_by h g r w l ws) (told_by h2 g r w2 l2 ws2) e
    turn_unlogged w2 l2 e noted whole failed why = record {
      to = unlogged_at (asked_at at turn old.state.moment) (Brought turn) [] out;
      records = [] ++ out.records;
      asks = 1 + 0;
      course = course_on server old old middle (waiting_at (Some at) [] old.state.moment) (asked_at at turn old.state.moment)
          (unlogged_at (asked_at at turn old.state.moment) (Brought turn) [] out)
          (told_by h g r w l ws) (told_by h2 g r w l ws2) (told_by h2 g r w2 l2 ws2) [] out.records 0 1 0 0 tt asks
          (course_tells server old middle (asked_at at turn old.state.moment) (Brought turn) [] out
          (record { config = server.config; before = old.state; act = ForEvent (event_of_turn turn); out = out; after = middle.state } ∷ []) comes refl
          (record { chain = (refl, takes.step, refl); paced = (tt, tt); of_events = refl; of_steps = refl; configured = (refl, tt) }) turns takes.queue
          (append-nil out.records) takes.sayable h2 g r w w2 l l2 ws2 noted whole (prints_untold l.bytes l2.bytes [] failed.0) failed);
      why = by_case why;
    } where
      by_case : ((e ≡ refusals.NoMemory) ⊎ (e ≡ refusals.Audit)) → IsWhy e (unlogged_at (asked_at at turn old.state.moment) (Brought turn) [] out) middle.state
      by_case (inl is) = subst (λ (x : ServeError). IsWhy x (unlogged_at (asked_at at turn old.state.moment) (Brought turn) [] out) middle.state) (sym is) refl
      by_case (inr is) = subst (λ (x : ServeError). IsWhy x (unlogged_at (asked_at at turn old.state.moment) (Brought turn) [] out) middle.state) (sym is)
          (record { records = out.records; unlogged = refl })

    -- and they were
    pub turn_logged : (w2 l2 : Kept) → Notes w.bytes w2.bytes (event_of_turn turn ∷ []) → (w.faulted ≡ false) × (w2.faulted ≡ false) → Prints l.bytes l2.bytes out.records
        → (out.records ≢ [] → l.faulted ≡ false) → l2.faulted ≡ l.faulted
        → Course server old middle (waiting_at (Some at) [] old.state.moment) (waiting_at None out.packets middle.state.moment) (told_by h g r w l ws)
        (told_by h2 g r w2 l2 ws2) out.records 0 1
    turn_logged w2 l2 noted whole printed sound held =
        course_on server old old middle (waiting_at (Some at) [] old.state.moment) (asked_at at turn old.state.moment) (waiting_at None out.packets middle.state.moment)
        (told_by h g r w l ws) (told_by h2 g r w l ws2) (told_by h2 g r w2 l2 ws2) [] out.records 0 1 0 0 tt asks
        (course_event server old middle (asked_at at turn old.state.moment) (Brought turn) [] out
        (record { config = server.config; before = old.state; act = ForEvent (event_of_turn turn); out = out; after = middle.state } ∷ []) comes refl
        (record { chain = (refl, takes.step, refl); paced = (tt, tt); of_events = refl; of_steps = refl; configured = (refl, tt) }) turns takes.queue
        (append-nil out.records) takes.sayable
        out.packets middle.state.moment h2 g r w w2 l l2 ws2 (sym (append-nil out.packets)) stands noted whole printed sound held)

    -- its packets were given to the link
    pub turn_goes : (new : Standing) (g2 : Option (List Given)) (w2 w3 l2 : Kept) → Notes w.bytes w2.bytes (event_of_turn turn ∷ [])
        → (w.faulted ≡ false) × (w2.faulted ≡ false) → Prints l.bytes l2.bytes out.records → (out.records ≢ [] → l.faulted ≡ false) → l2.faulted ≡ l.faulted
        → Course server middle new (waiting_at None out.packets middle.state.moment) (waiting_at None [] new.state.moment) (told_by h2 g r w2 l2 ws2)
        (told_by h2 g2 r w3 l2 ws2) [] 0 0
        → TurnGoes server old new at (told_by h g r w l ws) (told_by h2 g2 r w3 l2 ws2)
    turn_goes new g2 w2 w3 l2 noted whole printed sound held hands = record {
      records = out.records;
      course =
          subst (λ (rs : List Record). Course server old new (waiting_at (Some at) [] old.state.moment) (between_turns new.state.moment) (told_by h g r w l ws)
          (told_by h2 g2 r w3 l2 ws2) rs 0 1) (append-nil out.records)
          (course_on server old middle new (waiting_at (Some at) [] old.state.moment) (waiting_at None out.packets middle.state.moment) (between_turns new.state.moment)
          (told_by h g r w l ws) (told_by h2 g r w2 l2 ws2) (told_by h2 g2 r w3 l2 ws2) out.records [] 0 1 0 0 tt (turn_logged w2 l2 noted whole printed sound held)
          hands);
    }

    -- not all of them
    pub turn_unsent : (new : Standing) (g2 : Option (List Given)) (w2 w3 l2 : Kept) (e : ServeError) → Notes w.bytes w2.bytes (event_of_turn turn ∷ [])
        → (w.faulted ≡ false) × (w2.faulted ≡ false) → Prints l.bytes l2.bytes out.records → (out.records ≢ [] → l.faulted ≡ false) → l2.faulted ≡ l.faulted
        → Breaks server middle new (waiting_at None out.packets middle.state.moment) (told_by h2 g r w2 l2 ws2) (told_by h2 g2 r w3 l2 ws2) 0 e
        → TurnBreaks server old new at (told_by h g r w l ws) (told_by h2 g2 r w3 l2 ws2) e
    turn_unsent new g2 w2 w3 l2 e noted whole printed sound held breaks =
        breaks_on server old middle new (waiting_at (Some at) [] old.state.moment) (waiting_at None out.packets middle.state.moment) (told_by h g r w l ws)
        (told_by h2 g r w2 l2 ws2) (told_by h2 g2 r w3 l2 ws2)
        out.records 0 1 0 e tt (turn_logged w2 l2 noted whole printed sound held) breaks

-- ---- a turn

module _ (server : Server) where
  -- the clock was read, and what was due by then happened
  pub turn_begun : (old middle : Standing) (at : ℕ) (h : Option (List (Option HeardDatagram))) (g g2 : Option (List Given)) (r r2 : Option (List ℕ)) (w w2 l : Kept)
      (ws : Stream)
      → IsToldMore r (at ∷ []) r2
      → Course server old middle (waiting_at (Some at) [] old.state.moment) (waiting_at (Some at) [] middle.state.moment) (told_by h g r2 w l ws)
      (told_by h g2 r2 w2 l ws) [] 0 0
      → Course server old middle (between_turns old.state.moment) (waiting_at (Some at) [] middle.state.moment) (told_by h g r w l ws) (told_by h g2 r2 w2 l ws) [] 1 0
  turn_begun old middle at h g g2 r r2 w w2 l ws read course =
      course_on server old old middle (between_turns old.state.moment) (waiting_at (Some at) [] old.state.moment) (waiting_at (Some at) [] middle.state.moment)
      (told_by h g r w l ws) (told_by h g r2 w l ws) (told_by h g2 r2 w2 l ws) [] [] 1 0 0 0 tt (course_reads server old old.state.moment at h g r r2 w l ws read) course

  -- not all of it
  pub turn_undue : (old new : Standing) (at : ℕ) (h : Option (List (Option HeardDatagram))) (g g2 : Option (List Given)) (r r2 : Option (List ℕ)) (w w2 l : Kept)
      (ws : Stream)
      (e : ServeError) → IsToldMore r (at ∷ []) r2
      → Breaks server old new (waiting_at (Some at) [] old.state.moment) (told_by h g r2 w l ws) (told_by h g2 r2 w2 l ws) 0 e
      → Breaks server old new (between_turns old.state.moment) (told_by h g r w l ws) (told_by h g2 r2 w2 l ws) 1 e
  turn_undue old new at h g g2 r r2 w w2 l ws e read breaks =
      breaks_on server old old new (between_turns old.state.moment) (waiting_at (Some at) [] old.state.moment)
      (told_by h g r w l ws) (told_by h g r2 w l ws) (told_by h g2 r2 w2 l ws) [] 1 0 0 e tt (course_reads server old old.state.moment at h g r r2 w l ws read) breaks

  pub turn_whole : (old middle new : Standing) (at : ℕ) (before half after : Told) → Course server old middle (between_turns old.state.moment)
      (waiting_at (Some at) [] middle.state.moment) before half [] 1 0
      → TurnGoes server middle new at half after → Goes server old new before after 1
  turn_whole old middle new at before half after first second = record {
    records = second.records;
    course = course_on server old middle new (between_turns old.state.moment) (waiting_at (Some at) [] middle.state.moment) (between_turns new.state.moment) before half
        after [] second.records 1 0 0 1 tt first second.course;
  }

  pub turn_part : (old middle new : Standing) (at : ℕ) (before half after : Told) (e : ServeError)
      → Course server old middle (between_turns old.state.moment) (waiting_at (Some at) [] middle.state.moment) before half [] 1 0
      → TurnBreaks server middle new at half after e → Breaks server old new (between_turns old.state.moment) before after 1 e
  turn_part old middle new at before half after e first second =
      breaks_on server old middle new (between_turns old.state.moment) (waiting_at (Some at) [] middle.state.moment) before half after [] 1 0 0 e tt first second

  -- ---- turns

  pub goes_nothing : (state : Standing) (t : Told) → Goes server state state t t 0
  goes_nothing state t = record { records = []; course = course_nothing server state (between_turns state.state.moment) t tt }

  pub goes_further : (old middle new : Standing) (before half after : Told) (count : ℕ) → Goes server old middle before half count → Goes server middle new half after 1
      → Goes server old new before after (count + 1)
  goes_further old middle new before half after count first second = record {
    records = first.records ++ second.records;
    course = course_on server old middle new (between_turns old.state.moment) (between_turns middle.state.moment) (between_turns new.state.moment) before half after
        first.records second.records count count 1 1 tt first.course second.course;
  }

  pub breaks_further : (old middle new : Standing) (before half after : Told) (count most : ℕ) (e : ServeError) → Goes server old middle before half count
      → Breaks server middle new (between_turns middle.state.moment) half after 1 e → count < most → BreaksOff server old new before after most e
  breaks_further old middle new before half after count most e first second lt = record {
    count = count + 1;
    within = omega (arith, lt);
    breaks = breaks_on server old middle new (between_turns old.state.moment) (between_turns middle.state.moment) before half after first.records count count 1 e tt
        first.course second;
  }

-- ---- all of it

-- every history has access
abbrev pub HistoriesHaveAccess : Type 0
HistoriesHaveAccess = (server : Server) (first : ℕ) (history : List Link) (last : ProxyState) → IsChain server (first_state first) history last → Access server history

-- and is bounded
abbrev pub HistoriesAreBounded : Type 0
HistoriesAreBounded = (server : Server) (first : ℕ) (history : List Link) (last : ProxyState) → IsChain server (first_state first) history last → IsBounded server history

module _ (lawful : HistoriesHaveAccess) (bounded : HistoriesAreBounded) (server : Server) (old new : Standing) (before after : Told) where
  serves : (from to : Point) (records : List Record) (reads questions : ℕ) → (h : Course server old new from to before after records reads questions)
      → Serves server old new before after h.done
  serves from to records reads questions h = record {
    history = h.history;
    is_run = h.is_run;
    turns = h.turns;
    queue = h.queue;
    sayable = h.sayable;
    access = λ first past chain. lawful server first (h.history ++ past) new.state (chain_on server (first_state first) old.state new.state past h.history chain
        h.is_run.chain);
    bounded = λ first past chain. bounded server first (h.history ++ past) new.state (chain_on server (first_state first) old.state new.state past h.history chain
        h.is_run.chain);
    told = h.told;
    whole = h.whole;
  }

  pub served : (count : ℕ) → Goes server old new before after count → IsServed count server old new before after
  served count h = record {
    done = h.course.done;
    serves = serves (between_turns old.state.moment) (between_turns new.state.moment) h.records count count h.course;
    counted = h.course.asked;
    in_order = h.course.path;
    all_told = h.course.told_but_last ∙ append-nil _;
    logged = h.course.recorded ∙ sym (h.course.through tt).1;
    held = h.course.faulted;
  }

  pub unserved : (most : ℕ) (e : ServeError) → BreaksOff server old new before after most e → IsUnserved most server old new before after e
  unserved most e h = record {
    done = h.breaks.course.done;
    serves = serves (between_turns old.state.moment) h.breaks.to h.breaks.records h.count h.breaks.asks h.breaks.course;
    within = (let read = h.breaks.course.read in omega (arith, read, h.within));
    point = h.breaks.to;
    in_order = h.breaks.course.path;
    told_but_last = h.breaks.course.told_but_last;
    faulted = h.breaks.course.faulted;
    why = h.breaks.why;
  }

-- ---- counts

-- asked once more than so often
pub asked_once_more : (times old middle new : ℕ) → middle ≡ counted_times times old → new ≡ counted middle → new ≡ counted_times (times + 1) old
asked_once_more times old middle new h e = let more : times + 1 ≡ suc times = omega arith in e ∙ ap counted h ∙ ap (λ (n : ℕ). counted_times n old) (sym more)

-- asked once more at most, behind so often
pub asked_within : (times most old middle new : ℕ) → middle ≡ counted_times times old → IsAskedWithin 1 middle new → times < most → IsAskedWithin most old new
asked_within times most old middle new h more lt = by_times more.times more.within more.is where
  by_times : (n : ℕ) → n ≤ 1 → new ≡ counted_times n middle → IsAskedWithin most old new
  by_times zero le is = record { times = times; within = omega (arith, lt); is = is ∙ h }
  by_times (suc zero) le is = record { times = times + 1; within = omega (arith, lt); is = asked_once_more times old middle new h is }
  by_times (suc (suc n)) le is = absurd (omega (arith, le))
