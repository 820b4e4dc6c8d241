-- What is handed out, and the faults of it.
use Rattle.std.proofs.Common.{◌≡◌, ℕ, ◌+◌, ◌≤◌, ◌<◌, ◌^◌, true, false, List, [], ◌∷◌, ◌++◌, length, drop, zero, suc, Option, None, Some, refl, sym, ◌∙◌, ap, subst, arith}
use Rattle.std.proofs.Common.{append-nil}
use Rattle.std.specs.Prelude.{find, get_or, ◌==◌}
use Rattle.std.proofs.lemmas.List.{drop_more}
use Rattle.sip_transport.specs.declared.datagram.Given.{Given}
use Rattle.sip_transport.specs.declared.datagram.SendOutcome.TheVariants.{Went, Failed}
use Rattle.sip_transport.specs.Told.{and_then}
use Rattle.sip_event.specs.declared.event.Event.TheVariants.{Fault}
use Rattle.sip_event.specs.declared.event.StepOut.{StepOut}
use Rattle.sip_event.specs.declared.packet.Packet.{Packet}
use Rattle.sip_event.specs.declared.packet.Ticket.{Ticket}
use Rattle.sip_audit.specs.declared.record.Record.{Record}
use Rattle.sip_journal.specs.Record.{Notes}
use Rattle.sip_model.specs.state.declared.branch.Branch.{Branch}
use Rattle.sip_model.specs.state.declared.open_request.OpenRequest.{OpenRequest}
use Rattle.sip_model.specs.state.declared.proxy_state.ProxyState.{ProxyState}
use Rattle.sip_model.specs.TimerOrder.{IsQueueAfter, Standing}
use Rattle.sip_model.specs.state.declared.server.Server.{Server}
use Rattle.sip_model.specs.steps_model.Step.{Given as ForEvent, IsFault, IsStep, failed_branch, failed_request, fault_effect, is_failed, moment_of}
use Rattle.sip_model.specs.state.State.{first_state}
use Rattle.sip_model.specs.Ends.{sends_left}
use Rattle.sip_model.specs.Run.{Link, IsChain}
use Rattle.sip_run.specs.Due.{NothingDueBy}
use Rattle.sip_run.specs.engine.StepError.{refusal_at}
use Rattle.sip_loop.specs.Printing.{Prints}
use Rattle.sip_loop.specs.Serving.{HasFailed, IsWhy, Kept, MayFail, Point, Told, Unsent, untold_in}
use Rattle.sip_loop.specs.Courses.{Breaks, Course, IsNoFurther, IsThrough, Others, TakesFault, told_with, waiting_at}
use Rattle.sip_loop.specs.declared.serve_error.ServeError.{ServeError}
use Rattle.sip_loop.specs.declared.serve_error.ServeError.TheVariants as refusals
use Rattle.sip_loop.proofs.Courses.{course_event, course_nothing, course_on, course_sends, course_takes, sent_at, taken_at}
use Rattle.sip_loop.proofs.FaultsLeaveNone.{FaultLeaves, fault_leaves_none}
use Rattle.sip_loop.proofs.Gathering.{told_failed, told_one}
use Rattle.sip_loop.proofs.Printed.{prints_nothing}
use Rattle.sip_loop.proofs.Sayable.{is_small}
use Rattle.sip_replay_script.specs.EventText.{is_moment}

-- ---- faults

-- the fault of a packet records nothing
module _ (server : Server) (now : ℕ) (ticket : Ticket) (state : ProxyState) where
  branch_records : (r : OpenRequest) (o : Option Branch) → (failed_branch server now state r o).records ≡ []
  branch_records r None = refl
  branch_records r (Some b) = refl

  request_records : (o : Option OpenRequest) → (failed_request server now ticket state o).records ≡ []
  request_records None = refl
  request_records (Some r) = branch_records r (find (is_failed ticket.branch) r.branches)

  fault_records : (fault_effect server now ticket state).records ≡ []
  fault_records = request_records (find (λ (r : OpenRequest). r.number == ticket.datagram) state.requests)

-- a moment that counts as the state's is that
pub counts_as : (state : ProxyState) (at : ℕ) → at ≡ state.moment → state.moment ≡ moment_of state at
counts_as state at is = omega (arith, is)

pub takes_fault : FaultLeaves → (server : Server) (old new : Standing) (at first : ℕ) (history : List Link) (ticket : Ticket) (out : StepOut)
    → IsChain server (first_state first) history old.state → NothingDueBy old.state.moment old.state → at ≡ old.state.moment
    → at < 2 ^ 62 → refusal_at at ≡ None → IsStep server old.state (ForEvent (Fault at ticket)) out new.state → IsQueueAfter old new → new.state.moment ≡ out.at
    → length out.packets + sends_left new.state ≤ sends_left old.state
    → (IsFault server old.state old.state.moment ticket out new.state → IsNoFurther old.state new.state) → TakesFault server old ticket out new
takes_fault leaves server old new at first history ticket out chain none is small not_refused step queue stands fewer further =
    let then : IsStep server old.state (ForEvent (Fault old.state.moment ticket)) out new.state =
    subst (λ (n : ℕ). IsStep server old.state (ForEvent (Fault n ticket)) out new.state) is step in
    let due : NothingDueBy (moment_of old.state old.state.moment) old.state = subst (λ (n : ℕ). NothingDueBy n old.state) (counts_as old.state old.state.moment refl) none
    in
    record {
      step = then;
      queue = queue;
      in_turn = record {
        none_due = due;
        not_refused = subst (λ (n : ℕ). refusal_at n ≡ None) is not_refused;
      };
      none_due = fault_leaves_none leaves server first history old.state new.state ticket out chain then due;
      stands = stands;
      sayable = subst (λ (n : ℕ). is_moment n ≡ true) is (is_small at small);
      no_records = then.does.records ∙ fault_records server (moment_of old.state old.state.moment) ticket
          (record old.state { moment = moment_of old.state old.state.moment });
      fewer = fewer;
      no_further = further then;
    }

-- ---- what waits

-- the packet at a place, and those behind it
pub at_place : (packets : List Packet) (place : ℕ) (p : Packet) → place < length packets → p ≡ get_or packets place p → drop place packets ≡ p ∷ drop (place + 1) packets
at_place packets place p lt is = drop_more packets place p lt ∙ ap (λ (x : Packet). x ∷ drop (place + 1) packets) (sym is)

-- behind a place, with more at the end
pub behind_more : (packets more : List Packet) (place : ℕ) → place < length packets → drop (place + 1) (packets ++ more) ≡ drop (place + 1) packets ++ more
behind_more [] more place lt = absurd (omega (arith, lt))
behind_more (x ∷ xs) more zero lt = refl
behind_more (x ∷ xs) more (suc n) lt =
    let next : suc (n + 1) ≡ suc n + 1 = omega arith in
    subst (λ (m : ℕ). drop m (x ∷ (xs ++ more)) ≡ drop m (x ∷ xs) ++ more) next (behind_more xs more n (omega (arith, lt)))

-- ---- a piece that breaks off behind another

pub breaks_on : (server : Server) (old middle new : Standing) (from mid : Point) (before half after : Told) (records : List Record) (reads asks more_reads : ℕ)
    (e : ServeError) → IsThrough mid.stage
    → Course server old middle from mid before half records reads asks → Breaks server middle new mid half after more_reads e
    → Breaks server old new from before after (reads + more_reads) e
breaks_on server old middle new from mid before half after records reads asks more_reads e is first second = record {
  to = second.to;
  records = records ++ second.records;
  asks = asks + second.asks;
  course = course_on server old middle new from mid second.to before half after records second.records reads asks more_reads second.asks is first second.course;
  why = second.why;
}

-- memory ran out, whatever was done
pub breaks_memory : (server : Server) (old new : Standing) (from to : Point) (before after : Told) (records : List Record) (reads asks : ℕ) (e : ServeError)
    → e ≡ refusals.NoMemory → untold_in to.stage ≡ []
    → Course server old new from to before after records reads asks → Breaks server old new from before after reads e
breaks_memory server old new from to before after records reads asks e is told course = record {
  to = to;
  records = records;
  asks = asks;
  course = course;
  why = subst (λ (x : ServeError). IsWhy x to new.state) (sym is) told;
}

-- ---- one packet

module _ (server : Server) (old : Standing) (packets : List Packet) (place : ℕ) (p : Packet) (lt : place < length packets) (is : p ≡ get_or packets place p)
    (others : Others) (turn : Option ℕ)
    (g g2 : Option (List Given)) (w : Kept) where
  -- a point of which so much is known
  from_place : (T : Point → Type 0) → T (waiting_at turn (p ∷ drop (place + 1) packets) old.state.moment) → T (waiting_at turn (drop place packets) old.state.moment)
  from_place T h = subst (λ (l : List Packet). T (waiting_at turn l old.state.moment)) (sym (at_place packets place p lt is)) h

  -- it went out
  pub went : g2 ≡ and_then g (record { to = p.to; bytes = p.bytes; sending = Went })
      → Course server old old (waiting_at turn (drop place packets) old.state.moment) (waiting_at turn (drop (place + 1) packets) old.state.moment) (told_with others g w)
      (told_with others g2 w) [] 0 0
  went given =
      from_place (λ from. Course server old old from (waiting_at turn (drop (place + 1) packets) old.state.moment) (told_with others g w) (told_with others g2 w) [] 0 0)
      (course_sends server old turn p Went (drop (place + 1) packets) old.state.moment others.heard g g2 others.readings w others.log others.words (given ∙ told_one g _))

  -- it failed
  failed : g2 ≡ and_then g (record { to = p.to; bytes = p.bytes; sending = Failed })
      → Course server old old (waiting_at turn (drop place packets) old.state.moment) (sent_at turn (Some p) (drop (place + 1) packets) old.state.moment)
      (told_with others g w) (told_with others g2 w) [] 0 0
  failed given =
      from_place (λ from. Course server old old from (sent_at turn (Some p) (drop (place + 1) packets) old.state.moment) (told_with others g w) (told_with others g2 w) []
      0 0)
      (course_sends server old turn p Failed (drop (place + 1) packets) old.state.moment others.heard g g2 others.readings w others.log others.words
      (given ∙ told_one g _))

  -- and its fault wasn't taken
  pub unfaulted : (e : ServeError) → e ≡ refusals.NoMemory → g2 ≡ and_then g (record { to = p.to; bytes = p.bytes; sending = Failed })
      → Breaks server old old (waiting_at turn (drop place packets) old.state.moment) (told_with others g w) (told_with others g2 w) 0 e
  unfaulted e lack given =
      breaks_memory server old old (waiting_at turn (drop place packets) old.state.moment) (sent_at turn (Some p) (drop (place + 1) packets) old.state.moment)
      (told_with others g w) (told_with others g2 w) [] 0 0 e lack refl (failed given)

  -- it was
  module _ (new : Standing) (out : StepOut) (given : g2 ≡ and_then g (record { to = p.to; bytes = p.bytes; sending = Failed }))
      (taken : TakesFault server old p.ticket out new) where
    comes : MayFail old.state.moment p (sent_at turn (Some p) (drop (place + 1) packets) old.state.moment)
    comes = record { clear = refl; failed = refl; same = refl }

    fault_event : (w2 : Kept) (waiting : List Packet) → waiting ≡ drop (place + 1) packets ++ out.packets → Notes w.bytes w2.bytes (Fault old.state.moment p.ticket ∷ [])
        → (w.faulted ≡ false) × (w2.faulted ≡ false)
        → Course server old new (sent_at turn (Some p) (drop (place + 1) packets) old.state.moment) (waiting_at turn waiting new.state.moment) (told_with others g2 w)
        (told_with others g2 w2) [] 0 0
    fault_event w2 waiting waits noted whole =
        subst (λ (rs : List Record). Course server old new (sent_at turn (Some p) (drop (place + 1) packets) old.state.moment) (waiting_at turn waiting new.state.moment)
        (told_with others g2 w) (told_with others g2 w2) rs 0 0) taken.no_records
        (course_event server old new (sent_at turn (Some p) (drop (place + 1) packets) old.state.moment) (Unsent old.state.moment p) [] out
        (record { config = server.config; before = old.state; act = ForEvent (Fault old.state.moment p.ticket); out = out; after = new.state } ∷ []) comes refl
        (record { chain = (refl, taken.step, refl); paced = (tt, tt); of_events = refl; of_steps = refl; configured = (refl, tt) }) ((refl, taken.in_turn), tt)
        taken.queue (append-nil out.records) taken.sayable
        waiting new.state.moment others.heard g2 others.readings w w2 others.log others.log others.words
        (waits ∙ ap (λ (l : List Packet). drop (place + 1) packets ++ l) (sym (append-nil out.packets))) taken.stands noted whole
        (subst (λ (rs : List Record). Prints others.log.bytes others.log.bytes rs) (sym taken.no_records) (prints_nothing others.log.bytes))
        (λ some. absurd (some taken.no_records)) refl)

    -- and told
    pub faulted : (w2 : Kept) (after : List Packet) → after ≡ packets ++ out.packets → Notes w.bytes w2.bytes (Fault old.state.moment p.ticket ∷ [])
        → (w.faulted ≡ false) × (w2.faulted ≡ false)
        → Course server old new (waiting_at turn (drop place packets) old.state.moment) (waiting_at turn (drop (place + 1) after) new.state.moment) (told_with others g w)
        (told_with others g2 w2) [] 0 0
    faulted w2 after added noted whole =
        course_on server old old new (waiting_at turn (drop place packets) old.state.moment) (sent_at turn (Some p) (drop (place + 1) packets) old.state.moment)
        (waiting_at turn (drop (place + 1) after) new.state.moment)
        (told_with others g w) (told_with others g2 w) (told_with others g2 w2) [] [] 0 0 0 0 tt (failed given)
        (fault_event w2 (drop (place + 1) after) (ap (drop (place + 1)) added ∙ behind_more packets out.packets place lt) noted whole)

    -- and told, and memory ran out
    pub faulted_some : (w2 : Kept) (e : ServeError) → e ≡ refusals.NoMemory → Notes w.bytes w2.bytes (Fault old.state.moment p.ticket ∷ [])
        → (w.faulted ≡ false) × (w2.faulted ≡ false)
        → Breaks server old new (waiting_at turn (drop place packets) old.state.moment) (told_with others g w) (told_with others g2 w2) 0 e
    faulted_some w2 e lack noted whole =
        breaks_memory server old new (waiting_at turn (drop place packets) old.state.moment) (waiting_at turn (drop (place + 1) packets ++ out.packets) new.state.moment)
        (told_with others g w) (told_with others g2 w2) [] 0 0 e lack refl
        (course_on server old old new (waiting_at turn (drop place packets) old.state.moment) (sent_at turn (Some p) (drop (place + 1) packets) old.state.moment)
        (waiting_at turn (drop (place + 1) packets ++ out.packets) new.state.moment)
        (told_with others g w) (told_with others g2 w) (told_with others g2 w2) [] [] 0 0 0 0 tt (failed given)
        (fault_event w2 (drop (place + 1) packets ++ out.packets) refl noted whole))

    -- and the journal failed
    pub untold : (w2 : Kept) → HasFailed w2
        → Breaks server old new (waiting_at turn (drop place packets) old.state.moment) (told_with others g w) (told_with others g2 w2) 0 refusals.Journal
    untold w2 failed_now = record {
      to = taken_at (sent_at turn (Some p) (drop (place + 1) packets) old.state.moment) (Unsent old.state.moment p) [] out;
      records = [] ++ out.records;
      asks = 0;
      course = course_on server old old new (waiting_at turn (drop place packets) old.state.moment) (sent_at turn (Some p) (drop (place + 1) packets) old.state.moment)
          (taken_at (sent_at turn (Some p) (drop (place + 1) packets) old.state.moment) (Unsent old.state.moment p) [] out)
          (told_with others g w) (told_with others g2 w) (told_with others g2 w2) [] out.records 0 0 0 0 tt (failed given)
          (course_takes server old new (sent_at turn (Some p) (drop (place + 1) packets) old.state.moment) (Unsent old.state.moment p) [] out
          (record { config = server.config; before = old.state; act = ForEvent (Fault old.state.moment p.ticket); out = out; after = new.state } ∷ []) comes refl
          (record { chain = (refl, taken.step, refl); paced = (tt, tt); of_events = refl; of_steps = refl; configured = (refl, tt) }) ((refl, taken.in_turn), tt)
          taken.queue (append-nil out.records) taken.sayable
          (told_with others g2 w) (told_with others g2 w2) (told_failed others.heard g2 others.readings w w2 others.log others.words failed_now.0) failed_now refl);
      why = record { cause = Unsent old.state.moment p; records = out.records; untold = refl };
    }

-- nothing was given
pub unsent : (server : Server) (state : Standing) (waiting : List Packet) (others : Others) (turn : Option ℕ) (g g2 : Option (List Given)) (w : Kept) (e : ServeError)
    → g2 ≡ g → e ≡ refusals.NoMemory
    → Breaks server state state (waiting_at turn waiting state.state.moment) (told_with others g w) (told_with others g2 w) 0 e
unsent server state waiting others turn g g2 w e same lack =
    subst (λ (x : Option (List Given)). Breaks server state state (waiting_at turn waiting state.state.moment) (told_with others g w) (told_with others x w) 0 e)
    (sym same)
    (breaks_memory server state state (waiting_at turn waiting state.state.moment) (waiting_at turn waiting state.state.moment) (told_with others g w)
    (told_with others g w) [] 0 0 e lack refl
    (course_nothing server state (waiting_at turn waiting state.state.moment) (told_with others g w) tt))
