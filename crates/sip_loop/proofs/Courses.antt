-- Pieces of serving, and one behind the other.
use Rattle.std.specs.List.{AllByRecursion}
use Rattle.sip_replay_script.specs.EventText.{is_sayable}
use Rattle.std.proofs.Common.{◌≡◌, ◌≢◌, true, false, ℕ, ◌+◌, List, [], ◌∷◌, ◌++◌, length, length-append, Option, None, Some, refl, sym, ◌∙◌, ap, ap₂, subst, append-nil}
use Rattle.std.proofs.Common.{append_assoc}
use Rattle.rand_core.specs.Stream.{Stream}
use Rattle.sip_transport.specs.declared.datagram.Given.{Given}
use Rattle.sip_transport.specs.declared.datagram.HeardDatagram.{HeardDatagram}
use Rattle.sip_transport.specs.declared.datagram.SendOutcome.{SendOutcome}
use Rattle.sip_event.specs.declared.event.Event.{Event}
use Rattle.sip_event.specs.declared.event.StepOut.{StepOut}
use Rattle.sip_event.specs.declared.packet.Packet.{Packet}
use Rattle.sip_audit.specs.declared.record.Record.{Record}
use Rattle.sip_journal.specs.Record.{Notes}
use Rattle.sip_model.specs.state.declared.server.Server.{Server}
use Rattle.sip_model.specs.TimerOrder.{Standing, queue_from}
use Rattle.sip_model.specs.Run.{Link, IsRun}
use Rattle.sip_model.proofs.Along.{queue_behind}
use Rattle.sip_loop.specs.Printing.{Prints}
use Rattle.sip_loop.specs.Serving.{AreDrawn, AreInTurn, AreTold, AreAt, Asked, Asks, Cause, Clear, FallsAt, FallsDue, Fires, HasFailed, IsToldMore, Kept, Logs, MayCome}
use Rattle.sip_loop.specs.Serving.{MayFallDue, Point, Reads, Sends, Stage, Stopped, Takes, Tells, Told, Turn, Unlogged, Untold}
use Rattle.sip_loop.specs.Serving.{ahead, between_turns, event_for, event_taken, event_told, failing, gathered, heard_of_turn, moment_read, packets_of, reading_of}
use Rattle.sip_loop.specs.Serving.{records_logged, records_of, steps_taken, told_by, told_more, turn_asked, turn_behind, untold_in}
use Rattle.sip_loop.specs.Courses.{Course, IsThrough, waiting_at}
use Rattle.sip_loop.proofs.Faults.{faulted_nothing, faulted_on, held_through, whole_nothing, whole_on}
use Rattle.sip_loop.proofs.Gathering.{ahead_behind, gathered_behind, path_on, records_both, told_if_none, told_none, told_nothing, told_on}
use Rattle.sip_loop.proofs.Noted.{notes_nothing}
use Rattle.sip_loop.proofs.Printed.{prints_nothing}
use Rattle.sip_loop.proofs.Runs.{in_turn_on, run_nothing, run_on}

-- a point at which a turn's event is asked for, or a packet failed, or an event was taken and isn't told
abbrev pub asked_at : ℕ → Turn → ℕ → Point
asked_at reading turn at = record { turn = Some reading; stage = Asked turn; failed = None; waiting = []; at = at }

abbrev pub sent_at : Option ℕ → Option Packet → List Packet → ℕ → Point
sent_at turn failed waiting at = record { turn = turn; stage = Clear; failed = failed; waiting = waiting; at = at }

abbrev pub taken_at : Point → Cause → List StepOut → StepOut → Point
taken_at p cause outs own = record {
  turn = turn_behind cause p.turn;
  stage = Untold cause own.records;
  failed = None;
  waiting = p.waiting ++ packets_of (outs ++ own ∷ []);
  at = own.at;
}

abbrev pub unlogged_at : Point → Cause → List StepOut → StepOut → Point
unlogged_at p cause outs own = record (taken_at p cause outs own) { stage = Unlogged own.records }

abbrev pub stopped_at : Point → Cause → List StepOut → Point
stopped_at p cause outs = record p { stage = Stopped cause; waiting = p.waiting ++ packets_of outs }

all_on : (xs ys : List Event) → AllByRecursion (λ (event : Event). is_sayable event ≡ true) xs → AllByRecursion (λ (event : Event). is_sayable event ≡ true) ys
    → AllByRecursion (λ (event : Event). is_sayable event ≡ true) (xs ++ ys)
all_on [] ys h k = k
all_on (x ∷ xs) ys h k = (h.0, all_on xs ys h.1 k)

none_untold : (stage : Stage) → IsThrough stage → untold_in stage ≡ []
none_untold Clear h = refl
none_untold (Asked turn) h = refl
none_untold (Stopped cause) h = refl
none_untold (Untold cause records) h = absurd h
none_untold (Unlogged records) h = refl

twice_nil : {A : Type 0} (xs : List A) → (xs ++ []) ++ [] ≡ xs
twice_nil xs = append-nil (xs ++ []) ∙ append-nil xs

module _ (server : Server) where
  pub course_nothing : (state : Standing) (p : Point) (t : Told) → IsThrough p.stage → Course server state state p p t t [] 0 0
  course_nothing state p t is = record {
    done = [];
    path = refl;
    history = [];
    is_run = run_nothing server state.state None;
    turns = tt;
    queue = refl;
    sayable = tt;
    told = told_nothing t;
    whole = whole_nothing t;
    faulted = faulted_nothing p.stage t is;
    recorded = refl;
    told_but_last = sym (none_untold p.stage is);
    through = λ h. (refl, refl);
    read = refl;
    asked = refl;
  }

  pub course_on : (old middle new : Standing) (from mid to : Point) (before half after : Told) (records more : List Record) (reads asks more_reads more_asks : ℕ)
      → IsThrough mid.stage
      → Course server old middle from mid before half records reads asks → Course server middle new mid to half after more more_reads more_asks
      → Course server old new from to before after (records ++ more) (reads + more_reads) (asks + more_asks)
  course_on old middle new from mid to before half after records more reads asks more_reads more_asks is first second =
      let none : ahead first.done ≡ None = (first.through is).0 in
      let held = held_through mid.stage before half is first.faulted in
      let logged : gathered records_logged first.done ≡ records = (first.through is).1 in
      let until : ahead (second.done ++ first.done) ≡ ahead second.done = ahead_behind second.done first.done none in
      record {
        done = second.done ++ first.done;
        path = path_on from mid to first.done second.done first.path second.path;
        history = second.history ++ first.history;
        is_run =
            subst (λ (es : List Event). IsRun server old.state es (ahead (second.done ++ first.done)) (gathered steps_taken (second.done ++ first.done))
            (second.history ++ first.history) new.state) (sym (gathered_behind event_taken second.done first.done))
            (subst (λ (o : Option ℕ). IsRun server old.state (gathered event_taken first.done ++ gathered event_taken second.done) o
            (gathered steps_taken (second.done ++ first.done)) (second.history ++ first.history) new.state) (sym until)
            (subst (λ (ss : List StepOut). IsRun server old.state (gathered event_taken first.done ++ gathered event_taken second.done) (ahead second.done) ss
            (second.history ++ first.history) new.state) (sym (gathered_behind steps_taken second.done first.done))
            (run_on server old.state middle.state new.state (gathered event_taken first.done) (gathered event_taken second.done) (ahead second.done)
            (gathered steps_taken first.done) (gathered steps_taken second.done) first.history second.history
            (subst (λ (o : Option ℕ). IsRun server old.state (gathered event_taken first.done) o (gathered steps_taken first.done) first.history middle.state) none
            first.is_run) second.is_run)));
        turns = in_turn_on server old middle first.history second.history first.queue first.turns second.turns;
        queue = queue_behind old middle new first.history second.history first.queue second.queue;
        sayable =
            subst (λ (es : List Event). AllByRecursion (λ (event : Event). is_sayable event ≡ true) es) (sym (gathered_behind event_taken second.done first.done))
            (all_on (gathered event_taken first.done) (gathered event_taken second.done) first.sayable second.sayable);
        told = told_on before half after first.done second.done first.told second.told;
        whole = whole_on before half first.done second.done held first.whole second.whole;
        faulted = faulted_on to.stage before half after held second.faulted;
        recorded =
            ap records_of (gathered_behind steps_taken second.done first.done) ∙ records_both (gathered steps_taken first.done) (gathered steps_taken second.done)
            ∙ ap₂ (λ (a b : List Record). a ++ b) first.recorded second.recorded;
        told_but_last =
            gathered_behind event_taken second.done first.done
            ∙ ap₂ (λ (a b : List Event). a ++ b) (first.told_but_last ∙ ap (λ (l : List Event). gathered event_told first.done ++ l) (none_untold mid.stage is)
            ∙ append-nil (gathered event_told first.done)) second.told_but_last
            ∙ sym (append_assoc (gathered event_told first.done) (gathered event_told second.done) (untold_in to.stage))
            ∙ ap (λ (l : List Event). l ++ untold_in to.stage) (sym (gathered_behind event_told second.done first.done));
        through = λ s. (
          until ∙ (second.through s).0,
          gathered_behind records_logged second.done first.done ∙ ap₂ (λ (a b : List Record). a ++ b) logged (second.through s).1,
        );
        read =
            ap length (gathered_behind moment_read second.done first.done) ∙ length-append (gathered moment_read first.done) (gathered moment_read second.done)
            ∙ ap₂ (λ (a b : ℕ). a + b) first.read second.read;
        asked =
            ap length (gathered_behind turn_asked second.done first.done) ∙ length-append (gathered turn_asked first.done) (gathered turn_asked second.done)
            ∙ ap₂ (λ (a b : ℕ). a + b) first.asked second.asked;
      }

  -- ---- one doing

  -- the clock is read
  pub course_reads : (state : Standing) (m at : ℕ) (h : Option (List (Option HeardDatagram))) (g : Option (List Given)) (r r2 : Option (List ℕ)) (w p : Kept)
      (ws : Stream)
      → IsToldMore r (at ∷ []) r2
      → Course server state state (between_turns m) (waiting_at (Some at) [] m) (told_by h g r w p ws) (told_by h g r2 w p ws) [] 1 0
  course_reads state m at h g r r2 w p ws told = record {
    done = Reads at ∷ [];
    path = (between_turns m, refl, record { idle = record { clear = refl; whole = refl; all_sent = refl }; none_open = refl; leads = refl });
    history = [];
    is_run = run_nothing server state.state None;
    turns = tt;
    queue = refl;
    sayable = tt;
    told = record { heard = told_none h; given = told_none g; readings = told; words = refl; noted = notes_nothing w.bytes; printed = prints_nothing p.bytes };
    whole = record { journal = λ some. absurd (some refl); log = λ some. absurd (some refl) };
    faulted = (refl, refl);
    recorded = refl;
    told_but_last = refl;
    through = λ h. (refl, refl);
    read = refl;
    asked = refl;
  }

  -- the link is asked
  pub course_asks : (state : Standing) (m at : ℕ) (turn : Turn) (h h2 : Option (List (Option HeardDatagram))) (g : Option (List Given)) (r : Option (List ℕ)) (w p : Kept)
      (ws ws2 : Stream) → reading_of turn ≡ at
      → h2 ≡ told_more h (heard_of_turn turn ∷ []) → AreDrawn ws (turn ∷ []) ws2
      → Course server state state (waiting_at (Some at) [] m) (asked_at at turn m) (told_by h g r w p ws) (told_by h2 g r w p ws2) [] 0 1
  course_asks state m at turn h h2 g r w p ws ws2 is heard drawn = record {
    done = Asks turn ∷ [];
    path = (waiting_at (Some at) [] m, refl, record { idle = record { clear = refl; whole = refl; all_sent = refl }; is_open = ap Some (sym is); leads = refl });
    history = [];
    is_run = run_nothing server state.state None;
    turns = tt;
    queue = refl;
    sayable = tt;
    told = record { heard = heard; given = told_none g; readings = told_if_none r; words = drawn; noted = notes_nothing w.bytes; printed = prints_nothing p.bytes };
    whole = record { journal = λ some. absurd (some refl); log = λ some. absurd (some refl) };
    faulted = (refl, refl);
    recorded = refl;
    told_but_last = refl;
    through = λ h. (refl, refl);
    read = refl;
    asked = refl;
  }

  -- a packet is given to the link
  pub course_sends : (state : Standing) (turn : Option ℕ) (p : Packet) (sending : SendOutcome) (rest : List Packet) (m : ℕ) (h : Option (List (Option HeardDatagram)))
      (g g2 : Option (List Given)) (r : Option (List ℕ)) (w l : Kept) (ws : Stream)
      → g2 ≡ told_more g (record { to = p.to; bytes = p.bytes; sending = sending } ∷ [])
      → Course server state state (waiting_at turn (p ∷ rest) m) (sent_at turn (failing p sending) rest m) (told_by h g r w l ws) (told_by h g2 r w l ws) [] 0 0
  course_sends state turn p sending rest m h g g2 r w l ws given = record {
    done = Sends p sending ∷ [];
    path = (waiting_at turn (p ∷ rest) m, refl, record { clear = refl; whole = refl; rest = rest; first = refl; leads = refl });
    history = [];
    is_run = run_nothing server state.state None;
    turns = tt;
    queue = refl;
    sayable = tt;
    told = record { heard = told_none h; given = given; readings = told_if_none r; words = refl; noted = notes_nothing w.bytes; printed = prints_nothing l.bytes };
    whole = record { journal = λ some. absurd (some refl); log = λ some. absurd (some refl) };
    faulted = (refl, refl);
    recorded = refl;
    told_but_last = refl;
    through = λ h. (refl, refl);
    read = refl;
    asked = refl;
  }

  -- what is due happens, and the event behind it isn't taken
  pub course_fires : (old new : Standing) (p : Point) (at : ℕ) (outs : List StepOut) (history : List Link) (t : Told) → MayFallDue at p → AreAt at outs
      → IsRun server old.state [] (Some at) outs history new.state → AreInTurn server old.queue history
      → new.queue ≡ queue_from old.queue history → records_of outs ≡ [] → Course server old new p (stopped_at p (FallsDue at) outs) t t [] 0 0
  course_fires old new p at outs history t comes falls run turns queue none = record {
    done = Fires (FallsDue at) outs ∷ [];
    path = (p, refl, record { comes = comes; falls = falls; leads = refl });
    history = history;
    is_run = run;
    turns = turns;
    queue = queue;
    sayable = tt;
    told = let told = told_nothing t in record {
      heard = told.heard;
      given = told.given;
      readings = told.readings;
      words = told.words;
      noted = told.noted;
      printed = told.printed;
    };
    whole = record { journal = λ some. absurd (some refl); log = λ some. absurd (some refl) };
    faulted = (refl, refl);
    recorded = none;
    told_but_last = refl;
    through = λ h. absurd h;
    read = refl;
    asked = refl;
  }

  -- ---- an event

  module _ (old new : Standing) (p : Point) (cause : Cause) (outs : List StepOut) (own : StepOut) (history : List Link) (comes : MayCome cause p)
      (falls : FallsAt cause outs)
      (run : IsRun server old.state (event_for cause ∷ []) None (outs ++ own ∷ []) history new.state) (turns : AreInTurn server old.queue history)
      (queue : new.queue ≡ queue_from old.queue history) (recorded : records_of (outs ++ own ∷ []) ≡ own.records) (says : is_sayable (event_for cause) ≡ true) where
    -- it was taken, and isn't told
    pub course_takes : (t t2 : Told) → AreTold t t2 [] → HasFailed t2.journal → t2.log.faulted ≡ t.log.faulted
        → Course server old new p (taken_at p cause outs own) t t2 own.records 0 0
    course_takes t t2 told failed same = record {
      done = Takes cause outs own ∷ [];
      path = (p, refl, record { comes = comes; falls = falls; leads = refl });
      history = history;
      is_run = run;
      turns = turns;
      queue = queue;
      sayable = (says, tt);
      told = record { heard = told.heard; given = told.given; readings = told.readings; words = told.words; noted = told.noted; printed = told.printed };
      whole = record { journal = λ some. absurd (some refl); log = λ some. absurd (some refl) };
      faulted = (failed, same);
      recorded = recorded;
      told_but_last = refl;
      through = λ h. absurd h;
      read = refl;
      asked = refl;
    }

    -- it was told, and its lines aren't printed
    pub course_tells : (h : Option (List (Option HeardDatagram))) (g : Option (List Given)) (r : Option (List ℕ)) (w w2 l l2 : Kept) (ws : Stream)
        → Notes w.bytes w2.bytes (event_for cause ∷ []) → (w.faulted ≡ false) × (w2.faulted ≡ false) → Prints l.bytes l2.bytes [] → HasFailed l2
        → Course server old new p (unlogged_at p cause outs own) (told_by h g r w l ws) (told_by h g r w2 l2 ws) own.records 0 0
    course_tells h g r w w2 l l2 ws noted whole printed failed = record {
      done = Tells (event_for cause) ∷ Takes cause outs own ∷ [];
      path = (
        taken_at p cause outs own,
        (p, refl, record { comes = comes; falls = falls; leads = refl }),
        record { cause = cause; records = own.records; untold = refl; same = refl; leads = refl },
      );
      history = history;
      is_run = subst (λ (ss : List StepOut). IsRun server old.state (event_for cause ∷ []) None ss history new.state) (sym (append-nil (outs ++ own ∷ []))) run;
      turns = turns;
      queue = queue;
      sayable = (says, tt);
      told = record { heard = told_none h; given = told_none g; readings = told_if_none r; words = refl; noted = noted; printed = printed };
      whole = record { journal = λ some. whole.0; log = λ some. absurd (some refl) };
      faulted = (whole.1 ∙ sym whole.0, failed);
      recorded = ap records_of (append-nil (outs ++ own ∷ [])) ∙ recorded;
      told_but_last = refl;
      through = λ h. absurd h;
      read = refl;
      asked = refl;
    }

    -- and they are
    pub course_event : (waiting : List Packet) (m : ℕ) (h : Option (List (Option HeardDatagram))) (g : Option (List Given)) (r : Option (List ℕ)) (w w2 l l2 : Kept)
        (ws : Stream)
        → waiting ≡ p.waiting ++ packets_of (outs ++ own ∷ []) → m ≡ own.at → Notes w.bytes w2.bytes (event_for cause ∷ []) → (w.faulted ≡ false) × (w2.faulted ≡ false)
        → Prints l.bytes l2.bytes own.records → (own.records ≢ [] → l.faulted ≡ false) → l2.faulted ≡ l.faulted
        → Course server old new p (waiting_at (turn_behind cause p.turn) waiting m) (told_by h g r w l ws) (told_by h g r w2 l2 ws) own.records 0 0
    course_event waiting m h g r w w2 l l2 ws waits stands noted whole printed sound held = record {
      done = Logs own.records ∷ Tells (event_for cause) ∷ Takes cause outs own ∷ [];
      path = (
        unlogged_at p cause outs own,
        (
          taken_at p cause outs own,
          (p, refl, record { comes = comes; falls = falls; leads = refl }),
          record { cause = cause; records = own.records; untold = refl; same = refl; leads = refl },
        ),
        record { unlogged = refl; leads = ap₂ (λ (l : List Packet) (n : ℕ). waiting_at (turn_behind cause p.turn) l n) waits stands },
      );
      history = history;
      is_run = subst (λ (ss : List StepOut). IsRun server old.state (event_for cause ∷ []) None ss history new.state) (sym (twice_nil (outs ++ own ∷ []))) run;
      turns = turns;
      queue = queue;
      sayable = (says, tt);
      told = record { heard = told_none h; given = told_none g; readings = told_if_none r; words = refl; noted = noted; printed = printed };
      whole = record { journal = λ some. whole.0; log = sound };
      faulted = (whole.1 ∙ sym whole.0, held);
      recorded = ap records_of (twice_nil (outs ++ own ∷ [])) ∙ recorded;
      told_but_last = refl;
      through = λ h. (refl, refl);
      read = refl;
      asked = refl;
    }
