-- What a recorder wrote of an event says it.
use Rattle.std.proofs.Common.{◌≡◌, ◌≤◌, nat_le, length, inl, arith, ℕ, Bool, true, false, List, [], ◌∷◌, Option, Some, None, Result, Ok, Err, OnOk, refl, sym, ◌∙◌, subst}
use Rattle.std.specs.Prelude.{not, ◌&&◌, ◌==◌}
use Rattle.std.proofs.lemmas.Bool.{eqb-true, leb-true}
use Rattle.std.specs.Io.KnownBytes.{Appends}
use Rattle.sip_uri.specs.declared.addr.Addr.{Addr}
use Rattle.sip_uri.proofs.Tests.{and_both}
use Rattle.sip_event.specs.declared.event.Event.TheVariants.{Datagram}
use Rattle.sip_event.specs.declared.event.Event.{Event}
use Rattle.sip_replay_script.specs.Devices.{WritesFront}
use Rattle.sip_replay_script.specs.Recorded.{SaysRecorded}
use Rattle.sip_replay_script.specs.EventText.{event_text, datagram_text, is_moment, is_sayable, HasTypes}
use Rattle.sip_replay_script.proofs.RecordTexts.{record_one}
use Rattle.sip_journal.specs.Record.{Notes, NotesKnown}
use Rattle.sip_journal.specs.Recorder.{told, CantWrite, WritesEvent}

-- that what is written of an event is read as it
abbrev pub IsRead : Type 0
IsRead = (event : Event) → HasTypes event → is_sayable event ≡ true → SaysRecorded (event_text event) event

written_known : (old new : Option (List ℕ)) (event : Event) → SaysRecorded (event_text event) event → Appends old new (event_text event) → NotesKnown old new (event ∷ [])
written_known None new event says h = tt
written_known (Some front) None event says h = h
written_known (Some front) (Some all) event says h = record { text = event_text event; says = record_one (event_text event) event says; grown = h }

pub on_ok : {X E : Type 0} (result : Result X E) {P : Type 0} → P → OnOk result P
on_ok (Ok x) p = p
on_ok (Err e) p = tt

-- and so of what a call answers
pub noted_ok : {E : Type 0} (result : Result (Unit {0}) E) → IsRead → (before done : Bool) (old new : Option (List ℕ)) (flushed : Type 0) (event : Event) → HasTypes event
    → before ≡ false → (done ≡ true → WritesEvent old new flushed event)
    → OnOk result (Notes (told before old) (told (not done) new) (event ∷ []))
noted_ok result is_read before true old new flushed event types fresh writes = on_ok result
    (subst (λ b. Notes (told b old) (Some new) (event ∷ [])) (sym fresh) (let w = writes refl in written_known old new event (is_read event types w.sayable) w.written))
noted_ok result is_read before false old new flushed event types fresh writes = on_ok result tt

-- what no script says of a datagram
pub not_sayable : (gave_up : Type 0) (event : Event) (test : Bool) → test ≡ is_sayable event → test ≡ false → CantWrite gave_up event
not_sayable gave_up event test is fails = inl (sym is ∙ fails)

-- a datagram that a script says has at most 65,508 bytes
pub few_bytes : (moment word : ℕ) (source : Addr) (bytes : List ℕ) (test : Bool) → test ≡ is_sayable (Datagram moment word source bytes) → test ≡ true
    → length bytes ≤ 65508
few_bytes moment word source bytes test is passes =
    let whole = and_both (is_moment moment) (not (source.port == 0) && nat_le (length bytes) 65508) (sym is ∙ passes) in
    leb-true (length bytes) 65508 (and_both (not (source.port == 0)) (nat_le (length bytes) 65508) whole.1).1

pub no_bytes : (bytes : List ℕ) → true ≡ (length bytes == 0) → bytes ≡ []
no_bytes [] e = refl
no_bytes (b ∷ bytes) e = let none : length (b ∷ bytes) ≡ 0 = eqb-true (length (b ∷ bytes)) 0 (sym e) in absurd (omega (arith, none))

-- the text of a datagram was written, whose bytes may be told otherwise
pub writes_datagram : (old new : Option (List ℕ)) (flushed : Type 0) (moment word : ℕ) (source : Addr) (bytes same : List ℕ) (test done : Bool)
    → test ≡ is_sayable (Datagram moment word source bytes) → test ≡ true → bytes ≡ same
    → (done ≡ true → Appends old new (datagram_text moment word source same)) → (done ≡ true → flushed) → done ≡ true
    → WritesEvent old new flushed (Datagram moment word source bytes)
writes_datagram old new flushed moment word source bytes same test done is passes e text handed_on ok = record {
  sayable = sym is ∙ passes;
  written = subst (λ (l : List ℕ). Appends old new (datagram_text moment word source l)) (sym e) (text ok);
  handed_on = handed_on ok;
}

pub front_datagram : (old new : Option (List ℕ)) (moment word : ℕ) (source : Addr) (bytes same : List ℕ) → bytes ≡ same
    → WritesFront old new (datagram_text moment word source same) → WritesFront old new (event_text (Datagram moment word source bytes))
front_datagram old new moment word source bytes same e h = subst (λ (l : List ℕ). WritesFront old new (datagram_text moment word source l)) (sym e) h
