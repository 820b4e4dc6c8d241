-- Turns behind the printed start, and what they print.
use Rattle.std.proofs.Common.{◌≡◌, ℕ, zero, suc, Bool, true, false, List, [], ◌++◌, Option, None, Some, Result, Ok, Err, IfErr, OnOk, ◌+◌, inr, unwrap_or, arith, refl}
use Rattle.std.proofs.Common.{sym, ap, subst, ◌∙◌}
use Rattle.std.proofs.lemmas.Grind.{flat_map-append}
use Rattle.std.specs.Io.KnownBytes.{Appends}
use Rattle.std.proofs.KnownBytes.{Appends-nil, Appends-trans}
use Rattle.sip_audit.specs.declared.record.Record.{Record}
use Rattle.sip_uri.specs.declared.addr.Addr.{Addr}
use Rattle.sip_journal.specs.Recorder.{told}
use Rattle.sip_loop.specs.Printing.{lines_of, record_text, Prints}
use Rattle.sip_loop.specs.Serving.{Told, gathered, kept, records_logged}
use Rattle.sipd_exit.specs.Exits.{IsPrintFault}
use Rattle.sipd_exit.specs.declared.device_fault.DeviceFault.{DeviceFault}
use Rattle.sipd_exit.specs.declared.exit.Exit.{Exit}
use Rattle.sipd_service.specs.Printing.{PrintsServed, start_text, turns_text}
use Rattle.sipd_service.specs.Turns.{AreTurns, EndsCounted, EndsEarly, EndsWithin, IsTurn, Serves, ServiceSeen, printing_on}

-- the same, printing on a writer that holds these bytes, which has failed or hasn't
abbrev pub logging_on : Option (List ℕ) → Bool → ServiceSeen → ServiceSeen
logging_on contents failed before = record before { devices = record before.devices { log = kept (told failed contents) failed } }

pub serves_on : {V E : Type 0} (result : Result V E) (address : Addr) (decided : List Record) (turns : ℕ) (before after : ServiceSeen)
    (empty started written : Option (List ℕ)) (first last : Bool) → first ≡ false → OnOk result (last ≡ first) → Appends empty started (start_text address decided)
    → OnOk result (AreTurns turns (logging_on started first before) (logging_on written last after))
    → OnOk result (Serves address decided turns before after empty written)
serves_on (Err e) address decided turns before after empty started written first last none same start turning = tt
serves_on (Ok v) address decided turns before after empty started written true last none same start turning = absurd cc
serves_on (Ok v) address decided turns before after empty started written false true none same start turning = absurd cc
serves_on (Ok v) address decided turns before after empty started written false false none same start turning =
    record { started = started; start = start; are_turns = turning }

pub ends_on : {V : Type 0} (result : Result V Exit) (address : Addr) (decided : List Record) (turns : ℕ) (before after : ServiceSeen)
    (empty started : Option (List ℕ)) (first : Bool) (fault : DeviceFault) → first ≡ false → Appends empty started (start_text address decided)
    → IfErr result (EndsWithin turns (logging_on started first before) after fault)
    → IfErr result (EndsEarly address decided turns before after empty fault)
ends_on (Ok v) address decided turns before after empty started first fault none start ending = tt
ends_on (Err exit) address decided turns before after empty started true fault none start ending = absurd cc
ends_on (Err exit) address decided turns before after empty started false fault none start ending =
    inr (record { started = started; start = start; ends = ending })

-- so many turns were served, and their number is printed then, or can't be
pub counted_on : {V : Type 0} (result : Result V Exit) (address : Addr) (decided : List Record) (turns : ℕ) (before after : ServiceSeen)
    (empty ended : Option (List ℕ)) (fault : DeviceFault) → Serves address decided turns before after empty ended → IfErr result IsPrintFault
    → IfErr result (EndsCounted address decided turns before after empty fault)
counted_on (Ok v) address decided turns before after empty ended fault serves why = tt
counted_on (Err exit) address decided turns before after empty ended fault serves why = inr (record { ended = ended; serves = serves; why = why })

-- one turn more
pub turn_more : (n : ℕ) (before middle after : ServiceSeen) → AreTurns n before middle → IsTurn middle after → AreTurns (n + 1) before after
turn_more n before middle after turning turn = let e : n + 1 ≡ suc n = omega arith in rw e (middle, turning, turn)

-- what turns print
pub record PrintsLines (old new : Option (List ℕ)) : Type 0 where
  pub records : List Record
  pub written : Appends old new (lines_of records)

lines_both : (a b c : Option (List ℕ)) (records : List Record) → PrintsLines a b → Appends b c (lines_of records) → PrintsLines a c
lines_both a b c records first more = record {
  records = first.records ++ records;
  written = subst (λ text. Appends a c text) (sym (flat_map-append record_text first.records records)) (Appends-trans a b c _ _ first.written more);
}

prints_more : (a b : Option (List ℕ)) (bytes : Option (Option (List ℕ))) (records : List Record) → Prints bytes (Some b) records
    → ((c : Option (List ℕ)) → bytes ≡ Some c → PrintsLines a c) → PrintsLines a b
prints_more a b None records prints before = absurd prints
prints_more a b (Some c) records prints before = lines_both a c b records (before c refl) prints

some_is : (a b : Option (List ℕ)) → Some a ≡ Some b → a ≡ b
some_is a b e = ap (λ (o : Option (Option (List ℕ))). unwrap_or o a) e

pub turns_print : (n : ℕ) (before after : ServiceSeen) (a b : Option (List ℕ)) → AreTurns n before after
    → before.devices.log.bytes ≡ Some a → after.devices.log.bytes ≡ Some b → PrintsLines a b
turns_print zero before after a b turning e f =
    let same : Some a ≡ Some b = sym e ∙ sym (ap (λ (t : ServiceSeen). t.devices.log.bytes) turning) ∙ f in
    subst (PrintsLines a) (some_is a b same) (record { records = []; written = Appends-nil a })
turns_print (suc n) before after a b (middle, turning, turn) e f =
    let last : turn.last.log.bytes ≡ Some b = sym (ap (λ (t : Told). t.log.bytes) turn.ends.others) ∙ f in
    let first : turn.first.devices.log.bytes ≡ middle.devices.log.bytes = ap (λ (t : Told). t.log.bytes) turn.begins.others
    ∙ ap (λ (t : Told). t.log.bytes) turn.begins.told_on ∙ ap (λ (t : Told). t.log.bytes) turn.begins.looked.others in
    let printed : Prints middle.devices.log.bytes (Some b) (gathered records_logged turn.served.done) =
    subst (λ bytes. Prints bytes (Some b) (gathered records_logged turn.served.done)) first
    (subst (λ bytes. Prints turn.first.devices.log.bytes bytes (gathered records_logged turn.served.done)) last turn.served.serves.told.printed) in
    prints_more a b middle.devices.log.bytes (gathered records_logged turn.served.done) printed (λ c g. turns_print n before middle a c turning e g)

pub prints_served : (address : Addr) (decided : List Record) (turns : ℕ) (before after : ServiceSeen) (empty ended written : Option (List ℕ))
    → Serves address decided turns before after empty ended → Appends ended written (turns_text turns) → PrintsServed address decided turns empty written
prints_served address decided turns before after empty ended written serves last =
    let lines = turns_print turns (printing_on serves.started before) (printing_on ended after) serves.started ended serves.are_turns refl refl in
    record {
      records = lines.records;
      written = Appends-trans empty ended written _ _ (Appends-trans empty serves.started ended _ _ serves.start lines.written) last;
    }
