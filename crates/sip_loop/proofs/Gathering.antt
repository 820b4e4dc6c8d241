-- What doings are made of, piece behind piece.
use Rattle.std.proofs.Common.{Bool, true, false, cond, ◌≡◌, ℕ, List, [], ◌∷◌, ◌++◌, length, Option, None, Some, refl, sym, ◌∙◌, ap, subst, append-nil, append_assoc}
use Rattle.std.specs.Prelude.{nat_lt}
use Rattle.rand_core.specs.Stream.{Stream}
use Rattle.sip_event.specs.declared.event.StepOut.{StepOut}
use Rattle.std.proofs.lemmas.Grind.{flat_map-append}
use Rattle.sip_audit.specs.declared.record.Record.{Record}
use Rattle.sip_transport.specs.declared.datagram.Given.{Given}
use Rattle.sip_transport.specs.declared.datagram.HeardDatagram.{HeardDatagram}
use Rattle.sip_transport.specs.Told.{and_counted, and_then, most}
use Rattle.sip_event.specs.declared.event.Event.{Event}
use Rattle.sip_journal.specs.Record.{Notes}
use Rattle.sip_loop.specs.Printing.{Prints}
use Rattle.sip_loop.proofs.Noted.{notes_nothing, notes_both, notes_untold}
use Rattle.sip_loop.proofs.Printed.{prints_nothing, prints_both}
use Rattle.sip_loop.specs.Serving.{AreDrawn, AreTold, Arrival, Doing, IsPath, IsToldMore, Kept, Point, Silence, Told, Turn, ahead, behind_word, event_told, gathered}
use Rattle.sip_loop.specs.Serving.{heard_then, moment_read, packet_given, packets_of, records_logged, records_of, told_by, told_more, turn_asked}

-- ---- lists

pub gathered_behind : {A : Type 0} (adds : Doing → List A) (more done : List Doing) → gathered adds (more ++ done) ≡ gathered adds done ++ gathered adds more
gathered_behind adds [] done = sym (append-nil (gathered adds done))
gathered_behind adds (doing ∷ more) done = ap (λ l. l ++ adds doing) (gathered_behind adds more done)
    ∙ append_assoc (gathered adds done) (gathered adds more) (adds doing)

pub ahead_behind : (more done : List Doing) → ahead done ≡ None → ahead (more ++ done) ≡ ahead more
ahead_behind [] done h = h
ahead_behind (doing ∷ more) done h = refl

pub path_on : (first middle last : Point) (done more : List Doing) → IsPath first done middle → IsPath middle more last → IsPath first (more ++ done) last
path_on first middle last done [] h k = subst (λ (p : Point). IsPath first done p) (sym k) h
path_on first middle last done (doing ∷ more) h k = (k.0, path_on first middle k.0 done more h k.1, k.2)

pub records_both : (first second : List StepOut) → records_of (first ++ second) ≡ records_of first ++ records_of second
records_both first second = flat_map-append (λ (out : StepOut). out.records) first second

pub packets_both : (first second : List StepOut) → packets_of (first ++ second) ≡ packets_of first ++ packets_of second
packets_both first second = flat_map-append (λ (out : StepOut). out.packets) first second

-- ---- what is told

pub told_both : {A : Type 0} (o : Option (List A)) (first second : List A) → told_more (told_more o first) second ≡ told_more o (first ++ second)
told_both None first second = refl
told_both (Some l) first second = ap Some (append_assoc l first second)

pub told_none : {A : Type 0} (o : Option (List A)) → o ≡ told_more o []
told_none None = refl
told_none (Some l) = ap Some (sym (append-nil l))

-- what is told of one call
pub told_one : {A : Type 0} (o : Option (List A)) (x : A) → and_then o x ≡ told_more o (x ∷ [])
told_one None x = refl
told_one (Some l) x = refl

told_if_both : {A : Type 0} (before middle after : Option (List A)) (first second : List A) → IsToldMore before first middle → IsToldMore middle second after
    → IsToldMore before (first ++ second) after
told_if_both before middle None first second h1 h2 = tt
told_if_both before None (Some c) first second h1 h2 = absurd h2
told_if_both None (Some b) (Some c) first second h1 h2 = absurd h1
told_if_both (Some a) (Some b) (Some c) first second h1 h2 = h2 ∙ ap (λ l. l ++ second) h1 ∙ append_assoc a first second

pub told_if_none : {A : Type 0} (o : Option (List A)) → IsToldMore o [] o
told_if_none None = tt
told_if_none (Some a) = sym (append-nil a)

-- a reading more
pub told_reading : (before after : Option (List ℕ)) (at : ℕ) → after ≡ and_counted before at → IsToldMore before (at ∷ []) after
told_reading before None at e = tt
told_reading None (Some c) at e = absurd (cc)
told_reading (Some a) (Some c) at e = by_test (nat_lt (length a) most) e where
  by_test : (t : Bool) → Some c ≡ cond {A = Option (List ℕ)} t (Some (a ++ at ∷ [])) None → c ≡ a ++ at ∷ []
  by_test true e = cc
  by_test false e = absurd (cc)

drawn_both : (first second : List Turn) (words middle left : Stream) → AreDrawn words first middle → AreDrawn middle second left → AreDrawn words (first ++ second) left
drawn_both [] second words middle left h1 h2 = subst (λ (w : Stream). AreDrawn w second left) h1 h2
drawn_both (Silence at ∷ first) second words middle left h1 h2 = drawn_both first second words middle left h1 h2
drawn_both (Arrival at heard word ∷ first) second words middle left h1 h2 = (h1.0, drawn_both first second (behind_word words) middle left h1.1 h2)

pub told_nothing : (t : Told) → AreTold t t []
told_nothing t = record {
  heard = told_none t.heard;
  given = told_none t.given;
  readings = told_if_none t.readings;
  words = refl;
  noted = notes_nothing t.journal.bytes;
  printed = prints_nothing t.log.bytes;
}

-- a journal that failed tells nothing
pub told_failed : (h : Option (List (Option HeardDatagram))) (g : Option (List Given)) (r : Option (List ℕ)) (w w2 l : Kept) (ws : Stream) → w2.bytes ≡ None
    → AreTold (told_by h g r w l ws) (told_by h g r w2 l ws) []
told_failed h g r w w2 l ws none = record {
  heard = told_none h;
  given = told_none g;
  readings = told_if_none r;
  words = refl;
  noted = notes_untold w.bytes w2.bytes [] none;
  printed = prints_nothing l.bytes;
}

pub told_on : (before middle after : Told) (done more : List Doing) → AreTold before middle done → AreTold middle after more → AreTold before after (more ++ done)
told_on before middle after done more h k = record {
  heard =
      k.heard ∙ ap (λ o. told_more o (gathered heard_then more)) h.heard ∙ told_both before.heard (gathered heard_then done) (gathered heard_then more)
      ∙ ap (told_more before.heard) (sym (gathered_behind heard_then more done));
  given =
      k.given ∙ ap (λ o. told_more o (gathered packet_given more)) h.given ∙ told_both before.given (gathered packet_given done) (gathered packet_given more)
      ∙ ap (told_more before.given) (sym (gathered_behind packet_given more done));
  readings =
      subst (λ (l : List ℕ). IsToldMore before.readings l after.readings) (sym (gathered_behind moment_read more done))
      (told_if_both before.readings middle.readings after.readings (gathered moment_read done) (gathered moment_read more) h.readings k.readings);
  words =
      subst (λ (l : List Turn). AreDrawn before.words l after.words) (sym (gathered_behind turn_asked more done))
      (drawn_both (gathered turn_asked done) (gathered turn_asked more) before.words middle.words after.words h.words k.words);
  noted =
      subst (λ (l : List Event). Notes before.journal.bytes after.journal.bytes l) (sym (gathered_behind event_told more done))
      (notes_both before.journal.bytes middle.journal.bytes after.journal.bytes (gathered event_told done) (gathered event_told more) h.noted k.noted);
  printed =
      subst (λ (l : List Record). Prints before.log.bytes after.log.bytes l) (sym (gathered_behind records_logged more done))
      (prints_both before.log.bytes middle.log.bytes after.log.bytes (gathered records_logged done) (gathered records_logged more) h.printed k.printed);
}
