-- A step that answers nobody and brings no BYE changes no call.
use Rattle.std.proofs.Common.{◌≡◌, ℕ, ◌==◌, ◌&&◌, ◌||◌, Bool, true, false, cond, List, [], ◌∷◌, map, Option, None, Some, refl, sym, ◌∙◌, ap, ap₂}
use Rattle.std.specs.Prelude.{find, is_some}
use Rattle.std.specs.List.{list_any}
use Rattle.std.specs.Option.{option_and_then}
use Rattle.sip_dialog.specs.declared.dialog.DialogId.{DialogId}
use Rattle.sip_event.specs.declared.packet.Packet.{Packet}
use Rattle.sip_event.specs.declared.event.StepOut.{StepOut}
use Rattle.sip_model.specs.FinalAnswers.{begins_final, is_final_to}
use Rattle.sip_model.specs.steps_model.Step.{originals}
use Rattle.sip_days.specs.declared.call.Answer.{Answer}
use Rattle.sip_days.specs.declared.call.Ending.{Ending}
use Rattle.sip_days.specs.declared.call.Call.{Call}
use Rattle.sip_days.specs.Calls.{answer_at, answer_said, first_of, is_taken, said}
use Rattle.sip_days.specs.Hearing.{ended_of, ended_with, hears_with, is_final}

-- ---- no answer

final_of : (same branch begins : Bool) → (branch && begins) ≡ false → (same && branch && begins) ≡ false
final_of true true begins h = h
final_of true false begins h = refl
final_of false branch begins h = refl

first_false : (a b : Bool) → (a || b) ≡ false → a ≡ false
first_false true b h = absurd cc
first_false false b h = refl

second_false : (a b : Bool) → (a || b) ≡ false → b ≡ false
second_false true b h = absurd cc
second_false false b h = h

none_by : (b : Bool) (p : Packet) (found : Option Packet) → b ≡ false → found ≡ None → cond b (Some p) found ≡ None
none_by true p found h none = absurd cc
none_by false p found h none = none

none_found : (number : ℕ) (packets : List Packet) → list_any is_final packets ≡ false → find (is_final_to number) packets ≡ None
none_found number [] h = refl
none_found number (p ∷ packets) h =
    none_by (is_final_to number p) p (find (is_final_to number) packets)
    (final_of (p.ticket.datagram == number) (p.ticket.branch == 0) (begins_final p.bytes) (first_false (is_final p) (list_any is_final packets) h))
    (none_found number packets (second_false (is_final p) (list_any is_final packets) h))

no_answer : (number : ℕ) (out : StepOut) → list_any is_final (originals out.packets) ≡ false → answer_at number out ≡ None
no_answer number out h =
    ap (λ (found : Option Packet). option_and_then (λ (p : Packet). option_and_then (answer_said out.at) (said p.bytes)) found)
    (none_found number (originals out.packets) h)

-- ---- no end

first_alone : {X : Type 0} (x : Option X) → first_of x None ≡ x
first_alone None = refl
first_alone (Some x) = refl

no_end_with : (taken : Bool) (dialog : Option DialogId) (at : ℕ) (ending : Option Ending) → ended_with taken dialog at None ending ≡ ending
no_end_with taken dialog at (Some ending) = refl
no_end_with true None at None = refl
no_end_with true (Some id) at None = refl
no_end_with false dialog at None = refl

no_end : (answer : Option Answer) (at : ℕ) (ending : Option Ending) → ended_of answer at None ending ≡ ending
no_end None at ending = refl
no_end (Some answer) at ending = no_end_with (is_taken answer.status) answer.dialog at ending

-- ---- no change

abbrev with_both : Call → Option Answer → Option Ending → Call
with_both call answer ending = record call { answer = answer; ending = ending }

one_unchanged : (out : StepOut) → list_any is_final (originals out.packets) ≡ false → (call : Call) → hears_with None out call ≡ call
one_unchanged out h call =
    ap₂ (with_both call) (ap (first_of call.answer) (no_answer call.decision.number out h) ∙ first_alone call.answer) (no_end call.answer out.at call.ending)

all_unchanged : (out : StepOut) (calls : List Call) → list_any is_final (originals out.packets) ≡ false → map (hears_with None out) calls ≡ calls
all_unchanged out [] h = refl
all_unchanged out (call ∷ calls) h = ap₂ (λ (c : Call) (l : List Call). c ∷ l) (one_unchanged out h call) (all_unchanged out calls h)

pub none_changed : (bye : Option DialogId) (out : StepOut) (calls : List Call) → is_some bye ≡ false → list_any is_final (originals out.packets) ≡ false
    → calls ≡ map (hears_with bye out) calls
none_changed None out calls h k = sym (all_unchanged out calls k)
none_changed (Some id) out calls h k = absurd cc
