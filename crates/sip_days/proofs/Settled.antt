-- A call that no later step may change.
use Rattle.std.proofs.Common.{◌≡◌, ℕ, ◌&&◌, Bool, true, false, not, List, map, filter, Option, None, Some, refl, sym, ◌∙◌, ap, ap₂}
use Rattle.std.specs.Prelude.{is_some}
use Rattle.sip_dialog.specs.declared.dialog.DialogId.{DialogId}
use Rattle.sip_event.specs.declared.event.StepOut.{StepOut}
use Rattle.sip_days.specs.declared.call.Answer.{Answer}
use Rattle.sip_days.specs.declared.call.Ending.{Ending}
use Rattle.sip_days.specs.declared.call.Call.{Call}
use Rattle.sip_days.specs.Calls.{answer_at, first_of, is_taken}
use Rattle.sip_days.specs.Hearing.{ended_of, ended_with, hears_with}
use Rattle.sip_days.specs.Changing.{holds_at, is_open, may_change, places_from, with_each}
use Rattle.sip_days.proofs.Opened.{each_is_all, still}

abbrev with_both : Call → Option Answer → Option Ending → Call
with_both call answer ending = record call { answer = answer; ending = ending }

-- an end stays; and what wasn't taken, or has no dialog, gets none
end_stays : (taken : Bool) (dialog : Option DialogId) (at : ℕ) (bye : Option DialogId) (ending : Option Ending)
    → (taken && is_some dialog && not (is_some ending)) ≡ false → ended_with taken dialog at bye ending ≡ ending
end_stays taken dialog at bye (Some ending) h = refl
end_stays true None at bye None h = refl
end_stays true (Some id) at bye None h = absurd cc
end_stays false dialog at bye None h = refl

both_stay : (answer : Option Answer) (next : Option Answer) (at : ℕ) (bye : Option DialogId) (ending : Option Ending) → may_change answer ending ≡ false
    → (first_of answer next ≡ answer) × (ended_of answer at bye ending ≡ ending)
both_stay None next at bye ending h = absurd cc
both_stay (Some answer) next at bye ending h = (refl, end_stays (is_taken answer.status) answer.dialog at bye ending h)

stays : (bye : Option DialogId) (out : StepOut) (call : Call) → is_open call ≡ false → hears_with bye out call ≡ call
stays bye out call h =
    let both = both_stay call.answer (answer_at call.decision.number out) out.at bye call.ending h in
    ap₂ (with_both call) both.0 both.1

-- so it is enough to tell those that may change
pub told_all : (bye : Option DialogId) (out : StepOut) (places seen : List ℕ) (calls made : List Call) → places ≡ places_from is_open 0 calls → seen ≡ places
    → made ≡ with_each (hears_with bye out) seen calls → made ≡ map (hears_with bye out) calls
told_all bye out places seen calls made are same tells =
    tells
    ∙ ap (λ (ns : List ℕ). with_each (hears_with bye out) ns calls) (same ∙ are)
    ∙ each_is_all (hears_with bye out) is_open (stays bye out) calls

-- and to look which of them still may
pub left_open : (bye : Option DialogId) (out : StepOut) (places seen looked left : List ℕ) (calls made shown : List Call)
    → places ≡ places_from is_open 0 calls → seen ≡ places → looked ≡ places → shown ≡ made → made ≡ with_each (hears_with bye out) seen calls
    → left ≡ filter (holds_at is_open shown) looked → left ≡ places_from is_open 0 made
left_open bye out places seen looked left calls made shown are same again shows tells keeps =
    let all : made ≡ map (hears_with bye out) calls = told_all bye out places seen calls made are same tells in
    keeps
    ∙ ap (filter (holds_at is_open shown)) (again ∙ are)
    ∙ ap (λ (l : List Call). filter (holds_at is_open l) (places_from is_open 0 calls)) (shows ∙ all)
    ∙ still (hears_with bye out) is_open (stays bye out) calls
    ∙ ap (places_from is_open 0) (sym all)
