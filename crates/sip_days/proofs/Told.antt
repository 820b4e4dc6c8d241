-- What one more step tells of a call, and the calls that it begins.
use Rattle.std.proofs.Common.{◌≡◌, ℕ, ◌+◌, ◌<◌, ℤ, Bool, true, false, cond, List, [], ◌∷◌, ◌++◌, length, map, get_or, take, Option, None, Some, refl, sym, ◌∙◌}
use Rattle.std.proofs.Common.{ap, ap₂, append_assoc, append-nil}
use Rattle.std.specs.Prelude.{filter, is_some}
use Rattle.std.specs.List.{flat_map}
use Rattle.std.proofs.lemmas.Grind.{flat_map-append}
use Rattle.std.proofs.lemmas.List.{take_more}
use Rattle.sip_dialog.specs.declared.dialog.DialogId.{DialogId}
use Rattle.sip_audit.specs.declared.record.Record.{Record}
use Rattle.sip_event.specs.declared.event.Event.{Event}
use Rattle.sip_event.specs.declared.event.StepOut.{StepOut}
use Rattle.sip_days.specs.declared.call.Answer.{Answer}
use Rattle.sip_days.specs.declared.call.Ending.{Ending}
use Rattle.sip_days.specs.declared.call.Call.{Call}
use Rattle.sip_days.specs.Calls.{answer_at, bye_by, first_of, is_invite}
use Rattle.sip_days.specs.Hearing.{begun_by, calls_with, ended_of, hears_with}
use Rattle.sip_days.specs.Begun.{begun_if}

-- ---- a call

abbrev with_both : Call → Option Answer → Option Ending → Call
with_both call answer ending = record call { answer = answer; ending = ending }

first_there : (answer other : Option Answer) → is_some answer ≡ true → answer ≡ first_of answer other
first_there None other h = absurd cc
first_there (Some answer) other h = refl

first_missing : (answer other now : Option Answer) → is_some answer ≡ false → now ≡ other → now ≡ first_of answer other
first_missing None other now h is = is
first_missing (Some answer) other now h is = absurd cc

-- one that was answered before
pub answered_before : (call : Call) (bye : Option DialogId) (out : StepOut) (ending : Option Ending) → is_some call.answer ≡ true
    → ending ≡ ended_of call.answer out.at bye call.ending → record call { ending = ending } ≡ hears_with bye out call
answered_before call bye out ending there is = ap₂ (with_both call) (first_there call.answer (answer_at call.decision.number out) there) is

-- and one that wasn't
pub answered_now : (call : Call) (bye : Option DialogId) (out : StepOut) (answer : Option Answer) (ending : Option Ending) → is_some call.answer ≡ false
    → answer ≡ answer_at call.decision.number out → ending ≡ ended_of call.answer out.at bye call.ending
    → record call { answer = answer; ending = ending } ≡ hears_with bye out call
answered_now call bye out answer ending missing now is =
    ap₂ (with_both call) (first_missing call.answer (answer_at call.decision.number out) answer missing now) is

-- ---- those that begin

begun_one : (offset : ℤ) (event : Option Event) (out : StepOut) (r : Record) (records : List Record) (is : Bool)
    → flat_map (begun_if offset event out) records ≡ map (begun_by offset event out) (filter is_invite records)
    → cond is (begun_by offset event out r ∷ []) [] ++ flat_map (begun_if offset event out) records
    ≡ map (begun_by offset event out) (cond is (r ∷ filter is_invite records) (filter is_invite records))
begun_one offset event out r records true h = ap (λ (calls : List Call). begun_by offset event out r ∷ calls) h
begun_one offset event out r records false h = h

pub all_begun : (offset : ℤ) (event : Option Event) (out : StepOut) (records : List Record)
    → flat_map (begun_if offset event out) records ≡ map (begun_by offset event out) (filter is_invite records)
all_begun offset event out [] = refl
all_begun offset event out (r ∷ records) = begun_one offset event out r records (is_invite r) (all_begun offset event out records)

-- those of one record more stand behind those of the records before it
pub added : {X Y : Type 0} (f : X → List Y) (xs : List X) (i : ℕ) (x : X) (old before after : List Y) → i < length xs → x ≡ get_or xs i x
    → before ≡ old ++ flat_map f (take i xs) → after ≡ before ++ f x → after ≡ old ++ flat_map f (take (i + 1) xs)
added {X} {Y} f xs i x old before after lt is h1 h2 =
    let same : flat_map f (take (i + 1) xs) ≡ flat_map f (take i xs) ++ f x =
    ap (flat_map f) (take_more xs i x lt) ∙ flat_map-append f (take i xs) (get_or xs i x ∷ []) ∙ ap (λ l. flat_map f (take i xs) ++ l) (append-nil (f (get_or xs i x)))
    ∙ ap (λ y. flat_map f (take i xs) ++ f y) (sym is) in
    h2 ∙ ap (λ (calls : List Y). calls ++ f x) h1 ∙ append_assoc old (flat_map f (take i xs)) (f x) ∙ ap (λ (calls : List Y). old ++ calls) (sym same)

-- ---- a step

-- calls that were told of a step, and those that begin with it
pub calls_told : (offset : ℤ) (event : Option Event) (out : StepOut) (bye : Option DialogId) (records : List Record) (old told new : List Call)
    → bye ≡ bye_by out event → told ≡ map (hears_with bye out) old → records ≡ out.records
    → new ≡ told ++ map (begun_by offset event out) (filter is_invite records) → new ≡ calls_with offset event out old
calls_told offset event out bye records old told new brings tells are begins =
    begins
    ∙ ap (λ (calls : List Call). calls ++ map (begun_by offset event out) (filter is_invite records)) tells
    ∙ ap (λ (named : Option DialogId). map (hears_with named out) old ++ map (begun_by offset event out) (filter is_invite records)) brings
    ∙ ap (λ (rs : List Record). map (hears_with (bye_by out event) out) old ++ map (begun_by offset event out) (filter is_invite rs)) are
