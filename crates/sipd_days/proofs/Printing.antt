-- What `calls`, `phones` and `now` print.
use Rattle.std.proofs.Common.{◌≡◌, ◌∙◌, ap, sym, subst, ℕ, Result, Ok, Err, List, [], ◌∷◌, ◌++◌, Option, None, append_assoc, append-nil}
use Rattle.std.specs.Prelude.{IsOk, OnOk, length, map, option_map, string_bytes}
use Rattle.std.specs.Io.KnownBytes.{Appends}
use Rattle.sip_days.specs.declared.call.Call.{Call}
use Rattle.sip_days.specs.Calls.{calls_of}
use Rattle.sip_days.specs.Hearing.{adds_calls, calls_with}
use Rattle.sip_listener.specs.Heard.{Heard}
use Rattle.sipd_arguments.specs.declared.call.CallsCall.{CallsCall}
use Rattle.sipd_arguments.specs.declared.call.TimeCall.{TimeCall}
use Rattle.sipd_calls.specs.declared.choice.CallFilter.{CallFilter}
use Rattle.sipd_calls.specs.declared.notation.Notation.{Notation}
use Rattle.sipd_exit.specs.declared.exit.Exit.{Exit}
use Rattle.sipd_record_files.specs.Named.{AreNamed}
use Rattle.sipd_days.specs.Choosing.{IsChoice, form_of}
use Rattle.sipd_report.specs.Said.{time_in}
use Rattle.sipd_days.specs.DayAt.{IsByClock}
use Rattle.sipd_days.specs.Days.{AreCallsOf, shown_text}
use Rattle.sipd_days.specs.Printed.{PrintsCalls, PrintsNames, PrintsTable}
use Rattle.sipd_telling.specs.Onward.{HearsAll}
use Rattle.sipd_telling.specs.Records.{TellsFiles}
use Rattle.sipd_days.specs.declared.day_at.DayTable.{DayTable}

-- ---- calls

-- what a law says of them
abbrev pub CallsGrow : Type 0
CallsGrow = (day : List Heard) (step : Heard) → calls_of (day ++ step ∷ []) ≡ calls_with step.config.offset step.event step.out (calls_of day)

calls_on : CallsGrow → (earlier day : List Heard) (old new : List Call) → old ≡ calls_of earlier → HearsAll adds_calls old new day
    → new ≡ calls_of (earlier ++ day)
calls_on grow earlier [] old new is h = h ∙ is ∙ ap calls_of (sym (append-nil earlier))
calls_on grow earlier (step ∷ day) old new is h =
    calls_on grow (earlier ++ step ∷ []) day h.half new
    (h.first ∙ ap (λ (l : List Call). calls_with step.config.offset step.event step.out l) is ∙ sym (grow earlier step)) h.others
    ∙ ap calls_of (append_assoc earlier (step ∷ []) day)

are_calls : CallsGrow → (count : ℕ) (old new : List Call) → old ≡ [] → TellsFiles adds_calls count old new → AreCallsOf count new
are_calls grow count old new empty h =
    record { day = h.tells.day; reached = h.reached; says = h.tells.says; calls_are = calls_on grow [] h.tells.day old new empty h.tells.heard }

told_then : {U : Type 0} (P : Type 0) (told : Result U Exit) → IsOk told → OnOk told P → P
told_then P (Ok x) is h = h
told_then P (Err e) is h = absurd (cc)

-- names, and then the calls of records
pub prints_calls : {X U : Type 0} → CallsGrow → (result : Result X Exit) (all : Result U Exit) (call : CallsCall) (form : Option Notation) (choice : CallFilter) (count : ℕ)
    (files : List (List ℕ)) (first calls : List Call) (old between new : Option (List ℕ)) → form ≡ form_of call.csv call.json → IsChoice call.chosen choice
    → AreNamed (map string_bytes call.records.items) files → length files ≡ count → PrintsNames form old between → first ≡ []
    → OnOk all (TellsFiles adds_calls count first calls) → OnOk result (Appends between new (shown_text form choice calls)) → OnOk result (IsOk all)
    → OnOk result (PrintsCalls call old new)
prints_calls grow (Ok x) all call form choice count files first calls old between new is chosen named many names empty told printed whole = record {
  choice = choice;
  between = between;
  chosen = chosen;
  names = subst (λ (f : Option Notation). PrintsNames f old between) is names;
  files = files;
  named = named;
  calls = calls;
  told = subst (λ (n : ℕ). AreCallsOf n calls) (sym many) (are_calls grow count first calls empty (told_then (TellsFiles adds_calls count first calls) all whole told));
  printed = subst (λ (f : Option Notation). Appends between new (shown_text f choice calls)) is printed;
}
prints_calls grow (Err e) all call form choice count files first calls old between new is chosen named many names empty told printed whole = tt

-- ---- a table

-- what is so however it ends
pub done : {X E : Type 0} (P : Type 0) (result : Result X E) → P → OnOk result P
done P (Ok x) h = h
done P (Err e) h = tt

pub prints_table : {X : Type 0} (result : Result X Exit) (table : DayTable) (call : TimeCall) (time : Option ℕ) (text : List ℕ) (end : Option Exit)
    (old new : Option (List ℕ)) → time ≡ time_in (option_map string_bytes call.at) → IsByClock table (form_of call.csv call.json) time text end
    → OnOk result (Appends old new text) → OnOk result (end ≡ None) → OnOk result (PrintsTable table call old new)
prints_table (Ok x) table call time text end old new is h printed whole = record {
  text = text;
  shown =
      subst (λ (t : Option ℕ). IsByClock table (form_of call.csv call.json) t text None) is
      (subst (λ (e : Option Exit). IsByClock table (form_of call.csv call.json) time text e) whole h);
  printed = printed;
}
prints_table (Err e) table call time text end old new is h printed whole = tt
