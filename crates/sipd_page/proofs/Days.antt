-- The lines and the calls of a day, step by step.
use Rattle.std.proofs.Common.{◌≡◌, ℕ, List, [], ◌∷◌, ◌++◌, append_assoc, append-nil, sym, ◌∙◌, ap}
use Rattle.std.specs.Prelude.{fold, map}
use Rattle.sip_audit.specs.declared.record.Record.{Record}
use Rattle.sip_audit.specs.Lines.{line_of}
use Rattle.sip_listener.specs.Heard.{Heard}
use Rattle.sip_days.specs.declared.call.Call.{Call}
use Rattle.sip_days.specs.Calls.{calls_of}
use Rattle.sip_days.specs.Hearing.{calls_with}
use Rattle.sipd_telling.specs.Onward.{HearsAll}
use Rattle.sipd_telling.specs.Records.{TellsFiles}
use Rattle.sipd_page.specs.declared.history.History.{History}
use Rattle.sipd_page.specs.Days.{day_lines}
use Rattle.sipd_page.specs.History.{AreOfHistory, HearsHistory, IsUntold, with_line}

folded : (records : List Record) (lines : List (List ℕ)) → fold with_line lines records ≡ lines ++ map line_of records
folded [] lines = sym (append-nil lines)
folded (r ∷ records) lines = folded records (with_line lines r) ∙ append_assoc lines (line_of r ∷ []) (map line_of records)

pub all_lines : (old new : History) (day : List Heard) → HearsAll HearsHistory old new day → new.lines ≡ old.lines ++ day_lines day
all_lines old new [] h = ap (λ (x : History). x.lines) h ∙ sym (append-nil old.lines)
all_lines old new (step ∷ day) h =
    let records : List Record = step.out.records in
    all_lines h.half new day h.others
    ∙ ap (λ (l : List (List ℕ)). l ++ day_lines day) (h.first.lines ∙ folded records old.lines)
    ∙ append_assoc old.lines (map line_of records) (day_lines day)

-- what a law says
abbrev pub CallsGrow : Type 0
CallsGrow = (day : List Heard) (step : Heard) → calls_of (day ++ step ∷ []) ≡ calls_with step.config.offset step.event step.out (calls_of day)

calls_on : CallsGrow → (earlier day : List Heard) (old new : History) → old.calls ≡ calls_of earlier → HearsAll HearsHistory old new day
    → new.calls ≡ calls_of (earlier ++ day)
calls_on grow earlier [] old new is h = ap (λ (x : History). x.calls) h ∙ is ∙ ap calls_of (sym (append-nil earlier))
calls_on grow earlier (step ∷ day) old new is h =
    calls_on grow (earlier ++ step ∷ []) day h.half new
    (h.first.calls ∙ ap (λ (l : List Call). calls_with step.config.offset step.event step.out l) is ∙ sym (grow earlier step)) h.others
    ∙ ap calls_of (append_assoc earlier (step ∷ []) day)

pub of_history : CallsGrow → (count : ℕ) (old new : History) → IsUntold old → TellsFiles HearsHistory count old new → AreOfHistory count new.lines new.calls
of_history grow count old new untold h = record {
  day = h.tells.day;
  reached = h.reached;
  says = h.tells.says;
  lines_are = all_lines old new h.tells.day h.tells.heard ∙ ap (λ (l : List (List ℕ)). l ++ day_lines h.tells.day) untold.lines;
  calls_are = calls_on grow [] h.tells.day old new untold.calls h.tells.heard;
}
