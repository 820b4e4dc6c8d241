-- A record told up to a moment.
use Rattle.std.proofs.Common.{◌≡◌, inr, refl, sym, subst, ℕ, Result, Ok, Err, List, [], Option, Some}
use Rattle.std.specs.Prelude.{IfErr, OnOk, unwrap_or}
use Rattle.sip_model.specs.state.declared.server.Server.{Server}
use Rattle.sip_model.specs.TimerOrder.{Standing}
use Rattle.sip_listener.specs.Heard.{Heard}
use Rattle.sipd_telling.specs.retell.Retells.{RunsTold}
use Rattle.sipd_exit.specs.declared.exit.Exit.{Exit}
use Rattle.sipd_days.specs.Standing.{IsStood, IsUnpassedThen, IsUnstood, StandsThere}
use Rattle.sipd_telling.specs.Tellings.{IsToldOn, IsUnpassed}

module _ {L : Type 0} (hears refuses : L → Heard → L → Type 0) (server : Server) (old new : Standing) (record_bytes : Option (List ℕ)) (lines : ℕ)
    (heard heard_then : L) where
  -- ---- up to a moment

  stood_at : (half_server server_then : Server) (half : Standing) (at : ℕ) (heard_half : L) → server_then ≡ half_server
      → IsToldOn hears server half_server old half record_bytes lines (Some at) heard heard_half
      → RunsTold hears half_server half new [] (Some at) heard_half heard_then
      → IsStood hears server server_then old new record_bytes lines (Some at) heard heard_then
  stood_at half_server server_then half at heard_half is told passed =
      subst (λ (s : Server). IsStood hears server s old new record_bytes lines (Some at) heard heard_then) (sym is) (record {
        half = half;
        heard_half = heard_half;
        later = passed.runs.history;
        told = told;
        passes = record { runs = passed.runs; history_is = refl };
        told_later = passed.told;
      })

  -- where time passed up to it
  pub all_told : {X : Type 0} (result : Result X Exit) (half_server server_then : Server) (half : Standing) (at : ℕ) (heard_half : L) → server_then ≡ half_server
      → IsToldOn hears server half_server old half record_bytes lines (Some at) heard heard_half
      → OnOk result (RunsTold hears half_server half new [] (Some at) heard_half heard_then)
      → OnOk result (IsStood hears server server_then old new record_bytes lines (Some at) heard heard_then)
  all_told (Ok x) half_server server_then half at heard_half is told passed = stood_at half_server server_then half at heard_half is told passed
  all_told (Err e) half_server server_then half at heard_half is told passed = tt

  -- where it didn't
  pub not_passed : {X : Type 0} (result : Result X Exit) (half_server server_then : Server) (half : Standing) (at : ℕ) (heard_half : L) (spent gave_up : Type 0)
      → server_then ≡ half_server → IsToldOn hears server half_server old half record_bytes lines (Some at) heard heard_half
      → IfErr result (IsUnpassed hears refuses half_server half new at heard_half heard_then gave_up)
      → IfErr result (IsUnstood hears refuses server server_then old new spent record_bytes lines (Some at) heard heard_then gave_up)
  not_passed (Ok x) half_server server_then half at heard_half spent gave_up is told h = tt
  not_passed (Err e) half_server server_then half at heard_half spent gave_up is told h =
      inr (subst (λ (s : Server). IsUnpassedThen hears refuses server s old new record_bytes lines at heard heard_then gave_up e) (sym is)
      (record { half = half; heard_half = heard_half; told = told; unpassed = h }))

  -- ---- up to a time

  pub there : (server_then : Server) (at asked : Option ℕ) (moment : ℕ) → at ≡ asked
      → IsStood hears server server_then old new record_bytes lines at heard heard_then → moment ≡ unwrap_or at new.state.moment
      → StandsThere hears server server_then old new record_bytes lines asked heard heard_then moment
  there server_then at asked moment is h same =
      subst (λ (a : Option ℕ). StandsThere hears server server_then old new record_bytes lines a heard heard_then moment) is
      (record { stood = h; moment_is = same })
