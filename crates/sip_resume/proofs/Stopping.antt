-- Why the next configuration of a record isn't taken.
use Rattle.std.proofs.Common.{◌≡◌, ℕ, ◌+◌, List, Option, None, Some, Result, Err, refl, sym, ◌∙◌, subst}
use Rattle.std.specs.Prelude.{IfErr, IfSome}
use Rattle.sip_config.specs.Stated.{States}
use Rattle.sip_config_types.specs.declared.config.Config.{Config}
use Rattle.sip_config_change.specs.declared.key.FrameKey.{FrameKey}
use Rattle.sip_run.specs.engine.declared.change_error.ChangeError.{ChangeError}
use Rattle.sip_run.specs.engine.declared.change_error.ChangeError.TheVariants as changes
use Rattle.sip_run.specs.engine.state.declared.server.Server.{Server}
use Rattle.sip_segment_config.specs.Stops.{IsNext, ReadStops}
use Rattle.sip_segment_config.specs.declared.stop.SegmentStop.{SegmentStop}
use Rattle.sip_segment_config.specs.declared.stop.SegmentStop.TheVariants as stops
use Rattle.sip_resume.specs.Stops.{ChangeStops, SegmentStops}

-- the key of a refusal is the first that differs
pub other_key : (result : Result (Unit {0}) ChangeError) (found : Option FrameKey) (key : FrameKey) → result ≡ Err (changes.OtherFrame key)
    → IfSome found (λ first. result ≡ Err (changes.OtherFrame first))
    → (found ≡ None → IfErr result (λ e. e ≡ changes.NoMemory)) → found ≡ Some key
other_key result None key is h other =
    let none : changes.OtherFrame key ≡ changes.NoMemory = subst (λ (x : Result (Unit {0}) ChangeError). IfErr x (λ e. e ≡ changes.NoMemory)) is (other refl) in
    absurd (cc)
other_key result (Some first) key is h other =
    let same = sym h ∙ is in cc

-- what isn't read isn't taken
pub unread_stops : (server : Server) (longest : ℕ) (F : Type 0) (script : Option (List ℕ)) (lines : ℕ) (stop : SegmentStop) → ReadStops longest F script lines stop
    → SegmentStops server longest F script lines stop
unread_stops server longest F script lines stops.NoMemory h = tt
unread_stops server longest F script lines (stops.Damaged line) h = h
unread_stops server longest F script lines (stops.Cut line) h = h
unread_stops server longest F script lines stops.Read h = h
unread_stops server longest F script lines (stops.TooLong line) h = h
unread_stops server longest F script lines (stops.NoConfiguration line e) h = h
unread_stops server longest F script lines (stops.OtherFrame line key) h = absurd h

-- what is another server's isn't
pub change_stops : (server : Server) (longest : ℕ) (F : Type 0) (script : Option (List ℕ)) (lines first : ℕ) (text : List ℕ) (config : Config) (stop : SegmentStop)
    → first ≡ lines + 1 → IsNext script text → States text config
    → ChangeStops server config first stop → SegmentStops server longest F script lines stop
change_stops server longest F script lines first text config stops.NoMemory is next states h = tt
change_stops server longest F script lines first text config (stops.Damaged line) is next states h = absurd h
change_stops server longest F script lines first text config (stops.Cut line) is next states h = absurd h
change_stops server longest F script lines first text config stops.Read is next states h = absurd h
change_stops server longest F script lines first text config (stops.TooLong line) is next states h = absurd h
change_stops server longest F script lines first text config (stops.NoConfiguration line e) is next states h = absurd h
change_stops server longest F script lines first text config (stops.OtherFrame line key) is next states h =
    (record { configuration = text; next = next; is = record { config = config; states = states; other = h.0 } }, h.1 ∙ is)
