-- Why the next configuration of a record isn't read.
use Rattle.std.proofs.Common.{◌≡◌, ℕ, ◌+◌, List, ◌++◌, Option, None, Some, ◌∙◌, subst}
use Rattle.std.specs.Prelude.{IfSome}
use Rattle.std.specs.Io.KnownBytes.{Consumes}
use Rattle.sip_replay_script.specs.Lines.{Reading, pending}
use Rattle.sip_journal.specs.Configurations.{GivesConfiguration}
use Rattle.sip_segment_config.specs.Stops.{IsNext, ReadStops, TextStops}
use Rattle.sip_segment_config.specs.declared.stop.SegmentStop.{SegmentStop}
use Rattle.sip_segment_config.specs.declared.stop.SegmentStop.TheVariants as stops

pub next_bytes : (a b : Option (List ℕ)) (text : List ℕ) → Consumes a b text → IfSome a (λ bytes. (further : List ℕ) × (bytes ≡ text ++ further))
next_bytes None b text h = tt
next_bytes (Some xs) None text h = absurd h
next_bytes (Some xs) (Some ys) text h = (ys, h)

-- a configuration that is given comes next
pub is_next : (part rest : Reading) (before after : Option (List ℕ)) (text : List ℕ) → GivesConfiguration part rest before after text → IsNext (pending part before) text
is_next part rest before after text g = record { text = g.text; says = g.says; begins = next_bytes (pending part before) (pending rest after) g.text g.consumes }

-- what was read states none
text_stops : (longest : ℕ) (F : Type 0) (script : Option (List ℕ)) (lines first : ℕ) (text : List ℕ) (stop : SegmentStop) → first ≡ lines + 1 → IsNext script text
    → TextStops text first stop → ReadStops longest F script lines stop
text_stops longest F script lines first text stops.NoMemory is next h = tt
text_stops longest F script lines first text (stops.Damaged line) is next h = absurd h
text_stops longest F script lines first text (stops.Cut line) is next h = absurd h
text_stops longest F script lines first text stops.Read is next h = absurd h
text_stops longest F script lines first text (stops.TooLong line) is next h = absurd h
text_stops longest F script lines first text (stops.NoConfiguration line e) is next h = (record { configuration = text; next = next; is = h.0 }, h.1 ∙ is)
text_stops longest F script lines first text (stops.OtherFrame line key) is next h = absurd h

pub unstated_next : (longest : ℕ) (F : Type 0) (part rest : Reading) (before after : Option (List ℕ)) (lines first : ℕ) (bytes text : List ℕ) (stop : SegmentStop)
    → first ≡ lines + 1 → bytes ≡ text → GivesConfiguration part rest before after text → TextStops bytes first stop
    → ReadStops longest F (pending part before) lines stop
unstated_next longest F part rest before after lines first bytes text stop is same given h =
    text_stops longest F (pending part before) lines first text stop is (is_next part rest before after text given)
    (subst (λ (l : List ℕ). TextStops l first stop) same h)
