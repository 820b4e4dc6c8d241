-- What holds where it is refused, from how far it came.
use Rattle.std.proofs.Common.{◌≡◌, ℕ, List, ◌∷◌, ◌++◌, Option, None, Some, sym, ◌∙◌, ap, subst, append-nil}
use Rattle.std.specs.Io.KnownBytes.{Keeps}
use Rattle.sip_config_types.specs.declared.config.Config.{Config}
use Rattle.sip_replay_script.specs.Devices.{WritesFront}
use Rattle.sipd_report.specs.declared.error.ReportError.{ReportError}
use Rattle.sipd_report.specs.declared.error.ReportError.TheVariants as errors
use Rattle.sipd_report.specs.Entries.{fronts_of}
use Rattle.sip_replay_script.specs.Lines.{Reading, pending, IsOver}
use Rattle.sipd_report.specs.Lines.{GivesFront}
use Rattle.sip_replay_script.proofs.Fronts.{front_none, front_all, front_second}
use Rattle.sipd_report.proofs.Fronts.{front_of_all, front_first}
use Rattle.sipd_report.proofs.Refused.{begins}
use Rattle.sipd_report.proofs.Reported.{GivesFronts, all_given}
use Rattle.sipd_expect.specs.LogSteps.{IsRefused, LineStops, StopsAtLine, WritesLines, WritesPart}
use Rattle.sipd_expect.specs.LogTelling.{line_text, lines_text, log_text}
use Rattle.sipd_expect.specs.declared.counts.Counts.{Counts}
use Rattle.sipd_expect.proofs.AskedAgain.{IsSoFar}
use Rattle.sipd_expect.proofs.Counting.{text_both}

text_cut : (config : Config) (bytes : List ℕ) (done rest : List (List ℕ)) → fronts_of bytes ≡ done ++ rest
    → log_text config bytes ≡ lines_text config done ++ lines_text config rest
text_cut config bytes done rest is = ap (lines_text config) is ∙ text_both config done rest

-- ---- what was written

part_none : (config : Config) (input before : Option (List ℕ)) → WritesPart config input before before
part_none config None before = tt
part_none config (Some bytes) before = front_none before (log_text config bytes)

lines_written : (config : Config) (a b before after : Option (List ℕ)) (t : Counts) → IsSoFar config a b before after t → WritesLines config a before after
lines_written config a b before after t h = record { lines = h.done; begins = begins a b h.done h.given; written = h.written }

part_lines : (config : Config) (a b before after : Option (List ℕ)) (t : Counts) → IsSoFar config a b before after t → WritesPart config a before after
part_lines config None b before after t h = tt
part_lines config (Some xs) b before after t h = by b h.given
  where
    by : (b : Option (List ℕ)) → GivesFronts (Some xs) b h.done → WritesFront before after (log_text config xs)
    by None given = absurd given
    by (Some ys) given =
        subst (λ l. WritesFront before after l) (sym (text_cut config xs h.done (fronts_of ys) given))
        (front_first before after (lines_text config h.done) (lines_text config (fronts_of ys)) (front_all before after (lines_text config h.done) h.written))

-- a front of what is told of the next line
part_line : (config : Config) (a before : Option (List ℕ)) (r s : Reading) (b c after end : Option (List ℕ)) (t : Counts) → IsSoFar config a (pending r b) before after t
    → StopsAtLine config r s b c after end → WritesPart config a before end
part_line config None before r s b c after end t h at = tt
part_line config (Some xs) before r s b c after end t h at = by (pending r b) (pending s c) h.given at.given.gives
  where
    by : (p n : Option (List ℕ)) → GivesFronts (Some xs) p h.done → GivesFront p n at.line → WritesFront before end (log_text config xs)
    by None n given gives = absurd given
    by (Some ys) None given gives = absurd gives
    by (Some ys) (Some zs) given gives =
        subst (λ l. WritesFront before end l) (sym (text_cut config xs h.done (at.line ∷ fronts_of zs) (given ∙ ap (λ l. h.done ++ l) gives)))
        (front_second before after end (lines_text config h.done) (line_text config at.line ++ lines_text config (fronts_of zs)) h.written
        (front_first after end (line_text config at.line) (lines_text config (fronts_of zs)) at.writes))

-- all of it, which wasn't handed on
part_ending : (config : Config) (a before after end : Option (List ℕ)) (r s : Reading) (b c : Option (List ℕ)) (t : Counts)
    → IsSoFar config a (pending r b) before after t
    → IsOver r s b c → Keeps after end → WritesPart config a before end
part_ending config None before after end r s b c t h over kept = tt
part_ending config (Some xs) before after end r s b c t h over kept =
    let all : h.done ≡ fronts_of xs = sym (all_given (Some xs) (pending r b) (pending s c) h.done h.given over.kept over.at_end ∙ append-nil h.done) in
    subst (λ l. WritesFront before end (lines_text config l)) all (front_of_all before after end (lines_text config h.done) h.written kept)

-- ---- refusals

pub refused_at_once : (config : Config) (a before : Option (List ℕ)) (F G : Type 0) → IsRefused config a before before F G errors.NoMemory
refused_at_once config a before F G = part_none config a before

pub refused_line : (config : Config) (a before : Option (List ℕ)) (r s : Reading) (b c after end : Option (List ℕ)) (t : Counts) (E F G : Type 0) (e : ReportError)
    → IsSoFar config a (pending r b) before after t → (E → F) → LineStops config r s b c after end E G e → IsRefused config a before end F G e
refused_line config a before r s b c after end t E F G errors.NoMemory h f is =
    subst (λ o. WritesPart config a before o) (sym is) (part_lines config a (pending r b) before after t h)
refused_line config a before r s b c after end t E F G errors.Read h f is =
    (subst (λ o. WritesLines config a before o) (sym is.0) (lines_written config a (pending r b) before after t h), f is.1)
refused_line config a before r s b c after end t E F G errors.Write h f at = (part_line config a before r s b c after end t h at.0, at.1)

pub refused_ending : (config : Config) (a before after end : Option (List ℕ)) (r s : Reading) (b c : Option (List ℕ)) (t : Counts) (F G : Type 0) (e : ReportError)
    → IsSoFar config a (pending r b) before after t → IsOver r s b c → Keeps after end → (e ≡ errors.Write) × G → IsRefused config a before end F G e
refused_ending config a before after end r s b c t F G e h over kept stops =
    subst (λ (x : ReportError). IsRefused config a before end F G x) (sym stops.0) (part_ending config a before after end r s b c t h over kept, stops.1)
