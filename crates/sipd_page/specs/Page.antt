-- The page of recorded days. What a file holds no clause can say: for whatever the files hold, it is the page of these.
use Rattle.std.specs.Prelude.{◌≡◌, ℕ, ℤ, Bool, true, false, List, [], ◌∷◌, ◌++◌, length, map, codes, is_some, string_bytes, Option, None, Some}
use Rattle.std.specs.Borrow.{Bor}
use Rattle.std.specs.Io.KnownBytes.{Appends}
use Rattle.sip_config_types.specs.declared.config.Config.{Config}
use Rattle.sip_journal.specs.declared.record_head.RecordHead.{RecordHead}
use Rattle.sip_days.specs.declared.call.Call.{Call}
use Rattle.sipd_arguments.specs.declared.call.PageCall.{PageCall}
use Rattle.sipd_calls.specs.Program.{objects_text}
use Rattle.sipd_calls.specs.declared.notation.Notation.TheVariants.{Html}
use Rattle.sipd_exit.specs.declared.files.Stated.{Stated}
use Rattle.sipd_record_files.specs.Named.{AreNamed}
use Rattle.sipd_days.specs.PrintedSources.{WereSources, every_datagram}
use Rattle.sipd_telling.specs.Records.{TellsRecord}
use Rattle.sipd_page_sections.specs.declared.notes.Notes.{Notes}
use Rattle.sipd_page.specs.History.{AreOfHistory, every_call}
use Rattle.sipd_page_sections.specs.Log.{log_lines, verdict_text}
use Rattle.sipd_page_sections.specs.Notes.{AreFresh, hears_notes}
use Rattle.sipd_page_sections.specs.Sections.{calls_table, policy_by, section_text}

-- ---- a record

-- a record whose first line says this head was told to its end, under a configuration that is in force there
pub record TellsTo (head : RecordHead) (old new : Notes) (config : Config) : Type 0 where
  pub named : Option (Bor Stated)
  pub behind : Option (List ℕ)
  pub day : TellsRecord hears_notes head named behind old new
  pub config_is : config ≡ day.server_then.config

-- with the policy of that, how far its clock is ahead of UTC, and the digest of the configuration with which the record begins
pub record WasTold (old new : Notes) (policy : List ℕ) (offset : ℤ) (digest : List ℕ) : Type 0 where
  pub head : RecordHead
  pub config : Config
  pub told : TellsTo head old new config
  pub policy_is : policy ≡ policy_by config
  pub offset_is : offset ≡ config.offset
  pub digest_is : digest ≡ head.digest

-- what the page says of the record in a file was added, beside the rows of its addresses
pub record AddsTold (path sources old new : List ℕ) : Type 0 where
  pub fresh : Notes
  pub begins : AreFresh fresh
  pub notes : Notes
  pub policy : List ℕ
  pub offset : ℤ
  pub digest : List ℕ
  pub told : WasTold fresh notes policy offset digest
  pub sealed : Option (List ℕ)
  pub written : new ≡ old ++ section_text path digest sealed policy offset sources notes

-- all that it says of it
pub record AddsSection (path old new : List ℕ) : Type 0 where
  pub sources : List ℕ
  pub were_sources : WereSources (Some Html) every_datagram sources
  pub section : AddsTold path sources old new

-- one in front of others
pub record AddsFirst (AddsOne AddsOthers : List ℕ → Type 0) : Type 0 where
  pub text : List ℕ
  pub first : AddsOne text
  pub others : AddsOthers text

-- of files, one behind the other
abbrev pub AddsSections : List (List ℕ) → List ℕ → List ℕ → Type 0
AddsSections [] old new = new ≡ old
AddsSections (path ∷ paths) old new = AddsFirst (λ text. AddsSection path old text) (λ text. AddsSections paths text new)

-- ---- the whole

-- what stands before all texts: that nothing may be loaded or run, and how it looks
unfoldable pub page_begin : List ℕ
page_begin =
    codes "<!DOCTYPE html>\n<html lang=\"en\">\n<head>\n<meta charset=\"utf-8\">\n"
    ++ codes "<meta http-equiv=\"Content-Security-Policy\" content=\"default-src 'none'; style-src 'unsafe-inline'\">\n"
    ++ codes "<title>Recorded days</title>\n<style>\n"
    ++ codes "body { font: 14px/1.45 sans-serif; margin: 2em auto; max-width: 82em; padding: 0 1em; color: #1f2328; }\n"
    ++ codes "h2 { border-bottom: 1px solid #888; margin-top: 2em; word-break: break-all; }\n"
    ++ codes "table { border-collapse: collapse; font-size: 13px; }\n"
    ++ codes "th, td { border: 1px solid #d0d7de; padding: 0.2em 0.6em; text-align: left; }\n"
    ++ codes "td.n { text-align: right; }\npre, code { font-size: 12px; }\npre { white-space: pre-wrap; word-break: break-all; }\n"
    ++ codes ".allow, .via { background: #d8f0d8; }\n.deny { background: #f4d0d0; }\n"
    ++ codes ".challenge { background: #f8f0c8; }\n.nobody { background: #e0e0e0; }\np.allow, p.deny { padding: 0.6em 1em; font-weight: bold; }\n"
    ++ codes "svg { max-width: 100%; height: auto; }\nsvg text { font-size: 11px; fill: #57606a; }\nsvg text.end { text-anchor: end; }\n"
    ++ codes "svg path { fill: none; stroke: #d0d7de; }\nsvg path.live { stroke: #0969da; stroke-width: 1.5; }\n"
    ++ codes "</style>\n</head>\n<body>\n<h1>Recorded days</h1>\n"

-- whether a log comes out of the records again, if one is held against them
abbrev pub log_text : Option (List (List ℕ)) → List (List ℕ) → List ℕ
log_text None lines = codes "<p>No log was held against the records.</p>\n"
log_text (Some log) lines = verdict_text log lines

abbrev pub page_text : Option (List (List ℕ)) → List (List ℕ) → List ℕ → List ℕ → List ℕ
page_text log lines calls body = page_begin ++ log_text log lines ++ calls_table calls ++ body ++ codes "</body>\n</html>\n"

-- the page of what is kept
abbrev pub page_by : Option (List (List ℕ)) → List (List ℕ) → List Call → List ℕ → List ℕ
page_by log lines calls body = page_text log lines (objects_text Html every_call calls) body

-- they are the lines of some log
pub record AreLines (lines : List (List ℕ)) : Type 0 where
  pub log : List ℕ
  pub lines_are : lines ≡ log_lines log

-- where one is held against the records
abbrev pub IsLog : Bool → Option (List (List ℕ)) → Type 0
IsLog held None = held ≡ false
IsLog held (Some lines) = (held ≡ true) × AreLines lines

-- the page of records in files, against which a log is held, if there is one
pub record IsPageOver (log : Option (List (List ℕ))) (files : List (List ℕ)) (text : List ℕ) : Type 0 where
  pub lines : List (List ℕ)
  pub calls : List Call
  pub told : AreOfHistory (length files) lines calls
  pub body : List ℕ
  pub sections : AddsSections files [] body
  pub text_is : text ≡ page_by log lines calls body

-- the page that is asked for, of the files that its paths name
pub record IsPageOf (call : PageCall) (text : List ℕ) : Type 0 where
  pub log : Option (List (List ℕ))
  pub is_log : IsLog (is_some call.log) log
  pub files : List (List ℕ)
  pub named : AreNamed (map string_bytes call.records.items) files
  pub page : IsPageOver log files text

-- it was printed
pub record PrintsPage (call : PageCall) (old new : Option (List ℕ)) : Type 0 where
  pub text : List ℕ
  pub page : IsPageOf call text
  pub printed : Appends old new text
