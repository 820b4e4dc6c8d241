-- What the page says of a record.
use Rattle.std.specs.Prelude.{ℕ, ℤ, List, ◌++◌, codes, Option, None, Some, unwrap_or}
use Rattle.std.specs.List.{flat_map}
use Rattle.hex.specs.Hex.{encode_lower}
use Rattle.sip_policy.specs.declared.operation.Operation.{Operation}
use Rattle.sip_config_types.specs.declared.config.Config.{Config}
use Rattle.sipd_report.specs.Html.{escaped}
use Rattle.sipd_matrix_forms.specs.declared.html.Level.TheVariants.{Section}
use Rattle.sipd_matrix_forms.specs.Html.{policy_text}
use Rattle.sipd_calls.specs.Notation.{Number, Words, end_text, first_text, further_text}
use Rattle.sipd_calls.specs.Program.{names_text}
use Rattle.sipd_calls.specs.declared.notation.Notation.TheVariants.{Html}
use Rattle.sipd_sources.specs.Program.{columns}
use Rattle.sipd_page_sections.specs.declared.entries.Entry.{Entry}
use Rattle.sipd_page_sections.specs.declared.notes.Notes.{Notes}
use Rattle.sipd_page_sections.specs.Picture.{picture_text}

-- the policy of a configuration for an INVITE, under headings of a section
abbrev pub policy_by : Config → List ℕ
policy_by config = policy_text Section config (Operation.Send (codes "INVITE"))

-- which record it is
abbrev pub heading : List ℕ → List ℕ
heading path = codes "<h2>" ++ escaped path ++ codes "</h2>\n"

-- what is known of it, behind its name
abbrev pub value_cell : List ℕ → List ℕ
value_cell value = codes "</th><td><code>" ++ escaped value ++ codes "</code></td></tr>\n"

abbrev pub fact : List ℕ → List ℕ → List ℕ
fact name value = codes "<tr><th>" ++ name ++ value_cell value

-- the digest of its end, where that is sealed
abbrev pub sealed_fact : Option (List ℕ) → List ℕ
sealed_fact None = fact (codes "SHA-256 up to its last seal") (codes "none: its end is not sealed")
sealed_fact (Some digest) = fact (codes "SHA-256 up to its last seal") (encode_lower digest)

abbrev pub facts : List ℕ → Option (List ℕ) → List ℕ
facts digest sealed =
    codes "<table>\n" ++ sealed_fact sealed ++ fact (codes "SHA-256 of the configuration with which it begins") (encode_lower digest) ++ codes "</table>\n"

-- a table of rows under its name and the names of its columns
abbrev pub table_end : List ℕ
table_end = codes "</table>\n"

abbrev pub table : List ℕ → List ℕ → List ℕ → List ℕ
table name names rows = codes "<h3>" ++ name ++ codes "</h3>\n<table>\n" ++ (names ++ rows ++ table_end)

-- how many requests a rule denied; 0 is no rule
abbrev pub denial_row : Entry → List ℕ
denial_row row = first_text Html (codes "rule") (Words row.key) ++ further_text Html (codes "denied") (Number row.value) ++ end_text Html

abbrev pub denials : List Entry → List ℕ
denials rows =
    codes "<h3>Denied, by rule (0: none matched)</h3>\n<table>\n<tr><th>rule</th><th>denied</th></tr>\n" ++ flat_map denial_row rows ++ table_end

-- how many addresses had a live binding, under a heading
abbrev pub registrations : ℤ → Option ℕ → List ℕ → List ℕ
registrations offset at live = codes "<h3>Addresses of record with a live binding</h3>\n" ++ picture_text offset (unwrap_or at 0) live

-- what is kept of it
abbrev pub kept_text : ℤ → Notes → List ℕ
kept_text offset notes = registrations offset notes.at notes.live ++ denials notes.denied

-- the tables of calls and of addresses
abbrev pub calls_table : List ℕ → List ℕ
calls_table rows = table (codes "Calls") (names_text Html) rows

abbrev pub sources_table : List ℕ → List ℕ
sources_table rows = table (codes "Addresses from which datagrams came") (columns Html) rows

-- all of it
abbrev pub section_text : List ℕ → List ℕ → Option (List ℕ) → List ℕ → ℤ → List ℕ → Notes → List ℕ
section_text path digest sealed policy offset sources notes =
    heading path ++ facts digest sealed ++ kept_text offset notes ++ sources_table sources ++ policy
