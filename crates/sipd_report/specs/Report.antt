-- The text of a report.
use Rattle.std.specs.Prelude.{◌≡◌, ⊤, ℕ, ◌+◌, ◌&&◌, nat_le, nat_lt, if◌then◌else◌, List, [], ◌∷◌, ◌++◌, length, take, map, count_by, codes, decimal, Option, Some, None}
use Rattle.std.specs.List.{flat_map}
use Rattle.std.specs.Str.{byte}
use Rattle.std.specs.Io.KnownBytes.{Appends}
use Rattle.sip_audit.specs.Lines.{who_text}
use Rattle.sip_audit.specs.declared.record.Record.{Record}
use Rattle.sipd_report.specs.declared.query.Form.{Form}
use Rattle.sipd_report.specs.declared.query.Form.TheVariants.{Table, Csv}
use Rattle.sipd_report.specs.declared.query.Query.{Query}
use Rattle.sipd_report.specs.declared.tally.Tally.{Tally}
use Rattle.sipd_report.specs.Cells.{padded, row_text, column_names}
use Rattle.sipd_report.specs.Entries.{fronts_of, asked_of, left_of, offset_of, ruling_of, is_filled, is_foreign}
use Rattle.sipd_report.specs.Rows.{cells_of, ruling_text, outcome_kind}
use Rattle.sipd_report.specs.Totals.{capped, totals_of, in_order}

-- the foreign lines, with their numbers, where the first line has this one
abbrev pub no_entries : ℕ → List (List ℕ) → List (ℕ × List ℕ)
no_entries number [] = []
no_entries number (line ∷ lines) = if is_foreign line then (number, line) ∷ no_entries (number + 1) lines else no_entries (number + 1) lines

-- a printable byte of ASCII, a point for any other
abbrev pub shown_byte : ℕ → ℕ
shown_byte b = if nat_le 32 b && nat_lt b 127 then b else byte "."

-- a line as it is shown: its number and its first 120 bytes
abbrev pub numbered_text : ℕ → List ℕ → List ℕ
numbered_text number line = codes "line " ++ decimal number ++ codes ": " ++ map shown_byte (take 120 line) ++ 10 ∷ []

-- one that is no audit line
abbrev pub no_entry_text : ℕ × List ℕ → List ℕ
no_entry_text numbered = numbered_text (capped numbered.0) numbered.1

-- what is counted: of the records that are asked for, how many are left out, how many lines there are, in how many of them something stands, and which
-- are foreign, of which the first 20 are shown
abbrev pub tally_from : List Record → ℕ → ℕ → ℕ → List (ℕ × List ℕ) → Tally
tally_from asked left lines filled none = record {
  users = totals_of (map (λ r. who_text r.who) asked);
  rules = totals_of (map (λ r. ruling_text (ruling_of r.outcome)) asked);
  outcomes = totals_of (map (λ r. outcome_kind r.outcome) asked);
  lines = capped lines;
  filled = capped filled;
  asked = capped (length asked);
  left_out = capped left;
  none = capped (length none);
  shown = flat_map no_entry_text (take 20 none);
}

-- what is counted of some lines
abbrev pub tally_of : Query → List (List ℕ) → Tally
tally_of q lines = tally_from (asked_of q lines) (left_of q lines) (length lines) (count_by is_filled lines) (no_entries 1 lines)

-- a total: its text and the count
abbrev pub total_text : List ℕ × ℕ → List ℕ
total_text total = padded 40 total.0 ++ codes "  " ++ decimal total.1 ++ 10 ∷ []

-- a title, behind an empty line
abbrev pub title_text : List ℕ → List ℕ
title_text title = codes "\n" ++ title ++ codes "\n"

-- totals under a title, in order
abbrev pub totals_text : List ℕ → List (List ℕ × ℕ) → List ℕ
totals_text title totals = title_text title ++ flat_map total_text (in_order totals)

-- how many lines there are in which something stands, how many are rows, how many are challenges that are left out, and how many are
-- no audit lines
abbrev pub counts_text : Tally → List ℕ
counts_text t =
    title_text (codes "lines") ++ total_text (codes "in all", t.filled) ++ total_text (codes "in the table", t.asked)
    ++ total_text (codes "challenges, left out", t.left_out) ++ total_text (codes "no audit lines", t.none)

-- what stands behind the rows: nothing in CSV
abbrev pub ending_text : Form → Tally → List ℕ
ending_text Table t =
    totals_text (codes "by user") t.users ++ totals_text (codes "by rule") t.rules ++ totals_text (codes "by outcome") t.outcomes ++ counts_text t ++ t.shown
ending_text Csv t = []

-- the row of a record, by the clock of its moment
abbrev pub row_of : Query → Record → List ℕ
row_of q r = row_text q.form (cells_of q.form (offset_of q r) r)

-- the rows of some records
abbrev pub rows_text : Query → List Record → List ℕ
rows_text q records = flat_map (row_of q) records

-- the report of some bytes: the names of the columns, a row for each record that is asked for, and what is counted
abbrev pub report_text : Query → List ℕ → List ℕ
report_text q bytes =
    let lines = fronts_of bytes in
    row_text q.form column_names ++ rows_text q (asked_of q lines) ++ ending_text q.form (tally_of q lines)

-- the report of an input was written, and so many of its lines are no audit lines, where its bytes are known
abbrev pub Reports : Query → Option (List ℕ) → Option (List ℕ) → Option (List ℕ) → ℕ → Type 0
Reports q None old new none = ⊤
Reports q (Some bytes) old new none = Appends old new (report_text q bytes) × (none ≡ capped (length (no_entries 1 (fronts_of bytes))))
