-- How many lines of a log there are.
use Rattle.std.specs.Prelude.{ℕ, Bool, ◌+◌, if◌then◌else◌, List, count_by, is_some}
use Rattle.sip_config_types.specs.declared.config.Config.{Config}
use Rattle.sipd_report.specs.Entries.{entry_of, is_no_entry}
use Rattle.sipd_report.specs.Totals.{capped}
use Rattle.sipd_expect.specs.LogTelling.{told_of}
use Rattle.sipd_expect.specs.declared.counts.Counts.{Counts}

-- whether a line is an audit line
abbrev pub is_entry : List ℕ → Bool
is_entry line = is_some (entry_of line)

-- whether it is told
abbrev pub is_told : Config → List ℕ → Bool
is_told config line = is_some (told_of config line)

-- how many of some lines are audit lines, how many of them are told, and in how many others something stands
abbrev pub counts_of : Config → List (List ℕ) → Counts
counts_of config lines = record {
  asked = capped (count_by is_entry lines);
  told = capped (count_by (is_told config) lines);
  none = capped (count_by is_no_entry lines);
}

-- ---- inside

abbrev pub no_counts : Counts
no_counts = record { asked = 0; told = 0; none = 0 }

abbrev pub one_more : Bool → ℕ → ℕ
one_more counted count = if counted then capped (count + 1) else count

abbrev pub counts_with : Bool → Bool → Bool → Counts → Counts
counts_with entry told none c = record { asked = one_more entry c.asked; told = one_more told c.told; none = one_more none c.none }

-- one line more
abbrev pub after_line : Config → List ℕ → Counts → Counts
after_line config line c = counts_with (is_entry line) (is_told config line) (is_no_entry line) c
