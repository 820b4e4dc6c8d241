-- What one line more changes of what is counted.
use Rattle.std.specs.Prelude.{◌≡◌, ℕ, ◌+◌, nat_lt, if◌then◌else◌, List, [], ◌++◌, Option, Some, None}
use Rattle.std.specs.Io.KnownBytes.{Appends}
use Rattle.sip_audit.specs.Lines.{who_text}
use Rattle.sip_audit.specs.declared.record.Record.{Record}
use Rattle.sipd_report.specs.declared.query.Query.{Query}
use Rattle.sipd_report.specs.declared.tally.Tally.{Tally}
use Rattle.sipd_report.specs.Entries.{told_by, is_asked, is_left_out, is_filled, is_servers_own, ruling_of}
use Rattle.sipd_report.specs.Rows.{ruling_text, outcome_kind}
use Rattle.sipd_report.specs.Totals.{capped, one_more}
use Rattle.sipd_report.specs.Report.{numbered_text, row_of}
use Rattle.sip_replay_script.specs.Lines.{Reading}
use Rattle.sipd_report.specs.Lines.{GivesLine}

-- nothing counted yet
abbrev pub no_tally : Tally
no_tally = record { users = []; rules = []; outcomes = []; lines = 0; filled = 0; asked = 0; left_out = 0; none = 0; shown = [] }

-- one line more
abbrev pub with_line : Tally → Tally
with_line t = record t { lines = capped (t.lines + 1) }

-- something stands in it
abbrev pub with_filled : Tally → Tally
with_filled t = record t { filled = capped (t.filled + 1) }

-- it is foreign
abbrev pub with_no_entry : List ℕ → Tally → Tally
with_no_entry line t = record t {
  none = capped (t.none + 1);
  shown = if nat_lt t.none 20 then t.shown ++ numbered_text t.lines line else t.shown;
}

-- it tells no record
abbrev pub with_untold : List ℕ → Tally → Tally
with_untold line t = if is_servers_own line then t else with_no_entry line t

-- its record is asked for
abbrev pub with_record : Record → Tally → Tally
with_record r t = record t {
  users = one_more t.users (who_text r.who);
  rules = one_more t.rules (ruling_text (ruling_of r.outcome));
  outcomes = one_more t.outcomes (outcome_kind r.outcome);
  asked = capped (t.asked + 1);
}

-- its record is left out
abbrev pub with_left_out : Tally → Tally
with_left_out t = record t { left_out = capped (t.left_out + 1) }

-- a record that isn't asked for
abbrev pub with_unasked : Query → Record → Tally → Tally
with_unasked q r t = if is_left_out q r then with_left_out t else t

-- a record
abbrev pub with_asked : Query → Record → Tally → Tally
with_asked q r t = if is_asked q r then with_record r t else with_unasked q r t

-- what a line says that something stands in
abbrev pub with_entry : Query → List ℕ → Option Record → Tally → Tally
with_entry q line None t = with_untold line t
with_entry q line (Some r) t = with_asked q r t

-- all that a line changes
abbrev pub after_line : Query → List ℕ → Tally → Tally
after_line q line t = if is_filled line then with_entry q line (told_by line) (with_filled (with_line t)) else with_line t

-- a row, if the record is asked for
abbrev pub record_text : Query → Record → List ℕ
record_text q r = if is_asked q r then row_of q r else []

abbrev pub entry_text : Query → Option Record → List ℕ
entry_text q None = []
entry_text q (Some r) = record_text q r

-- what is written for a line
abbrev pub line_text : Query → List ℕ → List ℕ
line_text q line = if is_filled line then entry_text q (told_by line) else []

-- a line was taken: it was given, counted, and its row was written
pub record TakesLine (q : Query) (old new : Reading) (before after : Option (List ℕ)) (t u : Tally) (written output : Option (List ℕ)) : Type 0 where
  pub line : List ℕ
  pub given : GivesLine old new before after line
  pub counted : u ≡ after_line q line t
  pub appended : Appends written output (line_text q line)
