-- The lines of an input, what of them is an audit line, and what a report is asked for.
use Rattle.std.specs.Prelude.{ℕ, ℤ, ◌==◌, Bool, true, false, ◌&&◌, ◌||◌, not, nat_le, nat_eq, if◌then◌else◌, List, [], ◌∷◌, length, take, drop, map, filter, Option, Some, None}
use Rattle.std.specs.Prelude.{option_map, is_none, codes, count_by}
use Rattle.std.specs.List.{filter_map, starts_with}
use Rattle.std.specs.Option.{option_or}
use Rattle.std.specs.Str.{bytes_eq}
use Rattle.sip_audit.specs.declared.record.Record.{Record}
use Rattle.sip_audit.specs.declared.record.AuditOutcome.{AuditOutcome}
use Rattle.sip_audit.specs.declared.record.AuditOutcome.TheVariants.{Challenge, Deny, Sent, Answer}
use Rattle.sip_audit.specs.Reading.{record_of}
use Rattle.sipd_report.specs.declared.query.Query.{Query}
use Rattle.sipd_report.specs.Chosen.{is_of_target, is_within}
use Rattle.sipd_report.specs.Times.{shown_seconds}
use Rattle.sipd_report.specs.Zones.{offset_at}

-- a byte in front of the first of some lines; without one it begins a line
abbrev pub in_first : ℕ → List (List ℕ) → List (List ℕ)
in_first b [] = (b ∷ []) ∷ []
in_first b (line ∷ lines) = (b ∷ line) ∷ lines

-- the lines of some bytes; LF ends a line, and the last may have none
abbrev pub lines_of : List ℕ → List (List ℕ)
lines_of [] = []
lines_of (b ∷ bs) = if b == 10 then [] ∷ lines_of bs else in_first b (lines_of bs)

-- the lines, of each at most 200,001 bytes
abbrev pub fronts_of : List ℕ → List (List ℕ)
fronts_of bytes = map (take 200001) (lines_of bytes)

-- what journalctl ends with what it writes in front of a line
abbrev pub mark : List ℕ
mark = codes "]: "

-- how each line begins that the server writes on standard error
abbrev pub own_front : List ℕ
own_front = codes "sipd: "

-- the record of a line of at most 200,000 bytes; a longer line is no audit line
abbrev pub entry_of : List ℕ → Option Record
entry_of line = if nat_le (length line) 200000 then record_of line else None

-- what stands behind the first `]: ` of a line, which ends what journalctl writes in front of it; nothing where none stands there
abbrev pub behind_prefix : List ℕ → List ℕ
behind_prefix [] = []
behind_prefix (b ∷ bs) = if starts_with nat_eq (b ∷ bs) mark then drop 3 (b ∷ bs) else behind_prefix bs

-- the record that a line of at most 200,000 bytes tells, as it stands or behind what journalctl writes in front of it
abbrev pub told_by : List ℕ → Option Record
told_by line = if nat_le (length line) 200000 then option_or (record_of line) (record_of (behind_prefix line)) else None

-- whether a line is one that the server writes on standard error, as it stands or behind what journalctl writes in front of it
abbrev pub is_servers_own : List ℕ → Bool
is_servers_own line = starts_with nat_eq line own_front || starts_with nat_eq (behind_prefix line) own_front

-- whether something stands in a line
abbrev pub is_filled : List ℕ → Bool
is_filled [] = false
is_filled (b ∷ bs) = true

-- whether a line is none: something stands in it, and it is no audit line
abbrev pub is_no_entry : List ℕ → Bool
is_no_entry line = is_filled line && is_none (entry_of line)

-- whether a line is foreign: something stands in it, it tells no record, and the server doesn't write it on standard error either
abbrev pub is_foreign : List ℕ → Bool
is_foreign line = is_filled line && (is_none (told_by line) && not (is_servers_own line))

-- the rule that decided; 0 is that none matched, and at a challenge none decided
abbrev pub ruling_of : AuditOutcome → Option ℕ
ruling_of (Challenge status) = None
ruling_of (Deny rule) = Some rule
ruling_of (Sent rule targets) = Some rule
ruling_of (Answer rule status) = Some rule

-- whether policy denied
abbrev pub is_denial : AuditOutcome → Bool
is_denial (Challenge status) = false
is_denial (Deny rule) = true
is_denial (Sent rule targets) = false
is_denial (Answer rule status) = false

-- whether the proven user is the one asked for, if one is
abbrev pub is_of_user : Option (List ℕ) → Option (List ℕ) → Bool
is_of_user None who = true
is_of_user (Some name) None = false
is_of_user (Some name) (Some who) = bytes_eq who name

-- whether the rule that decided is the one asked for, if one is
abbrev pub is_by_rule : Option ℕ → Option ℕ → Bool
is_by_rule None ruling = true
is_by_rule (Some wanted) None = false
is_by_rule (Some wanted) (Some rule) = rule == wanted

-- whether a credential was asked for
abbrev pub is_challenge : AuditOutcome → Bool
is_challenge (Challenge status) = true
is_challenge (Deny rule) = false
is_challenge (Sent rule targets) = false
is_challenge (Answer rule status) = false

-- the word of what became of a request, as its audit line has it
abbrev pub outcome_word : AuditOutcome → List ℕ
outcome_word (Challenge status) = codes "challenge"
outcome_word (Deny rule) = codes "deny"
outcome_word (Sent rule targets) = codes "sent"
outcome_word (Answer rule status) = codes "answer"

-- whether an outcome has the word that is asked for; where none is, it is any but a challenge
abbrev pub is_of_outcome : Option (List ℕ) → AuditOutcome → Bool
is_of_outcome None outcome = not (is_challenge outcome)
is_of_outcome (Some word) outcome = bytes_eq (outcome_word outcome) word

-- how many minutes the office's clock was ahead of UTC at a record's moment
abbrev pub offset_of : Query → Record → ℤ
offset_of q r = offset_at q.zones.now q.offset r.at

-- whether a record is within the times that are asked for, on that clock
abbrev pub is_in_time : Query → Record → Bool
is_in_time q r = is_within q.since q.until (shown_seconds r.at (offset_of q r))

-- whether a record is of the user, by the rule and denied, as far as that is asked for
abbrev pub is_decided_so : Query → Record → Bool
is_decided_so q r =
    is_of_user (option_map (λ name. name.now) q.user) r.who && is_by_rule q.rule (ruling_of r.outcome) && (not q.denied || is_denial r.outcome)

-- whether that is so, and it is of the times and for whom it is asked for
abbrev pub meets : Query → Record → Bool
meets q r = is_decided_so q r && is_in_time q r && is_of_target (option_map (λ text. text.now) q.target) r.target

-- whether a record is asked for
abbrev pub is_asked : Query → Record → Bool
is_asked q r = meets q r && is_of_outcome (option_map (λ word. word.now) q.outcome) r.outcome

-- whether a record is left out for being a challenge alone, where no outcome is asked for
abbrev pub is_left_out : Query → Record → Bool
is_left_out q r = meets q r && (is_none q.outcome && is_challenge r.outcome)

-- how many records of some lines are left out
abbrev pub left_of : Query → List (List ℕ) → ℕ
left_of q lines = count_by (is_left_out q) (filter_map told_by lines)

-- the records of some lines that are asked for, in their order
abbrev pub asked_of : Query → List (List ℕ) → List Record
asked_of q lines = filter (is_asked q) (filter_map told_by lines)
