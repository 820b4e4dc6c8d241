-- What holds where a report is refused, from how far it came.
use Rattle.std.proofs.Common.{◌≡◌, ℕ, List, [], ◌∷◌, ◌++◌, Option, None, Some, filter, sym, ◌∙◌, ap, subst, append-nil, append_assoc}
use Rattle.std.specs.List.{filter_map}
use Rattle.std.proofs.lemmas.Grind.{flat_map-append}
use Rattle.std.proofs.lemmas.List.Elements.{filter_map-append, filter-append}
use Rattle.sip_replay_script.specs.Devices.{WritesFront}
use Rattle.sipd_report.specs.declared.error.ReportError.{ReportError}
use Rattle.sipd_report.specs.declared.error.ReportError.TheVariants as errors
use Rattle.sipd_report.specs.declared.query.Query.{Query}
use Rattle.sipd_report.specs.declared.tally.Tally.{Tally}
use Rattle.sipd_report.specs.Cells.{row_text, column_names}
use Rattle.sipd_report.specs.Entries.{fronts_of, asked_of, told_by, is_asked}
use Rattle.sip_replay_script.specs.Lines.{Reading, pending, IsOver}
use Rattle.sipd_report.specs.Lines.{GivesFront}
use Rattle.sipd_report.specs.Report.{tally_of, row_of, rows_text, ending_text, report_text}
use Rattle.sipd_report.specs.Refusals.{BeginsWith, WritesRows, WritesPart, IsRefused, TextStops, StopsAtLine, LineStops}
use Rattle.sipd_report.specs.Steps.{line_text}
use Rattle.sipd_report.proofs.Counting.{rows_more}
use Rattle.sipd_report.proofs.Fronts.{front_first}
use Rattle.sipd_report.proofs.Reported.{GivesFronts, IsReported, all_given}
use Rattle.sip_replay_script.proofs.Fronts.{front_second, front_all, front_none}

-- ---- a report, cut behind some of its rows

rows_both : (q : Query) (done rest : List (List ℕ)) → rows_text q (asked_of q (done ++ rest)) ≡ rows_text q (asked_of q done) ++ rows_text q (asked_of q rest)
rows_both q done rest =
    ap (rows_text q) (ap (filter (is_asked q)) (filter_map-append told_by done rest) ∙ filter-append (is_asked q) (filter_map told_by done) (filter_map told_by rest))
    ∙ flat_map-append (row_of q) (asked_of q done) (asked_of q rest)

-- the names of the columns, and the rows of some lines
abbrev table_of : Query → List (List ℕ) → List ℕ
table_of q done = row_text q.form column_names ++ rows_text q (asked_of q done)

-- what stands behind the rows of a report
abbrev ending_of : Query → List ℕ → List ℕ
ending_of q bytes = ending_text q.form (tally_of q (fronts_of bytes))

text_cut : (q : Query) (bytes : List ℕ) (done rest : List (List ℕ)) → fronts_of bytes ≡ done ++ rest
    → report_text q bytes ≡ table_of q done ++ (rows_text q (asked_of q rest) ++ ending_of q bytes)
text_cut q bytes done rest is =
    ap (λ l. (row_text q.form column_names ++ rows_text q (asked_of q l)) ++ ending_of q bytes) is
    ∙ ap (λ rows. (row_text q.form column_names ++ rows) ++ ending_of q bytes) (rows_both q done rest)
    ∙ ap (λ l. l ++ ending_of q bytes) (sym (append_assoc (row_text q.form column_names) (rows_text q (asked_of q done)) (rows_text q (asked_of q rest))))
    ∙ append_assoc (table_of q done) (rows_text q (asked_of q rest)) (ending_of q bytes)

-- ---- what was written

-- nothing
pub part_none : (q : Query) (input before : Option (List ℕ)) → WritesPart q input before before
part_none q None before = tt
part_none q (Some bytes) before = front_none before (report_text q bytes)

-- a front of the names of the columns
part_heading : (q : Query) (input before after : Option (List ℕ)) → WritesFront before after (row_text q.form column_names) → WritesPart q input before after
part_heading q None before after h = tt
part_heading q (Some bytes) before after h =
    let rows = rows_text q (asked_of q (fronts_of bytes)) in
    subst (λ l. WritesFront before after l) (sym (append_assoc (row_text q.form column_names) rows (ending_of q bytes)))
    (front_first before after (row_text q.form column_names) (rows ++ ending_of q bytes) h)

-- the rows of the lines so far
pub begins : (a b : Option (List ℕ)) (done : List (List ℕ)) → GivesFronts a b done → BeginsWith done a
begins None b done h = tt
begins (Some xs) None done h = absurd h
begins (Some xs) (Some ys) done h = (fronts_of ys, h)

rows_written : (q : Query) (a b before after : Option (List ℕ)) (t : Tally) → IsReported q a b before after t → WritesRows q a before after
rows_written q a b before after t h = record { lines = h.done; begins = begins a b h.done h.given; written = h.written }

part_rows : (q : Query) (a b before after : Option (List ℕ)) (t : Tally) → IsReported q a b before after t → WritesPart q a before after
part_rows q None b before after t h = tt
part_rows q (Some xs) b before after t h = by b h.given
  where
    by : (b : Option (List ℕ)) → GivesFronts (Some xs) b h.done → WritesFront before after (report_text q xs)
    by None given = absurd given
    by (Some ys) given =
        subst (λ l. WritesFront before after l) (sym (text_cut q xs h.done (fronts_of ys) given))
        (front_first before after (table_of q h.done) (rows_text q (asked_of q (fronts_of ys)) ++ ending_of q xs) (front_all before after (table_of q h.done) h.written))

-- a front of what is written for the next line
part_line : (q : Query) (a before : Option (List ℕ)) (r s : Reading) (b c after end : Option (List ℕ)) (t : Tally) → IsReported q a (pending r b) before after t
    → StopsAtLine q r s b c after end → WritesPart q a before end
part_line q None before r s b c after end t h at = tt
part_line q (Some xs) before r s b c after end t h at = by (pending r b) (pending s c) h.given at.given.gives
  where
    by : (p n : Option (List ℕ)) → GivesFronts (Some xs) p h.done → GivesFront p n at.line → WritesFront before end (report_text q xs)
    by None n given gives = absurd given
    by (Some ys) None given gives = absurd gives
    by (Some ys) (Some zs) given gives =
        let rest = rows_text q (asked_of q (fronts_of zs)) in
        let cut : rows_text q (asked_of q (at.line ∷ fronts_of zs)) ++ ending_of q xs ≡ line_text q at.line ++ (rest ++ ending_of q xs) =
        ap (λ l. l ++ ending_of q xs) (rows_both q (at.line ∷ []) (fronts_of zs) ∙ ap (λ l. l ++ rest) (rows_more q [] at.line))
        ∙ append_assoc (line_text q at.line) rest (ending_of q xs) in
        subst (λ l. WritesFront before end l)
        (sym (text_cut q xs h.done (at.line ∷ fronts_of zs) (given ∙ ap (λ l. h.done ++ l) gives) ∙ ap (λ l. table_of q h.done ++ l) cut))
        (front_second before after end (table_of q h.done) (line_text q at.line ++ (rest ++ ending_of q xs)) h.written
        (front_first after end (line_text q at.line) (rest ++ ending_of q xs) at.writes))

-- a front of what stands behind the rows
part_ending : (q : Query) (a before after end : Option (List ℕ)) (r s : Reading) (b c : Option (List ℕ)) (t : Tally) → IsReported q a (pending r b) before after t
    → IsOver r s b c → WritesFront after end (ending_text q.form t) → WritesPart q a before end
part_ending q None before after end r s b c t h over front = tt
part_ending q (Some xs) before after end r s b c t h over front =
    let all : h.done ≡ fronts_of xs = sym (all_given (Some xs) (pending r b) (pending s c) h.done h.given over.kept over.at_end ∙ append-nil h.done) in
    let same : table_of q h.done ++ ending_text q.form t ≡ report_text q xs =
    ap (λ (u : Tally). table_of q h.done ++ ending_text q.form u) h.counted
    ∙ ap (λ l. table_of q l ++ ending_text q.form (tally_of q l)) all in
    subst (λ l. WritesFront before end l) same
    (front_second before after end (table_of q h.done) (ending_text q.form t) h.written front)

-- ---- refusals

pub refused_at_once : (q : Query) (a before : Option (List ℕ)) (F G : Type 0) → IsRefused q a before before F G errors.NoMemory
refused_at_once q a before F G = part_none q a before

pub refused_heading : (q : Query) (a before after : Option (List ℕ)) (F G : Type 0) (e : ReportError) → TextStops before after (row_text q.form column_names) G e
    → IsRefused q a before after F G e
refused_heading q a before after F G errors.NoMemory is = subst (λ o. WritesPart q a before o) (sym is) (part_none q a before)
refused_heading q a before after F G errors.Read h = absurd h
refused_heading q a before after F G errors.Write h = (part_heading q a before after h.0, h.1)

pub refused_line : (q : Query) (a before : Option (List ℕ)) (r s : Reading) (b c after end : Option (List ℕ)) (t : Tally) (E F G : Type 0) (e : ReportError)
    → IsReported q a (pending r b) before after t → (E → F) → LineStops q r s b c after end E G e → IsRefused q a before end F G e
refused_line q a before r s b c after end t E F G errors.NoMemory h f is = subst (λ o. WritesPart q a before o) (sym is) (part_rows q a (pending r b) before after t h)
refused_line q a before r s b c after end t E F G errors.Read h f is =
    (subst (λ o. WritesRows q a before o) (sym is.0) (rows_written q a (pending r b) before after t h), f is.1)
refused_line q a before r s b c after end t E F G errors.Write h f at = (part_line q a before r s b c after end t h at.0, at.1)

pub refused_ending : (q : Query) (a before after end : Option (List ℕ)) (r s : Reading) (b c : Option (List ℕ)) (t : Tally) (F G : Type 0) (e : ReportError)
    → IsReported q a (pending r b) before after t → IsOver r s b c → TextStops after end (ending_text q.form t) G e → IsRefused q a before end F G e
refused_ending q a before after end r s b c t F G errors.NoMemory h over is = subst (λ o. WritesPart q a before o) (sym is) (part_rows q a (pending r b) before after t h)
refused_ending q a before after end r s b c t F G errors.Read h over stops = absurd stops
refused_ending q a before after end r s b c t F G errors.Write h over stops = (part_ending q a before after end r s b c t h over stops.0, stops.1)
