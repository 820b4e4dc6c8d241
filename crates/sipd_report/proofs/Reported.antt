-- How far a report came.
use Rattle.std.proofs.Common.{◌≡◌, ℕ, List, [], ◌∷◌, ◌++◌, Option, None, Some, sym, ◌∙◌, ap, subst, append-nil, append_assoc}
use Rattle.std.specs.Io.KnownBytes.{prepend_known, Appends, Keeps, IsAtEnd}
use Rattle.std.proofs.KnownBytes.{Appends-trans}
use Rattle.sipd_report.specs.declared.query.Query.{Query}
use Rattle.sipd_report.specs.declared.tally.Tally.{Tally}
use Rattle.sipd_report.specs.Cells.{row_text, column_names}
use Rattle.sipd_report.specs.Entries.{fronts_of, asked_of}
use Rattle.sip_replay_script.specs.Lines.{Reading, pending, IsOver}
use Rattle.sipd_report.specs.Lines.{GivesFront}
use Rattle.sipd_report.specs.Report.{tally_of, rows_text, ending_text, Reports}
use Rattle.sipd_report.specs.Steps.{no_tally, after_line, line_text, TakesLine}
use Rattle.sipd_report.proofs.Counting.{tally_more, rows_more}

-- the fronts of some lines were given
abbrev pub GivesFronts : Option (List ℕ) → Option (List ℕ) → List (List ℕ) → Type 0
GivesFronts None b done = Unit {0}
GivesFronts (Some xs) None done = ⊥
GivesFronts (Some xs) (Some ys) done = fronts_of xs ≡ done ++ fronts_of ys

-- some lines were given, counted, and their rows were written behind the names of the columns
pub record IsReported (q : Query) (a b before after : Option (List ℕ)) (t : Tally) : Type 0 where
  pub done : List (List ℕ)
  pub given : GivesFronts a b done
  pub counted : t ≡ tally_of q done
  pub written : Appends before after (row_text q.form column_names ++ rows_text q (asked_of q done))

pub none_given : (a : Option (List ℕ)) (unread : List ℕ) → unread ≡ [] → GivesFronts a (prepend_known unread a) []
none_given None unread is = tt
none_given (Some xs) unread is = ap (λ l. fronts_of (l ++ xs)) (sym is)

pub reported_first : (q : Query) (a before after : Option (List ℕ)) (r : Reading) (t : Tally) → r ≡ record { unread = []; asks = 4294967295; number = 0 } → t ≡ no_tally
    → Appends before after (row_text q.form column_names) → IsReported q a (pending r a) before after t
reported_first q a before after r t is none h = record {
  done = [];
  given = none_given a r.unread (ap (λ (x : Reading). x.unread) is);
  counted = none;
  written = subst (λ l. Appends before after l) (sym (append-nil (row_text q.form column_names))) h;
}

pub one_given : (a b c : Option (List ℕ)) (done : List (List ℕ)) (line : List ℕ) → GivesFronts a b done → GivesFront b c line → GivesFronts a c (done ++ line ∷ [])
one_given None b c done line h g = tt
one_given (Some xs) None c done line h g = absurd h
one_given (Some xs) (Some ys) None done line h g = absurd g
one_given (Some xs) (Some ys) (Some zs) done line h g = h ∙ ap (λ l. done ++ l) g ∙ sym (append_assoc done (line ∷ []) (fronts_of zs))

pub reported_more : (q : Query) (a before : Option (List ℕ)) (r s : Reading) (b c after more : Option (List ℕ)) (t u : Tally)
    → IsReported q a (pending r b) before after t
    → TakesLine q r s b c t u after more → IsReported q a (pending s c) before more u
reported_more q a before r s b c after more t u h takes =
    let heading = row_text q.form column_names in
    let rows = rows_text q (asked_of q h.done) in
    record {
      done = h.done ++ takes.line ∷ [];
      given = one_given a (pending r b) (pending s c) h.done takes.line h.given takes.given.gives;
      counted = takes.counted ∙ ap (λ (x : Tally). after_line q takes.line x) h.counted ∙ tally_more q h.done takes.line;
      written = subst (λ l. Appends before more l) (append_assoc heading rows (line_text q takes.line) ∙ ap (λ l. heading ++ l) (sym (rows_more q h.done takes.line)))
          (Appends-trans before after more (heading ++ rows) (line_text q takes.line) h.written takes.appended);
    }

-- all was given
pub all_given : (a b c : Option (List ℕ)) (done : List (List ℕ)) → GivesFronts a b done → Keeps b c → IsAtEnd c → GivesFronts a (Some []) done
all_given None b c done h k e = tt
all_given (Some xs) None c done h k e = absurd h
all_given (Some xs) (Some ys) None done h k e = absurd k
all_given (Some xs) (Some ys) (Some zs) done h k e = h ∙ ap (λ l. done ++ fronts_of l) (sym k ∙ e)

reports_by : (q : Query) (a before after : Option (List ℕ)) (t : Tally) (done : List (List ℕ)) → GivesFronts a (Some []) done → t ≡ tally_of q done
    → Appends before after ((row_text q.form column_names ++ rows_text q (asked_of q done)) ++ ending_text q.form t) → Reports q a before after t.none
reports_by q None before after t done h counted written = tt
reports_by q (Some xs) before after t done h counted written =
    let all : done ≡ fronts_of xs = sym (h ∙ append-nil done) in
    let sum : t ≡ tally_of q (fronts_of xs) = counted ∙ ap (tally_of q) all in (
      subst (λ l. Appends before after l)
          (ap (λ l. (row_text q.form column_names ++ rows_text q (asked_of q l)) ++ ending_text q.form t) all
          ∙ ap (λ (x : Tally). (row_text q.form column_names ++ rows_text q (asked_of q (fronts_of xs))) ++ ending_text q.form x) sum) written,
      ap (λ (x : Tally). x.none) sum,
    )

pub reported_last : (q : Query) (a before after end : Option (List ℕ)) (r s : Reading) (b c : Option (List ℕ)) (t : Tally) → IsReported q a (pending r b) before after t
    → IsOver r s b c → Appends after end (ending_text q.form t) → Reports q a before end t.none
reported_last q a before after end r s b c t h over ending =
    reports_by q a before end t h.done (all_given a (pending r b) (pending s c) h.done h.given over.kept over.at_end) h.counted
    (Appends-trans before after end (row_text q.form column_names ++ rows_text q (asked_of q h.done)) (ending_text q.form t) h.written ending)
