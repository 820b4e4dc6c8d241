-- What `sources` prints.
use Rattle.std.proofs.Common.{◌≡◌, add-one, sym, subst, ℕ, ◌+◌, ℤ, Result, Ok, Err, List, Option, None}
use Rattle.std.specs.Prelude.{IfOk, OnOk, length, map, string_bytes}
use Rattle.std.specs.Io.KnownBytes.{Appends}
use Rattle.sipd_arguments.specs.declared.call.SourcesCall.{SourcesCall}
use Rattle.sipd_calls.specs.declared.notation.Notation.{Notation}
use Rattle.sipd_exit.specs.declared.exit.Exit.{Exit}
use Rattle.sipd_sources.specs.declared.filter.SourceFilter.{SourceFilter}
use Rattle.sipd_record_files.specs.Named.{AreNamed}
use Rattle.sipd_days.specs.Choosing.{IsFilter, form_of}
use Rattle.sipd_days.specs.DayAt.{WasTableIf}
use Rattle.sipd_days.specs.PrintedSources.{PrintsColumns, PrintsEach, PrintsOne, PrintsSources, WereSources, every_datagram}
use Rattle.sipd_days.specs.declared.day_at.DayTable.TheVariants as tables

-- a record's addresses
pub prints_one : {X : Type 0} (result : Result X Exit) (form : Option Notation) (filter : SourceFilter) (text : List ℕ) (taken offset : ℤ) (end : Option Exit)
    (old new : Option (List ℕ)) → WasTableIf (tables.Sources filter) form None None text taken offset end
    → OnOk result (Appends old new text) → OnOk result (end ≡ None) → OnOk result (PrintsOne form filter old new)
prints_one (Ok x) form filter text taken offset end old new was printed whole = record {
  text = text;
  taken = taken;
  offset = offset;
  was = subst (λ (e : Option Exit). WasTableIf (tables.Sources filter) form None None text taken offset e) whole was;
  printed = printed;
}
prints_one (Err e) form filter text taken offset end old new was printed whole = tt

-- those of one that was told to its end
were_all : (form : Option Notation) (filter : SourceFilter) (text : List ℕ) (taken offset : ℤ) (end : Option Exit) → filter ≡ every_datagram
    → WasTableIf (tables.Sources filter) form None None text taken offset end → end ≡ None → WereSources form every_datagram text
were_all form filter text taken offset end every was whole =
    subst (λ (f : SourceFilter). WereSources form f text) every (record {
      taken = taken;
      offset = offset;
      was = subst (λ (e : Option Exit). WasTableIf (tables.Sources filter) form None None text taken offset e) whole was;
    })

pub were_ok : (result : Result (List ℕ) Exit) (form : Option Notation) (filter : SourceFilter) (text : List ℕ) (taken offset : ℤ) (end : Option Exit)
    → filter ≡ every_datagram → WasTableIf (tables.Sources filter) form None None text taken offset end → IfOk result (λ t. t ≡ text) → OnOk result (end ≡ None)
    → IfOk result (WereSources form every_datagram)
were_ok (Ok t) form filter text taken offset end every was same whole =
    subst (λ (x : List ℕ). WereSources form every_datagram x) (sym same) (were_all form filter text taken offset end every was whole)
were_ok (Err e) form filter text taken offset end every was same whole = tt

-- one record more
pub prints_further : (form : Option Notation) (filter : SourceFilter) (count : ℕ) (old between new : Option (List ℕ))
    → PrintsEach form filter count old between → PrintsOne form filter between new → PrintsEach form filter (count + 1) old new
prints_further form filter count old between new others last =
    subst (λ (n : ℕ). PrintsEach form filter n old new) (sym (add-one count)) (record { between = between; others = others; last = last })

-- names, and then the records
pub prints_sources : {X : Type 0} (result : Result X Exit) (call : SourcesCall) (form : Option Notation) (filter : SourceFilter) (count : ℕ)
    (files : List (List ℕ)) (old between new : Option (List ℕ)) → form ≡ form_of call.csv call.json → IsFilter call.chosen filter
    → AreNamed (map string_bytes call.records.items) files → length files ≡ count → PrintsColumns form old between → OnOk result (PrintsEach form filter count between new) → OnOk result (PrintsSources call old new)
prints_sources (Ok x) call form filter count files old between new is chosen named many names records = record {
  filter = filter;
  between = between;
  chosen = chosen;
  names = subst (λ (f : Option Notation). PrintsColumns f old between) is names;
  files = files;
  named = named;
  records =
      subst (λ (f : Option Notation). PrintsEach f filter (length files) between new) is
      (subst (λ (n : ℕ). PrintsEach form filter n between new) (sym many) records);
}
prints_sources (Err e) call form filter count files old between new is chosen named many names records = tt
