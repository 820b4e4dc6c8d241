-- The page that is asked for, and that it was printed.
use Rattle.std.proofs.Common.{◌≡◌, subst, sym, ℕ, Result, Ok, Err, List, [], Option}
use Rattle.std.specs.Prelude.{IfOk, OnOk, is_some, length, map, string_bytes}
use Rattle.std.specs.Io.KnownBytes.{Appends}
use Rattle.std.proofs.lemmas.List.{length-map}
use Rattle.sip_days.specs.declared.call.Call.{Call}
use Rattle.sipd_arguments.specs.declared.call.PageCall.{PageCall}
use Rattle.sipd_record_files.specs.Named.{AreNamed}
use Rattle.sipd_page.specs.History.{AreOfHistory}
use Rattle.sipd_page.specs.Page.{AddsSections, IsLog, IsPageOf, IsPageOver, PrintsPage, page_by}

pub is_page : {X : Type 0} (f : X → List ℕ) (log : Option (List (List ℕ))) (paths : List X) (lines : List (List ℕ)) (calls : List Call) (body text : List ℕ)
    → AreOfHistory (length paths) lines calls → AddsSections (map f paths) [] body → text ≡ page_by log lines calls body
    → IsPageOver log (map f paths) text
is_page f log paths lines calls body text told sections is = record {
  lines = lines;
  calls = calls;
  told = subst (λ (n : ℕ). AreOfHistory n lines calls) (sym (length-map paths f)) told;
  body = body;
  sections = sections;
  text_is = is;
}

pub is_asked : {X E : Type 0} (result : Result (List ℕ) E) (f : X → List ℕ) (call : PageCall) (log : Option (List (List ℕ))) (files lent : List X)
    → IsLog (is_some call.log) log → AreNamed (map string_bytes call.records.items) (map f files) → lent ≡ files
    → IfOk result (IsPageOver log (map f lent)) → IfOk result (IsPageOf call)
is_asked (Ok text) f call log files lent is_log named same page = record {
  log = log;
  is_log = is_log;
  files = map f files;
  named = named;
  page = subst (λ l. IsPageOver log (map f l) text) same page;
}
is_asked (Err e) f call log files lent is_log named same page = tt

pub prints_page : {X E : Type 0} (result : Result X E) (call : PageCall) (text written : List ℕ) (old new : Option (List ℕ)) → IsPageOf call text
    → written ≡ text → OnOk result (Appends old new written) → OnOk result (PrintsPage call old new)
prints_page (Ok x) call text written old new page is printed =
    record { text = text; page = page; printed = subst (λ (t : List ℕ). Appends old new t) is printed }
prints_page (Err e) call text written old new page is printed = tt
