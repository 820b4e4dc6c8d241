-- The items of a record, one behind the other.
use Rattle.std.proofs.Common.{◌≡◌, ℕ, ◌+◌, Bool, List, [], ◌∷◌, ◌++◌, Option, refl, sym, ◌∙◌, ap, subst, arith, append_assoc, append-nil}
use Rattle.std.specs.Prelude.{count_by}
use Rattle.std.specs.List.{AllByRecursion}
use Rattle.std.proofs.KnownBytes.{Consumes-nil, Consumes-trans}
use Rattle.sip_model.specs.state.declared.server.Server.{Server}
use Rattle.sip_model.specs.Run.{Link}
use Rattle.sip_model.specs.TimerOrder.{Standing}
use Rattle.sip_replay_script.specs.Lines.{Reading, is_end, pending}
use Rattle.sip_resume.proofs.Eventwise.{numbers_add}
use Rattle.sip_listener.specs.Heard.{Heard}
use Rattle.sip_retell.specs.Items.{IsInTime, Item, SaysItem, SaysItems}
use Rattle.sip_retell.specs.Retells.{GoesBy, GoesThrough, IsRetold, StopsHere, TakesItems, TakesNext}
use Rattle.sip_retell.specs.Stops.{IsUnretold, RetellStops}
use Rattle.sip_retell.specs.declared.error.RetellError.{RetellError}
use Rattle.sip_retell.proofs.Hearing.{told_both}

-- ---- one more item

says_more : (items : List Item) (item : Item) (text more : List ℕ) → SaysItems items text → SaysItem more item → SaysItems (items ++ item ∷ []) (text ++ more)
says_more [] item text more h one = record {
  first = more;
  rest = [];
  cut = ap (λ (t : List ℕ). t ++ more) h ∙ sym (append-nil more);
  says = one;
  others = refl;
}
says_more (x ∷ items) item text more h one = record {
  first = h.first;
  rest = h.rest ++ more;
  cut = ap (λ (t : List ℕ). t ++ more) h.cut ∙ append_assoc h.first h.rest more;
  says = h.says;
  others = says_more items item h.rest more h.others one;
}

goes_more : (server mid new : Server) (old half last : Standing) (items : List Item) (item : Item) (history later : List Link)
    → GoesThrough server mid old half items history → GoesBy mid new half last item later → GoesThrough server new old last (items ++ item ∷ []) (later ++ history)
goes_more server mid new old half last [] item history later h one = record {
  middle = new;
  half = last;
  earlier = later;
  later = [];
  first = subst (λ (s : Server). GoesBy s new old last item later) h.same (subst (λ (x : Standing). GoesBy mid new x last item later) h.state one);
  others = record { same = refl; state = refl; no_history = refl };
  history_is = ap (λ (l : List Link). later ++ l) h.no_history ∙ append-nil later;
}
goes_more server mid new old half last (x ∷ items) item history later h one = record {
  middle = h.middle;
  half = h.half;
  earlier = h.earlier;
  later = later ++ h.later;
  first = h.first;
  others = goes_more h.middle mid new h.half half last items item h.later later h.others one;
  history_is = ap (λ (l : List Link). later ++ l) h.history_is ∙ sym (append_assoc later h.later h.earlier);
}

all_more : {X : Type 0} (P : X → Type 0) (items : List X) (item : X) → AllByRecursion P items → P item → AllByRecursion P (items ++ item ∷ [])
all_more P [] item h one = (one, tt)
all_more P (x ∷ items) item h one = (h.0, all_more P items item h.1 one)

-- ---- items so far

pub items_begun : {L : Type 0} (hears : L → Heard → L → Type 0) (server : Server) (state : Standing) (before : Option (List ℕ)) (lines lines_then : ℕ)
    (until : Option ℕ) (heard : L) → lines_then ≡ lines
    → TakesItems hears server server state state before before lines lines_then until heard heard
items_begun hears server state before lines lines_then until heard same = record {
  items = [];
  text = [];
  history = [];
  says = refl;
  consumes = Consumes-nil before;
  counted = let none : lines ≡ lines + count_by is_end [] = omega arith in same ∙ none;
  in_time = tt;
  goes = record { same = refl; state = refl; no_history = refl };
  told = refl;
}

pub items_on : {L : Type 0} (hears : L → Heard → L → Type 0) (server mid new : Server) (old half last : Standing) (before : Option (List ℕ))
    (part next : Reading) (part_bytes next_bytes : Option (List ℕ))
    (lines taken taken_then : ℕ) (until : Option ℕ) (a b c : L) → taken ≡ part.number → taken_then ≡ next.number
    → TakesItems hears server mid old half before (pending part part_bytes) lines taken until a b
    → TakesNext hears mid new half last part next part_bytes next_bytes until b c
    → TakesItems hears server new old last before (pending next next_bytes) lines taken_then until a c
items_on hears server mid new old half last before part next part_bytes next_bytes lines taken taken_then until a b c is is_then h k = record {
  items = h.items ++ k.item ∷ [];
  text = h.text ++ k.text;
  history = k.history ++ h.history;
  says = says_more h.items k.item h.text k.text h.says k.says;
  consumes = Consumes-trans before (pending part part_bytes) (pending next next_bytes) h.text k.text h.consumes k.consumes;
  counted = is_then ∙ numbers_add lines part.number next.number h.text k.text (sym is ∙ h.counted) k.number;
  in_time = all_more (IsInTime until) h.items k.item h.in_time k.in_time;
  goes = goes_more server mid new old half last h.items k.item h.history k.history h.goes k.goes;
  told = told_both hears a b c h.history k.history h.told k.told;
}

-- ---- no more of them

pub retold_so : {L : Type 0} (hears : L → Heard → L → Type 0) (server mid new : Server) (old half last : Standing) (before : Option (List ℕ)) (part : Reading)
    (part_bytes : Option (List ℕ)) (lines taken : ℕ)
    (until : Option ℕ) (a b c : L) (is_over : Bool) → TakesItems hears server mid old half before (pending part part_bytes) lines taken until a b
    → StopsHere mid new half last (pending part part_bytes) until b c is_over → IsRetold hears server new old last before lines taken until a c is_over
retold_so hears server mid new old half last before part part_bytes lines taken until a b c is_over h stop = record {
  rest = pending part part_bytes;
  takes =
      subst (λ (s : Server). TakesItems hears server s old last before (pending part part_bytes) lines taken until a c) (sym stop.stays.same)
      (subst (λ (x : Standing). TakesItems hears server mid old x before (pending part part_bytes) lines taken until a c) (sym stop.stays.state)
      (subst (λ l. TakesItems hears server mid old half before (pending part part_bytes) lines taken until a l) (sym stop.stays.silent) h));
  ends = stop.ends;
}

pub unretold_so : {L : Type 0} (hears refuses : L → Heard → L
    → Type 0) (server mid new : Server) (old half last : Standing) (longest : ℕ) (F : Type 0) (before : Option (List ℕ)) (part : Reading)
    (part_bytes : Option (List ℕ)) (lines taken : ℕ) (until : Option ℕ) (a b c : L) (e : RetellError) → taken ≡ part.number → new ≡ mid
    → TakesItems hears server mid old half before (pending part part_bytes) lines taken until a b
    → RetellStops hears refuses mid half last longest F (pending part part_bytes) part.number until b c e
    → IsUnretold hears refuses server new old last longest F before lines until a c e
unretold_so hears refuses server mid new old half last longest F before part part_bytes lines taken until a b c e is same h why =
    subst (λ (s : Server). IsUnretold hears refuses server s old last longest F before lines until a c e) (sym same)
    (record {
      rest = pending part part_bytes;
      reached = half;
      lines_then = part.number;
      half = b;
      takes = subst (λ (n : ℕ). TakesItems hears server mid old half before (pending part part_bytes) lines n until a b) is h;
      why = why;
    })
