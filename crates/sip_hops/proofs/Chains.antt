-- Rows that are chained by their codes, and the way from the first row with a code to the row that is looked for.
use Rattle.std.proofs.Common.{◌≡◌, ◌≢◌, ℕ, zero, suc, ◌+◌, ◌-◌, ◌<◌, ◌≤◌, Bool, true, false, cond, List, [], ◌∷◌, length, set, get_or, drop, Option, Some, None, ◌⊎◌, inl}
use Rattle.std.proofs.Common.{inr, refl, sym, ap, subst, ◌∙◌, arith, get_or-set_other, get_or-set_same}
use Rattle.std.specs.Prelude.{◌==◌, ◌&&◌, find, nat_eq}
use Rattle.std.specs.Cmp.Lexicographic.{bytes_decides}
use Rattle.std.proofs.lemmas.Bool.{eqb-true, eq-eqb}
use Rattle.std.proofs.lemmas.List.{drop-drop, drop_more}
use Rattle.sip_text.specs.Words.{without_case, is_same_text}
use Rattle.sip_hops.specs.declared.host_address.HostAddress.{HostAddress}
use Rattle.sip_hops.specs.HostAddress.{is_row_for}
use Rattle.sip_hops.specs.Code.{code_of, row_code, place_of, LeadOn}

-- ---- making the chains, from the last row on

-- the rows from a place on are chained
pub record AreChainedFrom (rows : List HostAddress) (first : ℕ → Option ℕ) (nexts : List (Option ℕ)) (start : ℕ) : Type 0 where
  pub begins : (code : ℕ) → first code ≡ place_of code start (drop start rows)
  pub leads : LeadOn rows nexts start
  pub within : start ≤ length rows

here_or_behind : (at k : ℕ) → at ≤ k → (k ≡ at) ⊎ (at < k)
here_or_behind zero zero le = inl refl
here_or_behind zero (suc k) le = inr (omega arith)
here_or_behind (suc at) zero le = absurd (omega arith)
here_or_behind (suc at) (suc k) le = more (here_or_behind at k (omega arith))
  where
    more : (k ≡ at) ⊎ (at < k) → (suc k ≡ suc at) ⊎ (suc at < suc k)
    more (inl e) = inl (ap suc e)
    more (inr lt) = inr (omega arith)

leads_by : (rows : List HostAddress) (at : ℕ) (row : HostAddress) (first : ℕ → Option ℕ) (nexts : List (Option ℕ)) → drop at rows ≡ row ∷ drop (at + 1) rows
    → AreChainedFrom rows first nexts (at + 1)
    → at < length nexts → (k : ℕ) (other : HostAddress) → (k ≡ at) ⊎ (at < k) → drop k rows ≡ other ∷ drop (k + 1) rows
    → get_or (set nexts at (first (row_code row))) k None ≡ place_of (row_code other) (k + 1) (drop (k + 1) rows)
leads_by rows at row first nexts is chained lt k other (inl e) there =
    let pair : row ∷ drop (at + 1) rows ≡ other ∷ drop (at + 1) rows = sym is ∙ subst (λ (n : ℕ). drop n rows ≡ other ∷ drop (n + 1) rows) e there in
    let same : row ≡ other = cc in
    subst (λ (n : ℕ). get_or (set nexts at (first (row_code row))) n None ≡ place_of (row_code other) (n + 1) (drop (n + 1) rows)) (sym e)
    (rw get_or-set_same (chained.begins (row_code row) ∙ ap (λ (r : HostAddress). place_of (row_code r) (at + 1) (drop (at + 1) rows)) same))
leads_by rows at row first nexts is chained lt k other (inr behind) there =
    let apart : k ≢ at = omega arith in
    rw get_or-set_other (chained.leads k other (omega arith) there)

pub one_more : (rows : List HostAddress) (start at : ℕ) (row : HostAddress) (first new : ℕ → Option ℕ) (nexts : List (Option ℕ)) → start ≡ at + 1
    → drop at rows ≡ row ∷ drop (at + 1) rows
    → AreChainedFrom rows first nexts start → length nexts ≡ length rows → ((code : ℕ) → new code ≡ cond (nat_eq (row_code row) code) (Some at) (first code))
    → AreChainedFrom rows new (set nexts at (first (row_code row))) at
one_more rows start at row first new nexts e is chained as_many news =
    let on : AreChainedFrom rows first nexts (at + 1) = subst (AreChainedFrom rows first nexts) e chained in
    let lt : at < length nexts = omega (arith, on.within) in
    record {
      begins = λ code. news code ∙ ap (cond (nat_eq (row_code row) code) (Some at)) (on.begins code) ∙ sym (ap (place_of code at) is);
      leads = λ k other le there. leads_by rows at row first nexts is on lt k other (here_or_behind at k le) there;
      within = omega (arith, on.within);
    }

-- ---- going along a chain

-- The way along the rows with a code has come to a place: no row in front of it is looked for.
pub record IsOnTheWay (rows : List HostAddress) (code : ℕ) (p : HostAddress → Bool) (place : Option ℕ) : Type 0 where
  pub from : ℕ
  pub comes : place ≡ place_of code from (drop from rows)
  pub same : find p (drop from rows) ≡ find p rows

-- how many rows are left
abbrev pub rows_left : ℕ → Option ℕ → ℕ
rows_left count None = 0
rows_left count (Some at) = count - at

-- what stands at a place that the way comes to
pub record IsArrival (p : HostAddress → Bool) (code : ℕ) (rows : List HostAddress) (from at : ℕ) : Type 0 where
  pub steps : ℕ
  pub row : HostAddress
  pub is : at ≡ from + steps
  pub here : drop steps rows ≡ row ∷ drop (suc steps) rows
  pub coded : row_code row ≡ code
  pub same : find p rows ≡ find p (drop steps rows)

passed_by : (p : HostAddress → Bool) (code : ℕ) (row : HostAddress) (t : Bool) → p row ≡ t → (row_code row == code) ≡ false → (p row ≡ true → row_code row ≡ code)
    → p row ≡ false
passed_by p code row true is other coded =
    let e : (row_code row == code) ≡ true = eq-eqb (row_code row) code (coded is) in
    let never : true ≡ false = sym e ∙ other in
    absurd cc
passed_by p code row false is other coded = is

arrival_by : (p : HostAddress → Bool) (code : ℕ) → ((row : HostAddress) → p row ≡ true → row_code row ≡ code)
    → (row : HostAddress) (rows : List HostAddress) (from at : ℕ) (t : Bool) → (row_code row == code) ≡ t
    → cond t (Some from) (place_of code (from + 1) rows) ≡ Some at → (place_of code (from + 1) rows ≡ Some at → IsArrival p code rows (from + 1) at)
    → IsArrival p code (row ∷ rows) from at
arrival_by p code coded row rows from at true is e on =
    let same : from ≡ at = cc in
    record { steps = 0; row = row; is = omega (arith, same); here = refl; coded = eqb-true (row_code row) code is; same = refl }
arrival_by p code coded row rows from at false is e on =
    let later : IsArrival p code rows (from + 1) at = on e in
    let passed : p row ≡ false = passed_by p code row (p row) refl is (coded row) in
    record { steps = suc later.steps; row = later.row; is = omega (arith, later.is); here = later.here; coded = later.coded; same = rw passed later.same }

arrives : (p : HostAddress → Bool) (code : ℕ) → ((row : HostAddress) → p row ≡ true → row_code row ≡ code) → (rows : List HostAddress) (from at : ℕ)
    → place_of code from rows ≡ Some at → IsArrival p code rows from at
arrives p code coded [] from at e = absurd cc
arrives p code coded (row ∷ rows) from at e = arrival_by p code coded row rows from at (row_code row == code) refl e (λ h. arrives p code coded rows (from + 1) at h)

-- the row at a place that the way comes to
pub record IsAt (rows : List HostAddress) (code : ℕ) (p : HostAddress → Bool) (at : ℕ) : Type 0 where
  pub row : HostAddress
  pub here : drop at rows ≡ row ∷ drop (at + 1) rows
  pub within : at < length rows
  pub coded : row_code row ≡ code
  pub same : find p rows ≡ find p (drop at rows)

not_past : (rows rest : List HostAddress) (at : ℕ) (row : HostAddress) → drop at rows ≡ row ∷ rest → at < length rows
not_past [] rest zero row e = absurd cc
not_past [] rest (suc at) row e = absurd cc
not_past (r ∷ rows) rest zero row e = omega arith
not_past (r ∷ rows) rest (suc at) row e = let lt : at < length rows = not_past rows rest at row e in omega arith

pub is_at : (rows : List HostAddress) (code : ℕ) (p : HostAddress → Bool) (at : ℕ) → ((row : HostAddress) → p row ≡ true → row_code row ≡ code)
    → IsOnTheWay rows code p (Some at) → IsAt rows code p at
is_at rows code p at coded way =
    let a : IsArrival p code (drop way.from rows) way.from at = arrives p code coded (drop way.from rows) way.from at (sym way.comes) in
    let place : drop a.steps (drop way.from rows) ≡ drop at rows = drop-drop a.steps way.from rows ∙ ap (λ (n : ℕ). drop n rows) (sym a.is) in
    let behind : drop (suc a.steps) (drop way.from rows) ≡ drop (at + 1) rows =
    drop-drop (suc a.steps) way.from rows ∙ ap (λ (n : ℕ). drop n rows) (let e : way.from + suc a.steps ≡ at + 1 = omega (arith, a.is) in e) in
    let here : drop at rows ≡ a.row ∷ drop (at + 1) rows = sym place ∙ a.here ∙ ap (λ (rest : List HostAddress). a.row ∷ rest) behind in
    record { row = a.row; here = here; within = not_past rows (drop (at + 1) rows) at a.row here; coded = a.coded; same = sym way.same ∙ a.same ∙ ap (find p) place }

pub found : (rows : List HostAddress) (code : ℕ) (p : HostAddress → Bool) (at : ℕ) (row : HostAddress) → IsAt rows code p at → drop at rows ≡ row ∷ drop (at + 1) rows
    → p row ≡ true → find p rows ≡ Some row
found rows code p at row is here passes = is.same ∙ ap (find p) here ∙ rw passes refl

pub goes_on : (rows : List HostAddress) (code : ℕ) (p : HostAddress → Bool) (nexts : List (Option ℕ)) (at : ℕ) (row : HostAddress) → LeadOn rows nexts 0
    → IsAt rows code p at → drop at rows ≡ row ∷ drop (at + 1) rows → p row ≡ false
    → IsOnTheWay rows code p (get_or nexts at None)
goes_on rows code p nexts at row leads is here fails =
    let pair : is.row ∷ drop (at + 1) rows ≡ row ∷ drop (at + 1) rows = sym is.here ∙ here in
    let same : is.row ≡ row = cc in
    record {
      from = at + 1;
      comes = leads at is.row (omega arith) is.here ∙ ap (λ (c : ℕ). place_of c (at + 1) (drop (at + 1) rows)) is.coded;
      same = sym (is.same ∙ ap (find p) here ∙ rw fails refl);
    }

fewer_by : (rows : List HostAddress) (code : ℕ) (p : HostAddress → Bool) (at from : ℕ) (o : Option ℕ) → ((row : HostAddress) → p row ≡ true → row_code row ≡ code)
    → at < length rows → o ≡ place_of code (at + 1) (drop (at + 1) rows)
    → rows_left (length rows) o < length rows - at
fewer_by rows code p at from None coded lt e = omega arith
fewer_by rows code p at from (Some next) coded lt e =
    let a : IsArrival p code (drop (at + 1) rows) (at + 1) next = arrives p code coded (drop (at + 1) rows) (at + 1) next (sym e) in
    omega (arith, a.is)

pub fewer : (rows : List HostAddress) (code : ℕ) (p : HostAddress → Bool) (nexts : List (Option ℕ)) (at : ℕ) → ((row : HostAddress) → p row ≡ true → row_code row ≡ code)
    → LeadOn rows nexts 0 → IsAt rows code p at
    → rows_left (length rows) (get_or nexts at None) < length rows - at
fewer rows code p nexts at coded leads is =
    fewer_by rows code p at 0 (get_or nexts at None) coded is.within (leads at is.row (omega arith) is.here
    ∙ ap (λ (c : ℕ). place_of c (at + 1) (drop (at + 1) rows)) is.coded)

-- ---- the end of the way

nowhere_by : (p : HostAddress → Bool) (code : ℕ) → ((row : HostAddress) → p row ≡ true → row_code row ≡ code)
    → (row : HostAddress) (rows : List HostAddress) (from : ℕ) (t : Bool) → (row_code row == code) ≡ t
    → cond t (Some from) (place_of code (from + 1) rows) ≡ None → (place_of code (from + 1) rows ≡ None → find p rows ≡ None) → find p (row ∷ rows) ≡ None
nowhere_by p code coded row rows from true is e on = absurd cc
nowhere_by p code coded row rows from false is e on =
    let passed : p row ≡ false = passed_by p code row (p row) refl is (coded row) in
    rw passed (on e)

nowhere : (p : HostAddress → Bool) (code : ℕ) → ((row : HostAddress) → p row ≡ true → row_code row ≡ code) → (rows : List HostAddress) (from : ℕ)
    → place_of code from rows ≡ None → find p rows ≡ None
nowhere p code coded [] from e = refl
nowhere p code coded (row ∷ rows) from e = nowhere_by p code coded row rows from (row_code row == code) refl e (λ h. nowhere p code coded rows (from + 1) h)

pub not_found : (rows : List HostAddress) (code : ℕ) (p : HostAddress → Bool) → ((row : HostAddress) → p row ≡ true → row_code row ≡ code) → IsOnTheWay rows code p None
    → find p rows ≡ None
not_found rows code p coded way = sym way.same ∙ nowhere p code coded (drop way.from rows) way.from (sym way.comes)

-- ---- a row for a host and a port has their code

and_both : (a b : Bool) → (a && b) ≡ true → (a ≡ true) × (b ≡ true)
and_both true b e = (refl, e)
and_both false b e = absurd cc

pub row_has_code : (host : List ℕ) (port : ℕ) (row : HostAddress) → is_row_for host port row ≡ true → row_code row ≡ code_of host port
unfolding code_of
row_has_code host port row e =
    let both = and_both (is_same_text row.host host) (row.port == port) e in
    let hosts : without_case row.host ≡ without_case host = (bytes_decides (without_case row.host) (without_case host)).0 both.0 in
    let ports : row.port ≡ port = eqb-true row.port port both.1 in
    rw (hosts, ports) refl

-- ---- as the code goes

pub arrived : (rows : List HostAddress) (host : List ℕ) (port : ℕ) (place : Option ℕ) (at : ℕ) → place ≡ Some at
    → IsOnTheWay rows (code_of host port) (is_row_for host port) place
    → IsAt rows (code_of host port) (is_row_for host port) at
arrived rows host port place at is way = is_at rows (code_of host port) (is_row_for host port) at (row_has_code host port)
    (subst (IsOnTheWay rows (code_of host port) (is_row_for host port)) is way)

any_default : {X : Type 0} → (xs : List X) (i : ℕ) (a b : X) → i < length xs → get_or xs i a ≡ get_or xs i b
any_default [] i a b lt = absurd (omega arith)
any_default (x ∷ xs) zero a b lt = refl
any_default (x ∷ xs) (suc i) a b lt = any_default xs i a b (omega arith)

-- the row that is read there
row_there : (rows : List HostAddress) (at : ℕ) (row : HostAddress) → at < length rows → row ≡ get_or rows at row → drop at rows ≡ row ∷ drop (at + 1) rows
row_there rows at row lt is = drop_more rows at row lt ∙ ap (λ (r : HostAddress). r ∷ drop (at + 1) rows) (sym is)

-- What is known where a row was read.
pub record IsReading (rows inner : List HostAddress) (nexts : List (Option ℕ)) (host : List ℕ) (port : ℕ) (place : Option ℕ) (at : ℕ) (row : HostAddress) : Type 0 where
  pub rows_are : rows ≡ inner
  pub leads : LeadOn inner nexts 0
  pub as_many : length nexts ≡ length inner
  pub is : place ≡ Some at
  pub way : IsOnTheWay rows (code_of host port) (is_row_for host port) place
  pub row_is : row ≡ get_or rows at row

pub row_found : (rows inner : List HostAddress) (nexts : List (Option ℕ)) (host : List ℕ) (port : ℕ) (place : Option ℕ) (at : ℕ) (row : HostAddress)
    → IsReading rows inner nexts host port place at row
    → is_row_for host port row ≡ true → find (is_row_for host port) inner ≡ Some row
row_found rows inner nexts host port place at row r passes =
    let here = arrived rows host port place at r.is r.way in
    ap (find (is_row_for host port)) (sym r.rows_are) ∙ found rows (code_of host port) (is_row_for host port) at row here (row_there rows at row here.within r.row_is)
    passes

pub next_is_there : (rows inner : List HostAddress) (nexts : List (Option ℕ)) (host : List ℕ) (port : ℕ) (place : Option ℕ) (at : ℕ) (row : HostAddress)
    → IsReading rows inner nexts host port place at row → at < length nexts
next_is_there rows inner nexts host port place at row r =
    let here = arrived rows host port place at r.is r.way in
    let lt : at < length rows = here.within in
    omega (arith, lt, ap length r.rows_are, r.as_many)

leads_from : (rows inner : List HostAddress) (nexts : List (Option ℕ)) → rows ≡ inner → LeadOn inner nexts 0 → LeadOn rows nexts 0
leads_from rows inner nexts e leads = subst (λ (rs : List HostAddress). LeadOn rs nexts 0) (sym e) leads

next_is : (nexts : List (Option ℕ)) (at : ℕ) (next : Option ℕ) → at < length nexts → next ≡ get_or nexts at next → get_or nexts at None ≡ next
next_is nexts at next lt e = any_default nexts at None next lt ∙ sym e

pub next_on_the_way : (rows inner : List HostAddress) (nexts : List (Option ℕ)) (host : List ℕ) (port : ℕ) (place : Option ℕ) (at : ℕ) (row : HostAddress)
    (next : Option ℕ)
    → IsReading rows inner nexts host port place at row → is_row_for host port row ≡ false → next ≡ get_or nexts at next
    → IsOnTheWay rows (code_of host port) (is_row_for host port) next
next_on_the_way rows inner nexts host port place at row next r fails e =
    let here = arrived rows host port place at r.is r.way in
    subst (IsOnTheWay rows (code_of host port) (is_row_for host port)) (next_is nexts at next (next_is_there rows inner nexts host port place at row r) e)
    (goes_on rows (code_of host port) (is_row_for host port) nexts at row (leads_from rows inner nexts r.rows_are r.leads) here
    (row_there rows at row here.within r.row_is) fails)

pub next_is_fewer : (rows inner : List HostAddress) (nexts : List (Option ℕ)) (host : List ℕ) (port : ℕ) (place : Option ℕ) (at : ℕ) (row : HostAddress) (next : Option ℕ)
    → IsReading rows inner nexts host port place at row → next ≡ get_or nexts at next → rows_left (length rows) next < rows_left (length rows) place
next_is_fewer rows inner nexts host port place at row next r e =
    let here = arrived rows host port place at r.is r.way in
    let less : rows_left (length rows) (get_or nexts at None) < length rows - at =
    fewer rows (code_of host port) (is_row_for host port) nexts at (row_has_code host port) (leads_from rows inner nexts r.rows_are r.leads) here in
    subst (λ (o : Option ℕ). rows_left (length rows) next < rows_left (length rows) o) (sym r.is)
    (subst (λ (o : Option ℕ). rows_left (length rows) o < length rows - at) (next_is nexts at next (next_is_there rows inner nexts host port place at row r) e) less)

pub no_row : (rows inner : List HostAddress) (host : List ℕ) (port : ℕ) (place : Option ℕ) → rows ≡ inner → place ≡ None
    → IsOnTheWay rows (code_of host port) (is_row_for host port) place
    → find (is_row_for host port) inner ≡ None
no_row rows inner host port place e is way =
    ap (find (is_row_for host port)) (sym e)
    ∙ not_found rows (code_of host port) (is_row_for host port) (row_has_code host port) (subst (IsOnTheWay rows (code_of host port) (is_row_for host port)) is way)
