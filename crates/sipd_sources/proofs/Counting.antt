-- What is known of a day, part by part.
use Rattle.std.proofs.Common.{◌≡◌, ℕ, Bool, true, false, Result, Ok, Err, List, Vec, sym, ◌∙◌, ap}
use Rattle.std.specs.Prelude.{OnOk, if◌then◌else◌, not}
use Rattle.std.specs.List.{list_any}
use Rattle.std.specs.BTreeMap.{is_at}
use Rattle.std.specs.BTreeSet.{insert_key}
use Rattle.sip_config_types.specs.declared.config.Config.{Config}
use Rattle.sip_event.specs.declared.event.StepOut.{StepOut}
use Rattle.sipd_sources.specs.declared.asked.Asked.{Asked}
use Rattle.sipd_sources.specs.declared.filter.SourceFilter.{SourceFilter}
use Rattle.sipd_sources.specs.declared.source.Mark.{Mark}
use Rattle.sipd_sources.specs.declared.source.Source.{Source}
use Rattle.sipd_sources.specs.declared.source.SourceMoment.{SourceMoment}
use Rattle.sipd_sources.specs.Asked.{asked_with}
use Rattle.sipd_sources.specs.Filter.{takes}
use Rattle.sipd_sources.specs.Told.{Known, asks_at, heard_from, held, is_new, mark_of, moment_of, names_in, rows_with, tried_with, with_text}
use Rattle.sipd_sources.proofs.Keys.{compare, key_put, key_there}

-- ---- names

pub new_by : {A : Type 0} (keys : List (Vec ℕ A)) (k : Vec ℕ A) (text : List ℕ) (added : Bool) → k.items ≡ text
    → added ≡ not (list_any (is_at (compare k)) keys) → added ≡ is_new text (names_in keys)
new_by keys k text added is says =
    says ∙ ap not (key_there keys k) ∙ ap (λ (t : List ℕ). is_new t (names_in keys)) is

pub put_as : {A : Type 0} (keys new : List (Vec ℕ A)) (k : Vec ℕ A) (text : List ℕ) → k.items ≡ text → new ≡ insert_key compare keys k
    → names_in new ≡ with_text text (names_in keys)
put_as keys new k text is puts = ap names_in puts ∙ key_put keys k ∙ ap (λ (t : List ℕ). with_text t (names_in keys)) is

-- ---- a datagram

abbrev pub marked : Asked → Bool → Mark
marked asked is = record { challenged = asked.challenged; proven = asked.proven; wrong = asked.wrong; is_new = is }

-- one that isn't counted
pub passed_by : (config : Config) (out : StepOut) (ip bytes : List ℕ) (old : Known) (counts : Bool) (moment : SourceMoment) → moment ≡ moment_of config out
    → counts ≡ takes old.filter moment ip → counts ≡ false → old ≡ heard_from config out ip bytes old
passed_by config out ip bytes old counts moment at says isnt =
    ap (λ (b : Bool). if b then asks_at ip (moment_of config out) (asked_with config.realm bytes out.packets out.records) old else old)
    (sym isnt ∙ says ∙ ap (λ (m : SourceMoment). takes old.filter m ip) at)

-- one that is
counted_to : (filter : SourceFilter) (config : Config) (out : StepOut) (ip bytes : List ℕ) (rows new_rows : List (ℕ × Source)) (tried new_tried : List
    (List ℕ)) (counts : Bool) (moment : SourceMoment) (asked : Asked) → counts ≡ takes filter moment ip → counts ≡ true
    → moment ≡ moment_of config out → asked ≡ asked_with config.realm bytes out.packets out.records
    → new_rows ≡ rows_with ip moment (mark_of ip asked tried) rows → new_tried ≡ tried_with ip asked.name tried
    → held filter new_rows new_tried ≡ heard_from config out ip bytes (held filter rows tried)
counted_to filter config out ip bytes rows new_rows tried new_tried counts moment asked says is at asks puts keeps =
    ap (λ (r : List (ℕ × Source)). held filter r new_tried) puts
    ∙ ap (λ (n : List (List ℕ)). held filter (rows_with ip moment (mark_of ip asked tried) rows) n) keeps
    ∙ ap (λ (m : SourceMoment). asks_at ip m asked (held filter rows tried)) at
    ∙ ap (λ (a : Asked). asks_at ip (moment_of config out) a (held filter rows tried)) asks
    ∙ ap (λ (b : Bool). if b then asks_at ip (moment_of config out) (asked_with config.realm bytes out.packets out.records) (held filter rows tried)
    else held filter rows tried) (sym is ∙ says ∙ ap (λ (m : SourceMoment). takes filter m ip) at)

pub counted_if : {X E : Type 0} (result : Result X E) (filter : SourceFilter) (config : Config) (out : StepOut) (ip bytes : List ℕ) (rows new_rows : List
    (ℕ × Source)) (tried new_tried : List (List ℕ)) (counts : Bool) (moment : SourceMoment) (asked : Asked) → counts ≡ takes filter moment ip → counts ≡ true
    → moment ≡ moment_of config out → asked ≡ asked_with config.realm bytes out.packets out.records
    → OnOk result (new_rows ≡ rows_with ip moment (mark_of ip asked tried) rows) → OnOk result (new_tried ≡ tried_with ip asked.name tried)
    → OnOk result (held filter new_rows new_tried ≡ heard_from config out ip bytes (held filter rows tried))
counted_if (Ok x) filter config out ip bytes rows new_rows tried new_tried counts moment asked says is at asks puts keeps =
    counted_to filter config out ip bytes rows new_rows tried new_tried counts moment asked says is at asks puts keeps
counted_if (Err e) filter config out ip bytes rows new_rows tried new_tried counts moment asked says is at asks puts keeps = tt
