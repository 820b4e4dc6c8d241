-- What is told of an address is what its own datagrams did.
use Rattle.std.proofs.Common.{◌≡◌, ◌≢◌, ◌+◌, ℕ, suc, Bool, true, false, ◌||◌, ◌&&◌, cond, List, [], ◌∷◌, ◌++◌, length, Option, None, Some, refl, sym, ◌∙◌}
use Rattle.std.proofs.Common.{ap, subst, arith, count_by, append-nil, append_assoc}
use Rattle.std.specs.Prelude.{filter, not, unwrap_or}
use Rattle.std.specs.List.{list_any}
use Rattle.std.specs.Option.{option_to_list}
use Rattle.std.specs.Str.{bytes_eq}
use Rattle.std.proofs.lemmas.Grind.{flat_map-append}
use Rattle.std.proofs.lemmas.List.{length-append}
use Rattle.std.proofs.lemmas.List.Sums.{sum_by_push}
use Rattle.std.proofs.lemmas.Slice.Eq.{bytes_eq-Decides}
use Rattle.sip_uri.specs.declared.addr.Addr.{Addr}
use Rattle.sip_config_types.specs.declared.config.Config.{Config}
use Rattle.sip_event.specs.declared.event.Event.{Event}
use Rattle.sip_event.specs.declared.event.Event.TheVariants.{Datagram, Time, Fault}
use Rattle.sip_event.specs.declared.event.StepOut.{StepOut}
use Rattle.sip_listener.specs.Heard.{Heard, heard_as}
use Rattle.sipd_report.specs.Totals.{capped}
use Rattle.sipd_sources.specs.declared.asked.Asked.{Asked}
use Rattle.sipd_sources.specs.declared.filter.SourceFilter.{SourceFilter}
use Rattle.sipd_sources.specs.declared.source.Mark.{Mark}
use Rattle.sipd_sources.specs.declared.source.Source.{Source}
use Rattle.sipd_sources.specs.declared.source.SourceMoment.{SourceMoment}
use Rattle.sipd_sources.specs.Asked.{asked_with}
use Rattle.sipd_sources.specs.Filter.{takes}
use Rattle.sipd_sources.specs.Source.{counted, heard_more, number_of, silent}
use Rattle.sipd_sources.specs.Told.{Known, asks_at, is_new, known_behind, known_by, known_of, known_with, mark_of, moment_of, none}
use Rattle.sipd_sources.specs.Told.{sources_of, tried_with, tries_new}
use Rattle.sipd_sources.specs.Own.{HasAddress, HaveAddresses, IsAddress, asked_in, counts_for, counts_of, different, first_moment, is_own, last_moment}
use Rattle.sipd_sources.specs.Own.{moment_in, names_tried, source_by, source_in}
use Rattle.sipd_sources.proofs.Addresses.{found_other, found_own, new_other, new_own, or_swapped, same_number}

-- ---- counts

capped_more : (n : ℕ) → capped (capped n + 1) ≡ capped (n + 1)
capped_more n = omega arith

with_none : (n : ℕ) → n ≡ n + 0
with_none n = omega arith

with_one_more : (n : ℕ) → n + 1 ≡ suc n
with_one_more n = omega arith

counted_one : (n : ℕ) (b : Bool) → counted (capped n) b ≡ capped (n + cond b 1 0)
counted_one n true = capped_more n
counted_one n false = ap capped (with_none n)

count_more : (p : Heard → Bool) (own : List Heard) (step : Heard) → counted (capped (count_by p own)) (p step) ≡ capped (count_by p (own ++ step ∷ []))
count_more p own step =
    counted_one (count_by p own) (p step) ∙ ap capped (sym (sum_by_push (λ (x : Heard). cond {A = ℕ} (p x) 1 0) own step))

-- ---- names

any_push : (text put : List ℕ) (texts : List (List ℕ)) → list_any (bytes_eq text) (texts ++ put ∷ []) ≡ (bytes_eq text put || list_any (bytes_eq text) texts)
any_push text put [] = refl
any_push text put (x ∷ xs) =
    ap (λ (b : Bool). bytes_eq text x || b) (any_push text put xs) ∙ or_swapped (bytes_eq text x) (bytes_eq text put) (list_any (bytes_eq text) xs)

turned : (left right : List ℕ) (t : Bool) → bytes_eq left right ≡ t → bytes_eq right left ≡ t
turned left right true is = (bytes_eq-Decides right left).1 (sym ((bytes_eq-Decides left right).0 is))
turned left right false is = by_test (bytes_eq right left) refl where
  by_test : (t : Bool) → bytes_eq right left ≡ t → t ≡ false
  by_test true same =
      let back : bytes_eq left right ≡ true = (bytes_eq-Decides left right).1 (sym ((bytes_eq-Decides right left).0 same)) in
      absurd (cc)
  by_test false other = refl

-- as many, or one more, unless it is so
abbrev or_more : Bool → ℕ → ℕ
or_more is n = cond is n (suc n)

crossed : (a b : Bool) (n : ℕ) → or_more a (or_more b n) ≡ or_more b (or_more a n)
crossed true true n = refl
crossed true false n = refl
crossed false true n = refl
crossed false false n = refl

different_more : (texts : List (List ℕ)) (put : List ℕ) → different (texts ++ put ∷ []) ≡ or_more (list_any (bytes_eq put) texts) (different texts)
different_more [] put = refl
different_more (x ∷ xs) put =
    ap (λ (b : Bool). or_more b (different (xs ++ put ∷ []))) (any_push x put xs)
    ∙ ap (λ (n : ℕ). or_more (bytes_eq x put || list_any (bytes_eq x) xs) n) (different_more xs put)
    ∙ by_test (bytes_eq x put) refl where
      by_test : (t : Bool) → bytes_eq x put ≡ t
          → or_more (t || list_any (bytes_eq x) xs) (or_more (list_any (bytes_eq put) xs) (different xs))
          ≡ or_more (bytes_eq put x || list_any (bytes_eq put) xs) (or_more (list_any (bytes_eq x) xs) (different xs))
      by_test true is =
          ap (λ (text : List ℕ). or_more (list_any (bytes_eq text) xs) (different xs)) (sym ((bytes_eq-Decides x put).0 is))
          ∙ sym (ap (λ (b : Bool). or_more (b || list_any (bytes_eq put) xs) (or_more (list_any (bytes_eq x) xs) (different xs))) (turned x put true is))
      by_test false is =
          crossed (list_any (bytes_eq x) xs) (list_any (bytes_eq put) xs) (different xs)
          ∙ sym (ap (λ (b : Bool). or_more (b || list_any (bytes_eq put) xs) (or_more (list_any (bytes_eq x) xs) (different xs))) (turned x put false is))

or_one : (is : Bool) (n : ℕ) → n + cond (not is) 1 0 ≡ or_more is n
or_one true n = sym (with_none n)
or_one false n = with_one_more n

names_more : (own : List Heard) (step : Heard) → names_tried (own ++ step ∷ []) ≡ names_tried own ++ option_to_list (asked_in step).name
names_more own step =
    flat_map-append (λ (x : Heard). option_to_list (asked_in x).name) own (step ∷ []) ∙ ap (λ (l : List (List ℕ)). names_tried own ++ l) (append-nil (option_to_list (asked_in step).name))

-- ---- one more of its own datagrams

-- what was tried from an address is known
abbrev IsTried : List ℕ → List Heard → List (List ℕ) → Type 0
IsTried ip own tried = (name : List ℕ) → is_new (ip ++ name) tried ≡ not (list_any (bytes_eq name) (names_tried own))

tried_more : (ip : List ℕ) (own : List Heard) (step : Heard) (tried : List (List ℕ)) (name : Option (List ℕ)) → (asked_in step).name ≡ name → IsTried ip own tried
    → IsTried ip (own ++ step ∷ []) (tried_with ip name tried)
tried_more ip own step tried None is h =
    λ name. h name ∙ ap (λ (l : List (List ℕ)). not (list_any (bytes_eq name) l))
    (sym (names_more own step ∙ ap (λ (o : Option (List ℕ)). names_tried own ++ option_to_list o) is ∙ append-nil (names_tried own)))
tried_more ip own step tried (Some put) is h =
    λ name. new_own ip name put tried (names_tried own) (h name)
    ∙ ap not (sym (any_push name put (names_tried own)))
    ∙ ap (λ (l : List (List ℕ)). not (list_any (bytes_eq name) l))
    (sym (names_more own step ∙ ap (λ (o : Option (List ℕ)). names_tried own ++ option_to_list o) is))

names_count : (ip : List ℕ) (own : List Heard) (step : Heard) (tried : List (List ℕ)) (name : Option (List ℕ)) → (asked_in step).name ≡ name → IsTried ip own tried
    → counted (capped (different (names_tried own))) (tries_new ip name tried) ≡ capped (different (names_tried (own ++ step ∷ [])))
names_count ip own step tried None is h =
    ap (λ (l : List (List ℕ)). capped (different l))
    (sym (names_more own step ∙ ap (λ (o : Option (List ℕ)). names_tried own ++ option_to_list o) is ∙ append-nil (names_tried own)))
names_count ip own step tried (Some put) is h =
    ap (λ (b : Bool). counted (capped (different (names_tried own))) b) (h put)
    ∙ counted_one (different (names_tried own)) (not (list_any (bytes_eq put) (names_tried own)))
    ∙ ap capped (or_one (list_any (bytes_eq put) (names_tried own)) (different (names_tried own)) ∙ sym (different_more (names_tried own) put))
    ∙ ap (λ (l : List (List ℕ)). capped (different l))
    (sym (names_more own step ∙ ap (λ (o : Option (List ℕ)). names_tried own ++ option_to_list o) is))

last_more : (moment : SourceMoment) (own : List Heard) (step : Heard) → last_moment moment (own ++ step ∷ []) ≡ moment_in step
last_more moment [] step = refl
last_more moment (x ∷ xs) step = last_more (moment_in x) xs step

first_more : (own : List Heard) (step : Heard) → first_moment (moment_in step) own ≡ first_moment (moment_in step) (own ++ step ∷ [])
first_more [] step = refl
first_more (x ∷ xs) step = refl

-- an address, by its parts
abbrev with_parts : List ℕ → ℕ → ℕ → ℕ → ℕ → ℕ → SourceMoment → SourceMoment → Source
with_parts ip heard challenged proven wrong names first last = record {
  ip = ip;
  heard = heard;
  challenged = challenged;
  proven = proven;
  wrong = wrong;
  names = names;
  first = first;
  last = last;
}

heard_is : (ip : List ℕ) (own : List Heard) (step : Heard) (tried : List (List ℕ)) → IsTried ip own tried
    → heard_more (moment_in step) (mark_of ip (asked_in step) tried) (counts_of ip (moment_in step) own) ≡ counts_of ip (moment_in step) (own ++ step ∷ [])
heard_is ip own step tried h =
    let heard : capped (capped (length own) + 1) ≡ capped (length (own ++ step ∷ [])) = capped_more (length own) ∙ ap capped (sym (length-append own (step ∷ []))) in
    let challenged = count_more (λ (x : Heard). (asked_in x).challenged) own step in
    let proven = count_more (λ (x : Heard). (asked_in x).proven) own step in
    let wrong = count_more (λ (x : Heard). (asked_in x).wrong) own step in
    let names = names_count ip own step tried (asked_in step).name refl h in
    let moment : SourceMoment = moment_in step in
    let old : Source = counts_of ip moment own in
    let new : Source = counts_of ip moment (own ++ step ∷ []) in
    let mark : Mark = mark_of ip (asked_in step) tried in
    ap (λ (n : ℕ). with_parts ip n (counted old.challenged mark.challenged) (counted old.proven mark.proven) (counted old.wrong mark.wrong) (counted old.names mark.is_new) old.first moment)
    heard
    ∙ ap (λ (n : ℕ). with_parts ip new.heard n (counted old.proven mark.proven) (counted old.wrong mark.wrong) (counted old.names mark.is_new) old.first moment) challenged
    ∙ ap (λ (n : ℕ). with_parts ip new.heard new.challenged n (counted old.wrong mark.wrong) (counted old.names mark.is_new) old.first moment) proven
    ∙ ap (λ (n : ℕ). with_parts ip new.heard new.challenged new.proven n (counted old.names mark.is_new) old.first moment) wrong
    ∙ ap (λ (n : ℕ). with_parts ip new.heard new.challenged new.proven new.wrong n old.first moment) names
    ∙ ap (λ (m : SourceMoment). with_parts ip new.heard new.challenged new.proven new.wrong new.names m moment) (first_more own step)
    ∙ ap (λ (m : SourceMoment). with_parts ip new.heard new.challenged new.proven new.wrong new.names new.first m) (sym (last_more moment own step))

known_is : (ip : List ℕ) (moment : SourceMoment) (own : List Heard) → unwrap_or (source_by ip own) (silent ip moment) ≡ counts_of ip moment own
known_is ip moment [] = refl
known_is ip moment (x ∷ xs) = refl

source_is : (ip : List ℕ) (own : List Heard) (step : Heard) → Some (counts_of ip (moment_in step) (own ++ step ∷ [])) ≡ source_by ip (own ++ step ∷ [])
source_is ip [] step = refl
source_is ip (x ∷ xs) step = refl

-- ---- a step

-- what is known of an address is what these datagrams did
pub record Holds (ip : List ℕ) (own : List Heard) (known : Known) : Type 0 where
  pub row : source_in ip known ≡ source_by ip own
  pub tried : IsTried ip own known.tried

-- some steps, with one more if it is so
abbrev with_one : Bool → List Heard → Heard → List Heard
with_one is own step = cond is (own ++ step ∷ []) own

-- another address's datagram leaves what is known of it
other_row : (ip from : List ℕ) (moment : SourceMoment) (asked : Asked) (known : Known) → IsAddress ip → IsAddress from → ip ≢ from
    → source_in ip (asks_at from moment asked known) ≡ source_in ip known
other_row ip from moment asked known one two unlike =
    found_other (number_of ip) (number_of from) (heard_more moment (mark_of from asked known.tried) (known_of from moment known.rows)) known.rows
    (λ same. unlike (same_number ip from one two same))

other_tried : (ip from : List ℕ) (own : List Heard) (tried : List (List ℕ)) (name : Option (List ℕ)) → IsAddress ip → IsAddress from → ip ≢ from
    → IsTried ip own tried → IsTried ip own (tried_with from name tried)
other_tried ip from own tried None one two unlike h = h
other_tried ip from own tried (Some put) one two unlike h = λ name. new_other ip from name put tried (one.0 ∙ sym two.0) unlike ∙ h name

unlike_by : (ip from : List ℕ) → bytes_eq from ip ≡ false → ip ≢ from
unlike_by ip from other = λ same. let is : bytes_eq from ip ≡ true = (bytes_eq-Decides from ip).1 (sym same) in absurd (cc)

-- its own does what it does
own_holds : (ip : List ℕ) (own : List Heard) (known : Known) (step : Heard) → Holds ip own known
    → Holds ip (own ++ step ∷ []) (asks_at ip (moment_in step) (asked_in step) known)
own_holds ip own known step h =
    let moment : SourceMoment = moment_in step in
    let mark : Mark = mark_of ip (asked_in step) known.tried in
    record {
      row = found_own (number_of ip) (heard_more moment mark (known_of ip moment known.rows)) known.rows
          ∙ ap (λ (o : Option Source). Some (heard_more moment mark (unwrap_or o (silent ip moment)))) h.row
          ∙ ap (λ (s : Source). Some (heard_more moment mark s)) (known_is ip moment own)
          ∙ ap Some (heard_is ip own step known.tried h.tried) ∙ source_is ip own step;
      tried = tried_more ip own step known.tried (asked_in step).name refl h.tried;
    }

datagram_holds : (ip : List ℕ) (own : List Heard) (known : Known) (config : Config) (out : StepOut) (at word : ℕ) (from : Addr) (bytes : List ℕ) → IsAddress ip
    → IsAddress from.ip → Holds ip own known → (t s : Bool) → bytes_eq from.ip ip ≡ s
    → Holds ip (with_one (t && s) own (heard_as config (Some (Datagram at word from bytes)) out))
    (cond t (asks_at from.ip (moment_of config out) (asked_with config.realm bytes out.packets out.records) known) known)
datagram_holds ip own known config out at word from bytes one two h false s is = h
datagram_holds ip own known config out at word from bytes one two h true true is =
    let step : Heard = heard_as config (Some (Datagram at word from bytes)) out in
    subst (λ (x : List ℕ). Holds ip (own ++ step ∷ []) (asks_at x (moment_in step) (asked_in step) known)) (sym ((bytes_eq-Decides from.ip ip).0 is))
    (own_holds ip own known step h)
datagram_holds ip own known config out at word from bytes one two h true false is =
    let asked : Asked = asked_with config.realm bytes out.packets out.records in
    record {
      row = other_row ip from.ip (moment_of config out) asked known one two (unlike_by ip from.ip is) ∙ h.row;
      tried = other_tried ip from.ip own known.tried asked.name one two (unlike_by ip from.ip is) h.tried;
    }

event_holds : (ip : List ℕ) (own : List Heard) (known : Known) (config : Config) (out : StepOut) (event : Option Event) → IsAddress ip → HasAddress event
    → Holds ip own known → Holds ip (with_one (counts_for known.filter ip (moment_of config out) event) own (heard_as config event out)) (known_by config out event known)
event_holds ip own known config out None one two h = h
event_holds ip own known config out (Some (Datagram at word from bytes)) one two h =
    datagram_holds ip own known config out at word from bytes one two h (takes known.filter (moment_of config out) from.ip) (bytes_eq from.ip ip) refl
event_holds ip own known config out (Some (Time at)) one two h = h
event_holds ip own known config out (Some (Fault at ticket)) one two h = h

-- which datagrams count stays
filter_stays : (known : Known) (config : Config) (out : StepOut) (event : Option Event) → (known_by config out event known).filter ≡ known.filter
filter_stays known config out None = refl
filter_stays known config out (Some (Datagram at word from bytes)) = by_test (takes known.filter (moment_of config out) from.ip) where
  by_test : (t : Bool) → (cond t (asks_at from.ip (moment_of config out) (asked_with config.realm bytes out.packets out.records) known) known).filter ≡ known.filter
  by_test true = refl
  by_test false = refl
filter_stays known config out (Some (Time at)) = refl
filter_stays known config out (Some (Fault at ticket)) = refl

event_other : (ip : List ℕ) (known : Known) (config : Config) (out : StepOut) (event : Option Event) → HasAddress event → IsAddress ip
    → counts_for known.filter ip (moment_of config out) event ≡ false → source_in ip (known_by config out event known) ≡ source_in ip known
event_other ip known config out None two one isnt = refl
event_other ip known config out (Some (Datagram at word from bytes)) two one counts =
    by_tests (takes known.filter (moment_of config out) from.ip) (bytes_eq from.ip ip) refl counts where
      by_tests : (t s : Bool) → bytes_eq from.ip ip ≡ s → (t && s) ≡ false
          → source_in ip (cond t (asks_at from.ip (moment_of config out) (asked_with config.realm bytes out.packets out.records) known) known) ≡ source_in ip known
      by_tests false s is isnt = refl
      by_tests true true is isnt = absurd cc
      by_tests true false is isnt =
          other_row ip from.ip (moment_of config out) (asked_with config.realm bytes out.packets out.records) known one two (unlike_by ip from.ip is)
event_other ip known config out (Some (Time at)) two one isnt = refl
event_other ip known config out (Some (Fault at ticket)) two one isnt = refl

pub others_change_nothing : (known : Known) (step : Heard) (ip : List ℕ) → HasAddress step.event → IsAddress ip → is_own known.filter ip step ≡ false
    → source_in ip (known_with step known) ≡ source_in ip known
others_change_nothing known step ip two one isnt = event_other ip known step.config step.out step.event two one isnt

-- ---- a day

joined : (t : Bool) (own later : List Heard) (step : Heard) → with_one t own step ++ later ≡ own ++ cond t (step ∷ later) later
joined true own later step = append_assoc own (step ∷ []) later
joined false own later step = refl

day_holds : (chosen : SourceFilter) (ip : List ℕ) (own : List Heard) (known : Known) (day : List Heard) → known.filter ≡ chosen → IsAddress ip → HaveAddresses day
    → Holds ip own known → Holds ip (own ++ filter (is_own chosen ip) day) (known_behind known day)
day_holds chosen ip own known [] same one all h = subst (λ (l : List Heard). Holds ip l known) (sym (append-nil own)) h
day_holds chosen ip own known (step ∷ later) same one all h =
    let next : Known = known_with step known in
    let here : Holds ip (with_one (is_own chosen ip step) own step) next =
    subst (λ (c : SourceFilter). Holds ip (with_one (is_own c ip step) own step) next) same
    (event_holds ip own known step.config step.out step.event one all.0 h) in
    subst (λ (l : List Heard). Holds ip l (known_behind next later)) (joined (is_own chosen ip step) own (filter (is_own chosen ip) later) step)
    (day_holds chosen ip (with_one (is_own chosen ip step) own step) next later (filter_stays known step.config step.out step.event ∙ same) one all.1 here)

nothing_yet : (chosen : SourceFilter) (ip : List ℕ) → Holds ip [] (none chosen)
nothing_yet chosen ip = record { row = refl; tried = λ name. refl }

pub told_by_own : (chosen : SourceFilter) (day : List Heard) (ip : List ℕ) → HaveAddresses day → IsAddress ip
    → source_in ip (sources_of chosen day) ≡ source_by ip (filter (is_own chosen ip) day)
told_by_own chosen day ip all one = (day_holds chosen ip [] (none chosen) day refl one all (nothing_yet chosen ip)).row
