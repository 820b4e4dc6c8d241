-- A Via that goes on as it stands: it has neither an `rport` nor a `received`.
use Rattle.std.proofs.Common.{◌≡◌, ℕ, Bool, true, false, List, [], ◌∷◌, ◌++◌, Option, Some, None, refl, sym, ap, ◌∙◌}
use Rattle.std.specs.Prelude.{◌==◌, ◌||◌, not, is_some, codes}
use Rattle.std.specs.List.{AllZip, flat_map, join_with_byte}
use Rattle.std.specs.Str.{bytes_eq}
use Rattle.std.proofs.lemmas.Bool.{eqb-true}
use Rattle.std.proofs.lemmas.Bool.Decides.{same_from_decides}
use Rattle.std.proofs.lemmas.Slice.Eq.{bytes_eq-Decides}
use Rattle.std.proofs.lemmas.List.{append-nil}
use Rattle.sip_text.specs.Words.{is_token_text, is_same_text}
use Rattle.sip_text.specs.Lists.{trimmed}
use Rattle.sip_text.specs.Cuts.{parts_at}
use Rattle.sip_text.proofs.PartLaws.{only_parts}
use Rattle.sip_uri.specs.declared.addr.Addr.{Addr}
use Rattle.sip_route.specs.header.declared.parameters.HeaderParameter.{HeaderParameter}
use Rattle.sip_route.specs.header.declared.via.Via.{Via}
use Rattle.sip_route.specs.header.Parameters.{IsAssigned, IsParameterBy, IsParameter, parameter_of}
use Rattle.sip_route.specs.header.Via.{via_of, IsVia}
use Rattle.sip_route.proofs.of_header.Words.{AllPassing, while_is, all_weaker}
use Rattle.sip_route.proofs.of_header.ParameterLaws.{is_plain, plain_text, written_via}
use Rattle.sip_edit.specs.TopVia.{before_equals, is_parameter, edited, asks_for_port, source_of, with_source, received_as, received_via}

-- ---- the name of a parameter

abbrev not_equals : ℕ → Bool
not_equals b = not (b == 61)

plain_by : (b : ℕ) (t : Bool) → (b == 61) ≡ t → is_plain b ≡ true → not t ≡ true
plain_by b false is plain = refl
plain_by b true is plain =
    let same : b ≡ 61 = eqb-true b 61 is in
    let never : is_plain 61 ≡ true = ap is_plain (sym same) ∙ plain in
    cc

plain_passes : (b : ℕ) → is_plain b ≡ true → not_equals b ≡ true
plain_passes b plain = plain_by b (b == 61) refl plain

passing : (text : List ℕ) → is_token_text (trimmed text) ≡ true → AllPassing not_equals text
passing text token = all_weaker is_plain not_equals text plain_passes (plain_text text token)

alone : (text : List ℕ) → is_token_text (trimmed text) ≡ true → before_equals text ≡ text
alone text token = ap before_equals (sym (append-nil text)) ∙ while_is not_equals text [] (passing text token) tt

name_by : (text name : List ℕ) (value : Option (List ℕ)) → IsParameterBy text name value → trimmed (before_equals text) ≡ name
name_by text name None h = ap trimmed (alone text (ap is_token_text h.0 ∙ h.1)) ∙ h.0
name_by text name (Some value) h =
    let is : IsAssigned text name value = h.0 in
    let front : before_equals text ≡ is.left = ap before_equals is.whole ∙ while_is not_equals is.left (61 ∷ is.right)
    (passing is.left (ap is_token_text is.is_name ∙ h.1)) refl in
    ap trimmed front ∙ is.is_name

pub named : (sought text : List ℕ) (p : HeaderParameter) → IsParameter text p → is_parameter sought text ≡ is_same_text p.name sought
named sought text p is = ap (λ (n : List ℕ). is_same_text n sought) (name_by text p.name p.value is)

-- ---- none of a name

none_here : (sought : List ℕ) (p : HeaderParameter) (ps : List HeaderParameter) (t : Bool) → is_same_text p.name sought ≡ t
    → is_some (parameter_of sought (p ∷ ps)) ≡ false
    → t ≡ false
none_here sought p ps false is none = refl
none_here sought p ps true is none = let never = rw is at none in absurd cc

none_later : (sought : List ℕ) (p : HeaderParameter) (ps : List HeaderParameter) → is_some (parameter_of sought (p ∷ ps)) ≡ false
    → is_some (parameter_of sought ps) ≡ false
none_later sought p ps none =
    let other : is_same_text p.name sought ≡ false = none_here sought p ps (is_same_text p.name sought) refl none in
    let here = rw other at none in here

other_name : (sought text : List ℕ) (p : HeaderParameter) (ps : List HeaderParameter) → IsParameter text p → is_some (parameter_of sought (p ∷ ps)) ≡ false
    → is_parameter sought text ≡ false
other_name sought text p ps is none = named sought text p is ∙ none_here sought p ps (is_same_text p.name sought) refl none

none_asks : (texts : List (List ℕ)) (ps : List HeaderParameter) → AllZip IsParameter texts ps → is_some (parameter_of (codes "rport") ps) ≡ false
    → asks_for_port texts ≡ false
none_asks [] ps are none = refl
none_asks (text ∷ texts) [] are none = absurd are
none_asks (text ∷ texts) (p ∷ ps) are none =
    rw (other_name (codes "rport") text p ps are.0 none) (none_asks texts ps are.1 (none_later (codes "rport") p ps none))

abbrev pub as_written : List (List ℕ) → List ℕ
as_written texts = flat_map (λ text. 59 ∷ text) texts

none_edited : (port : ℕ) (texts : List (List ℕ)) (ps : List HeaderParameter) → AllZip IsParameter texts ps → is_some (parameter_of (codes "rport") ps) ≡ false
    → is_some (parameter_of (codes "received") ps) ≡ false
    → flat_map (edited port) texts ≡ as_written texts
none_edited port [] ps are asks received = refl
none_edited port (text ∷ texts) [] are asks received = absurd are
none_edited port (text ∷ texts) (p ∷ ps) are asks received =
    rw (other_name (codes "rport") text p ps are.0 asks, other_name (codes "received") text p ps are.0 received)
    (ap (λ (w : List ℕ). 59 ∷ text ++ w) (none_edited port texts ps are.1 (none_later (codes "rport") p ps asks) (none_later (codes "received") p ps received)))

-- ---- the parts make up the value

pub joined : (first : List ℕ) (texts : List (List ℕ)) → join_with_byte 59 (first ∷ texts) ≡ first ++ as_written texts
joined first [] = sym (append-nil first)
joined first (text ∷ texts) = ap (λ (w : List ℕ). first ++ 59 ∷ w) (joined text texts)

-- ---- the value of a Via that is read

no_port : (a b : Bool) → (a || b) ≡ false → a ≡ false
no_port false b e = refl
no_port true b e = absurd cc

no_received : (a b : Bool) → (a || b) ≡ false → b ≡ false
no_received false b e = e
no_received true b e = absurd cc

kept : (value : List ℕ) (via : Via) (from : Addr) → IsVia value via → is_some (parameter_of (codes "rport") via.parameters) ≡ false
    → is_some (parameter_of (codes "received") via.parameters) ≡ false
    → received_as (Some via) value from ≡ value ++ source_of via.host from false
kept value via from is asks received =
    let texts : flat_map (edited from.port) is.texts ≡ as_written is.texts = none_edited from.port is.texts via.parameters is.are_parameters asks received in
    let asked : asks_for_port is.texts ≡ false = none_asks is.texts via.parameters is.are_parameters asks in
    let whole : is.first ++ as_written is.texts ≡ value = sym (joined is.first is.texts) ∙ is.parted.whole in
    ap (with_source via.host from) (sym (only_parts 59 value (is.first ∷ is.texts) is.parted))
    ∙ ap (λ (w : List ℕ). is.first ++ w ++ source_of via.host from (asks_for_port is.texts)) texts
    ∙ ap (λ (t : Bool). is.first ++ as_written is.texts ++ source_of via.host from t) asked
    ∙ ap (λ (w : List ℕ). w ++ source_of via.host from false) whole

pub read : (value : List ℕ) (via : Via) (from : Addr) → via_of value ≡ Some via → received_via value from ≡ with_source via.host from (parts_at 59 value)
read value via from is = ap (λ (o : Option Via). received_as o value from) is

pub stays : (value : List ℕ) (via : Via) (from : Addr) → via_of value ≡ Some via → (is_some (parameter_of (codes "rport") via.parameters)
    || is_some (parameter_of (codes "received") via.parameters)) ≡ false
    → received_via value from ≡ value ++ source_of via.host from false
stays value via from is none =
    ap (λ (o : Option Via). received_as o value from) is
    ∙ kept value via from (written_via value via is) (no_port (is_some (parameter_of (codes "rport") via.parameters))
    (is_some (parameter_of (codes "received") via.parameters)) none)
    (no_received (is_some (parameter_of (codes "rport") via.parameters)) (is_some (parameter_of (codes "received") via.parameters)) none)

-- ---- the address that it has

same_either_way : (xs ys : List ℕ) → bytes_eq xs ys ≡ bytes_eq ys xs
same_either_way xs ys =
    same_from_decides (bytes_eq xs ys) (bytes_eq ys xs)
    (λ e. sym ((bytes_eq-Decides xs ys).0 e), λ same. (bytes_eq-Decides xs ys).1 (sym same))
    (bytes_eq-Decides ys xs)

pub wanted : (asks is : Bool) (host ip : List ℕ) → is ≡ bytes_eq ip host → (asks || not is) ≡ (asks || not (bytes_eq host ip))
wanted asks is host ip same = ap (λ (t : Bool). asks || not t) (same ∙ same_either_way ip host)
