-- Plain URIs in their texts.
use Rattle.std.proofs.Common.{◌≡◌, ◌≤◌, ℕ, ◌+◌, ◌-◌, Bool, true, false, List, [], ◌∷◌, ◌++◌, length, take, drop, Option, Some, Ok, refl, sym, ap, subst, ◌∙◌}
use Rattle.std.proofs.Common.{append_assoc, append-nil, arith, length-append, length-drop}
use Rattle.std.specs.Prelude.{◌==◌, codes, option_map, if◌then◌else◌}
use Rattle.std.specs.Option.{unwrap_or}
use Rattle.std.specs.List.{list_all}
use Rattle.std.proofs.Math.Seq.{take-append_seam, drop-append_seam}
use Rattle.std.proofs.lemmas.Bool.{eqb-true}
use Rattle.std.proofs.lemmas.List.{take_all}
use Rattle.sip_uri.specs.Host.{is_host_byte}
use Rattle.sip_uri.specs.Port.{port_number}
use Rattle.sip_uri.specs.declared.scheme.Scheme.TheVariants as Scheme
use Rattle.sip_uri.specs.declared.user.UserInfo.{UserInfo}
use Rattle.sip_uri.specs.declared.uri.Uri.{Uri}
use Rattle.sip_uri.specs.Aor.{user_named}
use Rattle.sip_uri.specs.Reading.{reading_of}
use Rattle.sip_uri.specs.PlainPlace.{user_front, info_of, IsUriAt, IsUriOf}
use Rattle.sip_uri_ref.specs.PlainUri.{uri_or_nowhere, uri_said, host_begins, bare_uri, IsPlainText, IsRefAt, IsBare}
use Rattle.sip_uri.proofs.PlainPlaces.{without_escape}
use Rattle.sip_uri.proofs.PlainUris.{number_is}

-- ---- its text, cut out

pub less : (text user host rest : List ℕ) (port : Option ℕ) → IsUriOf text user host port rest → length rest ≤ length text
less text user host rest port of = omega (arith, ap length of.at.whole, length-append of.at.front rest)

front_is : (n : ℕ) (text front rest uri : List ℕ) → text ≡ front ++ rest → n ≡ length text - length rest → uri ≡ take n text → uri ≡ front
front_is n text front rest uri whole long is =
    let same : n ≡ length front = omega (arith, long, ap length whole, length-append front rest) in
    is ∙ ap (λ (k : ℕ). take k text) same ∙ ap (take (length front)) whole ∙ take-append_seam front rest

rest_is : (n : ℕ) (text front rest behind : List ℕ) → text ≡ front ++ rest → n ≡ length text - length rest → behind ≡ drop n text → behind ≡ rest
rest_is n text front rest behind whole long is =
    let same : n ≡ length front = omega (arith, long, ap length whole, length-append front rest) in
    is ∙ ap (λ (k : ℕ). drop k text) same ∙ ap (drop (length front)) whole ∙ drop-append_seam front rest

bare_reads : (text user host rest : List ℕ) (port : Option ℕ) (of : IsUriOf text user host port rest) → reading_of of.at.front ≡ Ok (bare_uri user host of.at.digits)
bare_reads text user host rest port of =
    of.at.alone ∙ ap (λ (i : Option UserInfo). Ok (record { scheme = Scheme.Sip; userinfo = i; host = host; port = of.at.digits; parameters = []; headers = [] }))
    of.named

pub is_text : (text user host rest uri : List ℕ) (port : Option ℕ) (n m : ℕ) → IsUriOf text user host port rest → n ≡ length user → m ≡ length host
    → uri ≡ take (length text - length rest) text → IsPlainText uri n m port
is_text text user host rest uri port n m of of_user of_host cut =
    subst (λ (w : List ℕ). IsPlainText w n m port) (sym (front_is (length text - length rest) text of.at.front rest uri of.at.whole refl cut)) (record {
      name = user;
      place = host;
      after = of.after;
      digits = of.at.digits;
      plain = of.plain;
      whole = of.whole;
      user_length = of_user;
      host_length = of_host;
      numbered = of.at.numbered;
      reads = bare_reads text user host rest port of;
    })

pub ref_at : (text user host rest uri behind : List ℕ) (port : Option ℕ) → IsUriOf text user host port rest → uri ≡ take (length text - length rest) text
    → behind ≡ drop (length text - length rest) text → IsRefAt text (uri_said uri) behind
ref_at text user host rest uri behind port of cut left =
    let front : uri ≡ of.at.front = front_is (length text - length rest) text of.at.front rest uri of.at.whole refl cut in
    let reads : reading_of of.at.front ≡ Ok (bare_uri user host of.at.digits) = bare_reads text user host rest port of in
    let said : uri_said uri ≡ bare_uri user host of.at.digits = ap uri_said front ∙ ap uri_or_nowhere reads in
    let same : behind ≡ rest = rest_is (length text - length rest) text of.at.front rest behind of.at.whole refl left in
    let at : IsUriAt text host (port_number of.at.digits) behind = record {
      front = of.at.front;
      whole = of.at.whole ∙ ap (λ (w : List ℕ). of.at.front ++ w) (sym same);
      plain = of.at.plain;
      info = of.at.info;
      digits = of.at.digits;
      numbered = of.at.numbered ∙ ap (λ (o : Option ℕ). option_map (λ n. Some n) o) (sym (number_is of.at.digits port of.at.numbered));
      alone = of.at.alone;
      loose = of.at.loose;
      by_udp = of.at.by_udp;
    } in
    subst (λ (u : Uri). IsRefAt text u behind) (sym said) (record { at = at; is = reads })

nothing : (xs : List ℕ) → (length xs == 0) ≡ true → xs ≡ []
nothing [] e = refl
nothing (x ∷ xs) e = absurd (omega (arith, eqb-true (length (x ∷ xs)) 0 e))

-- one behind which nothing stands
pub whole_is : (text behind : List ℕ) (uri : Uri) → IsRefAt text uri behind → (length behind == 0) ≡ true → reading_of text ≡ Ok uri
whole_is text behind uri r none =
    let whole : text ≡ r.at.front = r.at.whole ∙ ap (λ (w : List ℕ). r.at.front ++ w) (nothing behind none) ∙ append-nil r.at.front in
    ap reading_of whole ∙ r.is

-- ---- where its parts stand

by_zero : (b : ℕ) (bs : List ℕ) (t : Bool) → (length (b ∷ bs) == 0) ≡ t → host_begins (length (b ∷ bs)) ≡ length (codes "sip:" ++ user_front (b ∷ bs))
by_zero b bs true e = absurd (omega (arith, eqb-true (length (b ∷ bs)) 0 e))
by_zero b bs false e =
    ap (λ (t : Bool). if t then 4 else length (b ∷ bs) + 5) e ∙ omega (arith, length-append (codes "sip:") ((b ∷ bs) ++ codes "@"), length-append (b ∷ bs) (codes "@"))

begins_is : (name : List ℕ) → host_begins (length name) ≡ length (codes "sip:" ++ user_front name)
begins_is [] = refl
begins_is (b ∷ bs) = by_zero b bs (length (b ∷ bs) == 0) refl

cut_is : (text : List ℕ) (user host : ℕ) (port : Option ℕ) (is : IsPlainText text user host port) → text ≡ (codes "sip:" ++ user_front is.name) ++ (is.place ++ is.after)
cut_is text user host port is = is.whole ∙ sym (append_assoc (codes "sip:") (user_front is.name) (is.place ++ is.after))

begins_at : (text : List ℕ) (user host : ℕ) (port : Option ℕ) (is : IsPlainText text user host port) → host_begins user ≡ length (codes "sip:" ++ user_front is.name)
begins_at text user host port is = ap host_begins is.user_length ∙ begins_is is.name

behind_is : (text : List ℕ) (user host : ℕ) (port : Option ℕ) (is : IsPlainText text user host port) → drop (host_begins user) text ≡ is.place ++ is.after
behind_is text user host port is =
    ap (λ (k : ℕ). drop k text) (begins_at text user host port is) ∙ ap (drop (length (codes "sip:" ++ user_front is.name))) (cut_is text user host port is)
    ∙ drop-append_seam (codes "sip:" ++ user_front is.name) (is.place ++ is.after)

said : (text : List ℕ) (user host : ℕ) (port : Option ℕ) (is : IsPlainText text user host port) → uri_said text ≡ bare_uri is.name is.place is.digits
said text user host port is = ap uri_or_nowhere is.reads

pub host_is : (text : List ℕ) (user host : ℕ) (port : Option ℕ) → IsPlainText text user host port → take host (drop (host_begins user) text) ≡ (uri_said text).host
host_is text user host port is =
    ap (take host) (behind_is text user host port is) ∙ ap (λ (k : ℕ). take k (is.place ++ is.after)) is.host_length ∙ take-append_seam is.place is.after
    ∙ sym (ap (λ (u : Uri). u.host) (said text user host port is))

user_first : (name rest : List ℕ) → take (length name) (user_front name ++ rest) ≡ name
user_first [] rest = refl
user_first (b ∷ bs) rest = ap (take (length (b ∷ bs))) (append_assoc (b ∷ bs) (codes "@") rest) ∙ take-append_seam (b ∷ bs) (codes "@" ++ rest)

behind_scheme : (text rest : List ℕ) → text ≡ codes "sip:" ++ rest → drop 4 text ≡ rest
behind_scheme text rest whole = ap (drop 4) whole

named_plain : (name : List ℕ) → list_all is_host_byte name ≡ true → user_named (info_of name) ≡ name
named_plain [] e = refl
named_plain (b ∷ bs) e = ap (λ (o : Option (List ℕ)). unwrap_or o (b ∷ bs)) (without_escape (b ∷ bs) e)

pub user_is : (text : List ℕ) (user host : ℕ) (port : Option ℕ) → IsPlainText text user host port → take user (drop 4 text) ≡ user_named (uri_said text).userinfo
user_is text user host port is =
    ap (take user) (behind_scheme text (user_front is.name ++ (is.place ++ is.after)) is.whole)
    ∙ ap (λ (k : ℕ). take k (user_front is.name ++ (is.place ++ is.after))) is.user_length
    ∙ user_first is.name (is.place ++ is.after) ∙ sym (ap (λ (u : Uri). user_named u.userinfo) (said text user host port is) ∙ named_plain is.name is.plain)

pub port_is : (text : List ℕ) (user host : ℕ) (port : Option ℕ) → IsPlainText text user host port → port ≡ port_number (uri_said text).port
port_is text user host port is = sym (ap (λ (u : Uri). port_number u.port) (said text user host port is) ∙ number_is is.digits port is.numbered)

pub bare_is : (text : List ℕ) (user host : ℕ) (port : Option ℕ) → IsPlainText text user host port → IsBare (uri_said text)
bare_is text user host port is =
    subst (λ (u : Uri). IsBare u) (sym (said text user host port is)) (record {
      user = is.name;
      numbered = is.numbered ∙ ap (λ (o : Option ℕ). option_map (λ n. Some n) o) (sym (number_is is.digits port is.numbered));
      is = refl;
    })

-- ---- as the code cuts them

all_left : (k : ℕ) (xs : List ℕ) → take (length xs - k) (drop k xs) ≡ drop k xs
all_left k xs = take_all (length xs - k) (drop k xs) (omega (arith, length-drop k xs))

pub user_there : (text xs : List ℕ) (user host n : ℕ) (port : Option ℕ) (u : Uri) → IsPlainText text user host port → xs ≡ text → n ≡ user → uri_said text ≡ u
    → take n (take (length xs - 4) (drop 4 xs)) ≡ user_named u.userinfo
user_there text xs user host n port u is same long seen =
    ap (take n) (all_left 4 xs) ∙ ap (λ (k : ℕ). take k (drop 4 xs)) long ∙ ap (λ (w : List ℕ). take user (drop 4 w)) same ∙ user_is text user host port is
    ∙ ap (λ (v : Uri). user_named v.userinfo) seen

pub host_there : (text xs : List ℕ) (user host n m : ℕ) (port : Option ℕ) (u : Uri) → IsPlainText text user host port → xs ≡ text → m ≡ host_begins user → n ≡ host
    → uri_said text ≡ u → take n (take (length xs - m) (drop m xs)) ≡ u.host
host_there text xs user host n m port u is same start long seen =
    ap (take n) (all_left m xs) ∙ ap (λ (k : ℕ). take k (drop m xs)) long ∙ ap (λ (k : ℕ). take host (drop k xs)) start
    ∙ ap (λ (w : List ℕ). take host (drop (host_begins user) w)) same
    ∙ host_is text user host port is ∙ ap (λ (v : Uri). v.host) seen
