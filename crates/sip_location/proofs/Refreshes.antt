-- A REGISTER that asks for the only binding again.
use Rattle.std.proofs.Common.{◌≡◌, ◌≤◌, ℕ, suc, ◌+◌, ◌*◌, Bool, true, false, cond, ltb, List, [], ◌∷◌, ◌++◌, length, Option, Some, None, refl, sym, ap, subst, ◌∙◌, arith}
use Rattle.std.proofs.Common.{append_assoc}
use Rattle.std.specs.Prelude.{◌==◌, codes, nat_lt, option_map, IsOk, if◌then◌else◌}
use Rattle.std.specs.List.{list_all, list_any, filter_map, flat_map}
use Rattle.std.specs.Str.{bytes_eq}
use Rattle.std.proofs.Math.Seq.{take-append_seam, drop-append_seam}
use Rattle.std.proofs.lemmas.Bool.Decides.{nat_tests}
use Rattle.sip_text.specs.Lists.{is_blank, trimmed}
use Rattle.sip_text.specs.Cuts.{split_outside, parts_at}
use Rattle.sip_text.specs.Splits.{in_front, split_at_byte}
use Rattle.sip_uri.specs.declared.parameters.UriParameter.{UriParameter}
use Rattle.sip_uri.specs.declared.uri.Uri.{Uri}
use Rattle.sip_uri.specs.Reading.{reading_of}
use Rattle.sip_uri.specs.Parts.{is_unmarked}
use Rattle.sip_uri.specs.Uri.{behind_mark, userinfo_text, port_text, parameter_text, headers_text, rest_text, IsWritten}
use Rattle.sip_uri.proofs.ReadingLaws.{is_written}
use Rattle.sip_uri.proofs.Tests.{differs}
use Rattle.sip_uri.proofs.WrittenBytes.{written_unmarked}
use Rattle.sip_uri_equality.specs.Equality.{same, names_say_different}
use Rattle.sip_uri_equality.proofs.Equal.{reflexive}
use Rattle.sip_header.specs.declared.name_addr.AnyUri.TheVariants.{Sip}
use Rattle.sip_header.specs.declared.contact_item.ContactItem.{ContactItem}
use Rattle.sip_header.specs.declared.contact_item.ContactItem.TheVariants.{Star, Address}
use Rattle.sip_header.specs.declared.parameters.HeaderParameter.{HeaderParameter}
use Rattle.sip_header.specs.Expires.{parameters_expires}
use Rattle.sip_header.specs.NameAddr.{name_addr_by, name_addr_of, behind_bracket, bracketed_by, uri_by, with_parameters}
use Rattle.sip_header.specs.ContactItem.{contact_of}
use Rattle.sip_header.proofs.Words.{AllPassing, all_passing}
use Rattle.sip_header.proofs.Plain.{through}
use Rattle.sip_header.proofs.PlainAddresses.{tight}
use Rattle.sip_location.specs.declared.binding.Binding.{Binding}
use Rattle.sip_location.specs.declared.registration.Registration.{Registration}
use Rattle.sip_location.specs.Binding.{live, of_others}
use Rattle.sip_location.specs.Interval.{own_or, granted, is_brief}
use Rattle.sip_location.specs.Newer.{is_of_call}
use Rattle.sip_location.specs.KeptBinding.{KeptBinding, binding_of, uri_in, kept_in, IsUriText}
use Rattle.sip_location.specs.AorBindings.{bindings_of}
use Rattle.sip_location.specs.Registration.{seconds_for, has_bad_star, is_too_brief, has_old_cseq, bound, after_uri, after_contacts, edited, asks_nothing, registered}
use Rattle.sip_location.specs.Refreshing.{semicolons, IsContactOf, IsAskedAgain, IsMade}
use Rattle.sip_location.proofs.Older.{none_of_call}
use Rattle.sip_location.proofs.Planning.{outcome}
use Rattle.sip_location.proofs.Updates.{same_itself}

-- ---- a URI with one parameter at most

none_before : (b : ℕ) (o : Option (List ℕ × List ℕ)) → in_front (b ∷ []) o ≡ None → o ≡ None
none_before b None e = refl
none_before b (Some x) e = absurd cc

none_by : (b : ℕ) (bs : List ℕ) (t : Bool) → (b == 59) ≡ t
    → cond {A = Option (List ℕ × List ℕ)} t (Some ([], bs)) (in_front (b ∷ []) (split_at_byte 59 bs)) ≡ None
    → (split_at_byte 59 bs ≡ None → semicolons bs ≡ 0) → semicolons (b ∷ bs) ≡ 0
none_by b bs true is none more = absurd cc
none_by b bs false is none more = rw is (more (none_before b (split_at_byte 59 bs) none))

none_there : (text : List ℕ) → split_at_byte 59 text ≡ None → semicolons text ≡ 0
none_there [] e = refl
none_there (b ∷ bs) e = none_by b bs (b == 59) refl e (λ none. none_there bs none)

abbrev behind_of : Option (List ℕ × List ℕ) → List ℕ
behind_of None = []
behind_of (Some x) = x.1

one_by : (b : ℕ) (bs front rest : List ℕ) (t : Bool) (o : Option (List ℕ × List ℕ)) → (b == 59) ≡ t → split_at_byte 59 bs ≡ o
    → cond {A = Option (List ℕ × List ℕ)} t (Some ([], bs)) (in_front (b ∷ []) o) ≡ Some (front, rest)
    → ((first behind : List ℕ) → split_at_byte 59 bs ≡ Some (first, behind) → semicolons bs ≡ suc (semicolons behind))
    → semicolons (b ∷ bs) ≡ suc (semicolons rest)
one_by b bs front rest true o is found some more =
    let same : bs ≡ rest = ap behind_of some in
    rw is (ap (λ (w : List ℕ). suc (semicolons w)) same)
one_by b bs front rest false None is found some more = absurd cc
one_by b bs front rest false (Some x) is found some more =
    let same : x.1 ≡ rest = ap behind_of some in
    rw is (more x.0 x.1 found ∙ ap (λ (w : List ℕ). suc (semicolons w)) same)

one_more : (text front rest : List ℕ) → split_at_byte 59 text ≡ Some (front, rest) → semicolons text ≡ suc (semicolons rest)
one_more [] front rest e = absurd cc
one_more (b ∷ bs) front rest e =
    one_by b bs front rest (b == 59) (split_at_byte 59 bs) refl refl e (λ first behind some. one_more bs first behind some)

pub few_alone : (text : List ℕ) → None ≡ split_at_byte 59 text → semicolons text ≤ 1
few_alone text e =
    let none : semicolons text ≡ 0 = none_there text (sym e) in
    omega (arith, none)

pub few_behind : (text front rest : List ℕ) → Some (front, rest) ≡ split_at_byte 59 text → split_at_byte 59 rest ≡ None → semicolons text ≤ 1
few_behind text front rest e last =
    let one : semicolons text ≡ suc (semicolons rest) = one_more text front rest (sym e) in
    let none : semicolons rest ≡ 0 = none_there rest last in
    omega (arith, one, none)

at_the_end : (xs ys : List ℕ) → semicolons ys ≤ semicolons (xs ++ ys)
at_the_end [] ys = omega arith
at_the_end (x ∷ xs) ys = by_test (x == 59) refl (at_the_end xs ys)
  where
    by_test : (t : Bool) → (x == 59) ≡ t → semicolons ys ≤ semicolons (xs ++ ys) → semicolons ys ≤ cond t (suc (semicolons (xs ++ ys))) (semicolons (xs ++ ys))
    by_test true is le = omega (arith, le)
    by_test false is le = le

many : (ps : List UriParameter) (headers : List ℕ) → length ps ≤ semicolons (flat_map parameter_text ps ++ headers)
many [] headers = omega arith
many (p ∷ ps) headers =
    let inner : List ℕ = p.name ++ behind_mark 61 p.value in
    let shape : (inner ++ flat_map parameter_text ps) ++ headers ≡ inner ++ (flat_map parameter_text ps ++ headers) =
    append_assoc inner (flat_map parameter_text ps) headers in
    let least : semicolons (flat_map parameter_text ps ++ headers) ≤ semicolons (inner ++ (flat_map parameter_text ps ++ headers)) =
    at_the_end inner (flat_map parameter_text ps ++ headers) in
    let first : semicolons (flat_map parameter_text (p ∷ ps) ++ headers) ≡ suc (semicolons ((inner ++ flat_map parameter_text ps) ++ headers)) = refl in
    omega (arith, first, ap semicolons shape, least, many ps headers)

one_name : (ps : List UriParameter) → length ps ≤ 1 → names_say_different ps ≡ true
one_name [] le = refl
one_name (p ∷ []) le = refl
one_name (p ∷ q ∷ ps) le = absurd (omega (arith, le))

few_names : (text : List ℕ) (u : Uri) → IsWritten text u → semicolons text ≤ 1 → names_say_different u.parameters ≡ true
few_names text u written few =
    let parts : List ℕ = flat_map parameter_text u.parameters ++ headers_text u.headers in
    let behind_port : semicolons parts ≤ semicolons (port_text u.port ++ parts) = at_the_end (port_text u.port) parts in
    let behind_host : semicolons (port_text u.port ++ parts) ≤ semicolons (u.host ++ (port_text u.port ++ parts)) = at_the_end u.host (port_text u.port ++ parts) in
    let behind_user : semicolons (u.host ++ (port_text u.port ++ parts)) ≤ semicolons (rest_text u) =
    at_the_end (userinfo_text u.userinfo) (u.host ++ (port_text u.port ++ parts)) in
    let behind_scheme : semicolons (58 ∷ rest_text u) ≤ semicolons (written.scheme ++ 58 ∷ rest_text u) = at_the_end written.scheme (58 ∷ rest_text u) in
    let colon : semicolons (58 ∷ rest_text u) ≡ semicolons (rest_text u) = refl in
    one_name u.parameters
    (omega (arith, many u.parameters (headers_text u.headers), behind_port, behind_host, behind_user, behind_scheme, colon, ap semicolons written.whole, few))

-- ---- a Contact that is a text in brackets

unmarked_not_blank : (b : ℕ) → is_unmarked b ≡ true → is_blank b ≡ false
unmarked_not_blank b e = rw (differs is_unmarked 32 refl b e, differs is_unmarked 9 refl b e) refl

pub contact_is : (value rest text behind : List ℕ) (parameters : List HeaderParameter) → value ≡ 60 ∷ rest → rest ≡ text ++ 62 ∷ behind → IsUriText text
    → semicolons text ≤ 1 → Some parameters ≡ behind_bracket (parts_at 59 behind) → IsContactOf value text parameters
contact_is value rest text behind parameters opens closes is few are =
    let u : Uri = uri_in text in
    let written : IsWritten text u = is_written text u is.reads in
    let all : AllPassing is_unmarked text = all_passing is_unmarked text (subst (λ (w : List ℕ). list_all is_unmarked w ≡ true) is.writes
    (written_unmarked u written.valid)) in
    let trim : trimmed text ≡ text = tight is_unmarked unmarked_not_blank text all in
    let opened : split_outside 60 value ≡ Some ([], rest) = ap (split_outside 60) opens ∙ through is_unmarked 60 [] rest refl refl tt in
    let closed : split_outside 62 rest ≡ Some (text, behind) = ap (split_outside 62) closes ∙ through is_unmarked 62 text behind refl refl all in
    let read : uri_by (trimmed text) (reading_of (trimmed text)) ≡ Some (Sip u) = ap (λ (w : List ℕ). uri_by w (reading_of w)) trim ∙ ap (uri_by text) is.reads in
    let address : name_addr_of value ≡ Some (record { uri = Sip u; parameters = parameters }) = ap (name_addr_by value) opened ∙ ap bracketed_by closed
    ∙ ap (λ (o : Option (List HeaderParameter)). with_parameters o (uri_by (trimmed text) (reading_of (trimmed text)))) (sym are)
    ∙ ap (with_parameters (Some parameters)) read in
    let not_star : bytes_eq value (codes "*") ≡ false = ap (λ (w : List ℕ). bytes_eq w (codes "*")) opens in
    record {
      is_contact = ap (λ (t : Bool). if t then Some Star else option_map (λ a. Address a) (name_addr_of value)) not_star ∙ ap (option_map (λ a. Address a)) address;
      names_differ = few_names text u written few;
    }

-- the same of a value that was cut
pub contact_cut : (value rest front end text behind : List ℕ) (parameters : List HeaderParameter) → value ≡ 60 ∷ rest → rest ≡ front ++ end → front ≡ text
    → end ≡ 62 ∷ behind → IsUriText text → semicolons text ≤ 1 → Some parameters ≡ behind_bracket (parts_at 59 behind) → IsContactOf value text parameters
contact_cut value rest front end text behind parameters opens cut same closes is few are =
    contact_is value rest text behind parameters opens (cut ∙ ap (λ (w : List ℕ). w ++ end) same ∙ ap (λ (w : List ℕ). text ++ w) closes) is few are

-- ---- what such a REGISTER makes

taken_by : (none star brief old many : Bool) (rows after : List Binding) → none ≡ false → star ≡ false → brief ≡ false → old ≡ false → many ≡ false
    → IsOk (outcome none star brief old many rows after)
taken_by none star brief old many rows after a b c d e = rw (a, b, c, d, e) refl

not_brief : (seconds : ℕ) → 60 ≤ seconds → is_brief seconds ≡ false
not_brief seconds le = grind (arith, nat_tests)

not_zero : (seconds : ℕ) → 60 ≤ seconds → (seconds == 0) ≡ false
not_zero seconds le = grind (arith, nat_tests)

module _ (r : Registration) (row : KeptBinding) (now : ℕ) (uri : Uri) (parameters : List HeaderParameter) (seconds : ℕ)
    (contacts : r.contacts ≡ Address (record { uri = Sip uri; parameters = parameters }) ∷ [])
    (lives : nat_lt now row.expires_at ≡ true)
    (granted_so : seconds ≡ seconds_for (Address (record { uri = Sip uri; parameters = parameters })) r.expires) (long : 60 ≤ seconds)
    (not_newer : is_of_call r (binding_of r.aor row) ≡ false) (same_uri : uri ≡ row.uri) (differ : names_say_different uri.parameters ≡ true) where
  abbrev item : ContactItem
  item = Address (record { uri = Sip uri; parameters = parameters })

  abbrev old : Binding
  old = binding_of r.aor row

  is_same : same row.uri uri ≡ true
  is_same = subst (λ (w : Uri). same w uri ≡ true) same_uri (reflexive uri differ)

  one_live : live r.aor now (old ∷ []) ≡ old ∷ []
  one_live = rw (same_itself r.aor, lives) refl

  edited_so : edited (old ∷ []) r now ≡ bound r now uri seconds ∷ []
  edited_so =
      let put : after_uri r now seconds (old ∷ []) uri ≡ bound r now uri seconds ∷ [] = rw (not_zero seconds long, is_same) refl in
      let applied : after_contacts r now (item ∷ []) (old ∷ []) ≡ bound r now uri seconds ∷ [] =
      ap (λ (s : ℕ). after_uri r now s (old ∷ []) uri) (sym granted_so) ∙ put in
      ap (after_contacts r now r.contacts) one_live ∙ ap (λ (cs : List ContactItem). after_contacts r now cs (old ∷ [])) contacts ∙ applied

  is_taken : IsOk (registered (old ∷ []) r now)
  is_taken =
      let none : asks_nothing r.contacts ≡ false = ap asks_nothing contacts in
      let star : has_bad_star r ≡ false = rw contacts refl in
      let not : is_brief (seconds_for item r.expires) ≡ false = ap is_brief (sym granted_so) ∙ not_brief seconds long in
      let brief : is_too_brief r ≡ false = rw (contacts, not) refl in
      let newer : list_any (is_of_call r) (old ∷ []) ≡ false = rw not_newer refl in
      let older : has_old_cseq r (live r.aor now (old ∷ [])) ≡ false = ap (has_old_cseq r) one_live ∙ sym (none_of_call r (old ∷ []) newer) in
      let few : ltb 16 (length (edited (old ∷ []) r now)) ≡ false = ap (λ (bs : List Binding). ltb 16 (length bs)) edited_so in
      taken_by (asks_nothing r.contacts) (has_bad_star r) (is_too_brief r) (has_old_cseq r (live r.aor now (old ∷ []))) (ltb 16 (length (edited (old ∷ []) r now)))
      (old ∷ []) (of_others r.aor (old ∷ []) ++ edited (old ∷ []) r now)
      none star brief older few

one_item : (value : List ℕ) (item : ContactItem) → contact_of value ≡ Some item → filter_map contact_of (value ∷ []) ≡ item ∷ []
one_item value item is = rw is refl

kept_so : (text call_id : List ℕ) (cseq expires_at : ℕ) → kept_in (text ++ call_id) (length text) cseq expires_at
    ≡ record { uri = uri_in text; call_id = call_id; cseq = cseq; expires_at = expires_at }
kept_so text call_id cseq expires_at = rw (take-append_seam text call_id, drop-append_seam text call_id) refl

pub asked : (r : Registration) (contact text : List ℕ) (b : Binding) (now seconds : ℕ) (parameters : List HeaderParameter) → nat_lt now b.expires_at ≡ true
    → is_of_call r b ≡ false → IsContactOf contact text parameters → uri_in text ≡ b.uri
    → seconds ≡ granted (own_or (parameters_expires parameters) r.expires) → 60 ≤ seconds → IsAskedAgain r contact text b now seconds
asked r contact text b now seconds parameters lives not_newer is uri granted_so long = record {
  parameters = parameters;
  lives = lives;
  not_newer = not_newer;
  has_contact = is;
  uri = uri;
  granted = granted_so;
  long = long;
}

pub made_again : (r : Registration) (contact text : List ℕ) (rows made : List KeptBinding) (row kept : KeptBinding) (now seconds : ℕ)
    → r.contacts ≡ filter_map contact_of (contact ∷ []) → rows ≡ row ∷ []
    → IsAskedAgain r contact text (binding_of r.aor row) now seconds
    → kept ≡ kept_in (text ++ r.call_id) (length text) r.cseq (now + 1000 * seconds) → made ≡ kept ∷ [] → IsMade rows r now made
made_again r contact text rows made row kept now seconds items only again new one =
    let contacts : r.contacts ≡ Address (record { uri = Sip (uri_in text); parameters = again.parameters }) ∷ [] = items
    ∙ one_item contact (Address (record { uri = Sip (uri_in text); parameters = again.parameters })) again.has_contact.is_contact in
    let after : edited (binding_of r.aor row ∷ []) r now ≡ bound r now (uri_in text) seconds ∷ [] =
    edited_so r row now (uri_in text) again.parameters seconds contacts again.lives again.granted again.long again.not_newer again.uri again.has_contact.names_differ
    in
    let kept_is : kept ≡ record { uri = uri_in text; call_id = r.call_id; cseq = r.cseq; expires_at = now + 1000 * seconds } =
    new ∙ kept_so text r.call_id r.cseq (now + 1000 * seconds) in
    let made_is : made ≡ record { uri = uri_in text; call_id = r.call_id; cseq = r.cseq; expires_at = now + 1000 * seconds } ∷ [] = one
    ∙ ap (λ (k : KeptBinding). k ∷ []) kept_is in
    let is : IsMade (row ∷ []) r now made = record {
      taken = is_taken r row now (uri_in text) again.parameters seconds contacts again.lives again.granted again.long again.not_newer again.uri
          again.has_contact.names_differ;
      bindings = ap (bindings_of r.aor) made_is ∙ sym after;
    } in
    subst (λ (ks : List KeptBinding). IsMade ks r now made) (sym only) is
