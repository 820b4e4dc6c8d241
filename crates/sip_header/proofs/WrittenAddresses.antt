-- Addresses whose URI is lent.
use Rattle.std.proofs.Common.{◌≡◌, ℕ, Bool, true, false, cond, List, [], ◌∷◌, ◌++◌, Option, Some, None, Ok, refl, sym, ap, ◌∙◌, arith}
use Rattle.std.specs.Prelude.{◌==◌, is_some}
use Rattle.std.specs.List.{list_all}
use Rattle.sip_text.specs.Lists.{is_blank, trimmed, front_trimmed}
use Rattle.sip_text.specs.Splits.{in_front, split_at_byte}
use Rattle.sip_text.specs.Escapes.{unquoted}
use Rattle.sip_text.specs.declared.cuts.Quoting.{Quoting}
use Rattle.sip_text.specs.declared.cuts.Quoting.TheVariants.{Outside, Inside, Escaped}
use Rattle.sip_text.specs.Cuts.{quoting_after, is_mark, split_from, split_outside, parts_at, parts_behind}
use Rattle.sip_text.proofs.QuotedFronts.{passed_quoted, quoted_tight}
use Rattle.sip_text.proofs.Trims as Trims
use Rattle.sip_uri.specs.declared.uri.Uri.{Uri}
use Rattle.sip_uri.specs.Port.{port_number}
use Rattle.sip_uri.specs.Reading.{reading_of}
use Rattle.sip_uri.specs.PlainPlace.{is_plain_byte, IsUriAt}
use Rattle.sip_uri_ref.specs.PlainUri.{IsRefAt}
use Rattle.sip_header.specs.declared.parameters.HeaderParameter.{HeaderParameter}
use Rattle.sip_header.specs.declared.name_addr.AnyUri.TheVariants.{Sip}
use Rattle.sip_header.specs.Parameters.{parameters_in, closing}
use Rattle.sip_header.specs.NameAddr.{any_uri_of, uri_by, with_parameters, behind_bracket, bracketed_by, name_addr_by, name_addr_of, is_word_byte, is_display}
use Rattle.sip_header.specs.NameAddr.{is_bare_byte, bare_in}
use Rattle.sip_header.specs.WrittenAddress.{IsOpened, IsAddressBy}
use Rattle.sip_header.proofs.Words.{AllPassing, IsSplit, split_of, rest_is, all_passing, all_weaker}
use Rattle.sip_header.proofs.Plain.{through, passes, parts_close, list_passing_by}
use Rattle.sip_header.proofs.PlainAddresses.{tight}

-- ---- what a text writes

pub any_sip : (text : List ℕ) (uri : Uri) → reading_of text ≡ Ok uri → any_uri_of text ≡ Some (Sip uri)
any_sip text uri is = ap (uri_by text) is

-- ---- a URI in brackets

plain_not_blank : (b : ℕ) → is_plain_byte b ≡ true → is_blank b ≡ false
plain_not_blank b e = grind arith

pub opened_alone : (value text : List ℕ) → value ≡ 60 ∷ text → IsOpened value text
opened_alone value text whole = record {
  display = [];
  is_name = refl;
  cut = ap (split_outside 60) whole ∙ through is_plain_byte 60 [] text refl refl tt;
}

-- quoted text, and blanks behind it, are a display name
name_by : (quoted blanks : List ℕ) (words : Bool) → list_all is_word_byte (quoted ++ blanks) ≡ words → is_some (unquoted (trimmed (quoted ++ blanks))) ≡ true
    → is_display (quoted ++ blanks) ≡ true
name_by quoted blanks true w is = rw w refl
name_by quoted blanks false w is = rw (w, is) refl

pub opened_behind : (value quoted behind rest text : List ℕ) → value ≡ quoted ++ behind → is_some (unquoted quoted) ≡ true → rest ≡ front_trimmed behind
    → rest ≡ 60 ∷ text → IsOpened value text
opened_behind value quoted behind rest text whole is from begins =
    let s : IsSplit is_blank behind = split_of is_blank behind in
    let tail : s.rest ≡ 60 ∷ text = sym (rest_is is_blank behind s) ∙ sym from ∙ begins in
    let shape : value ≡ quoted ++ (s.front ++ 60 ∷ text) =
    whole ∙ ap (λ (w : List ℕ). quoted ++ w) s.whole ∙ ap (λ (w : List ℕ). quoted ++ (s.front ++ w)) tail in
    let trim : trimmed (quoted ++ s.front) ≡ quoted = Trims.core_is (quoted ++ s.front) (record {
      before = [];
      core = quoted;
      behind = s.front;
      whole = refl;
      blanks_before = tt;
      tight = quoted_tight quoted is;
      blanks_behind = s.passing;
    }) in
    record {
      display = quoted ++ s.front;
      is_name = name_by quoted s.front (list_all is_word_byte (quoted ++ s.front)) refl (ap (λ (w : List ℕ). is_some (unquoted w)) trim ∙ is);
      cut = ap (split_outside 60) shape ∙ passed_quoted 60 (s.front ++ 60 ∷ text) quoted refl is
          ∙ ap (in_front quoted) (through is_blank 60 s.front text refl refl s.passing);
    }

pub plain_is : (value text host last rest : List ℕ) (port : Option ℕ) (at : IsUriAt text host port last) (behind : Option (List ℕ)) (parameters : List HeaderParameter)
    → IsOpened value text → last ≡ 62 ∷ rest → rest ≡ closing behind
    → parameters_in (parts_behind 59 behind) ≡ Some parameters → name_addr_of value ≡ with_parameters (Some parameters) (any_uri_of at.front)
plain_is value text host last rest port at behind parameters o mark closed are =
    let all : AllPassing is_plain_byte at.front = all_passing is_plain_byte at.front at.plain in
    let cut : text ≡ at.front ++ 62 ∷ rest = at.whole ∙ ap (λ (w : List ℕ). at.front ++ w) mark in
    let ended : split_outside 62 text ≡ Some (at.front, rest) = ap (split_outside 62) cut ∙ through is_plain_byte 62 at.front rest refl refl all in
    let parted : parts_at 59 rest ≡ [] ∷ parts_behind 59 behind = ap (parts_at 59) closed ∙ parts_close is_plain_byte [] behind refl refl tt in
    let said : behind_bracket (parts_at 59 rest) ≡ Some parameters = ap behind_bracket parted ∙ are in
    let named : name_addr_by value (Some (o.display, text)) ≡ bracketed_by (split_outside 62 text) = rw o.is_name refl in
    ap (name_addr_by value) o.cut ∙ named ∙ ap bracketed_by ended
    ∙ ap (λ (p : Option (List HeaderParameter)). with_parameters p (any_uri_of (trimmed at.front))) said
    ∙ ap (λ (w : List ℕ). with_parameters (Some parameters) (any_uri_of w)) (tight is_plain_byte plain_not_blank at.front all)

pub address_in_brackets : (value text last rest : List ℕ) (uri : Uri) (behind : Option (List ℕ)) → IsOpened value text → IsRefAt text uri last
    → last ≡ 62 ∷ rest → rest ≡ closing behind → IsAddressBy value uri behind
address_in_brackets value text last rest uri behind o r mark closed = λ parameters are.
    plain_is value text uri.host last rest (port_number uri.port) r.at behind parameters o mark closed are
    ∙ ap (with_parameters (Some parameters)) (any_sip r.at.front uri r.is)

-- ---- a URI without brackets

nothing_before : (b : ℕ) (o : Option (List ℕ × List ℕ)) → in_front (b ∷ []) o ≡ None → o ≡ None
nothing_before b None e = refl
nothing_before b (Some x) e = absurd cc

not_marked : (quoting : Quoting) (b : ℕ) → (b == 60) ≡ false → is_mark quoting 60 b ≡ false
not_marked Outside b e = e
not_marked Inside b e = refl
not_marked Escaped b e = refl

nowhere_by : (quoting : Quoting) (b : ℕ) (bs : List ℕ) (t : Bool) → (b == 60) ≡ t
    → cond {A = Option (List ℕ × List ℕ)} t (Some ([], bs)) (in_front (b ∷ []) (split_at_byte 60 bs)) ≡ None
    → (split_at_byte 60 bs ≡ None → split_from (quoting_after quoting b) 60 bs ≡ None) → split_from quoting 60 (b ∷ bs) ≡ None
nowhere_by quoting b bs true is none more = absurd cc
nowhere_by quoting b bs false is none more =
    rw (not_marked quoting b is) (ap (in_front (b ∷ [])) (more (nothing_before b (split_at_byte 60 bs) none)))

-- what isn't there at all isn't there outside quoted text
nowhere_outside : (quoting : Quoting) (bytes : List ℕ) → split_at_byte 60 bytes ≡ None → split_from quoting 60 bytes ≡ None
nowhere_outside quoting [] e = refl
nowhere_outside quoting (b ∷ bs) e = nowhere_by quoting b bs (b == 60) refl e (λ none. nowhere_outside (quoting_after quoting b) bs none)

plain_is_bare : (b : ℕ) → is_plain_byte b ≡ true → is_bare_byte b ≡ true
plain_is_bare b e = grind arith

pub address_without_brackets : (value rest : List ℕ) (uri : Uri) (behind : Option (List ℕ)) → IsRefAt value uri rest → split_at_byte 60 rest ≡ None
    → rest ≡ closing behind → IsAddressBy value uri behind
address_without_brackets value rest uri behind r none closed = λ parameters are.
    let all : AllPassing is_plain_byte r.at.front = all_passing is_plain_byte r.at.front r.at.plain in
    let unopened : split_outside 60 value ≡ None = ap (split_outside 60) r.at.whole ∙ passes is_plain_byte 60 r.at.front rest refl refl all
    ∙ ap (in_front r.at.front) (nowhere_outside Outside rest none) in
    let parted : parts_at 59 value ≡ r.at.front ∷ parts_behind 59 behind = ap (parts_at 59) (r.at.whole ∙ ap (λ (w : List ℕ). r.at.front ++ w) closed)
    ∙ parts_close is_plain_byte r.at.front behind refl refl all in
    let bare : list_all is_bare_byte r.at.front ≡ true =
    list_passing_by is_bare_byte r.at.front (all_weaker is_plain_byte is_bare_byte r.at.front plain_is_bare all) in
    let first : bare_in (r.at.front ∷ parts_behind 59 behind) ≡ with_parameters (parameters_in (parts_behind 59 behind)) (any_uri_of (trimmed r.at.front)) = rw bare refl
    in
    ap (name_addr_by value) unopened ∙ ap bare_in parted ∙ first
    ∙ ap (λ (p : Option (List HeaderParameter)). with_parameters p (any_uri_of (trimmed r.at.front))) are
    ∙ ap (λ (w : List ℕ). with_parameters (Some parameters) (any_uri_of w)) (tight is_plain_byte plain_not_blank r.at.front all)
    ∙ ap (with_parameters (Some parameters)) (any_sip r.at.front uri r.is)
