-- A request line as most write it.
use Rattle.std.proofs.Common.{◌≡◌, ℕ, ◌+◌, ◌<◌, true, false, List, [], ◌∷◌, ◌++◌, length, take, drop, get_or, Some, refl, sym, ap, ◌∙◌, arith}
use Rattle.std.specs.Prelude.{◌==◌, codes}
use Rattle.std.specs.List.{list_all}
use Rattle.std.proofs.lemmas.List.{length-take, take-append-drop, drop_more, drop-drop}
use Rattle.sip_text.specs.Words.{is_token_byte}
use Rattle.sip_message_form.specs.declared.message.Start.TheVariants.{Request}
use Rattle.sip_text_runs.specs.TextRun.{is_visible}
use Rattle.sip_message.specs.Start.{is_uri, start_of, IsRequestLine}
use Rattle.sip_message.proofs.Halves.{token_all}
use Rattle.sip_message.proofs.StartLaws.{start_found}

some_bytes : (name line : List ℕ) (at : ℕ) → name ≡ take at line → 0 < at → at < length line → (length name == 0) ≡ false
some_bytes name line at is some fits =
    let long : 0 < length name = omega (arith, ap length is, length-take at line) in
    grind (arith, long)

uri_is : (uri : List ℕ) → (length uri == 0) ≡ false → list_all is_visible uri ≡ true → is_uri uri ≡ true
uri_is [] some all = absurd cc
uri_is (b ∷ uri) some all = all

-- what stands behind the method and its space
behind_is : (line behind : List ℕ) (at : ℕ) → at < length line → get_or line at 0 ≡ 32 → behind ≡ drop 1 (drop at line) → drop at line ≡ 32 ∷ behind
behind_is line behind at fits space is =
    drop_more line at 0 fits ∙ ap (λ (b : ℕ). b ∷ drop (at + 1) line) space ∙ ap (λ (w : List ℕ). 32 ∷ w) (sym (is ∙ drop-drop 1 at line))

pub request_line : (line method behind uri rest version : List ℕ) (at end : ℕ)
    → 0 < at → at < length line → list_all is_token_byte (take at line) ≡ true → get_or line at 0 ≡ 32 → method ≡ take at line → behind ≡ drop 1 (drop at line)
    → list_all is_visible (take end behind) ≡ true → uri ≡ take end behind → (length uri == 0) ≡ false → rest ≡ drop end behind → rest ≡ codes " SIP/2.0"
    → version ≡ drop 1 rest
    → start_of line ≡ Some (Request method uri version)
request_line line method behind uri rest version at end some fits token space is_m is_b visible is_u some_uri is_r ends is_v =
    let version_is : version ≡ codes "SIP/2.0" = is_v ∙ ap (drop 1) ends in
    let parts : behind ≡ uri ++ codes " SIP/2.0" = sym (take-append-drop end behind) ∙ ap (λ (w : List ℕ). w ++ drop end behind) (sym is_u)
    ∙ ap (λ (w : List ℕ). uri ++ w) (sym is_r ∙ ends) in
    let whole : line ≡ method ++ 32 ∷ (uri ++ codes " SIP/2.0") = sym (take-append-drop at line) ∙ ap (λ (w : List ℕ). w ++ drop at line) (sym is_m)
    ∙ ap (λ (w : List ℕ). method ++ w) (behind_is line behind at fits space is_b ∙ ap (λ (w : List ℕ). 32 ∷ w) parts) in
    let said : IsRequestLine line method uri version = record {
      written = codes "SIP/2.0";
      whole = whole;
      is_method = token_all method (some_bytes method line at is_m some fits) (ap (list_all is_token_byte) is_m ∙ token);
      is_uri = uri_is uri some_uri (ap (list_all is_visible) is_u ∙ visible);
      is_version = record {
        name = codes "SIP/";
        major = codes "2";
        minor = codes "0";
        whole = refl;
        is_sip = refl;
        is_major = refl;
        is_minor = refl;
        is_kept = version_is;
      };
    } in
    start_found line (Request method uri version) said
