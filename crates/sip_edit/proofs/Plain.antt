-- A URI whose scheme is written `sip` is written as it is.
use Rattle.std.proofs.Common.{◌≡◌, ℕ, true, false, List, ◌∷◌, ◌++◌, Option, Some, None, refl, sym, ap, ◌∙◌}
use Rattle.std.specs.Prelude.{Result, Ok, Err, codes}
use Rattle.std.specs.Option.{option_map_or}
use Rattle.std.specs.Result.{result_ok}
use Rattle.std.specs.Str.{bytes_eq}
use Rattle.std.proofs.lemmas.Slice.Eq.{bytes_eq-Decides}
use Rattle.sip_text.specs.Words.{is_same_text}
use Rattle.sip_text.specs.Splits.{split_at_byte}
use Rattle.sip_uri.specs.declared.error.UriError.{UriError}
use Rattle.sip_uri.specs.declared.scheme.Scheme.{Scheme}
use Rattle.sip_uri.specs.declared.scheme.Scheme.TheVariants.{Sip, Sips}
use Rattle.sip_uri.specs.declared.uri.Uri.{Uri}
use Rattle.sip_uri.specs.Scheme.{scheme_text}
use Rattle.sip_uri.specs.Uri.{rest_text, text_of, IsWritten}
use Rattle.sip_uri.specs.Reading.{reading_of}
use Rattle.sip_uri.proofs.Tests.{pair_is, split_again}
use Rattle.sip_uri.proofs.PartLaws.{scheme_others}
use Rattle.sip_uri.proofs.ReadingLaws.{is_written}
use Rattle.sip_edit.specs.Onward.{written_uri}

-- which scheme it is then
scheme_is : (name : List ℕ) (scheme : Scheme) → name ≡ codes "sip" → is_same_text name (scheme_text scheme) ≡ true → scheme_text scheme ≡ name
scheme_is name Sip is e = sym is
scheme_is name Sips is e =
    let never : is_same_text (codes "sip") (codes "sips") ≡ true = ap (λ (w : List ℕ). is_same_text w (codes "sips")) (sym is) ∙ e in
    absurd cc

same_text : (uri : List ℕ) (cut : List ℕ × List ℕ) (u : Uri) → split_at_byte 58 uri ≡ Some cut → cut.0 ≡ codes "sip" → reading_of uri ≡ Ok u → text_of u ≡ uri
same_text uri cut u is plain read =
    let w : IsWritten uri u = is_written uri u read in
    let split : split_at_byte 58 uri ≡ Some (w.scheme, rest_text u) =
    ap (split_at_byte 58) w.whole ∙ split_again 58 w.scheme (rest_text u) (scheme_others w.scheme u.scheme w.in_any_case) refl in
    let name : cut.0 ≡ w.scheme = (pair_is cut (w.scheme, rest_text u) (sym is ∙ split)).0 in
    let scheme : scheme_text u.scheme ≡ w.scheme = scheme_is w.scheme u.scheme (sym name ∙ plain) w.in_any_case in
    ap (λ (t : List ℕ). t ++ 58 ∷ rest_text u) scheme ∙ sym w.whole

by_reading : (uri : List ℕ) (cut : List ℕ × List ℕ) (r : Result Uri UriError) → split_at_byte 58 uri ≡ Some cut → cut.0 ≡ codes "sip" → reading_of uri ≡ r
    → uri ≡ option_map_or (λ u. text_of u) (result_ok r) uri
by_reading uri cut (Err fault) is plain read = refl
by_reading uri cut (Ok u) is plain read = sym (same_text uri cut u is plain read)

by_split : (uri : List ℕ) (o : Option (List ℕ × List ℕ)) → split_at_byte 58 uri ≡ o → option_map_or (λ x. bytes_eq x.0 (codes "sip")) o false ≡ true
    → uri ≡ written_uri uri
by_split uri None is e = absurd cc
by_split uri (Some cut) is e = by_reading uri cut (reading_of uri) is ((bytes_eq-Decides cut.0 (codes "sip")).0 e) refl

pub stays : (uri : List ℕ) → option_map_or (λ x. bytes_eq x.0 (codes "sip")) (split_at_byte 58 uri) false ≡ true → uri ≡ written_uri uri
stays uri e = by_split uri (split_at_byte 58 uri) refl e
