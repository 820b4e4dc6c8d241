-- Whether a Request-URI that was read is a SIP or SIPS URI.
use Rattle.std.proofs.Common.{◌≡◌, ◌∙◌, ℕ, Bool, true, is_some, List, Option, Result, Ok, Err, refl, ap}
use Rattle.std.specs.Prelude.{is_ok}
use Rattle.std.specs.Result.{result_ok}
use Rattle.std.specs.Str.{bytes_eq}
use Rattle.std.proofs.lemmas.Slice.Eq.{bytes_eq-Decides}
use Rattle.sip_uri.specs.declared.uri.Uri.{Uri}
use Rattle.sip_uri.specs.Reading.{reading_of}
use Rattle.sip_route.specs.declared.way.Way.{Way}
use Rattle.sip_route.specs.Way.{request_uri_in}

-- what was read is there where the reading went well
there : {X Y : Type 0} (r : Result X Y) → is_some (result_ok r) ≡ is_ok r
there (Ok x) = refl
there (Err e) = refl

pub read_is_uri : (way : Way) (uri : Option Uri) → uri ≡ request_uri_in way → is_some uri ≡ is_ok (reading_of way.uri)
read_is_uri way uri is = ap (λ (u : Option Uri). is_some u) is ∙ there (reading_of way.uri)

pub there_is_uri : (way : Way) (is_uri : Bool) → is_uri ≡ is_some (request_uri_in way) → is_uri ≡ is_ok (reading_of way.uri)
there_is_uri way is_uri is = is ∙ there (reading_of way.uri)

-- the same bytes are a URI, or aren't
pub by_bytes : (left came : List ℕ) (is_uri : Bool) → is_uri ≡ is_ok (reading_of left) → bytes_eq left came ≡ true → is_uri ≡ is_ok (reading_of came)
by_bytes left came is_uri is same = is ∙ ap (λ (bytes : List ℕ). is_ok (reading_of bytes)) ((bytes_eq-Decides left came).0 same)
