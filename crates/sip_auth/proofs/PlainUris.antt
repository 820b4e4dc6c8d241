-- A URI without parameters is equal to itself.
use Rattle.std.proofs.Common.{◌≡◌, ℕ, true, List, Ok, ap, ◌∙◌}
use Rattle.std.specs.Result.{result_ok}
use Rattle.sip_uri.specs.declared.uri.Uri.{Uri}
use Rattle.sip_uri.specs.Reading.{reading_of}
use Rattle.sip_uri_ref.specs.PlainUri.{IsBare}
use Rattle.sip_uri_equality.specs.Equality.{names_say_different}
use Rattle.sip_uri_equality.proofs.Equal.{reflexive}
use Rattle.sip_auth.specs.Proof.{are_equal_uris, is_equal_uri}

pub equals_itself : (text : List ℕ) (uri : Uri) → reading_of text ≡ Ok uri → IsBare uri → is_equal_uri text text ≡ true
equals_itself text uri reads bare =
    ap (λ r. are_equal_uris (result_ok r) (result_ok r)) reads ∙ reflexive uri (ap (λ (u : Uri). names_say_different u.parameters) bare.is)
