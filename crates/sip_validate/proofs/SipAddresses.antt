-- The kind of a URI, by whether it is a SIP or SIPS URI.
use Rattle.std.proofs.Common.{◌≡◌, refl}
use Rattle.std.specs.Prelude.{is_some}
use Rattle.sip_header.specs.declared.name_addr.AnyUri.{AnyUri}
use Rattle.sip_header.specs.declared.name_addr.AnyUri.TheVariants.{Sip, Other}
use Rattle.sip_header.specs.NameAddr.{sip_uri}
use Rattle.sip_validate.specs.Faults.{is_sip}

pub kind_is : (uri : AnyUri) → is_some (sip_uri uri) ≡ is_sip uri
kind_is (Sip uri) = refl
kind_is (Other text) = refl
