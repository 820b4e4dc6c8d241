-- The forms in which a URI is lent.
use Rattle.sip_uri.specs.declared.uri.Uri.{Uri}
use Rattle.sip_uri_ref.specs.declared.uri_form.UriForm.{UriForm}
use Rattle.sip_uri_ref.specs.declared.uri_form.UriForm.TheVariants.{Plain, Made}

-- the URI that is lent so
abbrev pub form_seen : UriForm → Uri
form_seen (Plain uri) = uri
form_seen (Made uri) = uri.value
