-- URIs of the worked examples.
use Rattle.std.specs.Prelude.{ℕ, List, [], ◌∷◌, codes, Some, None}
use Rattle.sip_uri.specs.declared.scheme.Scheme.TheVariants.{Sip, Sips}
use Rattle.sip_uri.specs.declared.parameters.UriParameter.{UriParameter}
use Rattle.sip_uri.specs.declared.headers.UriHeader.{UriHeader}
use Rattle.sip_uri.specs.declared.uri.Uri.{Uri}

-- `sip:`, a user, `@` and a host
abbrev pub user_at : List ℕ → List ℕ → Uri
user_at user host = record {
  scheme = Sip;
  userinfo = Some (record { user = user; password = None });
  host = host;
  port = None;
  parameters = [];
  headers = [];
}

-- the same with one parameter
abbrev pub with_parameter : Uri → UriParameter → Uri
with_parameter u p = record u { parameters = p ∷ [] }

abbrev pub valued : List ℕ → List ℕ → UriParameter
valued name value = record { name = name; value = Some value }

-- `sip:Bob%20X@Host.com`
abbrev pub bob_x : Uri
bob_x = user_at (codes "Bob%20X") (codes "Host.com")

-- `sip:Bob%20X@Host.com;lr`
abbrev pub bob_x_with_lr : Uri
bob_x_with_lr = with_parameter bob_x (record { name = codes "lr"; value = None })

-- `sip:bob@biloxi.com`
abbrev pub bob : Uri
bob = user_at (codes "bob") (codes "biloxi.com")

-- `sip:bob@biloxi.com:5060`
abbrev pub bob_at_5060 : Uri
bob_at_5060 = record bob { port = Some (codes "5060") }

-- `sip:bob@biloxi.com;transport=udp`
abbrev pub bob_by_udp : Uri
bob_by_udp = with_parameter bob (valued (codes "transport") (codes "udp"))

-- `sip:%61lice@atlanta.com;transport=TCP`
abbrev pub escaped_alice : Uri
escaped_alice = with_parameter (user_at (codes "%61lice") (codes "atlanta.com")) (valued (codes "transport") (codes "TCP"))

-- `sip:alice@AtLanTa.CoM;Transport=tcp`
abbrev pub alice : Uri
alice = with_parameter (user_at (codes "alice") (codes "AtLanTa.CoM")) (valued (codes "Transport") (codes "tcp"))

-- `sip:carol@chicago.com`
abbrev pub carol : Uri
carol = user_at (codes "carol") (codes "chicago.com")

-- `sip:carol@chicago.com;security=on`
abbrev pub carol_secured : Uri
carol_secured = with_parameter carol (valued (codes "security") (codes "on"))

-- `sip:carol@chicago.com;security=off`
abbrev pub carol_unsecured : Uri
carol_unsecured = with_parameter carol (valued (codes "security") (codes "off"))

abbrev pub header : List ℕ → List ℕ → UriHeader
header name value = record { name = name; value = value }

-- `sips:a;b?c/d:p$%20@[::1]:05060;x=[1];LR?Subject=&to=b?`
abbrev pub each_part : Uri
each_part =
    record {
      scheme = Sips;
      userinfo = Some (record { user = codes "a;b?c/d"; password = Some (codes "p$%20") });
      host = codes "[::1]";
      port = Some (codes "05060");
      parameters = valued (codes "x") (codes "[1]") ∷ record { name = codes "LR"; value = None } ∷ [];
      headers = header (codes "Subject") [] ∷ header (codes "to") (codes "b?") ∷ [];
    }

-- `sip:a:@h`, whose password is empty
abbrev pub empty_password : Uri
empty_password = record {
  scheme = Sip;
  userinfo = Some (record { user = codes "a"; password = Some [] });
  host = codes "h";
  port = None;
  parameters = [];
  headers = [];
}

-- `sip:h;x=1;%78=2`, whose names differ as they are written
abbrev pub escaped_name : Uri
escaped_name = record {
  scheme = Sip;
  userinfo = None;
  host = codes "h";
  port = None;
  parameters = valued (codes "x") (codes "1") ∷ valued (codes "%78") (codes "2") ∷ [];
  headers = [];
}

-- the domains of the sample configuration
abbrev pub sample_domains : List (List ℕ)
sample_domains = codes "host.com" ∷ []
