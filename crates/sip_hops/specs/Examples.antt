-- The sample configuration's address table and hops, and the URIs of the worked examples.
use Rattle.std.specs.Prelude.{ℕ, List, [], ◌∷◌, codes, Some}
use Rattle.sip_uri.specs.declared.uri.Uri.{Uri}
use Rattle.sip_uri.specs.Examples.{user_at}
use Rattle.sip_uri.specs.declared.addr.Addr.{Addr}
use Rattle.sip_hops.specs.declared.host_address.HostAddress.{HostAddress}
use Rattle.sip_hops.specs.declared.hop.Hop.{Hop}

-- a port of 127.0.0.1
abbrev pub local : ℕ → Addr
local port = record { ip = 127 ∷ 0 ∷ 0 ∷ 1 ∷ []; port = port }

-- `pc.host.com`, port 5060: 127.0.0.1:5091
abbrev pub sample_addresses : List HostAddress
sample_addresses = record { host = codes "pc.host.com"; port = 5060; address = local 5091 } ∷ []

-- `gw`: 127.0.0.1:5090
abbrev pub sample_hops : List Hop
sample_hops = record { name = codes "gw"; address = local 5090 } ∷ []

-- `sip:x@PC.host.com`
abbrev pub pc : Uri
pc = user_at (codes "x") (codes "PC.host.com")

-- `sip:x@127.0.0.1`
abbrev pub by_number : Uri
by_number = user_at (codes "x") (codes "127.0.0.1")

-- the same with a port
abbrev pub at_port : Uri → List ℕ → Uri
at_port u port = record u { port = Some port }
