-- The parts of an address, before its URI is read.
use Rattle.std.specs.Prelude.{Option, Some, None}
use Rattle.sip_header.specs.declared.name_addr.NameAddr.{NameAddr}
use Rattle.sip_header.specs.declared.name_addr.NameAddrParts.{NameAddrParts}
use Rattle.sip_header.specs.NameAddr.{any_uri_of, with_parameters}

-- the address that parts make, if there are such and their text is a URI of any scheme
abbrev pub parts_say : Option NameAddrParts → Option NameAddr
parts_say None = None
parts_say (Some parts) = with_parameters (Some parts.parameters) (any_uri_of parts.uri.now)
