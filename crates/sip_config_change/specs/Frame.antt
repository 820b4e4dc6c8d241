-- By which keys the frames of two configurations differ.
use Rattle.std.specs.Prelude.{Bool, not, ◌==◌, List, [], ◌∷◌, Option, find}
use Rattle.std.specs.Cmp.Lexicographic.{pointwise}
use Rattle.std.specs.Str.{bytes_eq}
use Rattle.sip_config_types.specs.declared.config.Config.{Config}
use Rattle.sip_config_change.specs.declared.key.FrameKey.{FrameKey}
use Rattle.sip_config_change.specs.declared.key.FrameKey.TheVariants.{Host, Port, Address, Domains, Realm}

-- whether the old configuration and the new one say the same of a key: texts byte by byte, domains in their order
abbrev pub is_kept : Config → Config → FrameKey → Bool
is_kept old new Host = bytes_eq old.own.host new.own.host
is_kept old new Port = old.own.port == new.own.port
is_kept old new Address = bytes_eq old.own.ip new.own.ip
is_kept old new Domains = pointwise bytes_eq old.own.domains new.own.domains
is_kept old new Realm = bytes_eq old.realm new.realm

-- the keys of the frame, in the order in which they are looked at
abbrev pub frame_keys : List FrameKey
frame_keys = Host ∷ Port ∷ Address ∷ Domains ∷ Realm ∷ []

-- the first that isn't kept
abbrev pub frame_key_of : Config → Config → Option FrameKey
frame_key_of old new = find (λ key. not (is_kept old new key)) frame_keys
