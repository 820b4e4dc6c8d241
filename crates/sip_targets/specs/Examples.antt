-- Requests on the sample configuration.
use Rattle.std.specs.Prelude.{ℕ, Bool, List, [], ◌∷◌, codes, Some, None}
use Rattle.sip_uri.specs.declared.uri.Uri.{Uri}
use Rattle.sip_uri.specs.Aor.{aor_of}
use Rattle.sip_uri.specs.Examples.{user_at, valued, sample_domains}
use Rattle.sip_policy.specs.declared.operation.Operation.{Operation}
use Rattle.sip_policy.specs.User.{is_users_address}
use Rattle.sip_policy.specs.Examples.{sample_users, sample_decision}
use Rattle.sip_hops.specs.Examples.{sample_addresses, sample_hops, at_port}
use Rattle.sip_targets.specs.declared.targets.Targets.{Targets}
use Rattle.sip_targets.specs.Targets.{targets_of}

-- whether a URI names a user of the sample in its domain
abbrev pub known_on_sample : Uri → Bool
known_on_sample uri = is_users_address sample_users sample_domains (aor_of uri)

-- the targets of a proven user's INVITE to a URI, with the live contacts of its address
abbrev pub invite_targets : List ℕ → Uri → List Uri → Targets
invite_targets name uri contacts =
    targets_of (sample_decision (Some name) (Operation.Send (codes "INVITE")) (aor_of uri)) (known_on_sample uri) uri contacts sample_hops
    sample_addresses

-- `sip:911@host.com`
abbrev pub to_911 : Uri
to_911 = user_at (codes "911") (codes "host.com")

-- `sip:help@127.0.0.1:5082`
abbrev pub help_contact : Uri
help_contact = at_port (user_at (codes "help") (codes "127.0.0.1")) (codes "5082")

-- `sip:help@127.0.0.1:5082;%6dethod=BYE;lr?Subject=x`
abbrev pub marked_contact : Uri
marked_contact =
    record help_contact {
      parameters = valued (codes "%6dethod") (codes "BYE") ∷ (record { name = codes "lr"; value = None }) ∷ [];
      headers = (record { name = codes "Subject"; value = codes "x" }) ∷ [];
    }
