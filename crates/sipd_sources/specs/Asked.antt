-- What a datagram asked for, and how it proved that (RFC 3261 22.1 to 22.3).
use Rattle.std.specs.Prelude.{ℕ, Bool, true, false, ◌&&◌, not, is_some, if◌then◌else◌, List, [], ◌∷◌, Option, None, Some}
use Rattle.sip_audit.specs.declared.record.AuditOperation.{AuditOperation}
use Rattle.sip_audit.specs.declared.record.AuditOperation.TheVariants as operations
use Rattle.sip_audit.specs.declared.record.Record.{Record}
use Rattle.sip_event.specs.declared.packet.Packet.{Packet}
use Rattle.sipd_report.specs.Entries.{is_challenge}
use Rattle.sipd_sources.specs.declared.asked.Asked.{Asked}
use Rattle.sipd_sources.specs.Claims.{answers_stale, given_in}

-- a REGISTER, with a Contact or without
abbrev pub is_registration : AuditOperation → Bool
is_registration operations.Register = true
is_registration operations.List = true
is_registration operations.Send = false

-- the user whom a REGISTER names, as whose it is to be registered (RFC 3261 10.2)
abbrev pub registered : Record → Option (List ℕ)
registered r = if is_registration r.operation then Some r.target.user else None

-- the name that a request tried: that of its credentials, if they have one, or else whom it names as a REGISTER
abbrev pub name_by : Option (Option (List ℕ)) → Record → Option (List ℕ)
name_by None r = registered r
name_by (Some None) r = registered r
name_by (Some (Some name)) r = Some name

-- What came of a datagram of which policy was asked. It was challenged, if the record says so (RFC 3261 22.1). It was proven, if the record names a
-- user (RFC 3261 22.2, 22.3). Credentials were wrong, if it gave some for the realm and was challenged all the same, and not since their nonce alone
-- was wrong (RFC 2617 3.2.1).
abbrev pub asked_by : List ℕ → List ℕ → List Packet → Record → Asked
asked_by realm bytes packets r = record {
  challenged = is_challenge r.outcome;
  proven = is_some r.who;
  wrong = is_challenge r.outcome && is_some (given_in realm bytes) && not (answers_stale packets);
  name = name_by (given_in realm bytes) r;
}

-- policy wasn't asked
abbrev pub nothing : Asked
nothing = record { challenged = false; proven = false; wrong = false; name = None }

-- what came of a datagram by the record of its step, which has one at most
abbrev pub asked_with : List ℕ → List ℕ → List Packet → List Record → Asked
asked_with realm bytes packets [] = nothing
asked_with realm bytes packets (r ∷ records) = asked_by realm bytes packets r
