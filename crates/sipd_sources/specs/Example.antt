-- A day with a phone that has an old password, one that is well, and a scanner.
use Rattle.std.specs.Prelude.{ℕ, pos, List, [], ◌∷◌, ◌++◌, codes, Option, None, Some, false}
use Rattle.sip_audit.specs.declared.record.Record.{Record}
use Rattle.sip_audit.specs.declared.record.AuditOperation.TheVariants as AuditOperation
use Rattle.sip_audit.specs.declared.record.AuditOutcome.{AuditOutcome}
use Rattle.sip_audit.specs.declared.record.AuditOutcome.TheVariants.{Answer, Challenge}
use Rattle.sip_event.specs.declared.event.Event.TheVariants.{Datagram}
use Rattle.sip_config_types.specs.declared.config.Config.{Config}
use Rattle.sip_listener.specs.Heard.{Heard, heard_as}
use Rattle.sipd_sources.specs.declared.filter.SourceFilter.{SourceFilter}
use Rattle.sipd_sources.specs.declared.source.Source.{Source}

-- all datagrams
abbrev pub everything : SourceFilter
everything = record { since = None; until = None; from = None }

-- those from 192.0.2.N
abbrev pub from_phone : ℕ → SourceFilter
from_phone n = record { since = None; until = None; from = Some (192 ∷ 0 ∷ 2 ∷ n ∷ []) }

-- those of the hour that begins with 1970
abbrev pub first_hour : SourceFilter
first_hour = record { since = Some 0; until = Some 3600; from = None }

-- a configuration with a realm, whose clock is an hour ahead of UTC
abbrev pub in_office : Config → Config
in_office config = record config { realm = codes "office"; offset = pos 60 }

-- what is recorded of a REGISTER of a user's
abbrev pub asked : ℕ → List ℕ → Option (List ℕ) → AuditOutcome → Record
asked at user who outcome = record {
  at = at;
  number = at;
  method = codes "REGISTER";
  who = who;
  target = record { user = user; host = codes "office.example" };
  operation = AuditOperation.Register;
  minute = None;
  outcome = outcome;
}

-- a REGISTER with fields
abbrev pub register_with : List ℕ → List ℕ
register_with fields = codes "REGISTER sip:office.example SIP/2.0\r\n" ++ fields ++ codes "\r\n"

-- credentials of a user's for a realm
abbrev pub credentials : List ℕ → List ℕ → List ℕ
credentials name realm = codes "Authorization: Digest username=\"" ++ name ++ codes "\", realm=\"" ++ realm ++ codes "\"\r\n"

-- an answer with a challenge that ends so
abbrev pub challenge_text : List ℕ → List ℕ
challenge_text end = codes "SIP/2.0 401 Unauthorized\r\nWWW-Authenticate: Digest realm=\"office\", qop=\"auth\"" ++ end ++ codes "\r\n\r\n"

-- a REGISTER that comes from 192.0.2.N at a moment, and what was recorded and answered
abbrev pub comes : Config → ℕ → ℕ → List ℕ → Record → List ℕ → Heard
comes config at n fields r answer =
    heard_as (in_office config) (Some (Datagram at 0 (record { ip = 192 ∷ 0 ∷ 2 ∷ n ∷ []; port = 5060 }) (register_with fields))) (record {
      at = at;
      packets = record {
        to = record { ip = 192 ∷ 0 ∷ 2 ∷ n ∷ []; port = 5060 };
        bytes = answer;
        ticket = record { datagram = at; branch = 0 };
        again = false;
      } ∷ [];
      records = r ∷ [];
    })

-- one that is challenged
abbrev pub challenged : Config → ℕ → ℕ → List ℕ → List ℕ → List ℕ → Heard
challenged config at n user fields end = comes config at n fields (asked at user None (Challenge 401)) (challenge_text end)

-- one whose sender is proven, and registered
abbrev pub registered : Config → ℕ → ℕ → List ℕ → Heard
registered config at n user =
    comes config at n (credentials user (codes "office")) (asked at user (Some user) (Answer 1 200)) (codes "SIP/2.0 200 OK\r\n\r\n")

-- 192.0.2.5 is asked for a credential as carol, proves it, comes back with it when its nonce is old, and proves it again; 192.0.2.6 gives an old
-- password as grace three times, behind one for another realm; 192.0.2.7 asks as three users, and gives a wrong password as the last of them
abbrev pub day : Config → List Heard
day config =
    challenged config 1000 5 (codes "carol") [] []
    ∷ registered config 2000 5 (codes "carol")
    ∷ challenged config 3000 6 (codes "grace") (credentials (codes "grace") (codes "home")) []
    ∷ challenged config 4000 6 (codes "grace") (credentials (codes "grace") (codes "office")) []
    ∷ challenged config 5000 6 (codes "grace") (credentials (codes "grace") (codes "office")) []
    ∷ challenged config 6000 6 (codes "grace") (credentials (codes "grace") (codes "office")) []
    ∷ challenged config 7000 7 (codes "100") [] []
    ∷ challenged config 8000 7 (codes "101") [] []
    ∷ challenged config 9000 7 (codes "102") (credentials (codes "102") (codes "office")) []
    ∷ challenged config 3600000 5 (codes "carol") (credentials (codes "carol") (codes "office")) (codes ", stale=true")
    ∷ registered config 3601000 5 (codes "carol")
    ∷ []

-- what is said of an address in numbers: datagrams, asked for a credential, proven, wrong, and names
abbrev pub numbers_of : Source → List ℕ
numbers_of s = s.heard ∷ s.challenged ∷ s.proven ∷ s.wrong ∷ s.names ∷ []

-- and in moments: when the first and the last datagram came
abbrev pub times_of : Source → List ℕ
times_of s = s.first.at ∷ s.last.at ∷ []

-- a phone with an old password
abbrev pub old_password : Source
old_password = record {
  ip = 192 ∷ 0 ∷ 2 ∷ 6 ∷ [];
  heard = 2880;
  challenged = 1440;
  proven = 0;
  wrong = 1440;
  names = 1;
  first = record { at = 1000; offset = pos 60 };
  last = record { at = 86399000; offset = pos 60 };
}

-- an address of a number that gave so many wrong credentials, and from which as many datagrams came as its number says
abbrev pub gave : ℕ → ℕ → ℕ × Source
gave number count = (number, record old_password { heard = number; wrong = count })
