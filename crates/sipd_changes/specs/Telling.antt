-- The text of changes, line by line.
use Rattle.std.specs.Prelude.{ℕ, List, [], ◌∷◌, ◌++◌, codes, decimal, Option, Some, None, if◌then◌else◌}
use Rattle.std.specs.List.{flat_map}
use Rattle.sip_uri.specs.Addresses.{addr_text}
use Rattle.sip_config_change.specs.FrameKey.{name_of}
use Rattle.sipd_ask.specs.Decide.{numbered}
use Rattle.sipd_ask.specs.Show.{signed}
use Rattle.sipd_changes.specs.declared.difference.Move.{Move}
use Rattle.sipd_changes.specs.declared.difference.Move.TheVariants as Moving
use Rattle.sipd_changes.specs.declared.difference.Revision.{Revision}
use Rattle.sipd_changes.specs.declared.difference.Revision.TheVariants as Revised
use Rattle.sipd_changes.specs.declared.difference.DigestKey.{DigestKey}
use Rattle.sipd_changes.specs.declared.difference.DigestKey.TheVariants.{A1, A1Sha256}
use Rattle.sipd_changes.specs.declared.difference.Difference.{Difference}
use Rattle.sipd_changes.specs.declared.difference.Difference.TheVariants.{Frame, BoundPort, Offset, UserComes, UserGoes, Digest, Joins, Leaves, NumberAgain, Order}
use Rattle.sipd_changes.specs.declared.difference.Difference.TheVariants as Changed
use Rattle.sipd_changes.specs.Changes.{can_be_taken}

-- ---- users

abbrev pub digest_name : DigestKey → List ℕ
digest_name A1 = codes "a1"
digest_name A1Sha256 = codes "a1_sha256"

-- a user, and what is said of the user
abbrev pub user_line : List ℕ → List ℕ → List ℕ
user_line user words = codes "user " ++ user ++ words

-- a user, and what is said of the user and a thing
abbrev pub user_and : List ℕ → List ℕ → List ℕ → List ℕ
user_and user words thing = codes "user " ++ user ++ words ++ thing ++ codes "\n"

-- ---- addresses

abbrev pub move_text : Move → List ℕ
move_text (Moving.Comes address) = codes " comes at " ++ addr_text address
move_text (Moving.Goes address) = codes " goes from " ++ addr_text address
move_text (Moving.Moves from to) = codes " moves from " ++ addr_text from ++ codes " to " ++ addr_text to

-- what that means for requests to a host in dialogs that were begun before
abbrev pub move_meaning : Move → List ℕ
move_meaning (Moving.Comes address) = codes "\n"
move_meaning move = codes ": in calls that stand, requests to it get 481\n"

abbrev pub hop_text : List ℕ → Move → List ℕ
hop_text name move = codes "hop " ++ name ++ move_text move ++ codes "\n"

abbrev pub host_text : List ℕ → ℕ → Move → List ℕ
host_text host port move = codes "host_address " ++ host ++ codes ":" ++ decimal port ++ move_text move ++ move_meaning move

-- ---- rules

-- a rule by its number, and what is said of it
abbrev pub of_rule : ℕ → List ℕ → List ℕ → List ℕ
of_rule id words text = numbered (codes "rule ") id words ++ text ++ codes "\n"

-- where a rule comes
abbrev pub place_text : Option ℕ → List ℕ
place_text None = codes " comes first: "
place_text (Some behind) = numbered (codes " comes behind rule ") behind (codes ": ")

abbrev pub revision_text : ℕ → Revision → List ℕ
revision_text id (Revised.Comes behind text) = of_rule id (place_text behind) text
revision_text id (Revised.Goes text) = of_rule id (codes " goes: ") text
revision_text id (Revised.Says before now) = of_rule id (codes " before: ") before ++ of_rule id (codes " now: ") now

abbrev pub order_text : List ℕ → List ℕ
order_text ids = codes "rules in another order:" ++ flat_map (λ id. codes " " ++ decimal id) ids ++ codes "\n"

-- ---- all

abbrev pub change_text : Difference → List ℕ
change_text (Frame key) = name_of key ++ codes " differs: a server that runs can't take it, and a restart with it begins anew\n"
change_text (BoundPort before now) =
    numbered (codes "port of address ") before (codes " before, ") ++ decimal now ++ codes " now: a server that runs can't take it\n"
change_text (Offset before now) = codes "offset " ++ signed before ++ codes " before, " ++ signed now ++ codes " now\n"
change_text (UserComes user) = user_line user (codes " comes\n")
change_text (UserGoes user) = user_line user (codes " goes: calls to it get 404, and its phones stay registered until their intervals are over\n")
change_text (Digest user key) = user_and user (codes " has another ") (digest_name key)
change_text (Joins user group) = user_and user (codes " joins group ") group
change_text (Leaves user group) = user_and user (codes " leaves group ") group
change_text (Changed.Hop name move) = hop_text name move
change_text (Changed.Host host port move) = host_text host port move
change_text (Changed.Rule id revision) = revision_text id revision
change_text (NumberAgain id) =
    numbered (codes "warning: rule ") id (codes " is for other requests now, and older lines of the log mean the one before\n")
change_text (Order ids) = order_text ids

-- whether a server that runs can take it
abbrev pub ending_of : List Difference → List ℕ
ending_of [] = codes "nothing differs\n"
ending_of (change ∷ changes) =
    if can_be_taken (change ∷ changes) then codes "a server that runs can take it\n" else codes "a server that runs can't take it\n"

abbrev pub told : List Difference → List ℕ
told changes = flat_map change_text changes ++ ending_of changes
