-- What two configurations differ in, in the order of the file.
use Rattle.std.specs.Prelude.{ℕ, Bool, true, false, not, ◌&&◌, ◌==◌, nat_eq, if◌then◌else◌, find, List, [], ◌∷◌, ◌++◌, Option, Some, None}
use Rattle.std.specs.List.{flat_map, list_any}
use Rattle.std.specs.Cmp.Lexicographic.{pointwise}
use Rattle.std.specs.Ordering.{int_eq}
use Rattle.std.specs.Str.{bytes_eq}
use Rattle.sip_text.specs.Words.{is_same_text}
use Rattle.sip_uri.specs.declared.addr.Addr.{Addr}
use Rattle.sip_policy.specs.declared.user.User.{User}
use Rattle.sip_policy.specs.User.{is_named, is_users_name}
use Rattle.sip_policy.specs.declared.rule.Rule.{Rule}
use Rattle.sip_hops.specs.declared.hop.Hop.{Hop}
use Rattle.sip_hops.specs.declared.host_address.HostAddress.{HostAddress}
use Rattle.sip_config_types.specs.declared.config.Config.{Config}
use Rattle.sip_config_change.specs.Frame.{is_kept, frame_keys}
use Rattle.sipd_ask.specs.Show.{patterns_text, rule_text}
use Rattle.sipd_changes.specs.declared.difference.Move.TheVariants as Moving
use Rattle.sipd_changes.specs.declared.difference.Revision.TheVariants as Revised
use Rattle.sipd_changes.specs.declared.difference.DigestKey.TheVariants.{A1, A1Sha256}
use Rattle.sipd_changes.specs.declared.difference.Difference.{Difference}
use Rattle.sipd_changes.specs.declared.difference.Difference.TheVariants.{Frame, BoundPort, Offset, UserComes, UserGoes, Digest, Joins, Leaves, NumberAgain, Order}
use Rattle.sipd_changes.specs.declared.difference.Difference.TheVariants as Changed

-- a change, unless something stays
abbrev pub unless : Bool → Difference → List Difference
unless true change = []
unless false change = change ∷ []

-- ---- the keys before all tables

abbrev pub frame_changes : Config → Config → List Difference
frame_changes old new = flat_map (λ key. unless (is_kept old new key) (Frame key)) frame_keys

abbrev pub head_changes : Config → Config → List Difference
head_changes old new =
    frame_changes old new ++ unless (old.bound_port == new.bound_port) (BoundPort old.bound_port new.bound_port)
    ++ unless (int_eq old.offset new.offset) (Offset old.offset new.offset)

-- ---- users, by their names

-- whether a user has the same digest by SHA-256, or none before and none now
abbrev pub same_sha256 : Option (List ℕ) → Option (List ℕ) → Bool
same_sha256 None None = true
same_sha256 (Some before) (Some now) = bytes_eq before now
same_sha256 None (Some now) = false
same_sha256 (Some before) None = false

abbrev pub digest_changes : User → User → List Difference
digest_changes before now =
    unless (bytes_eq before.a1 now.a1) (Digest now.name A1) ++ unless (same_sha256 before.a1_sha256 now.a1_sha256) (Digest now.name A1Sha256)

-- the groups that the user of before is in, and the one of now isn't; and the other way round
abbrev pub group_changes : User → User → List Difference
group_changes before now =
    flat_map (λ group. unless (list_any (bytes_eq group) now.groups) (Leaves now.name group)) before.groups
    ++ flat_map (λ group. unless (list_any (bytes_eq group) before.groups) (Joins now.name group)) now.groups

-- what becomes of a user who was this one, or wasn't there
abbrev pub user_now : User → Option User → List Difference
user_now now None = UserComes now.name ∷ []
user_now now (Some before) = digest_changes before now ++ group_changes before now

-- the users of now, then those who go
abbrev pub user_changes : List User → List User → List Difference
user_changes old new =
    flat_map (λ user. user_now user (find (is_named user.name) old)) new
    ++ flat_map (λ user. unless (is_users_name new user.name) (UserGoes user.name)) old

-- ---- hops by their names, and hosts by their names and ports

abbrev pub is_same_address : Addr → Addr → Bool
is_same_address left right = bytes_eq left.ip right.ip && left.port == right.port

abbrev pub is_hop : List ℕ → Hop → Bool
is_hop name hop = bytes_eq hop.name name

abbrev pub hop_now : Hop → Option Hop → List Difference
hop_now now None = Changed.Hop now.name (Moving.Comes now.address) ∷ []
hop_now now (Some before) =
    unless (is_same_address before.address now.address) (Changed.Hop now.name (Moving.Moves before.address now.address))

abbrev pub hop_changes : List Hop → List Hop → List Difference
hop_changes old new =
    flat_map (λ hop. hop_now hop (find (is_hop hop.name) old)) new
    ++ flat_map (λ hop. unless (list_any (is_hop hop.name) new) (Changed.Hop hop.name (Moving.Goes hop.address))) old

-- whether a row is for a host, compared without case, and a port
abbrev pub is_row : List ℕ → ℕ → HostAddress → Bool
is_row host port row = is_same_text row.host host && row.port == port

abbrev pub row_now : HostAddress → Option HostAddress → List Difference
row_now now None = Changed.Host now.host now.port (Moving.Comes now.address) ∷ []
row_now now (Some before) =
    unless (is_same_address before.address now.address) (Changed.Host now.host now.port (Moving.Moves before.address now.address))

abbrev pub row_changes : List HostAddress → List HostAddress → List Difference
row_changes old new =
    flat_map (λ row. row_now row (find (is_row row.host row.port) old)) new
    ++ flat_map (λ row. unless (list_any (is_row row.host row.port) new) (Changed.Host row.host row.port (Moving.Goes row.address))) old

-- ---- rules, by their numbers

abbrev pub is_number : ℕ → Rule → Bool
is_number id rule = rule.id == id

-- a rule that says something else than the one of its number did; and where it is for other requests, the number is used again
abbrev pub revised : List Hop → List Hop → Rule → Rule → List Difference
revised old_hops new_hops before now =
    unless (bytes_eq (rule_text old_hops before) (rule_text new_hops now))
    (Changed.Rule now.id (Revised.Says (rule_text old_hops before) (rule_text new_hops now)))
    ++ unless (bytes_eq (patterns_text before) (patterns_text now)) (NumberAgain now.id)

-- what becomes of a rule behind another one, which was this one, or wasn't there
abbrev pub rule_now : List Hop → List Hop → Option ℕ → Rule → Option Rule → List Difference
rule_now old_hops new_hops behind now None = Changed.Rule now.id (Revised.Comes behind (rule_text new_hops now)) ∷ []
rule_now old_hops new_hops behind now (Some before) = revised old_hops new_hops before now

-- the rules of now, the first of them behind that of a number, or first of all
abbrev pub rules_now : Config → List Hop → Option ℕ → List Rule → List Difference
rules_now old hops behind [] = []
rules_now old hops behind (rule ∷ rules) =
    rule_now old.hops hops behind rule (find (is_number rule.id) old.rules) ++ rules_now old hops (Some rule.id) rules

-- the rules that go
abbrev pub rules_gone : Config → List Rule → List Difference
rules_gone old new =
    flat_map (λ rule. unless (list_any (is_number rule.id) new) (Changed.Rule rule.id (Revised.Goes (rule_text old.hops rule)))) old.rules

-- the numbers of the rules that are in another list, too
abbrev pub numbers_in : List Rule → List Rule → List ℕ
numbers_in others rules = flat_map (λ rule. if list_any (is_number rule.id) others then rule.id ∷ [] else []) rules

abbrev pub order_changes : List Rule → List Rule → List Difference
order_changes old new = unless (pointwise nat_eq (numbers_in new old) (numbers_in old new)) (Order (numbers_in old new))

abbrev pub rule_changes : Config → Config → List Difference
rule_changes old new = rules_now old new.hops None new.rules ++ rules_gone old new.rules ++ order_changes old.rules new.rules

-- ---- all

abbrev pub changes_of : Config → Config → List Difference
changes_of old new =
    head_changes old new ++ user_changes old.users new.users ++ hop_changes old.hops new.hops ++ row_changes old.addresses new.addresses
    ++ rule_changes old new

-- whether a change is of what can't change while a server runs
abbrev pub needs_restart : Difference → Bool
needs_restart (Frame key) = true
needs_restart (BoundPort before now) = true
needs_restart change = false

abbrev pub can_be_taken : List Difference → Bool
can_be_taken changes = not (list_any needs_restart changes)
