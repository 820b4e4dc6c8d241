-- Of all that differs, the frame and the bound port alone need a restart.
use Rattle.std.proofs.Common.{◌≡◌, ℕ, List, [], ◌∷◌, ◌++◌, Bool, true, false, not, ◌||◌, ◌==◌, ◌↔◌, cond, find, Option, Some, None, is_some, refl, sym, ap, ◌∙◌, nat_eq}
use Rattle.std.specs.Cmp.Lexicographic.{pointwise}
use Rattle.std.specs.List.{flat_map, list_any}
use Rattle.std.specs.Ordering.{int_eq}
use Rattle.std.specs.Str.{bytes_eq}
use Rattle.std.proofs.lemmas.Bool.Decides.{Decides-eqb}
use Rattle.sip_policy.specs.declared.user.User.{User}
use Rattle.sip_policy.specs.User.{is_named, is_users_name}
use Rattle.sip_policy.specs.declared.rule.Rule.{Rule}
use Rattle.sip_hops.specs.declared.hop.Hop.{Hop}
use Rattle.sip_hops.specs.declared.host_address.HostAddress.{HostAddress}
use Rattle.sip_config_types.specs.declared.config.Config.{Config}
use Rattle.sip_config_change.specs.declared.key.FrameKey.{FrameKey}
use Rattle.sip_config_change.specs.Frame.{is_kept, frame_keys, frame_key_of}
use Rattle.sipd_ask.specs.Show.{patterns_text, rule_text}
use Rattle.sipd_changes.specs.declared.difference.Move.TheVariants as Moving
use Rattle.sipd_changes.specs.declared.difference.Revision.TheVariants as Revised
use Rattle.sipd_changes.specs.declared.difference.DigestKey.TheVariants.{A1, A1Sha256}
use Rattle.sipd_changes.specs.declared.difference.Difference.{Difference}
use Rattle.sipd_changes.specs.declared.difference.Difference.TheVariants.{Frame, BoundPort, Offset, UserGoes, Digest, Joins, Leaves, NumberAgain, Order}
use Rattle.sipd_changes.specs.declared.difference.Difference.TheVariants as Changed
use Rattle.sipd_changes.specs.Changes.{unless, frame_changes, head_changes, same_sha256, digest_changes, group_changes, user_now, user_changes, is_same_address, is_hop}
use Rattle.sipd_changes.specs.Changes.{hop_now, hop_changes, is_row, row_now, row_changes, is_number, rule_now, rules_now, rules_gone, numbers_in, order_changes}
use Rattle.sipd_changes.specs.Changes.{rule_changes, changes_of, needs_restart, can_be_taken}

-- whether some change of a list needs a restart
abbrev any : List Difference → Bool
any changes = list_any needs_restart changes

-- ---- lists of changes of which none does

behind : (xs ys : List Difference) → any ys ≡ false → any (xs ++ ys) ≡ any xs
behind [] ys none = none
behind (x ∷ xs) ys none = ap (λ b. needs_restart x || b) (behind xs ys none)

both : (xs ys : List Difference) → any xs ≡ false → any ys ≡ false → any (xs ++ ys) ≡ false
both xs ys front none = behind xs ys none ∙ front

each : {A : Type 0} (f : A → List Difference) → ((x : A) → any (f x) ≡ false) → (xs : List A) → any (flat_map f xs) ≡ false
each f none [] = refl
each f none (x ∷ xs) = both (f x) (flat_map f xs) (none x) (each f none xs)

quiet : (stays : Bool) (change : Difference) → needs_restart change ≡ false → any (unless stays change) ≡ false
quiet true change none = refl
quiet false change none = rw none refl

-- ---- users, hops, hosts and rules

user_quiet : (now : User) (before : Option User) → any (user_now now before) ≡ false
user_quiet now None = refl
user_quiet now (Some before) =
    both (digest_changes before now) (group_changes before now)
    (both (unless (bytes_eq before.a1 now.a1) (Digest now.name A1)) (unless (same_sha256 before.a1_sha256 now.a1_sha256) (Digest now.name A1Sha256))
    (quiet (bytes_eq before.a1 now.a1) (Digest now.name A1) refl)
    (quiet (same_sha256 before.a1_sha256 now.a1_sha256) (Digest now.name A1Sha256) refl))
    (both (flat_map (λ group. unless (list_any (bytes_eq group) now.groups) (Leaves now.name group)) before.groups)
    (flat_map (λ group. unless (list_any (bytes_eq group) before.groups) (Joins now.name group)) now.groups)
    (each (λ group. unless (list_any (bytes_eq group) now.groups) (Leaves now.name group))
    (λ group. quiet (list_any (bytes_eq group) now.groups) (Leaves now.name group) refl) before.groups)
    (each (λ group. unless (list_any (bytes_eq group) before.groups) (Joins now.name group))
    (λ group. quiet (list_any (bytes_eq group) before.groups) (Joins now.name group) refl) now.groups))

users_quiet : (old new : List User) → any (user_changes old new) ≡ false
users_quiet old new =
    both (flat_map (λ user. user_now user (find (is_named user.name) old)) new) (flat_map (λ user. unless (is_users_name new user.name) (UserGoes user.name)) old)
    (each (λ user. user_now user (find (is_named user.name) old)) (λ user. user_quiet user (find (is_named user.name) old)) new)
    (each (λ user. unless (is_users_name new user.name) (UserGoes user.name)) (λ user. quiet (is_users_name new user.name) (UserGoes user.name) refl) old)

hop_quiet : (now : Hop) (before : Option Hop) → any (hop_now now before) ≡ false
hop_quiet now None = refl
hop_quiet now (Some before) = quiet (is_same_address before.address now.address) (Changed.Hop now.name (Moving.Moves before.address now.address)) refl

hops_quiet : (old new : List Hop) → any (hop_changes old new) ≡ false
hops_quiet old new =
    both (flat_map (λ hop. hop_now hop (find (is_hop hop.name) old)) new)
    (flat_map (λ hop. unless (list_any (is_hop hop.name) new) (Changed.Hop hop.name (Moving.Goes hop.address))) old)
    (each (λ hop. hop_now hop (find (is_hop hop.name) old)) (λ hop. hop_quiet hop (find (is_hop hop.name) old)) new)
    (each (λ hop. unless (list_any (is_hop hop.name) new) (Changed.Hop hop.name (Moving.Goes hop.address)))
    (λ hop. quiet (list_any (is_hop hop.name) new) (Changed.Hop hop.name (Moving.Goes hop.address)) refl) old)

row_quiet : (now : HostAddress) (before : Option HostAddress) → any (row_now now before) ≡ false
row_quiet now None = refl
row_quiet now (Some before) = quiet (is_same_address before.address now.address) (Changed.Host now.host now.port (Moving.Moves before.address now.address)) refl

rows_quiet : (old new : List HostAddress) → any (row_changes old new) ≡ false
rows_quiet old new =
    both (flat_map (λ row. row_now row (find (is_row row.host row.port) old)) new)
    (flat_map (λ row. unless (list_any (is_row row.host row.port) new) (Changed.Host row.host row.port (Moving.Goes row.address))) old)
    (each (λ row. row_now row (find (is_row row.host row.port) old)) (λ row. row_quiet row (find (is_row row.host row.port) old)) new)
    (each (λ row. unless (list_any (is_row row.host row.port) new) (Changed.Host row.host row.port (Moving.Goes row.address)))
    (λ row. quiet (list_any (is_row row.host row.port) new) (Changed.Host row.host row.port (Moving.Goes row.address)) refl) old)

rule_quiet : (old_hops new_hops : List Hop) (place : Option ℕ) (now : Rule) (before : Option Rule) → any (rule_now old_hops new_hops place now before) ≡ false
rule_quiet old_hops new_hops place now None = refl
rule_quiet old_hops new_hops place now (Some before) =
    both (unless (bytes_eq (rule_text old_hops before) (rule_text new_hops now)) (Changed.Rule now.id
    (Revised.Says (rule_text old_hops before) (rule_text new_hops now))))
    (unless (bytes_eq (patterns_text before) (patterns_text now)) (NumberAgain now.id))
    (quiet (bytes_eq (rule_text old_hops before) (rule_text new_hops now)) (Changed.Rule now.id (Revised.Says (rule_text old_hops before) (rule_text new_hops now))) refl)
    (quiet (bytes_eq (patterns_text before) (patterns_text now)) (NumberAgain now.id) refl)

rules_now_quiet : (old : Config) (hops : List Hop) (place : Option ℕ) (rules : List Rule) → any (rules_now old hops place rules) ≡ false
rules_now_quiet old hops place [] = refl
rules_now_quiet old hops place (rule ∷ rules) =
    both (rule_now old.hops hops place rule (find (is_number rule.id) old.rules)) (rules_now old hops (Some rule.id) rules)
    (rule_quiet old.hops hops place rule (find (is_number rule.id) old.rules)) (rules_now_quiet old hops (Some rule.id) rules)

rules_quiet : (old new : Config) → any (rule_changes old new) ≡ false
rules_quiet old new =
    both (rules_now old new.hops None new.rules ++ rules_gone old new.rules) (order_changes old.rules new.rules)
    (both (rules_now old new.hops None new.rules) (rules_gone old new.rules)
    (rules_now_quiet old new.hops None new.rules)
    (each (λ rule. unless (list_any (is_number rule.id) new.rules) (Changed.Rule rule.id (Revised.Goes (rule_text old.hops rule))))
    (λ rule. quiet (list_any (is_number rule.id) new.rules) (Changed.Rule rule.id (Revised.Goes (rule_text old.hops rule))) refl) old.rules))
    (quiet (pointwise nat_eq (numbers_in new.rules old.rules) (numbers_in old.rules new.rules)) (Order (numbers_in old.rules new.rules)) refl)

-- ---- the frame and the port

frame_any : (kept : FrameKey → Bool) (keys : List FrameKey) → any (flat_map (λ key. unless (kept key) (Frame key)) keys) ≡ is_some (find (λ key. not (kept key)) keys)
frame_any kept [] = refl
frame_any kept (k ∷ keys) = by_test (kept k) (frame_any kept keys) where
  by_test : (b : Bool) → any (flat_map (λ key. unless (kept key) (Frame key)) keys) ≡ is_some (find (λ key. not (kept key)) keys)
      → any (unless b (Frame k) ++ flat_map (λ key. unless (kept key) (Frame key)) keys) ≡ is_some (cond (not b) (Some k) (find (λ key. not (kept key)) keys))
  by_test true rest = rest
  by_test false rest = refl

or_assoc : (a b c : Bool) → (a || (b || c)) ≡ ((a || b) || c)
or_assoc true b c = refl
or_assoc false b c = refl

port_any : (xs : List Difference) (stays : Bool) (before now : ℕ) → any (xs ++ unless stays (BoundPort before now)) ≡ (any xs || not stays)
port_any [] true before now = refl
port_any [] false before now = refl
port_any (x ∷ xs) stays before now = ap (λ b. needs_restart x || b) (port_any xs stays before now) ∙ or_assoc (needs_restart x) (any xs) (not stays)

all_any : (old new : Config) → any (changes_of old new) ≡ (is_some (frame_key_of old new) || not (old.bound_port == new.bound_port))
all_any old new =
    let port = unless (old.bound_port == new.bound_port) (BoundPort old.bound_port new.bound_port) in
    let head = head_changes old new in
    let users = user_changes old.users new.users in
    let hops = hop_changes old.hops new.hops in
    let rows = row_changes old.addresses new.addresses in
    behind (head ++ users ++ hops ++ rows) (rule_changes old new) (rules_quiet old new)
    ∙ behind (head ++ users ++ hops) rows (rows_quiet old.addresses new.addresses)
    ∙ behind (head ++ users) hops (hops_quiet old.hops new.hops)
    ∙ behind head users (users_quiet old.users new.users)
    ∙ behind (frame_changes old new ++ port) (unless (int_eq old.offset new.offset) (Offset old.offset new.offset))
    (quiet (int_eq old.offset new.offset) (Offset old.offset new.offset) refl)
    ∙ port_any (frame_changes old new) (old.bound_port == new.bound_port) old.bound_port new.bound_port
    ∙ ap (λ b. b || not (old.bound_port == new.bound_port)) (frame_any (is_kept old new) frame_keys)

neither : (key : Option FrameKey) (stays : Bool) → not (is_some key || not stays) ≡ true → (key ≡ None) × (stays ≡ true)
neither None true e = (refl, refl)
neither None false e = cc
neither (Some key) stays e = cc

pub taken : (old new : Config) → (can_be_taken (changes_of old new) ≡ true) ↔ ((frame_key_of old new ≡ None) × (old.bound_port ≡ new.bound_port))
taken old new =
    let is : can_be_taken (changes_of old new) ≡ not (is_some (frame_key_of old new) || not (old.bound_port == new.bound_port)) = ap not (all_any old new) in (
      λ can.
          let both_stay = neither (frame_key_of old new) (old.bound_port == new.bound_port) (sym is ∙ can) in
          (both_stay.0, (Decides-eqb old.bound_port new.bound_port).0 both_stay.1),
      λ stay.
          let port : (old.bound_port == new.bound_port) ≡ true = (Decides-eqb old.bound_port new.bound_port).1 stay.1 in
          is ∙ ap (λ key. not (is_some {T = FrameKey} key || not (old.bound_port == new.bound_port))) stay.0 ∙ ap (λ b. not (false || not b)) port,
    )
