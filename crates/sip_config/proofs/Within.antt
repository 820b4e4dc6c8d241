-- What a file states is within the limits.
use Rattle.std.proofs.Common.{◌≡◌, ℕ, ◌+◌, ◌≤◌, Bool, true, false, ◌&&◌, not, if◌then◌else◌, List, [], ◌∷◌, ◌++◌, length, codes, Option, Some, None, Result, Ok, refl, ap}
use Rattle.std.proofs.Common.{ap₂, ◌∙◌, subst, arith}
use Rattle.std.specs.List.{list_all, list_any}
use Rattle.std.proofs.lemmas.List.{length-append}
use Rattle.std.proofs.lemmas.Bool.{ltb-false, le-leb}
use Rattle.toml.specs.Data.{Data, Items, no_items, item, Members, get_member, as_table, as_array}
use Rattle.sip_uri.specs.Host.{is_host}
use Rattle.sip_hops.specs.declared.hop.Hop.{Hop}
use Rattle.sip_hops.specs.declared.host_address.HostAddress.{HostAddress}
use Rattle.sip_hops.specs.HostAddress.{is_row_for}
use Rattle.sip_policy.specs.declared.user.User.{User}
use Rattle.sip_config_types.specs.declared.config.Config.{Config}
use Rattle.sip_config_values.specs.declared.error.ConfigError.{ConfigError}
use Rattle.sip_config_values.specs.declared.error.ConfigError.TheVariants.{TooMany}
use Rattle.sip_config_values.specs.declared.key.ConfigKey.{ConfigKey}
use Rattle.sip_config_values.specs.declared.key.ConfigKey.TheVariants as keys
use Rattle.sip_config_values.specs.declared.table_kind.TableKind.{TableKind}
use Rattle.sip_config_values.specs.declared.table_kind.TableKind.TheVariants as kinds
use Rattle.sip_config_values.specs.declared.refusal.Refusal.{Refusal}
use Rattle.sip_config_values.specs.declared.refusal.Refusal.TheVariants.{At, Twice}
use Rattle.sip_config_values.specs.declared.grammar.Grammar.{Grammar}
use Rattle.sip_config_values.specs.declared.grammar.Grammar.TheVariants.{Realm, OwnHost, HostName, Host, Name}
use Rattle.sip_config_values.specs.Refusals.{◌>>=◌, valid, place, placed, confirmed, kept_if, none_found}
use Rattle.sip_config_values.specs.Grammar.{accepts, is_name}
use Rattle.sip_config_values.specs.Values.{required, needed, text_of, text_as, text_at, list_of, table_of, address_of, items_in, items_at, has_items, some_items_at}
use Rattle.sip_config_values.specs.Rows.{table_in, rows_after, texts_after, texts_of}
use Rattle.sip_config_values.specs.Words.{is_hop}
use Rattle.sip_config.specs.Rules.{rule_at}
use Rattle.sip_config.specs.declared.head.TopLevelKeys.{TopLevelKeys}
use Rattle.sip_config.specs.Head.{version_at, offset_at, port_at, address_at, domains_at, head_of}
use Rattle.sip_config.specs.Users.{a1_at, a1_sha256_at, groups_in, groups_at, user_at}
use Rattle.sip_config.specs.Hops.{new_hop}
use Rattle.sip_config.specs.HostAddresses.{port_in, new_row}
use Rattle.sip_config.specs.Limits.{count_items, is_longer, is_over, is_over_at, has_many_groups, many_groups_after, many_groups_of, many_groups_in, few_at, all_few}
use Rattle.sip_config.specs.Configuration.{config_of, placed_by, configuration_of}
use Rattle.sip_config.specs.Configured.{has_few_groups, is_well_named, IsWithinLimits}
use Rattle.sip_config.proofs.Configured.{came, came_at, alone_ok, confirmed_ok, not_is, kept_is, kept_passes, rows_keep, all_last, rule_rows, Parts, parts_of}

-- ---- texts of a grammar

text_accepts : (grammar : Grammar) (value : Data) (text : List ℕ) → text_as grammar value ≡ Ok text → accepts grammar text ≡ true
text_accepts grammar value text e =
    let read = came (text_of value) (λ t. kept_if (accepts grammar t) t) text e in
    subst (λ (t : List ℕ). accepts grammar t ≡ true) (kept_is (accepts grammar read.value) read.value text read.rest)
    (kept_passes (accepts grammar read.value) read.value text read.rest)

key_accepts : (key : List ℕ) (grammar : Grammar) (members : Members) (text : List ℕ) → text_at key grammar members ≡ Ok text → accepts grammar text ≡ true
key_accepts key grammar members text e =
    let value = came (needed key members) (text_as grammar) text e in
    text_accepts grammar value.value text value.rest

texts_are : (grammar : Grammar) (items : Items) (before texts : List (List ℕ)) → list_all (accepts grammar) before ≡ true → texts_after grammar before items ≡ Ok texts
    → list_all (accepts grammar) texts ≡ true
texts_are grammar no_items before texts all e = let same : before ≡ texts = cc in subst (λ (ts : List (List ℕ)). list_all (accepts grammar) ts ≡ true) same all
texts_are grammar (item first items) before texts all e =
    let text = came (text_as grammar first) (λ t. texts_after grammar (before ++ t ∷ []) items) texts e in
    texts_are grammar items (before ++ text.value ∷ []) texts (all_last (accepts grammar) before text.value all (text_accepts grammar first text.value text.is)) text.rest

-- ---- how many

texts_count : (grammar : Grammar) (items : Items) (before texts : List (List ℕ)) → texts_after grammar before items ≡ Ok texts
    → length texts ≡ length before + count_items items
texts_count grammar no_items before texts e = let same : before ≡ texts = cc in omega (arith, ap length same)
texts_count grammar (item first items) before texts e =
    let text = came (text_as grammar first) (λ t. texts_after grammar (before ++ t ∷ []) items) texts e in
    omega (arith, texts_count grammar items (before ++ text.value ∷ []) texts text.rest, length-append before (text.value ∷ []))

rows_count : {A : Type 0} (list : ConfigKey) (read : List A → Members → Result A Refusal) (items : Items) (before rows : List A)
    → rows_after list read before items ≡ Ok rows
    → length rows ≡ length before + count_items items
rows_count list read no_items before rows e = let same : before ≡ rows = cc in omega (arith, ap length same)
rows_count list read (item first items) before rows e =
    let row = came (table_in list first >>= read before) (λ r. rows_after list read (before ++ r ∷ []) items) rows e in
    omega (arith, rows_count list read items (before ++ row.value ∷ []) rows row.rest, length-append before (row.value ∷ []))

few_by : (most : ℕ) (list : Option Items) (items : Items) → is_longer most list ≡ false → valid list ≡ Ok items → count_items items ≤ most
few_by most None items f e = absurd cc
few_by most (Some list) items f e = let same : list ≡ items = cc in subst (λ (is : Items). count_items is ≤ most) same (ltb-false most (count_items list) f)

-- what a key holds that isn't over its limit
few_in : (most : ℕ) (found : Option Data) (items : Items) → is_over most found ≡ false → items_in found ≡ Ok items → count_items items ≤ most
few_in most None items f e = let same : no_items ≡ items = cc in subst (λ (is : Items). count_items is ≤ most) same (omega arith)
few_in most (Some value) items f e = few_by most (as_array value) items f e

few_rows : {A : Type 0} (list : ConfigKey) (read : List A → Members → Result A Refusal) (key : List ℕ) (most : ℕ) (members : Members) (items : Items) (rows : List A)
    → is_over_at key most members ≡ false → items_at key members ≡ Ok items
    → rows_after list read [] items ≡ Ok rows → length rows ≤ most
few_rows list read key most members items rows f is e = omega (arith, few_in most (get_member key members) items f is, rows_count list read items [] rows e)

-- a list that has to be there has an item
record AreSome (key : List ℕ) (members : Members) (items : Items) : Type 0 where
  there : items_at key members ≡ Ok items
  some : 1 ≤ count_items items

one_or_more : (items : Items) → has_items items ≡ true → 1 ≤ count_items items
one_or_more no_items e = absurd cc
one_or_more (item first items) e = omega arith

are_some : (key : List ℕ) (members : Members) (items : Items) → some_items_at key members ≡ Ok items → AreSome key members items
are_some key members items e = by (get_member key members) refl e
  where
    by : (found : Option Data) → get_member key members ≡ found → (required found >>= list_of >>= λ is. kept_if (has_items is) is) ≡ Ok items → AreSome key members items
    by None is e = absurd cc
    by (Some value) is e =
        let list = came (list_of value) (λ is. kept_if (has_items is) is) items e in
        let same : list.value ≡ items = kept_is (has_items list.value) list.value items list.rest in
        record {
          there = ap items_in is ∙ list.is ∙ ap (λ (it : Items). Ok it) same;
          some = one_or_more items (subst (λ (it : Items). has_items it ≡ true) same (kept_passes (has_items list.value) list.value items list.rest));
        }

-- no list is over its limit
record AreFew (members : Members) : Type 0 where
  domains_are : is_over_at (codes "domains") 16 members ≡ false
  users_are : is_over_at (codes "user") 4096 members ≡ false
  groups_are : many_groups_in (get_member (codes "user") members) ≡ None
  hops_are : is_over_at (codes "hop") 256 members ≡ false
  addresses_are : is_over_at (codes "host_address") 1024 members ≡ false
  rules_are : is_over_at (codes "rule") 1024 members ≡ false

is_few : (many : Bool) (refusal : Refusal) (u : Unit {0}) → confirmed (not many) refusal ≡ Ok u → many ≡ false
is_few many refusal u e = not_is many (confirmed_ok (not many) refusal u e)

none_is : (error : ConfigError) (kind : TableKind) (key : ConfigKey) (found : Option ℕ) (u : Unit {0}) → none_found error kind key found ≡ Ok u → found ≡ None
none_is error kind key None u e = refl
none_is error kind key (Some before) u e = absurd cc

are_few : (members : Members) (u : Unit {0}) → all_few members ≡ Ok u → AreFew members
are_few members u e =
    let many = λ (key : ConfigKey). At TooMany (place kinds.Whole 0 key) in
    let groups = none_found TooMany kinds.User keys.Groups (many_groups_in (get_member (codes "user") members)) in
    let d = came (few_at keys.Domains 16 members) (λ _. few_at keys.Users 4096 members >>= λ _. groups >>= λ _. few_at keys.Hops 256 members >>=
    λ _. few_at keys.HostAddresses 1024 members >>= λ _. few_at keys.Rules 1024 members) u e in
    let s = came (few_at keys.Users 4096 members) (λ _. groups >>= λ _. few_at keys.Hops 256 members >>= λ _. few_at keys.HostAddresses 1024 members >>=
    λ _. few_at keys.Rules 1024 members) u d.rest in
    let g = came groups (λ _. few_at keys.Hops 256 members >>= λ _. few_at keys.HostAddresses 1024 members >>= λ _. few_at keys.Rules 1024 members) u s.rest in
    let h = came (few_at keys.Hops 256 members) (λ _. few_at keys.HostAddresses 1024 members >>= λ _. few_at keys.Rules 1024 members) u g.rest in
    let a = came (few_at keys.HostAddresses 1024 members) (λ _. few_at keys.Rules 1024 members) u h.rest in
    record {
      domains_are = is_few (is_over_at (codes "domains") 16 members) (many keys.Domains) d.value d.is;
      users_are = is_few (is_over_at (codes "user") 4096 members) (many keys.Users) s.value s.is;
      groups_are = none_is TooMany kinds.User keys.Groups (many_groups_in (get_member (codes "user") members)) g.value g.is;
      hops_are = is_few (is_over_at (codes "hop") 256 members) (many keys.Hops) h.value h.is;
      addresses_are = is_few (is_over_at (codes "host_address") 1024 members) (many keys.HostAddresses) a.value a.is;
      rules_are = is_few (is_over_at (codes "rule") 1024 members) (many keys.Rules) u a.rest;
    }

-- ---- users

-- what a user's name and groups come of
record IsUser (members : Members) (user : User) : Type 0 where
  name_is : text_at (codes "name") Name members ≡ Ok user.name
  groups_are : groups_at members ≡ Ok user.groups

is_user : (before : List User) (members : Members) (user : User) → user_at before members ≡ Ok user → IsUser members user
is_user before members user e =
    let n = length before in
    let a1 = came_at kinds.User n keys.A1 (a1_at members)
    (λ a1. placed kinds.User n keys.A1Sha256 (a1_sha256_at members) >>= λ a1_sha256. placed kinds.User n keys.Name (text_at (codes "name") Name members) >>=
    λ name. placed kinds.User n keys.Groups (groups_at members) >>= λ groups. Ok (record { name = name; a1 = a1; a1_sha256 = a1_sha256; groups = groups })) user e in
    let sha256 = came_at kinds.User n keys.A1Sha256 (a1_sha256_at members)
    (λ a1_sha256. placed kinds.User n keys.Name (text_at (codes "name") Name members) >>= λ name. placed kinds.User n keys.Groups (groups_at members) >>=
    λ groups. Ok (record { name = name; a1 = a1.value; a1_sha256 = a1_sha256; groups = groups })) user a1.rest in
    let name = came_at kinds.User n keys.Name (text_at (codes "name") Name members) (λ name. placed kinds.User n keys.Groups (groups_at members) >>=
    λ groups. Ok (record { name = name; a1 = a1.value; a1_sha256 = sha256.value; groups = groups })) user sha256.rest in
    let groups = came_at kinds.User n keys.Groups (groups_at members) (λ groups. Ok (record {
      name = name.value;
      a1 = a1.value;
      a1_sha256 = sha256.value;
      groups = groups;
    })) user name.rest in
    let made : User = record { name = name.value; a1 = a1.value; a1_sha256 = sha256.value; groups = groups.value } in
    let same : made ≡ user = cc in
    record {
      name_is = name.is ∙ ap (λ (u : User). Ok u.name) same;
      groups_are = groups.is ∙ ap (λ (u : User). Ok u.groups) same;
    }

groups_named : (found : Option Data) (groups : List (List ℕ)) → groups_in found ≡ Ok groups → list_all is_name groups ≡ true
groups_named None groups e = let same : [] ≡ groups = cc in subst (λ (gs : List (List ℕ)). list_all is_name gs ≡ true) same refl
groups_named (Some value) groups e =
    let items = came (list_of value) (texts_of Name) groups e in
    texts_are Name items.value [] groups refl items.rest

few_groups : (found : Option Data) (groups : List (List ℕ)) → is_over 16 found ≡ false → groups_in found ≡ Ok groups → length groups ≤ 16
few_groups None groups f e = let same : [] ≡ groups = cc in subst (λ (gs : List (List ℕ)). length gs ≤ 16) same (omega arith)
few_groups (Some value) groups f e =
    let items = came (list_of value) (texts_of Name) groups e in
    omega (arith, few_by 16 (as_array value) items.value f items.is, texts_count Name items.value [] groups items.rest)

user_is_well_named : (before : List User) (members : Members) (user : User) → user_at before members ≡ Ok user → is_well_named user ≡ true
user_is_well_named before members user e =
    let u = is_user before members user e in
    ap₂ (λ (x y : Bool). x && y) (key_accepts (codes "name") Name members user.name u.name_is)
    (groups_named (get_member (codes "groups") members) user.groups u.groups_are)

-- a first test that finds nothing fails
not_first : (here : Bool) (at : ℕ) (rest : Option ℕ) → (if here then Some at else rest) ≡ None → (here ≡ false) × (rest ≡ None)
not_first true at rest e = absurd cc
not_first false at rest e = (refl, e)

table_few : (found : Option Members) (table : Members) → has_many_groups found ≡ false → valid found ≡ Ok table → is_over_at (codes "groups") 16 table ≡ false
table_few None table f e = absurd cc
table_few (Some members) table f e = let same : members ≡ table = cc in subst (λ (ms : Members). is_over_at (codes "groups") 16 ms ≡ false) same f

users_few : (items : Items) (at : ℕ) (before users : List User) → many_groups_after at items ≡ None → list_all has_few_groups before ≡ true
    → rows_after keys.Users user_at before items ≡ Ok users
    → list_all has_few_groups users ≡ true
users_few no_items at before users f all e = let same : before ≡ users = cc in subst (λ (us : List User). list_all has_few_groups us ≡ true) same all
users_few (item first items) at before users f all e =
    let row = came (table_in keys.Users first >>= user_at before) (λ r. rows_after keys.Users user_at (before ++ r ∷ []) items) users e in
    let table = came_at kinds.Whole 0 keys.Users (table_of first) (user_at before) row.value row.is in
    let both = not_first (has_many_groups (as_table first)) at (many_groups_after (at + 1) items) f in
    let few : length row.value.groups ≤ 16 =
    few_groups (get_member (codes "groups") table.value) row.value.groups (table_few (as_table first) table.value both.0 table.is)
    (is_user before table.value row.value table.rest).groups_are in
    users_few items (at + 1) (before ++ row.value ∷ []) users both.1 (all_last has_few_groups before row.value all (le-leb (length row.value.groups) 16 few)) row.rest

some_few : (list : Option Items) (items : Items) → many_groups_of list ≡ None → valid list ≡ Ok items → many_groups_after 0 items ≡ None
some_few None items f e = absurd cc
some_few (Some list) items f e = let same : list ≡ items = cc in subst (λ (is : Items). many_groups_after 0 is ≡ None) same f

listed_few : (found : Option Data) (items : Items) → many_groups_in found ≡ None → items_in found ≡ Ok items → many_groups_after 0 items ≡ None
listed_few None items f e = let same : no_items ≡ items = cc in subst (λ (is : Items). many_groups_after 0 is ≡ None) same refl
listed_few (Some value) items f e = some_few (as_array value) items f e

-- ---- hops and host addresses

hop_is_named : (before : List Hop) (members : Members) (hop : Hop) → new_hop before members ≡ Ok hop → is_name hop.name ≡ true
hop_is_named before members hop e =
    let n = length before in
    let twice = Twice (place kinds.Hop n keys.Name) in
    let named = came_at kinds.Hop n keys.Name (needed (codes "name") members)
    (λ named. placed kinds.Hop n keys.Address (needed (codes "address") members) >>= λ addressed. placed kinds.Hop n keys.Name (text_as Name named) >>=
    λ name. confirmed (not (list_any (is_hop name) before)) twice >>= λ _. placed kinds.Hop n keys.Address (address_of addressed) >>=
    λ address. Ok (record { name = name; address = address })) hop e in
    let addressed = came_at kinds.Hop n keys.Address (needed (codes "address") members)
    (λ addressed. placed kinds.Hop n keys.Name (text_as Name named.value) >>= λ name. confirmed (not (list_any (is_hop name) before)) twice >>=
    λ _. placed kinds.Hop n keys.Address (address_of addressed) >>= λ address. Ok (record { name = name; address = address })) hop named.rest in
    let name = came_at kinds.Hop n keys.Name (text_as Name named.value)
    (λ name. confirmed (not (list_any (is_hop name) before)) twice >>= λ _. placed kinds.Hop n keys.Address (address_of addressed.value) >>=
    λ address. Ok (record { name = name; address = address })) hop addressed.rest in
    let new = came (confirmed (not (list_any (is_hop name.value) before)) twice) (λ _. placed kinds.Hop n keys.Address (address_of addressed.value) >>=
    λ address. Ok (record { name = name.value; address = address })) hop name.rest in
    let address = came_at kinds.Hop n keys.Address (address_of addressed.value) (λ address. Ok (record { name = name.value; address = address })) hop new.rest in
    let made : Hop = record { name = name.value; address = address.value } in
    let same : made ≡ hop = cc in
    subst (λ (h : Hop). is_name h.name ≡ true) same (text_accepts Name named.value name.value name.is)

row_has_host : (before : List HostAddress) (members : Members) (row : HostAddress) → new_row before members ≡ Ok row → is_host row.host ≡ true
row_has_host before members row e =
    let n = length before in
    let twice = Twice (place kinds.HostAddress n keys.Host) in
    let named = came_at kinds.HostAddress n keys.Host (needed (codes "host") members)
    (λ named. placed kinds.HostAddress n keys.Address (needed (codes "address") members) >>= λ addressed. placed kinds.HostAddress n keys.Host (text_as Host named) >>=
    λ host. placed kinds.HostAddress n keys.Port (port_in (get_member (codes "port") members)) >>=
    λ port. confirmed (not (list_any (is_row_for host port) before)) twice >>= λ _. placed kinds.HostAddress n keys.Address (address_of addressed) >>=
    λ address. Ok (record { host = host; port = port; address = address })) row e in
    let addressed = came_at kinds.HostAddress n keys.Address (needed (codes "address") members)
    (λ addressed. placed kinds.HostAddress n keys.Host (text_as Host named.value) >>=
    λ host. placed kinds.HostAddress n keys.Port (port_in (get_member (codes "port") members)) >>=
    λ port. confirmed (not (list_any (is_row_for host port) before)) twice >>= λ _. placed kinds.HostAddress n keys.Address (address_of addressed) >>= λ address.
    Ok (record { host = host; port = port; address = address })) row named.rest in
    let host = came_at kinds.HostAddress n keys.Host (text_as Host named.value)
    (λ host. placed kinds.HostAddress n keys.Port (port_in (get_member (codes "port") members)) >>=
    λ port. confirmed (not (list_any (is_row_for host port) before)) twice >>= λ _. placed kinds.HostAddress n keys.Address (address_of addressed.value) >>=
    λ address.
    Ok (record { host = host; port = port; address = address })) row addressed.rest in
    let port = came_at kinds.HostAddress n keys.Port (port_in (get_member (codes "port") members))
    (λ port. confirmed (not (list_any (is_row_for host.value port) before)) twice >>= λ _. placed kinds.HostAddress n keys.Address (address_of addressed.value) >>=
    λ address. Ok (record { host = host.value; port = port; address = address })) row host.rest in
    let new = came (confirmed (not (list_any (is_row_for host.value port.value) before)) twice)
    (λ _. placed kinds.HostAddress n keys.Address (address_of addressed.value) >>= λ address. Ok (record { host = host.value; port = port.value; address = address })) row
    port.rest in
    let address = came_at kinds.HostAddress n keys.Address (address_of addressed.value)
    (λ address. Ok (record { host = host.value; port = port.value; address = address })) row new.rest in
    let made : HostAddress = record { host = host.value; port = port.value; address = address.value } in
    let same : made ≡ row = cc in
    subst (λ (r : HostAddress). is_host r.host ≡ true) same (text_accepts Host named.value host.value host.is)

-- ---- the keys before all tables

record IsHead (members : Members) (head : TopLevelKeys) : Type 0 where
  realm_is : text_at (codes "realm") Realm members ≡ Ok head.realm
  host_is : text_at (codes "host") OwnHost members ≡ Ok head.host
  domains_are : domains_at members ≡ Ok head.domains

is_head : (members : Members) (head : TopLevelKeys) → head_of members ≡ Ok head → IsHead members head
is_head members head e =
    let version = came_at kinds.Whole 0 keys.Version (version_at members)
    (λ version. placed kinds.Whole 0 keys.Offset (offset_at version members) >>= λ offset. placed kinds.Whole 0 keys.Realm (text_at (codes "realm") Realm members) >>=
    λ realm. placed kinds.Whole 0 keys.Host (text_at (codes "host") OwnHost members) >>= λ host. placed kinds.Whole 0 keys.Port (port_at members) >>=
    λ port. placed kinds.Whole 0 keys.Address (address_at members) >>= λ address. placed kinds.Whole 0 keys.Domains (domains_at members) >>=
    λ domains. Ok (record { version = version; offset = offset; realm = realm; host = host; port = port; address = address; domains = domains })) head e in
    let offset = came_at kinds.Whole 0 keys.Offset (offset_at version.value members)
    (λ offset. placed kinds.Whole 0 keys.Realm (text_at (codes "realm") Realm members) >>=
    λ realm. placed kinds.Whole 0 keys.Host (text_at (codes "host") OwnHost members) >>= λ host. placed kinds.Whole 0 keys.Port (port_at members) >>=
    λ port. placed kinds.Whole 0 keys.Address (address_at members) >>= λ address. placed kinds.Whole 0 keys.Domains (domains_at members) >>= λ domains.
    Ok (record { version = version.value; offset = offset; realm = realm; host = host; port = port; address = address; domains = domains })) head version.rest in
    let realm = came_at kinds.Whole 0 keys.Realm (text_at (codes "realm") Realm members)
    (λ realm. placed kinds.Whole 0 keys.Host (text_at (codes "host") OwnHost members) >>= λ host. placed kinds.Whole 0 keys.Port (port_at members) >>=
    λ port. placed kinds.Whole 0 keys.Address (address_at members) >>= λ address. placed kinds.Whole 0 keys.Domains (domains_at members) >>= λ domains.
    Ok (record { version = version.value; offset = offset.value; realm = realm; host = host; port = port; address = address; domains = domains })) head offset.rest in
    let host = came_at kinds.Whole 0 keys.Host (text_at (codes "host") OwnHost members)
    (λ host. placed kinds.Whole 0 keys.Port (port_at members) >>= λ port. placed kinds.Whole 0 keys.Address (address_at members) >>=
    λ address. placed kinds.Whole 0 keys.Domains (domains_at members) >>= λ domains.
    Ok (record { version = version.value; offset = offset.value; realm = realm.value; host = host; port = port; address = address; domains = domains })) head realm.rest
    in
    let port = came_at kinds.Whole 0 keys.Port (port_at members)
    (λ port. placed kinds.Whole 0 keys.Address (address_at members) >>= λ address. placed kinds.Whole 0 keys.Domains (domains_at members) >>=
    λ domains. Ok (record {
      version = version.value;
      offset = offset.value;
      realm = realm.value;
      host = host.value;
      port = port;
      address = address;
      domains = domains;
    })) head
    host.rest in
    let address = came_at kinds.Whole 0 keys.Address (address_at members)
    (λ address. placed kinds.Whole 0 keys.Domains (domains_at members) >>= λ domains.
    Ok (record { version = version.value; offset = offset.value; realm = realm.value; host = host.value; port = port.value; address = address; domains = domains }))
    head port.rest in
    let domains = came_at kinds.Whole 0 keys.Domains (domains_at members)
    (λ domains. Ok (record {
      version = version.value;
      offset = offset.value;
      realm = realm.value;
      host = host.value;
      port = port.value;
      address = address.value;
      domains = domains;
    })) head address.rest in
    let made : TopLevelKeys = record {
      version = version.value;
      offset = offset.value;
      realm = realm.value;
      host = host.value;
      port = port.value;
      address = address.value;
      domains = domains.value;
    } in
    let same : made ≡ head = cc in
    record {
      realm_is = realm.is ∙ ap (λ (h : TopLevelKeys). Ok h.realm) same;
      host_is = host.is ∙ ap (λ (h : TopLevelKeys). Ok h.host) same;
      domains_are = domains.is ∙ ap (λ (h : TopLevelKeys). Ok h.domains) same;
    }

-- ---- the whole

by_parts : (members : Members) (config : Config) (p : Parts members config) → IsWithinLimits (config_of p.head p.users p.hops p.addresses p.rules)
by_parts members config p =
    let few = are_few members tt p.few in
    let head = is_head members p.head p.head_is in
    let domains = came (some_items_at (codes "domains") members) (texts_of HostName) p.head.domains head.domains_are in
    let some_domains = are_some (codes "domains") members domains.value domains.is in
    let domain_count = texts_count HostName domains.value [] p.head.domains domains.rest in
    let some_users = are_some (codes "user") members p.user_list p.user_list_is in
    let user_count = rows_count keys.Users user_at p.user_list [] p.users p.users_are.rows_are in
    let hops = came_at kinds.Whole 0 keys.Hops (items_at (codes "hop") members) (rows_after keys.Hops new_hop []) p.hops p.hops_are in
    let addresses = came_at kinds.Whole 0 keys.HostAddresses (items_at (codes "host_address") members) (rows_after keys.HostAddresses new_row []) p.addresses
    p.addresses_are in
    let rules = rule_rows p.head.version p.users p.hops p.rules_are.items p.rules p.rules_are.rules_are in
    record {
      one_domain = omega (arith, some_domains.some, domain_count);
      few_domains = omega (arith, few_in 16 (get_member (codes "domains") members) domains.value few.domains_are some_domains.there, domain_count);
      one_user = omega (arith, some_users.some, user_count);
      few_users = omega (arith, few_in 4096 (get_member (codes "user") members) p.user_list few.users_are some_users.there, user_count);
      few_groups = users_few p.user_list 0 [] p.users (listed_few (get_member (codes "user") members) p.user_list few.groups_are some_users.there) refl
          p.users_are.rows_are;
      few_hops = few_rows keys.Hops new_hop (codes "hop") 256 members hops.value p.hops few.hops_are hops.is hops.rest;
      few_addresses = few_rows keys.HostAddresses new_row (codes "host_address") 1024 members addresses.value p.addresses few.addresses_are addresses.is addresses.rest;
      few_rules = few_rows keys.Rules (rule_at p.head.version p.users p.hops) (codes "rule") 1024 members p.rules_are.items p.rules few.rules_are p.rules_are.items_are
          rules;
      realm_is = key_accepts (codes "realm") Realm members p.head.realm head.realm_is;
      host_is = key_accepts (codes "host") OwnHost members p.head.host head.host_is;
      domains_are = texts_are HostName domains.value [] p.head.domains refl domains.rest;
      users_are =
          rows_keep (λ us. list_all is_well_named us ≡ true) keys.Users user_at (λ before ms user all read.
          all_last is_well_named before user all (user_is_well_named before ms user read)) p.user_list [] p.users refl
          p.users_are.rows_are;
      hops_are =
          rows_keep (λ hs. list_all (λ (hop : Hop). is_name hop.name) hs ≡ true) keys.Hops new_hop
          (λ before ms hop all read. all_last (λ (h : Hop). is_name h.name) before hop all (hop_is_named before ms hop read)) hops.value [] p.hops refl
          hops.rest;
      addresses_are =
          rows_keep (λ rs. list_all (λ (row : HostAddress). is_host row.host) rs ≡ true) keys.HostAddresses new_row
          (λ before ms row all read. all_last (λ (r : HostAddress). is_host r.host) before row all (row_has_host before ms row read)) addresses.value []
          p.addresses refl addresses.rest;
    }

pub within : (file : Option Members) (config : Config) → configuration_of file ≡ Ok config → IsWithinLimits config
within None config e = absurd cc
within (Some members) config e =
    let p = parts_of members config (alone_ok (placed_by members) config e) in
    subst IsWithinLimits p.same (by_parts members config p)
