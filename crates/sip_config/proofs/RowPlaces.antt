-- The places of rows, and the keys of a set that they are.
use Rattle.std.proofs.Common.{◌≡◌, ℕ, ◌+◌, ◌<◌, ◌≤◌, Bool, false, ◌&&◌, ◌||◌, ◌==◌, not, List, [], ◌∷◌, ◌++◌, length, drop, get_or, map, codes, Vec, Global, Option}
use Rattle.std.proofs.Common.{Result, Ok, Err, refl, sym, ap, ap₂, ◌∙◌}
use Rattle.std.specs.List.{list_any}
use Rattle.std.specs.Prelude.{is_some}
use Rattle.std.specs.Str.{bytes_eq}
use Rattle.std.specs.Map.{lookup}
use Rattle.std.specs.HashMap.{HashMap, get, PutsEntry}
use Rattle.std.proofs.lemmas.Cmp.{nat_list_eq_equiv, nat_eq_equiv}
use Rattle.std.proofs.lemmas.List.{map-append, drop_all}
use Rattle.toml.specs.Data.{Data, Items, no_items, item, Members, get_member}
use Rattle.toml.specs.View.{view, items_view}
use Rattle.toml.specs.declared.value.Value.{Value}
use Rattle.toml.proofs.Views.{items_view-drop}
use Rattle.sip_text.specs.Words.{without_case}
use Rattle.sip_hops.specs.declared.host_address.HostAddress.{HostAddress}
use Rattle.sip_hops.specs.HostAddress.{is_row_for}
use Rattle.sip_config_values.specs.declared.key.ConfigKey.TheVariants as keys
use Rattle.sip_config_values.specs.declared.table_kind.TableKind.TheVariants as kinds
use Rattle.sip_config_values.specs.declared.refusal.Refusal.{Refusal}
use Rattle.sip_config_values.specs.declared.refusal.Refusal.TheVariants.{Twice}
use Rattle.sip_config_values.specs.declared.grammar.Grammar.TheVariants.{Host}
use Rattle.sip_config_values.specs.Refusals.{◌>>=◌, place, placed, confirmed}
use Rattle.sip_config_values.specs.Values.{needed, text_as, address_of}
use Rattle.sip_config_values.specs.Rows.{table_in, rows_after}
use Rattle.sip_config.specs.HostAddresses.{port_in, new_row}
use Rattle.sip_config_values.specs.InOrder.{in_order, places_in_order, ArePlaced}
use Rattle.sip_config_values.proofs.InOrder.{found_in_order, new_last}
use Rattle.sip_config.specs.HostPorts.{place_of, is_place, row_besides, rows_besides}

-- ---- hosts and ports in the order of their places

abbrev pub Key : Type 0
Key = Vec ℕ Global × ℕ

abbrev pub places_of : List Key → List (List ℕ × ℕ)
places_of keys = map (λ place. (place.0.items, place.1)) keys

abbrev pub is_key : List ℕ → ℕ → Key → Bool
is_key lower port key = bytes_eq lower key.0.items && port == key.1

any_key : (host : List ℕ) (port : ℕ) (keys : List Key) → list_any (is_key (without_case host) port) keys ≡ list_any (is_place host port) (places_of keys)
any_key host port [] = refl
any_key host port (k ∷ ks) = ap (λ (b : Bool). is_key (without_case host) port k || b) (any_key host port ks)

-- whether a host and a port are among some
pub place_found : {S : Type 0} (places : HashMap Key ℕ S) (host : List ℕ) (port : ℕ) (copy : Vec ℕ Global) → ArePlaced places.entries → copy.items ≡ without_case host
    → is_some (lookup (is_key copy.items port) places.entries) ≡ list_any (is_place host port) (places_in_order places)
place_found places host port copy placed is =
    ap (λ (lower : List ℕ). is_some (lookup (is_key lower port) places.entries)) is
    ∙ found_in_order (is_key (without_case host) port) places.entries placed
    ∙ any_key host port (in_order places.entries)

abbrev pub key_eq : Key → Key → Bool
key_eq key other = is_key key.0.items key.1 other

-- a new place goes last
pub place_last : {S : Type 0} (places more : HashMap Key ℕ S) (host : List ℕ) (port : ℕ) (copy : Vec ℕ Global) (at : ℕ) (old : Option ℕ) → ArePlaced places.entries
    → at ≡ length places.entries
    → copy.items ≡ without_case host → is_some (get key_eq places (copy, port)) ≡ false → old ≡ get key_eq places (copy, port)
    → PutsEntry key_eq places more (copy, port) at old
    → (places_in_order more ≡ places_in_order places ++ (without_case host, port) ∷ []) × ArePlaced more.entries
place_last places more host port copy at old placed last is new was puts =
    let both = new_last key_eq places more (copy, port) at old placed last new was puts in (
      ap places_of both.0
          ∙ map-append (λ (place : Key). (place.0.items, place.1)) (in_order places.entries) ((copy, port) ∷ [])
          ∙ ap (λ (lower : List ℕ). places_in_order places ++ (lower, port) ∷ []) is,
      both.1,
    )

-- ---- the rows of a list

row_is : (host : List ℕ) (port : ℕ) (row : HostAddress) → is_row_for host port row ≡ is_place host port (place_of row)
row_is host port row = ap₂ (λ (x y : Bool). x && y) (nat_list_eq_equiv.symm (without_case row.host) (without_case host)) (nat_eq_equiv.symm row.port port)

-- a row is for a host and a port where their place is one of the rows'
any_row : (host : List ℕ) (port : ℕ) (rows : List HostAddress) → list_any (is_row_for host port) rows ≡ list_any (is_place host port) (map place_of rows)
any_row host port [] = refl
any_row host port (row ∷ rows) = ap₂ (λ (x y : Bool). x || y) (row_is host port row) (any_row host port rows)

same_next : {A B : Type 0} (r : Result A Refusal) (f g : A → Result B Refusal) → ((a : A) → f a ≡ g a) → (r >>= f) ≡ (r >>= g)
same_next (Ok a) f g same = same a
same_next (Err e) f g same = refl

-- the end of a row, where a test says whether its place is taken
abbrev pub row_where : ℕ → Bool → Data → List ℕ → ℕ → Result HostAddress Refusal
row_where n taken addressed host port = confirmed (not taken) (Twice (place kinds.HostAddress n keys.Host)) >>= λ _.
    placed kinds.HostAddress n keys.Address (address_of addressed) >>= λ address. Ok (record { host = host; port = port; address = address })

-- a row, where a test of its host and port says that
abbrev pub row_by : ℕ → (List ℕ → ℕ → Bool) → Members → Data → Data → List ℕ → Result HostAddress Refusal
row_by n taken members named addressed host = placed kinds.HostAddress n keys.Port (port_in (get_member (codes "port") members)) >>=
    λ port. row_where n (taken host port) addressed host port

besides : (before : List HostAddress) (members : Members) → new_row before members ≡ row_besides (length before) (map place_of before) members
besides before members =
    let n = length before in
    let one = λ (host : List ℕ) (port : ℕ). list_any (is_row_for host port) before in
    let other = λ (host : List ℕ) (port : ℕ). list_any (is_place host port) (map place_of before) in
    same_next (placed kinds.HostAddress n keys.Host (needed (codes "host") members))
    (λ named. placed kinds.HostAddress n keys.Address (needed (codes "address") members) >>= λ addressed. placed kinds.HostAddress n keys.Host (text_as Host named) >>=
    row_by n one members named addressed)
    (λ named. placed kinds.HostAddress n keys.Address (needed (codes "address") members) >>= λ addressed. placed kinds.HostAddress n keys.Host (text_as Host named) >>=
    row_by n other members named addressed)
    (λ named. same_next (placed kinds.HostAddress n keys.Address (needed (codes "address") members))
    (λ addressed. placed kinds.HostAddress n keys.Host (text_as Host named) >>= row_by n one members named addressed)
    (λ addressed. placed kinds.HostAddress n keys.Host (text_as Host named) >>= row_by n other members named addressed)
    (λ addressed. same_next (placed kinds.HostAddress n keys.Host (text_as Host named)) (row_by n one members named addressed) (row_by n other members named addressed)
    (λ host. same_next (placed kinds.HostAddress n keys.Port (port_in (get_member (codes "port") members)))
    (λ port. row_where n (one host port) addressed host port)
    (λ port. row_where n (other host port) addressed host port)
    (λ port. ap (λ (b : Bool). row_where n b addressed host port) (any_row host port before)))))

table_same : (before : List HostAddress) (places : List (List ℕ × ℕ)) (table : Result Members Refusal) → places ≡ map place_of before
    → (table >>= new_row before) ≡ (table >>= row_besides (length before) places)
table_same before places (Ok members) e = besides before members ∙ ap (λ (ps : List (List ℕ × ℕ)). row_besides (length before) ps members) (sym e)
table_same before places (Err refusal) e = refl

placed_more : (rows : List HostAddress) (places : List (List ℕ × ℕ)) (row : HostAddress) → places ≡ map place_of rows
    → places ++ place_of row ∷ [] ≡ map place_of (rows ++ row ∷ [])
placed_more rows places row e = ap (λ (ps : List (List ℕ × ℕ)). ps ++ place_of row ∷ []) e ∙ sym (map-append place_of rows (row ∷ []))

rows_same : (rows : List HostAddress) (places : List (List ℕ × ℕ)) (items : Items) → places ≡ map place_of rows
    → rows_besides places rows items ≡ rows_after keys.HostAddresses new_row rows items
rows_same rows places no_items e = refl
rows_same rows places (item first items) e =
    ap (λ (r : Result HostAddress Refusal). r >>= λ row. rows_besides (places ++ place_of row ∷ []) (rows ++ row ∷ []) items)
    (sym (table_same rows places (table_in keys.HostAddresses first) e))
    ∙ same_next (table_in keys.HostAddresses first >>= new_row rows) (λ row. rows_besides (places ++ place_of row ∷ []) (rows ++ row ∷ []) items)
    (λ row. rows_after keys.HostAddresses new_row (rows ++ row ∷ []) items)
    (λ row. rows_same (rows ++ row ∷ []) (places ++ place_of row ∷ []) items (placed_more rows places row e))

-- rows besides the places of those before are rows whose host and port none before has
pub rows_are : (items : Items) → rows_besides [] [] items ≡ rows_after keys.HostAddresses new_row [] items
rows_are items = rows_same [] [] items refl

-- one more row
pub row_step : (values : List Value) (i : ℕ) (other : Value) (places : List (List ℕ × ℕ)) (rows : List HostAddress) → i < length values
    → rows_besides places rows (items_view (drop i values))
    ≡ (table_in keys.HostAddresses (view (get_or values i other)) >>= row_besides (length rows) places >>=
    λ row. rows_besides (places ++ place_of row ∷ []) (rows ++ row ∷ []) (items_view (drop (i + 1) values)))
row_step values i other places rows within = ap (rows_besides places rows) (items_view-drop values i other within)

-- no value is left
pub row_end : (values : List Value) (i : ℕ) (places : List (List ℕ × ℕ)) (rows : List HostAddress) → length values ≤ i
    → rows_besides places rows (items_view (drop i values)) ≡ Ok rows
row_end values i places rows past = ap (λ (list : List Value). rows_besides places rows (items_view list)) (drop_all i values past)
