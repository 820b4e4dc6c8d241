-- Each item in its place: what it says stands there once no other of its name does.
use Rattle.std.proofs.Common.{◌≡◌, ℕ, Bool, true, false, cond, List, [], ◌∷◌, ◌++◌, Option, Some, None, refl, sym, ap, subst, ◌∙◌}
use Rattle.std.specs.Prelude.{codes, is_some, option_map, if◌then◌else◌}
use Rattle.std.specs.Option.{option_and_then}
use Rattle.std.proofs.lemmas.List.{append-nil}
use Rattle.sip_text.specs.Words.{is_same_text}
use Rattle.sip_text.proofs.Differing.{same_is_symmetric}
use Rattle.sip_text.specs.Cuts.{parts_at, parts_behind}
use Rattle.sip_header.proofs.Collecting.{behind}
use Rattle.sip_header_credentials.specs.declared.credentials.Item.{Item}
use Rattle.sip_header_credentials.specs.declared.credentials.Credentials.{Credentials}
use Rattle.sip_header_credentials.specs.Credentials.{items_in, item_value, names_differ, credentials_from, from_items}
use Rattle.sip_header_credentials.specs.UsualItems.{IsPlaced}
use Rattle.sip_header_credentials.proofs.UsualItems.{goes_on}

-- ---- the value of a name, with one item more

-- what the last item says, unless one before it has the name
abbrev also : Option (List ℕ) → Option (List ℕ) → Option (List ℕ)
also None before = before
also (Some said) None = Some said
also (Some said) (Some before) = Some before

abbrev last : List ℕ → Item → Option (List ℕ)
last name item = if is_same_text item.name name then Some item.value else None

alone : (said : List ℕ) (t : Bool) → cond t (Some said) None ≡ also (cond t (Some said) None) None
alone said true = refl
alone said false = refl

stays : (said before : List ℕ) (t : Bool) → Some before ≡ also (cond t (Some said) None) (Some before)
stays said before true = refl
stays said before false = refl

more_by : (name : List ℕ) (x : Item) (xs : List Item) (item : Item) (t : Bool) → item_value name (xs ++ item ∷ []) ≡ also (last name item) (item_value name xs)
    → cond t (Some x.value) (item_value name (xs ++ item ∷ [])) ≡ also (last name item) (cond t (Some x.value) (item_value name xs))
more_by name x xs item true rest = stays item.value x.value (is_same_text item.name name)
more_by name x xs item false rest = rest

value_more : (items : List Item) (item : Item) (name : List ℕ) → item_value name (items ++ item ∷ []) ≡ also (last name item) (item_value name items)
value_more [] item name = alone item.value (is_same_text item.name name)
value_more (x ∷ xs) item name = more_by name x xs item (is_same_text x.name name) (value_more xs item name)

-- ---- the nine places

abbrev places_by : (List ℕ → Option (List ℕ)) → Credentials
places_by said =
    record {
      username = said (codes "username");
      realm = said (codes "realm");
      nonce = said (codes "nonce");
      uri = said (codes "uri");
      response = said (codes "response");
      algorithm = said (codes "algorithm");
      qop = said (codes "qop");
      nc = said (codes "nc");
      cnonce = said (codes "cnonce");
    }

same_places : (f g : List ℕ → Option (List ℕ)) → ((name : List ℕ) → f name ≡ g name) → places_by f ≡ places_by g
same_places f g same =
    rw (
      same (codes "username"),
      same (codes "realm"),
      same (codes "nonce"),
      same (codes "uri"),
      same (codes "response"),
      same (codes "algorithm"),
      same (codes "qop"),
      same (codes "nc"),
      same (codes "cnonce"),
    ) refl

grown : (items : List Item) (item : Item) → credentials_from (items ++ item ∷ []) ≡ places_by (λ name. also (last name item) (item_value name items))
grown items item = same_places (λ name. item_value name (items ++ item ∷ [])) (λ name. also (last name item) (item_value name items)) (value_more items item)

username_grown : (items : List Item) (said : List ℕ) (free : item_value (codes "username") items ≡ None)
    → credentials_from (items ++ record { name = codes "username"; value = said } ∷ []) ≡ record (credentials_from items) { username = Some said }
username_grown items said free = grown items (record { name = codes "username"; value = said })
    ∙ ap (λ (o : Option (List ℕ)). record (credentials_from items) { username = also (Some said) o }) free

pub username_placed : (items : List Item) (name said : List ℕ) (old : Credentials) (place : Option (List ℕ)) → name ≡ codes "username" → old ≡ credentials_from items
    → old.username ≡ None → place ≡ Some said → IsPlaced items name said (record old { username = place })
username_placed items name said old place same is free put =
    let first : item_value (codes "username") items ≡ None = ap (λ (c : Credentials). c.username) (sym is) ∙ free in
    let placed : record old { username = place } ≡ credentials_from (items ++ record { name = codes "username"; value = said } ∷ []) =
    ap (λ (o : Option (List ℕ)). record old { username = o }) put ∙ ap (λ (c : Credentials). record c { username = Some said }) is ∙ sym (username_grown items said first)
    in
    subst (λ (w : List ℕ). IsPlaced items w said (record old { username = place })) (sym same) (record { first = first; placed = placed })

realm_grown : (items : List Item) (said : List ℕ) (free : item_value (codes "realm") items ≡ None)
    → credentials_from (items ++ record { name = codes "realm"; value = said } ∷ []) ≡ record (credentials_from items) { realm = Some said }
realm_grown items said free = grown items (record { name = codes "realm"; value = said })
    ∙ ap (λ (o : Option (List ℕ)). record (credentials_from items) { realm = also (Some said) o }) free

pub realm_placed : (items : List Item) (name said : List ℕ) (old : Credentials) (place : Option (List ℕ)) → name ≡ codes "realm" → old ≡ credentials_from items
    → old.realm ≡ None → place ≡ Some said → IsPlaced items name said (record old { realm = place })
realm_placed items name said old place same is free put =
    let first : item_value (codes "realm") items ≡ None = ap (λ (c : Credentials). c.realm) (sym is) ∙ free in
    let placed : record old { realm = place } ≡ credentials_from (items ++ record { name = codes "realm"; value = said } ∷ []) =
    ap (λ (o : Option (List ℕ)). record old { realm = o }) put ∙ ap (λ (c : Credentials). record c { realm = Some said }) is ∙ sym (realm_grown items said first) in
    subst (λ (w : List ℕ). IsPlaced items w said (record old { realm = place })) (sym same) (record { first = first; placed = placed })

nonce_grown : (items : List Item) (said : List ℕ) (free : item_value (codes "nonce") items ≡ None)
    → credentials_from (items ++ record { name = codes "nonce"; value = said } ∷ []) ≡ record (credentials_from items) { nonce = Some said }
nonce_grown items said free = grown items (record { name = codes "nonce"; value = said })
    ∙ ap (λ (o : Option (List ℕ)). record (credentials_from items) { nonce = also (Some said) o }) free

pub nonce_placed : (items : List Item) (name said : List ℕ) (old : Credentials) (place : Option (List ℕ)) → name ≡ codes "nonce" → old ≡ credentials_from items
    → old.nonce ≡ None → place ≡ Some said → IsPlaced items name said (record old { nonce = place })
nonce_placed items name said old place same is free put =
    let first : item_value (codes "nonce") items ≡ None = ap (λ (c : Credentials). c.nonce) (sym is) ∙ free in
    let placed : record old { nonce = place } ≡ credentials_from (items ++ record { name = codes "nonce"; value = said } ∷ []) =
    ap (λ (o : Option (List ℕ)). record old { nonce = o }) put ∙ ap (λ (c : Credentials). record c { nonce = Some said }) is ∙ sym (nonce_grown items said first) in
    subst (λ (w : List ℕ). IsPlaced items w said (record old { nonce = place })) (sym same) (record { first = first; placed = placed })

uri_grown : (items : List Item) (said : List ℕ) (free : item_value (codes "uri") items ≡ None)
    → credentials_from (items ++ record { name = codes "uri"; value = said } ∷ []) ≡ record (credentials_from items) { uri = Some said }
uri_grown items said free = grown items (record { name = codes "uri"; value = said })
    ∙ ap (λ (o : Option (List ℕ)). record (credentials_from items) { uri = also (Some said) o }) free

pub uri_placed : (items : List Item) (name said : List ℕ) (old : Credentials) (place : Option (List ℕ)) → name ≡ codes "uri" → old ≡ credentials_from items
    → old.uri ≡ None → place ≡ Some said → IsPlaced items name said (record old { uri = place })
uri_placed items name said old place same is free put =
    let first : item_value (codes "uri") items ≡ None = ap (λ (c : Credentials). c.uri) (sym is) ∙ free in
    let placed : record old { uri = place } ≡ credentials_from (items ++ record { name = codes "uri"; value = said } ∷ []) =
    ap (λ (o : Option (List ℕ)). record old { uri = o }) put ∙ ap (λ (c : Credentials). record c { uri = Some said }) is ∙ sym (uri_grown items said first) in
    subst (λ (w : List ℕ). IsPlaced items w said (record old { uri = place })) (sym same) (record { first = first; placed = placed })

response_grown : (items : List Item) (said : List ℕ) (free : item_value (codes "response") items ≡ None)
    → credentials_from (items ++ record { name = codes "response"; value = said } ∷ []) ≡ record (credentials_from items) { response = Some said }
response_grown items said free = grown items (record { name = codes "response"; value = said })
    ∙ ap (λ (o : Option (List ℕ)). record (credentials_from items) { response = also (Some said) o }) free

pub response_placed : (items : List Item) (name said : List ℕ) (old : Credentials) (place : Option (List ℕ)) → name ≡ codes "response" → old ≡ credentials_from items
    → old.response ≡ None → place ≡ Some said → IsPlaced items name said (record old { response = place })
response_placed items name said old place same is free put =
    let first : item_value (codes "response") items ≡ None = ap (λ (c : Credentials). c.response) (sym is) ∙ free in
    let placed : record old { response = place } ≡ credentials_from (items ++ record { name = codes "response"; value = said } ∷ []) =
    ap (λ (o : Option (List ℕ)). record old { response = o }) put ∙ ap (λ (c : Credentials). record c { response = Some said }) is ∙ sym (response_grown items said first)
    in
    subst (λ (w : List ℕ). IsPlaced items w said (record old { response = place })) (sym same) (record { first = first; placed = placed })

algorithm_grown : (items : List Item) (said : List ℕ) (free : item_value (codes "algorithm") items ≡ None)
    → credentials_from (items ++ record { name = codes "algorithm"; value = said } ∷ []) ≡ record (credentials_from items) { algorithm = Some said }
algorithm_grown items said free = grown items (record { name = codes "algorithm"; value = said })
    ∙ ap (λ (o : Option (List ℕ)). record (credentials_from items) { algorithm = also (Some said) o }) free

pub algorithm_placed : (items : List Item) (name said : List ℕ) (old : Credentials) (place : Option (List ℕ)) → name ≡ codes "algorithm" → old ≡ credentials_from items
    → old.algorithm ≡ None → place ≡ Some said → IsPlaced items name said (record old { algorithm = place })
algorithm_placed items name said old place same is free put =
    let first : item_value (codes "algorithm") items ≡ None = ap (λ (c : Credentials). c.algorithm) (sym is) ∙ free in
    let placed : record old { algorithm = place } ≡ credentials_from (items ++ record { name = codes "algorithm"; value = said } ∷ []) =
    ap (λ (o : Option (List ℕ)). record old { algorithm = o }) put ∙ ap (λ (c : Credentials). record c { algorithm = Some said }) is
    ∙ sym (algorithm_grown items said first) in
    subst (λ (w : List ℕ). IsPlaced items w said (record old { algorithm = place })) (sym same) (record { first = first; placed = placed })

qop_grown : (items : List Item) (said : List ℕ) (free : item_value (codes "qop") items ≡ None)
    → credentials_from (items ++ record { name = codes "qop"; value = said } ∷ []) ≡ record (credentials_from items) { qop = Some said }
qop_grown items said free = grown items (record { name = codes "qop"; value = said })
    ∙ ap (λ (o : Option (List ℕ)). record (credentials_from items) { qop = also (Some said) o }) free

pub qop_placed : (items : List Item) (name said : List ℕ) (old : Credentials) (place : Option (List ℕ)) → name ≡ codes "qop" → old ≡ credentials_from items
    → old.qop ≡ None → place ≡ Some said → IsPlaced items name said (record old { qop = place })
qop_placed items name said old place same is free put =
    let first : item_value (codes "qop") items ≡ None = ap (λ (c : Credentials). c.qop) (sym is) ∙ free in
    let placed : record old { qop = place } ≡ credentials_from (items ++ record { name = codes "qop"; value = said } ∷ []) =
    ap (λ (o : Option (List ℕ)). record old { qop = o }) put ∙ ap (λ (c : Credentials). record c { qop = Some said }) is ∙ sym (qop_grown items said first) in
    subst (λ (w : List ℕ). IsPlaced items w said (record old { qop = place })) (sym same) (record { first = first; placed = placed })

nc_grown : (items : List Item) (said : List ℕ) (free : item_value (codes "nc") items ≡ None)
    → credentials_from (items ++ record { name = codes "nc"; value = said } ∷ []) ≡ record (credentials_from items) { nc = Some said }
nc_grown items said free = grown items (record { name = codes "nc"; value = said }) ∙ ap
    (λ (o : Option (List ℕ)). record (credentials_from items) { nc = also (Some said) o }) free

pub nc_placed : (items : List Item) (name said : List ℕ) (old : Credentials) (place : Option (List ℕ)) → name ≡ codes "nc" → old ≡ credentials_from items → old.nc ≡ None
    → place ≡ Some said → IsPlaced items name said (record old { nc = place })
nc_placed items name said old place same is free put =
    let first : item_value (codes "nc") items ≡ None = ap (λ (c : Credentials). c.nc) (sym is) ∙ free in
    let placed : record old { nc = place } ≡ credentials_from (items ++ record { name = codes "nc"; value = said } ∷ []) =
    ap (λ (o : Option (List ℕ)). record old { nc = o }) put ∙ ap (λ (c : Credentials). record c { nc = Some said }) is ∙ sym (nc_grown items said first) in
    subst (λ (w : List ℕ). IsPlaced items w said (record old { nc = place })) (sym same) (record { first = first; placed = placed })

cnonce_grown : (items : List Item) (said : List ℕ) (free : item_value (codes "cnonce") items ≡ None)
    → credentials_from (items ++ record { name = codes "cnonce"; value = said } ∷ []) ≡ record (credentials_from items) { cnonce = Some said }
cnonce_grown items said free = grown items (record { name = codes "cnonce"; value = said })
    ∙ ap (λ (o : Option (List ℕ)). record (credentials_from items) { cnonce = also (Some said) o }) free

pub cnonce_placed : (items : List Item) (name said : List ℕ) (old : Credentials) (place : Option (List ℕ)) → name ≡ codes "cnonce" → old ≡ credentials_from items
    → old.cnonce ≡ None → place ≡ Some said → IsPlaced items name said (record old { cnonce = place })
cnonce_placed items name said old place same is free put =
    let first : item_value (codes "cnonce") items ≡ None = ap (λ (c : Credentials). c.cnonce) (sym is) ∙ free in
    let placed : record old { cnonce = place } ≡ credentials_from (items ++ record { name = codes "cnonce"; value = said } ∷ []) =
    ap (λ (o : Option (List ℕ)). record old { cnonce = o }) put ∙ ap (λ (c : Credentials). record c { cnonce = Some said }) is ∙ sym (cnonce_grown items said first) in
    subst (λ (w : List ℕ). IsPlaced items w said (record old { cnonce = place })) (sym same) (record { first = first; placed = placed })

-- ---- names that differ, with one more

none_by : (x : Item) (xs : List Item) (name : List ℕ) (t : Bool) → is_same_text x.name name ≡ t → cond t (Some x.value) (item_value name xs) ≡ None
    → (is_same_text x.name name ≡ false) × (item_value name xs ≡ None)
none_by x xs name true is none = absurd cc
none_by x xs name false is none = (is, none)

differ_by : (x : Item) (xs : List Item) (item : Item) (o : Option (List ℕ)) → item_value x.name xs ≡ o → is_same_text x.name item.name ≡ false
    → names_differ (x ∷ xs) ≡ true → (names_differ xs ≡ true → names_differ (xs ++ item ∷ []) ≡ true)
    → names_differ (x ∷ (xs ++ item ∷ [])) ≡ true
differ_by x xs item (Some v) is other differ rest =
    let twice : names_differ (x ∷ xs) ≡ false = rw is refl in
    cc
differ_by x xs item None is other differ rest =
    let unlike : is_same_text item.name x.name ≡ false = same_is_symmetric item.name x.name ∙ other in
    let unnamed : last x.name item ≡ None = ap (λ (t : Bool). cond t (Some item.value) None) unlike in
    let value : item_value x.name (xs ++ item ∷ []) ≡ None = value_more xs item x.name ∙ ap (λ (o : Option (List ℕ)). also o (item_value x.name xs)) unnamed ∙ is in
    let left : names_differ xs ≡ true = sym (ap (λ (o : Option (List ℕ)). cond (is_some o) false (names_differ xs)) is) ∙ differ in
    ap (λ (o : Option (List ℕ)). cond (is_some o) false (names_differ (xs ++ item ∷ []))) value ∙ rest left

differ_more : (items : List Item) (item : Item) → names_differ items ≡ true → item_value item.name items ≡ None → names_differ (items ++ item ∷ []) ≡ true
differ_more [] item differ none = refl
differ_more (x ∷ xs) item differ none =
    let parts : (is_same_text x.name item.name ≡ false) × (item_value item.name xs ≡ None) = none_by x xs item.name (is_same_text x.name item.name) refl none in
    differ_by x xs item (item_value x.name xs) refl parts.0 differ (λ left. differ_more xs item left parts.1)

-- ---- a list of usual items

nothing_done : (others : Option (List Item)) → behind [] others ≡ others
nothing_done None = refl
nothing_done (Some xs) = refl

-- the items so far differ in their names, say these, and stand in front of the rest's
pub record IsReadSo (whole : List ℕ) (rest : Option (List ℕ)) (places : Credentials) : Type 0 where
  pub items : List Item
  pub differ : names_differ items ≡ true
  pub said : places ≡ credentials_from items
  pub front : behind items (items_in (parts_behind 44 rest)) ≡ items_in (parts_at 44 whole)

pub none_read : (whole : List ℕ) (places : Credentials) → places ≡ credentials_from [] → IsReadSo whole (Some whole) places
none_read whole places is = record { items = []; differ = refl; said = is; front = nothing_done (items_in (parts_at 44 whole)) }

pub one_read : (whole text name said : List ℕ) (rest : Option (List ℕ)) (old new : Credentials)
    → items_in (parts_at 44 text) ≡ option_map (λ (others : List Item). record { name = name; value = said } ∷ others) (items_in (parts_behind 44 rest))
    → IsReadSo whole (Some text) old → ((items : List Item) → old ≡ credentials_from items → IsPlaced items name said new) → IsReadSo whole rest new
one_read whole text name said rest old new first so_far placed =
    let item : Item = record { name = name; value = said } in
    let is : IsPlaced so_far.items name said new = placed so_far.items so_far.said in
    record {
      items = so_far.items ++ item ∷ [];
      differ = differ_more so_far.items item so_far.differ is.first;
      said = is.placed;
      front = goes_on so_far.items item text rest (items_in (parts_at 44 whole)) first so_far.front;
    }

pub all_read : (whole : List ℕ) (places : Credentials) → IsReadSo whole None places → option_and_then from_items (items_in (parts_at 44 whole)) ≡ Some places
all_read whole places so_far =
    let items : items_in (parts_at 44 whole) ≡ Some so_far.items = sym so_far.front ∙ ap (λ (w : List Item). Some w) (append-nil so_far.items) in
    ap (option_and_then from_items) items ∙ ap (λ (t : Bool). cond t (Some (credentials_from so_far.items)) None) so_far.differ
    ∙ ap (λ (c : Credentials). Some c) (sym so_far.said)
