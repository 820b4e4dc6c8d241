-- Names that this project knows are the same where they are one.
use Rattle.std.proofs.Common.{◌≡◌, ℕ, zero, suc, ◌<◌, Bool, true, false, List, [], ◌∷◌, length, get_or, refl, sym, ap, ◌∙◌, rules, arith, lit<}
use Rattle.std.specs.Prelude.{not, ◌&&◌, ◌==◌}
use denote.Enum.Bare.{sameb}
use Rattle.sip_message_fields.specs.contracts.known_names.KnownName.{the_type}
use Rattle.sip_message_fields.specs.declared.field_name.FieldName.{FieldName}
use Rattle.sip_message_fields.specs.declared.field_name.FieldName.TheVariants as Name
use Rattle.sip_message_fields.specs.declared.known_names.KnownName.{KnownName}
use Rattle.sip_message_fields.specs.declared.known_names.KnownName.TheVariants.{Via, From, To, CallId, CSeq, Contact, MaxForwards, ContentLength, ContentType}
use Rattle.sip_message_fields.specs.declared.known_names.KnownName.TheVariants.{ContentEncoding}
use Rattle.sip_message_fields.specs.declared.known_names.KnownName.TheVariants.{Subject, Supported, Route, RecordRoute, Expires, Require, ProxyRequire, Unsupported}
use Rattle.sip_message_fields.specs.declared.known_names.KnownName.TheVariants.{Authorization, ProxyAuthorization, WwwAuthenticate, ProxyAuthenticate, Warning}
use Rattle.sip_message_fields.specs.declared.known_names.KnownName.TheVariants.{MinExpires}
use Rattle.sip_message_fields.specs.declared.known_names.KnownName.TheVariants.{Timestamp}
use Rattle.std.specs.Str.{bytes_eq}
use Rattle.sip_message_fields.specs.FieldName.{spelling, is_same_name, name_of}
use Rattle.sip_message_fields.specs.KnownName.{field_name_of, known_of, name_seen}
use Rattle.sip_message_fields.specs.NameEnds.{place_of}

abbrev known : List KnownName
known =
    Via
    ∷ From
    ∷ To
    ∷ CallId
    ∷ CSeq
    ∷ Contact
    ∷ MaxForwards
    ∷ ContentLength
    ∷ ContentType
    ∷ ContentEncoding
    ∷ Subject
    ∷ Supported
    ∷ Route
    ∷ RecordRoute
    ∷ Expires
    ∷ Require
    ∷ ProxyRequire
    ∷ Unsupported
    ∷ Authorization
    ∷ ProxyAuthorization
    ∷ WwwAuthenticate
    ∷ ProxyAuthenticate
    ∷ Warning
    ∷ MinExpires
    ∷ Timestamp
    ∷ []

-- whether two tests have the same outcome
abbrev agrees : Bool → Bool → Bool
agrees true b = b
agrees false b = not b

agree : (a b : Bool) → agrees a b ≡ true → a ≡ b
agree true true e = refl
agree true false e = absurd cc
agree false true e = absurd cc
agree false false e = refl

-- whether each of some names passes
abbrev each : (KnownName → Bool) → List KnownName → Bool
each p [] = true
each p (name ∷ names) = p name && each p names

both : (a b : Bool) → (a && b) ≡ true → (a ≡ true) × (b ≡ true)
both true true e = (refl, refl)
both true false e = absurd cc
both false b e = absurd cc

each_at : (p : KnownName → Bool) (names : List KnownName) (i : ℕ) → i < length names → each p names ≡ true → p (get_or names i Via) ≡ true
each_at p [] i lt e = absurd (omega arith)
each_at p (name ∷ names) zero lt e = (both (p name) (each p names) e).0
each_at p (name ∷ names) (suc i) lt e = each_at p names i (omega arith) (both (p name) (each p names) e).1

-- what each of them passes, one of them passes
by_name : (p : KnownName → Bool) (a : KnownName) → each p known ≡ true → p a ≡ true
by_name p Via e = each_at p known 0 (lit< tt) e
by_name p From e = each_at p known 1 (lit< tt) e
by_name p To e = each_at p known 2 (lit< tt) e
by_name p CallId e = each_at p known 3 (lit< tt) e
by_name p CSeq e = each_at p known 4 (lit< tt) e
by_name p Contact e = each_at p known 5 (lit< tt) e
by_name p MaxForwards e = each_at p known 6 (lit< tt) e
by_name p ContentLength e = each_at p known 7 (lit< tt) e
by_name p ContentType e = each_at p known 8 (lit< tt) e
by_name p ContentEncoding e = each_at p known 9 (lit< tt) e
by_name p Subject e = each_at p known 10 (lit< tt) e
by_name p Supported e = each_at p known 11 (lit< tt) e
by_name p Route e = each_at p known 12 (lit< tt) e
by_name p RecordRoute e = each_at p known 13 (lit< tt) e
by_name p Expires e = each_at p known 14 (lit< tt) e
by_name p Require e = each_at p known 15 (lit< tt) e
by_name p ProxyRequire e = each_at p known 16 (lit< tt) e
by_name p Unsupported e = each_at p known 17 (lit< tt) e
by_name p Authorization e = each_at p known 18 (lit< tt) e
by_name p ProxyAuthorization e = each_at p known 19 (lit< tt) e
by_name p WwwAuthenticate e = each_at p known 20 (lit< tt) e
by_name p ProxyAuthenticate e = each_at p known 21 (lit< tt) e
by_name p Warning e = each_at p known 22 (lit< tt) e
by_name p MinExpires e = each_at p known 23 (lit< tt) e
by_name p Timestamp e = each_at p known 24 (lit< tt) e

abbrev by_tags : KnownName → KnownName → Bool
by_tags a b = agrees (sameb the_type a b) (is_same_name (field_name_of a) (field_name_of b))

pub same_known : (a b : KnownName) → sameb the_type a b ≡ is_same_name (field_name_of a) (field_name_of b)
same_known a b = agree (sameb the_type a b) (is_same_name (field_name_of a) (field_name_of b)) (by_name (by_tags a) b (by_name (λ x. each (by_tags x) known) a refl))

abbrev by_places : KnownName → KnownName → Bool
by_places a b = agrees (place_of a == place_of b) (is_same_name (field_name_of a) (field_name_of b))

-- two names have one place only where they are the same
pub same_place : (a b : KnownName) → (place_of a == place_of b) ≡ is_same_name (field_name_of a) (field_name_of b)
same_place a b = agree (place_of a == place_of b) (is_same_name (field_name_of a) (field_name_of b)) (by_name (by_places a) b
    (by_name (λ x. each (by_places x) known) a refl))

pub seen_again : (name : FieldName) → name_seen (known_of name) (spelling name) ≡ name
seen_again Name.Via = refl
seen_again Name.From = refl
seen_again Name.To = refl
seen_again Name.CallId = refl
seen_again Name.CSeq = refl
seen_again Name.Contact = refl
seen_again Name.MaxForwards = refl
seen_again Name.ContentLength = refl
seen_again Name.ContentType = refl
seen_again Name.ContentEncoding = refl
seen_again Name.Subject = refl
seen_again Name.Supported = refl
seen_again Name.Route = refl
seen_again Name.RecordRoute = refl
seen_again Name.Expires = refl
seen_again Name.Require = refl
seen_again Name.ProxyRequire = refl
seen_again Name.Unsupported = refl
seen_again Name.Authorization = refl
seen_again Name.ProxyAuthorization = refl
seen_again Name.WwwAuthenticate = refl
seen_again Name.ProxyAuthenticate = refl
seen_again Name.Warning = refl
seen_again Name.MinExpires = refl
seen_again Name.Timestamp = refl
seen_again (Name.Other name) = refl

-- a full spelling is read as the name that it is
named_again : (k : KnownName) → name_of (spelling (field_name_of k)) ≡ field_name_of k
named_again Via = refl
named_again From = refl
named_again To = refl
named_again CallId = refl
named_again CSeq = refl
named_again Contact = refl
named_again MaxForwards = refl
named_again ContentLength = refl
named_again ContentType = refl
named_again ContentEncoding = refl
named_again Subject = refl
named_again Supported = refl
named_again Route = refl
named_again RecordRoute = refl
named_again Expires = refl
named_again Require = refl
named_again ProxyRequire = refl
named_again Unsupported = refl
named_again Authorization = refl
named_again ProxyAuthorization = refl
named_again WwwAuthenticate = refl
named_again ProxyAuthenticate = refl
named_again Warning = refl
named_again MinExpires = refl
named_again Timestamp = refl

pub full_name : (name : List ℕ) (k : KnownName) → name ≡ spelling (field_name_of k) → field_name_of k ≡ name_of name
full_name name k is = sym (ap name_of is ∙ named_again k)

same_again : (xs : List ℕ) → bytes_eq xs xs ≡ true
same_again xs = search rules

pub full_again : (name : List ℕ) (k : KnownName) → name ≡ spelling (field_name_of k) → bytes_eq name (spelling (name_of name)) ≡ true
full_again name k is = ap (λ (n : FieldName). bytes_eq name (spelling n)) (sym (full_name name k is)) ∙ ap (bytes_eq name) (sym is) ∙ same_again name

pub itself : (xs : List ℕ) → true ≡ bytes_eq xs xs
itself xs = sym (same_again xs)
