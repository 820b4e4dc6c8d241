-- A name that was looked for among those that this project knows, and isn't one of them, is spelled as none of them.
use Rattle.std.proofs.Common.{◌≡◌, ℕ, Bool, true, false, cond, List, [], ◌∷◌, Option, Some, None, refl, sym, ap, subst, ◌∙◌}
use Rattle.std.specs.Prelude.{◌||◌, is_some, MatchOption}
use Rattle.std.specs.List.{AllByRecursion}
use Rattle.sip_text.specs.Words.{is_same_text}
use Rattle.sip_message_fields.specs.declared.field_name.FieldName.{FieldName}
use Rattle.sip_message_fields.specs.declared.field_name.FieldName.TheVariants.{Other}
use Rattle.sip_message_fields.specs.declared.known_names.KnownName.{KnownName}
use Rattle.sip_message_fields.specs.declared.known_names.KnownName.TheVariants.{Via, From, To, CallId, CSeq, Contact, MaxForwards, ContentLength, ContentType}
use Rattle.sip_message_fields.specs.declared.known_names.KnownName.TheVariants.{ContentEncoding}
use Rattle.sip_message_fields.specs.declared.known_names.KnownName.TheVariants.{Subject, Supported, Route, RecordRoute, Expires, Require, ProxyRequire, Unsupported}
use Rattle.sip_message_fields.specs.declared.known_names.KnownName.TheVariants.{Authorization, ProxyAuthorization, WwwAuthenticate, ProxyAuthenticate, Warning}
use Rattle.sip_message_fields.specs.declared.known_names.KnownName.TheVariants.{MinExpires}
use Rattle.sip_message_fields.specs.declared.known_names.KnownName.TheVariants.{Timestamp}
use Rattle.sip_message_fields.specs.FieldName.{Known, spelling, known_names, is_named, named_in, name_of, is_same_name}
use Rattle.sip_message_fields.specs.KnownName.{field_name_of, known_of, name_seen, told_as, IsTold}

abbrev AreKnown : List Known → Type 0
AreKnown names = AllByRecursion (λ k. is_some (known_of k.name) ≡ true) names

abbrev AreOthers : List ℕ → List Known → Type 0
AreOthers written names = AllByRecursion (λ k. is_same_text written (spelling k.name) ≡ false) names

not_first : (a b : Bool) → (a || b) ≡ false → a ≡ false
not_first true b e = absurd cc
not_first false b e = refl

step : (k : Known) (written : List ℕ) (rest : FieldName) (t : Bool) → is_named (spelling k.name) k.compact written ≡ t → is_some (known_of k.name) ≡ true
    → cond t k.name rest ≡ Other written → (is_same_text written (spelling k.name) ≡ false) × (rest ≡ Other written)
step k written rest true is some e =
    let never : is_some (known_of k.name) ≡ false = ap (λ (n : FieldName). is_some (known_of n)) e in
    absurd cc
step k written rest false is some e = (not_first (is_same_text written (spelling k.name)) (is_same_text written k.compact) is, e)

others : (names : List Known) (written : List ℕ) → AreKnown names → named_in names written ≡ Other written → AreOthers written names
others [] written some e = tt
others (k ∷ names) written some e =
    let s = step k written (named_in names written) (is_named (spelling k.name) k.compact written) refl some.0 e in
    (s.0, others names written some.1 s.1)

are_known : AreKnown known_names
are_known = (
  refl,
  (
    refl,
    (
      refl,
      (
        refl,
        (
          refl,
          (
            refl,
            (
              refl,
              (
                refl,
                (
                  refl,
                  (
                    refl,
                    (
                      refl,
                      (refl, (refl, (refl, (refl, (refl, (refl, (refl, (refl, (refl, (refl, (refl, (refl, (refl, (refl, tt)))))))))))))),
                    ),
                  ),
                ),
              ),
            ),
          ),
        ),
      ),
    ),
  ),
)

told_at : (written : List ℕ) (k : KnownName) → AreOthers written known_names → is_same_text written (spelling (field_name_of k)) ≡ false
told_at written Via all = all.0
told_at written From all = all.1.0
told_at written To all = all.1.1.0
told_at written CallId all = all.1.1.1.0
told_at written Contact all = all.1.1.1.1.0
told_at written ContentLength all = all.1.1.1.1.1.0
told_at written ContentType all = all.1.1.1.1.1.1.0
told_at written ContentEncoding all = all.1.1.1.1.1.1.1.0
told_at written Subject all = all.1.1.1.1.1.1.1.1.0
told_at written Supported all = all.1.1.1.1.1.1.1.1.1.0
told_at written CSeq all = all.1.1.1.1.1.1.1.1.1.1.0
told_at written MaxForwards all = all.1.1.1.1.1.1.1.1.1.1.1.0
told_at written Route all = all.1.1.1.1.1.1.1.1.1.1.1.1.0
told_at written RecordRoute all = all.1.1.1.1.1.1.1.1.1.1.1.1.1.0
told_at written Expires all = all.1.1.1.1.1.1.1.1.1.1.1.1.1.1.0
told_at written Require all = all.1.1.1.1.1.1.1.1.1.1.1.1.1.1.1.0
told_at written ProxyRequire all = all.1.1.1.1.1.1.1.1.1.1.1.1.1.1.1.1.0
told_at written Unsupported all = all.1.1.1.1.1.1.1.1.1.1.1.1.1.1.1.1.1.0
told_at written Authorization all = all.1.1.1.1.1.1.1.1.1.1.1.1.1.1.1.1.1.1.0
told_at written ProxyAuthorization all = all.1.1.1.1.1.1.1.1.1.1.1.1.1.1.1.1.1.1.1.0
told_at written WwwAuthenticate all = all.1.1.1.1.1.1.1.1.1.1.1.1.1.1.1.1.1.1.1.1.0
told_at written ProxyAuthenticate all = all.1.1.1.1.1.1.1.1.1.1.1.1.1.1.1.1.1.1.1.1.1.0
told_at written Warning all = all.1.1.1.1.1.1.1.1.1.1.1.1.1.1.1.1.1.1.1.1.1.1.0
told_at written MinExpires all = all.1.1.1.1.1.1.1.1.1.1.1.1.1.1.1.1.1.1.1.1.1.1.1.0
told_at written Timestamp all = all.1.1.1.1.1.1.1.1.1.1.1.1.1.1.1.1.1.1.1.1.1.1.1.1.0

pub told_by : (known : Option KnownName) (written : List ℕ) → MatchOption known (name_of written ≡ Other written) (λ k. field_name_of k ≡ name_of written)
    → told_as true known written ≡ Other written
told_by None written is = is
told_by (Some k) written is = refl

told_of : (written : List ℕ) (right : KnownName) (name : FieldName) → name_of written ≡ Other written → field_name_of right ≡ name
    → is_same_name (Other written) name ≡ false
told_of written right name is same =
    ap (λ (n : FieldName). is_same_text written (spelling n)) (sym same) ∙ told_at written right (others known_names written are_known is)

-- a name that was told to be none of those that are known isn't one of these
pub told_apart : (left name : FieldName) (known right : Option KnownName) (written : List ℕ) (told : Bool) → IsTold told known written → told ≡ true → known ≡ None
    → name_seen known written ≡ left → is_some right ≡ true → name_seen right (spelling name) ≡ name → false ≡ is_same_name left name
told_apart left name None None written told is so none seen some same = absurd cc
told_apart left name None (Some r) written told is so none seen some same =
    let other : name_of written ≡ Other written = subst (λ (t : Bool). IsTold t None written) so is in
    sym (ap (λ (n : FieldName). is_same_name n name) (sym seen) ∙ told_of written r name other same)
told_apart left name (Some k) right written told is so none seen some same = absurd cc

-- nor is it any of these
pub never_known : (left : FieldName) (known : Option KnownName) (written : List ℕ) (told : Bool) → IsTold told known written → told ≡ true → known ≡ None
    → name_seen known written ≡ left → (k : KnownName) → is_same_name left (field_name_of k) ≡ false
never_known left known written told is so none seen k =
    let other : name_of written ≡ Other written =
    subst (λ (t : Bool). IsTold t None written) so (subst (λ (o : Option KnownName). IsTold told o written) none is) in
    let here : left ≡ Other written = sym seen ∙ ap (λ (o : Option KnownName). name_seen o written) none in
    ap (λ (n : FieldName). is_same_name n (field_name_of k)) here ∙ told_of written k (field_name_of k) other refl
