-- What two configurations have in common whose keys of the frame are all kept.
use Rattle.std.proofs.Common.{◌≡◌, ℕ, List, [], ◌∷◌, Bool, true, false, not, cond, find, Some, None, refl, sym, ap, ◌∙◌, subst, arith}
use Rattle.std.specs.Bool.{Decides}
use Rattle.std.specs.Cmp.Lexicographic.{pointwise}
use Rattle.std.specs.Str.{bytes_eq}
use Rattle.std.proofs.lemmas.Bool.Decides.{Decides-eqb}
use Rattle.std.proofs.lemmas.Option.{none-some, same_Some}
use Rattle.std.proofs.lemmas.Slice.Eq.{bytes_eq-Decides, slice_eq-Decides}
use Rattle.sip_route.specs.declared.own.Own.{Own}
use Rattle.sip_config_types.specs.declared.config.Config.{Config}
use Rattle.sip_config_change.specs.declared.key.FrameKey.{FrameKey}
use Rattle.sip_config_change.specs.declared.key.FrameKey.TheVariants.{Host, Port, Address, Domains, Realm}
use Rattle.sip_config_change.specs.Frame.{is_kept, frame_keys, frame_key_of}

-- ---- lists of keys, by any test of them

all_kept : (kept : FrameKey → Bool) → find (λ key. not (kept key)) frame_keys ≡ None → (key : FrameKey) → kept key ≡ true
all_kept kept e Host = grind arith
all_kept kept e Port = grind arith
all_kept kept e Address = grind arith
all_kept kept e Domains = grind arith
all_kept kept e Realm = grind arith

none_of_kept : (kept : FrameKey → Bool) → ((key : FrameKey) → kept key ≡ true) → find (λ key. not (kept key)) frame_keys ≡ None
none_of_kept kept all = rw (all Host, all Port, all Address, all Domains, all Realm) refl

found_is_not_kept : (kept : FrameKey → Bool) (keys : List FrameKey) (key : FrameKey) → find (λ k. not (kept k)) keys ≡ Some key → kept key ≡ false
found_is_not_kept kept [] key e = absurd (none-some key e)
found_is_not_kept kept (k ∷ keys) key e = by_test (kept k) refl e (found_is_not_kept kept keys key) where
  by_test : (b : Bool) → kept k ≡ b → cond (not b) (Some k) (find (λ x. not (kept x)) keys) ≡ Some key
      → (find (λ x. not (kept x)) keys ≡ Some key → kept key ≡ false) → kept key ≡ false
  by_test true is found rest = rest found
  by_test false is found rest = subst (λ (x : FrameKey). kept x ≡ false) (same_Some k key found) is

-- ---- frames

-- the same texts in the same order
texts_same : (xs ys : List (List ℕ)) → Decides (pointwise bytes_eq xs ys) (xs ≡ ys)
texts_same xs ys = slice_eq-Decides bytes_eq-Decides xs ys (pointwise bytes_eq xs ys) refl

own_is : (a b : Own) → a.host ≡ b.host → a.port ≡ b.port → a.domains ≡ b.domains → a.ip ≡ b.ip → a ≡ b
own_is a b host port domains ip = rw (host, port, domains, ip) refl

pub frame_same : (old new : Config) → frame_key_of old new ≡ None → (new.own ≡ old.own) × (new.realm ≡ old.realm)
frame_same old new e =
    let kept : (key : FrameKey) → is_kept old new key ≡ true = all_kept (is_kept old new) e in
    let host : old.own.host ≡ new.own.host = (bytes_eq-Decides old.own.host new.own.host).0 (kept Host) in
    let port : old.own.port ≡ new.own.port = (Decides-eqb old.own.port new.own.port).0 (kept Port) in
    let ip : old.own.ip ≡ new.own.ip = (bytes_eq-Decides old.own.ip new.own.ip).0 (kept Address) in
    let domains : old.own.domains ≡ new.own.domains = (texts_same old.own.domains new.own.domains).0 (kept Domains) in
    let realm : old.realm ≡ new.realm = (bytes_eq-Decides old.realm new.realm).0 (kept Realm) in
    (sym (own_is old.own new.own host port domains ip), sym realm)

each_kept : (old new : Config) → new.own ≡ old.own → new.realm ≡ old.realm → (key : FrameKey) → is_kept old new key ≡ true
each_kept old new own realm Host = (bytes_eq-Decides old.own.host new.own.host).1 (ap (λ (o : Own). o.host) (sym own))
each_kept old new own realm Port = (Decides-eqb old.own.port new.own.port).1 (ap (λ (o : Own). o.port) (sym own))
each_kept old new own realm Address = (bytes_eq-Decides old.own.ip new.own.ip).1 (ap (λ (o : Own). o.ip) (sym own))
each_kept old new own realm Domains = (texts_same old.own.domains new.own.domains).1 (ap (λ (o : Own). o.domains) (sym own))
each_kept old new own realm Realm = (bytes_eq-Decides old.realm new.realm).1 (sym realm)

pub no_key_of_same : (old new : Config) → (new.own ≡ old.own) × (new.realm ≡ old.realm) → frame_key_of old new ≡ None
no_key_of_same old new (own, realm) = none_of_kept (is_kept old new) (each_kept old new own realm)

pub policy_is_new : (old new : Config) → frame_key_of old new ≡ None → record new { own = old.own; realm = old.realm } ≡ new
policy_is_new old new e =
    let same = frame_same old new e in
    let own : old.own ≡ new.own = sym same.0 in
    let realm : old.realm ≡ new.realm = sym same.1 in
    rw (own, realm) refl

pub key_differs : (old new : Config) (key : FrameKey) → frame_key_of old new ≡ Some key → is_kept old new key ≡ false
key_differs old new = found_is_not_kept (is_kept old new) frame_keys

pub other_frame : (old new : Config) (key : FrameKey) → frame_key_of old new ≡ Some key → ¬ ((new.own ≡ old.own) × (new.realm ≡ old.realm))
other_frame old new key e = λ same. none-some key (sym (no_key_of_same old new same) ∙ e)
