-- The escapes of a text of the grammar are good.
use Rattle.std.proofs.Common.{◌≡◌, ℕ, ◌+◌, ◌*◌, Bool, true, false, List, [], ◌∷◌, Option, Some, refl, sym, ap, ◌∙◌}
use Rattle.std.specs.Prelude.{◌==◌, ◌&&◌}
use Rattle.std.specs.Option.{unwrap_or}
use Rattle.std.specs.Char.{is_ascii_hexdigit, digit_value}
use Rattle.sip_text.specs.Escapes.{unescaped}
use Rattle.sip_uri.specs.declared.user.UserInfo.{UserInfo}
use Rattle.sip_uri.specs.declared.uri.Uri.{Uri}
use Rattle.sip_uri.specs.Parts.{are_escaped, is_user_byte, is_user}
use Rattle.sip_uri.specs.Uri.{is_userinfo, is_password_or_none, IsValid}
use Rattle.sip_uri.specs.Aor.{user_named, aor_of}
use Rattle.sip_uri.proofs.Tests.{and_both, differs}

-- what a text says
record IsSaid (text : List ℕ) : Type 0 where
  value : List ℕ
  is : unescaped text ≡ Some value

no_escape : (b h l : ℕ) (rest value : List ℕ) → (b == 37) ≡ false → unescaped (h ∷ l ∷ rest) ≡ Some value → unescaped (b ∷ h ∷ l ∷ rest) ≡ Some (b ∷ value)
no_escape b h l rest value plain is = rw (plain, is) refl

escape : (b h l : ℕ) (rest value : List ℕ) → (b == 37) ≡ true → (is_ascii_hexdigit h && is_ascii_hexdigit l) ≡ true → unescaped rest ≡ Some value
    → unescaped (b ∷ h ∷ l ∷ rest) ≡ Some ((16 * digit_value h + digit_value l) ∷ value)
escape b h l rest value percent digits is = rw (percent, digits, is) refl

good : (class : ℕ → Bool) → class 37 ≡ false → (text : List ℕ) → are_escaped class text ≡ true → IsSaid text
good class none [] e = record { value = []; is = refl }
good class none (b ∷ []) e =
    let plain : (b == 37) ≡ false = differs class 37 none b (and_both (class b) true e).0 in
    record { value = b ∷ []; is = rw plain refl }
good class none (b ∷ h ∷ []) e =
    let both = and_both (class b) (class h && true) e in
    let plain : (b == 37) ≡ false = differs class 37 none b both.0 in
    let next : (h == 37) ≡ false = differs class 37 none h (and_both (class h) true both.1).0 in
    record { value = b ∷ h ∷ []; is = rw (plain, next) refl }
good class none (b ∷ h ∷ l ∷ rest) e = by_first (class b) (b == 37) refl refl (λ g. good class none (h ∷ l ∷ rest) g) (λ g. good class none rest g)
  where
    by_first : (s t : Bool) → class b ≡ s → (b == 37) ≡ t → (are_escaped class (h ∷ l ∷ rest) ≡ true → IsSaid (h ∷ l ∷ rest))
        → (are_escaped class rest ≡ true → IsSaid rest) → IsSaid (b ∷ h ∷ l ∷ rest)
    by_first true t p q plain on =
        let later : IsSaid (h ∷ l ∷ rest) = plain (sym (rw p refl) ∙ e) in
        let no_percent : (b == 37) ≡ false = differs class 37 none b p in
        record { value = b ∷ later.value; is = no_escape b h l rest later.value no_percent later.is }
    by_first false true p q plain on =
        let here : (is_ascii_hexdigit h && is_ascii_hexdigit l && are_escaped class rest) ≡ true = sym (rw (p, q) refl) ∙ e in
        let parts = and_both (is_ascii_hexdigit h && is_ascii_hexdigit l) (are_escaped class rest) here in
        let later : IsSaid rest = on parts.1 in
        record { value = (16 * digit_value h + digit_value l) ∷ later.value; is = escape b h l rest later.value q parts.0 later.is }
    by_first false false p q plain on =
        let never : false ≡ true = sym (rw (p, q) refl) ∙ e in
        absurd cc

user_good : (user : List ℕ) → is_user user ≡ true → IsSaid user
user_good [] e = absurd cc
user_good (b ∷ user) e = good is_user_byte refl (b ∷ user) e

named : (user : List ℕ) → IsSaid user → unescaped user ≡ Some (unwrap_or (unescaped user) user)
named user said = rw said.is refl

by_userinfo : (o : Option UserInfo) (info : UserInfo) → o ≡ Some info → is_userinfo o ≡ true → unescaped info.user ≡ Some (user_named o)
by_userinfo o info e valid =
    let here : is_userinfo (Some info) ≡ true = sym (ap is_userinfo e) ∙ valid in
    rw e (named info.user (user_good info.user (and_both (is_user info.user) (is_password_or_none info.password) here).0))

pub user_is_said : (u : Uri) (info : UserInfo) → IsValid u → u.userinfo ≡ Some info → unescaped info.user ≡ Some (aor_of u).user
user_is_said u info valid e = by_userinfo u.userinfo info e valid.userinfo
