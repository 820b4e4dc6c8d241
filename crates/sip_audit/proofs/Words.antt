-- What each word of a line says, and which words say it.
use Rattle.std.proofs.Common.{◌≡◌, ℕ, ◌<◌, ◌^◌, Bool, true, false, cond, List, [], ◌∷◌, ◌++◌, decimal, Option, Some, None, refl, sym, ap, ◌∙◌}
use Rattle.std.specs.Prelude.{◌&&◌, nat_lt, codes}
use Rattle.std.specs.Option.{option_and_then}
use Rattle.std.specs.List.{list_all}
use Rattle.std.specs.Str.{bytes_eq}
use Rattle.std.specs.Char.{is_ascii_alphanumeric, is_ascii_digit}
use Rattle.std.specs.Cmp.Lexicographic.{bytes_decides}
use Rattle.std.proofs.lemmas.Bool.{ltb-true, lt-ltb}
use Rattle.sip_text.specs.Words.{is_token_byte, is_token_text}
use Rattle.sip_text.specs.Numbers.{plain_decimal_of, plain_decimal_below, under}
use Rattle.sip_text.specs.Splits.{split_at_byte}
use Rattle.sip_text.proofs.PlainDecimals.{plain_read, plain_written, digits_alone}
use Rattle.sip_uri.specs.Host.{is_host, is_not}
use Rattle.sip_uri.proofs.Tests.{some_is, pair_is, and_both, and_is, is_other, others, all_join, split_again, split_is}
use Rattle.sip_uri.proofs.PartLaws.{IsNoPlaceByte, place_others}
use Rattle.sip_audit.specs.declared.record.AuditOperation.{AuditOperation}
use Rattle.sip_audit.specs.Names.{is_name_byte, is_name, is_name_or_none}
use Rattle.sip_audit.specs.Lines.{who_text, operation_text}
use Rattle.sip_audit.specs.Reading.{◌>>=◌, word_before, method_of, who_of, target_of, operation_of}

pub bind_some : {A B : Type 0} (o : Option A) (f : A → Option B) (y : B) → (o >>= f) ≡ Some y → (x : A) × (o ≡ Some x) × (f x ≡ Some y)
bind_some None f y e = absurd cc
bind_some (Some x) f y e = (x, refl, e)

pub kept_is : {X : Type 0} (t : Bool) (x y : X) → cond t (Some x) None ≡ Some y → (t ≡ true) × (x ≡ y)
kept_is true x y e = (refl, some_is x y e)
kept_is false x y e = absurd cc

pub same_text : (left right : List ℕ) → bytes_eq left right ≡ true → left ≡ right
same_text left right e = (bytes_decides left right).0 e

pub differs_from : (left right : List ℕ) (t : Bool) → bytes_eq left right ≡ t → (left ≡ right → ⊥) → bytes_eq left right ≡ false
differs_from left right true is never = absurd (never (same_text left right is))
differs_from left right false is never = is

pub equals_itself : (text : List ℕ) → bytes_eq text text ≡ true
equals_itself text = (bytes_decides text text).1 refl

-- ---- a word of a line

-- a text begins with a word that says something, and a rest follows the space behind it
pub record IsWord (X : Type 0) (says : List ℕ → Option X) (text : List ℕ) (said : X) (rest : List ℕ) : Type 0 where
  pub word : List ℕ
  pub whole : text ≡ word ++ 32 ∷ rest
  pub meant : says word ≡ Some said

abbrev said_behind : {X : Type 0} → (List ℕ → Option X) → List ℕ × List ℕ → Option (X × List ℕ)
said_behind says cut = says cut.0 >>= λ said. Some (said, cut.1)

pub word_is : {X : Type 0} (says : List ℕ → Option X) (text : List ℕ) (x : X × List ℕ) → word_before says text ≡ Some x → IsWord X says text x.0 x.1
word_is {X} says text x e =
    let cut = bind_some (split_at_byte 32 text) (said_behind says) x e in
    let said = bind_some (says cut.0.0) (λ (y : X). Some (y, cut.0.1)) x cut.2 in
    let p = pair_is (said.0, cut.0.1) x said.2 in
    record {
      word = cut.0.0;
      whole = split_is 32 text cut.0.0 cut.0.1 cut.1 ∙ ap (λ (w : List ℕ). cut.0.0 ++ 32 ∷ w) p.1;
      meant = said.1 ∙ ap (λ (y : X). Some y) p.0;
    }

pub word_again : {X : Type 0} (says : List ℕ → Option X) (word rest : List ℕ) (x : X) → list_all (is_not 32) word ≡ true → says word ≡ Some x
    → word_before says (word ++ 32 ∷ rest) ≡ Some (x, rest)
word_again says word rest x none e = ap (λ o. o >>= said_behind says) (split_again 32 word rest none refl) ∙ ap (λ o. o >>= λ said. Some (said, rest)) e

-- ---- numbers

under_is : (limit m n : ℕ) (t : Bool) → nat_lt m limit ≡ t → cond t (Some m) None ≡ Some n → (m ≡ n) × (m < limit)
under_is limit m n true is e = (some_is m n e, ltb-true m limit is)
under_is limit m n false is e = absurd cc

below_by : (limit n : ℕ) (text : List ℕ) (o : Option ℕ) → plain_decimal_of text ≡ o → option_and_then (under limit) o ≡ Some n → (text ≡ decimal n) × (n < limit)
below_by limit n text None is e = absurd cc
below_by limit n text (Some m) is e =
    let u = under_is limit m n (nat_lt m limit) refl e in
    (plain_written text m is ∙ ap decimal u.0, rw (← u.0) u.1)

pub below_is : (limit n : ℕ) (text : List ℕ) → plain_decimal_below limit text ≡ Some n → (text ≡ decimal n) × (n < limit)
below_is limit n text e = below_by limit n text (plain_decimal_of text) refl e

pub below_again : (limit n : ℕ) → n < limit → n < 2 ^ 64 → plain_decimal_below limit (decimal n) ≡ Some n
below_again limit n lt small =
    let test : nat_lt n limit ≡ true = lt-ltb n limit lt in
    ap (option_and_then (under limit)) (plain_read n small) ∙ rw test refl

pub number_others : (mark : ℕ) → is_ascii_digit mark ≡ false → (n : ℕ) → n < 2 ^ 64 → list_all (is_not mark) (decimal n) ≡ true
number_others mark none n lt = others is_ascii_digit mark none (decimal n) (digits_alone n lt)

-- ---- methods and users

pub method_is : (word method : List ℕ) → method_of word ≡ Some method → (word ≡ method) × (is_token_text method ≡ true)
method_is word method e =
    let k = kept_is (is_token_text word) word method e in
    (k.1, rw (← k.1) k.0)

pub method_again : (method : List ℕ) → is_token_text method ≡ true → method_of method ≡ Some method
method_again method e = rw e refl

pub method_others : (method : List ℕ) → is_token_text method ≡ true → list_all (is_not 32) method ≡ true
method_others [] e = absurd cc
method_others (b ∷ bs) e = others is_token_byte 32 refl (b ∷ bs) e

named_by : (word : List ℕ) (who : Option (List ℕ)) (t : Bool) → is_name word ≡ t → cond t (Some (Some word)) None ≡ Some who
    → (word ≡ who_text who) × (is_name_or_none who ≡ true)
named_by word who true is e = rw (← some_is (Some word) who e) (refl, is)
named_by word who false is e = absurd cc

who_by : (word : List ℕ) (who : Option (List ℕ)) (t : Bool) → bytes_eq word (codes "-") ≡ t → cond t (Some None) (cond (is_name word) (Some (Some word)) None) ≡ Some who
    → (word ≡ who_text who) × (is_name_or_none who ≡ true)
who_by word who true is e = rw (← some_is None who e) (same_text word (codes "-") is, refl)
who_by word who false is e = named_by word who (is_name word) refl e

pub who_is : (word : List ℕ) (who : Option (List ℕ)) → who_of word ≡ Some who → (word ≡ who_text who) × (is_name_or_none who ≡ true)
who_is word who e = who_by word who (bytes_eq word (codes "-")) refl e

no_dash : (name : List ℕ) → is_name name ≡ true → name ≡ codes "-" → ⊥
no_dash name e same =
    let never : false ≡ true = sym (ap is_name same) ∙ e in
    cc

pub who_again : (who : Option (List ℕ)) → is_name_or_none who ≡ true → who_of (who_text who) ≡ Some who
who_again None e = refl
who_again (Some name) e =
    let other : bytes_eq name (codes "-") ≡ false = differs_from name (codes "-") (bytes_eq name (codes "-")) refl (no_dash name e) in
    rw (other, e) refl

alphanumeric_other : (b : ℕ) → is_ascii_alphanumeric b ≡ true → is_not 32 b ≡ true
alphanumeric_other b e = is_other is_ascii_alphanumeric 32 refl b e

pub who_others : (who : Option (List ℕ)) → is_name_or_none who ≡ true → list_all (is_not 32) (who_text who) ≡ true
who_others None e = refl
who_others (Some []) e = absurd cc
who_others (Some (b ∷ bs)) e =
    let front = and_both (is_ascii_alphanumeric b && list_all is_name_byte bs) _ e in
    let both = and_both (is_ascii_alphanumeric b) (list_all is_name_byte bs) front.0 in
    and_is (is_not 32 b) (list_all (is_not 32) bs) (alphanumeric_other b both.0) (others is_name_byte 32 refl bs both.1)

-- ---- targets

abbrev with_host : List ℕ × List ℕ → Option (List ℕ × List ℕ)
with_host cut = cond (is_host cut.1) (Some cut) None

pub target_is : (word : List ℕ) (x : List ℕ × List ℕ) → target_of word ≡ Some x → (word ≡ x.0 ++ 64 ∷ x.1) × (is_host x.1 ≡ true)
target_is word x e =
    let cut = bind_some (split_at_byte 64 word) with_host x e in
    let k = kept_is (is_host cut.0.1) cut.0 x cut.2 in
    rw (← k.1) (split_is 64 word cut.0.0 cut.0.1 cut.1, k.0)

pub target_again : (user host : List ℕ) → list_all (is_not 64) user ≡ true → is_host host ≡ true → target_of (user ++ 64 ∷ host) ≡ Some (user, host)
target_again user host none e = ap (λ o. o >>= with_host) (split_again 64 user host none refl) ∙ rw e refl

no_space : IsNoPlaceByte 32
no_space = record { name = refl; address = refl; opening = refl; closing = refl; digit = refl; colon = refl }

append_none : (xs : List ℕ) → xs ++ [] ≡ xs
append_none [] = refl
append_none (x ∷ xs) = ap (λ (w : List ℕ). x ∷ w) (append_none xs)

pub target_others : (user host : List ℕ) → list_all (is_not 32) user ≡ true → is_host host ≡ true → list_all (is_not 32) (user ++ 64 ∷ host) ≡ true
target_others user host none e =
    all_join (is_not 32) user (64 ∷ host) none (sym (ap (list_all (is_not 32)) (append_none host)) ∙ place_others 32 no_space host None e refl)

-- ---- operations

operation_by : (word : List ℕ) (o : AuditOperation) (a b c : Bool) → bytes_eq word (codes "register") ≡ a → bytes_eq word (codes "list") ≡ b
    → bytes_eq word (codes "send") ≡ c
    → cond a (Some AuditOperation.Register) (cond b (Some AuditOperation.List) (cond c (Some AuditOperation.Send) None)) ≡ Some o → word ≡ operation_text o
operation_by word o true b c p q r e = rw (← some_is AuditOperation.Register o e) (same_text word (codes "register") p)
operation_by word o false true c p q r e = rw (← some_is AuditOperation.List o e) (same_text word (codes "list") q)
operation_by word o false false true p q r e = rw (← some_is AuditOperation.Send o e) (same_text word (codes "send") r)
operation_by word o false false false p q r e = absurd cc

pub operation_is : (word : List ℕ) (o : AuditOperation) → operation_of word ≡ Some o → word ≡ operation_text o
operation_is word o e = operation_by word o (bytes_eq word (codes "register")) (bytes_eq word (codes "list")) (bytes_eq word (codes "send")) refl refl refl e

pub operation_again : (o : AuditOperation) → operation_of (operation_text o) ≡ Some o
operation_again AuditOperation.Register = refl
operation_again AuditOperation.List = refl
operation_again AuditOperation.Send = refl

pub operation_others : (o : AuditOperation) → list_all (is_not 32) (operation_text o) ≡ true
operation_others AuditOperation.Register = refl
operation_others AuditOperation.List = refl
operation_others AuditOperation.Send = refl
