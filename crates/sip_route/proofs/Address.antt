-- A text is an address in dotted form exactly where it is read as that address.
use Rattle.std.proofs.Common.{◌≡◌, ℕ, true, false, List, [], ◌∷◌, length, ◌<◌, Some, None, refl, sym, ap, ◌∙◌, arith}
use Rattle.std.specs.Prelude.{nat_le}
use Rattle.std.specs.List.{list_all}
use Rattle.std.specs.Str.{bytes_eq}
use Rattle.std.proofs.lemmas.Slice.Eq.{bytes_eq-Decides}
use Rattle.std.proofs.lemmas.Bool.Decides.{same_from_decides, nat_tests}
use Rattle.sip_uri.specs.Addresses.{ip_text, ip_of}
use Rattle.sip_uri.proofs.Dotted.{text_read, text_written}

some_same : (a b : List ℕ) → Some a ≡ Some b → a ≡ b
some_same a b e = cc

-- four numbers, each of a byte
at_most : (n : ℕ) → n < 256 → nat_le n 255 ≡ true
at_most n lt = grind (arith, nat_tests)

all_at_most : (a b c d : ℕ) → a < 256 → b < 256 → c < 256 → d < 256 → list_all (λ n. nat_le n 255) (a ∷ b ∷ c ∷ d ∷ []) ≡ true
all_at_most a b c d la lb lc ld = rw (at_most a la, at_most b lb, at_most c lc, at_most d ld) refl

by_reading : (ip text written : List ℕ) → length ip ≡ 4 → list_all (λ n. nat_le n 255) ip ≡ true → Some written ≡ ip_of text
    → bytes_eq written ip ≡ bytes_eq (ip_text ip) text
by_reading ip text written four within is =
    same_from_decides (bytes_eq written ip) (bytes_eq (ip_text ip) text) (
      λ e. ap ip_text (sym ((bytes_eq-Decides written ip).0 e)) ∙ sym (text_written text written (sym is)),
      λ same. (bytes_eq-Decides written ip).1 (some_same written ip (is ∙ ap ip_of (sym same) ∙ text_read ip four within)),
    )
    (bytes_eq-Decides (ip_text ip) text)

pub is_text : (text written : List ℕ) (a b c d : ℕ) → a < 256 → b < 256 → c < 256 → d < 256 → Some written ≡ ip_of text
    → bytes_eq written (a ∷ b ∷ c ∷ d ∷ []) ≡ bytes_eq (ip_text (a ∷ b ∷ c ∷ d ∷ [])) text
is_text text written a b c d la lb lc ld is = by_reading (a ∷ b ∷ c ∷ d ∷ []) text written refl (all_at_most a b c d la lb lc ld) is

none_some : (a : List ℕ) → None ≡ Some a → ⊥
none_some a e = cc

by_none : (ip text : List ℕ) → length ip ≡ 4 → list_all (λ n. nat_le n 255) ip ≡ true → None ≡ ip_of text → false ≡ bytes_eq (ip_text ip) text
by_none ip text four within is =
    same_from_decides false (bytes_eq (ip_text ip) text)
    (λ e. absurd cc, λ same. absurd (none_some ip (is ∙ ap ip_of (sym same) ∙ text_read ip four within)))
    (bytes_eq-Decides (ip_text ip) text)

pub no_text : (text : List ℕ) (a b c d : ℕ) → a < 256 → b < 256 → c < 256 → d < 256 → None ≡ ip_of text → false ≡ bytes_eq (ip_text (a ∷ b ∷ c ∷ d ∷ [])) text
no_text text a b c d la lb lc ld is = by_none (a ∷ b ∷ c ∷ d ∷ []) text refl (all_at_most a b c d la lb lc ld) is
