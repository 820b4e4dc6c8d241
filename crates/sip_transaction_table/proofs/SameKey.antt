-- Equality of keys.
use Rattle.std.proofs.Common.{◌≡◌, Bool, true, false, ◌==◌, refl, sym, ◌∙◌, ap}
use Rattle.std.specs.Bool.{Decides}
use Rattle.std.specs.Str.{bytes_eq}
use Rattle.std.specs.Cmp.Lexicographic.{bytes_decides}
use Rattle.std.proofs.lemmas.Bool.Decides.{Decides-and, Decides-eqb, Decides-like}
use Rattle.sip_transaction_table.specs.declared.key.TransactionKey.{TransactionKey}
use Rattle.sip_transaction_table.specs.Key.{same_key}

-- two keys are the same exactly where they are equal
pub decides : (a b : TransactionKey) → Decides (same_key a b) (a ≡ b)
decides a b =
    Decides-like (same_key a b) same alike
    (Decides-and _ (bytes_eq a.method b.method)
    (Decides-and _ (a.port == b.port)
    (Decides-and (bytes_eq a.branch b.branch) (bytes_eq a.host b.host) (bytes_decides a.branch b.branch) (bytes_decides a.host b.host)) (Decides-eqb a.port b.port))
    (bytes_decides a.method b.method))
  where
    same : ((a.branch ≡ b.branch × a.host ≡ b.host) × a.port ≡ b.port) × a.method ≡ b.method → a ≡ b
    same p =
        let first : a ≡ record a { branch = b.branch } = ap (λ v. record a { branch = v }) p.0.0.0 in
        let second : record a { branch = b.branch } ≡ record a { branch = b.branch; host = b.host } = ap (λ v. record a { branch = b.branch; host = v }) p.0.0.1 in
        let third : record a { branch = b.branch; host = b.host } ≡ record b { method = a.method } = ap (λ n. record b { method = a.method; port = n }) p.0.1 in
        first ∙ second ∙ third ∙ ap (λ v. record b { method = v }) p.1

    alike : a ≡ b → ((a.branch ≡ b.branch × a.host ≡ b.host) × a.port ≡ b.port) × a.method ≡ b.method
    alike e = (
      ((ap (λ (k : TransactionKey). k.branch) e, ap (λ (k : TransactionKey). k.host) e), ap (λ (k : TransactionKey). k.port) e),
      ap (λ (k : TransactionKey). k.method) e,
    )

-- in either order
pub turned : (a b : TransactionKey) → same_key a b ≡ false → same_key b a ≡ false
turned a b differ = by_test (same_key b a) refl where
  by_test : (t : Bool) → same_key b a ≡ t → t ≡ false
  by_test false is = refl
  by_test true is = let e = (decides a b).1 (sym ((decides b a).0 is)) in absurd (cc)
