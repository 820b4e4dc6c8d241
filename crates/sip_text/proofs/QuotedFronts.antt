-- Quoted text in front of another text: what is cut outside it isn't cut in it, and no blank is round it.
use Rattle.std.proofs.Common.{◌≡◌, ℕ, Bool, true, false, cond, List, [], ◌∷◌, ◌++◌, Option, Some, None, refl, sym, ap, subst, ◌∙◌, append_assoc, eqb-true}
use Rattle.std.specs.Prelude.{◌==◌, option_map, is_some}
use Rattle.sip_text.specs.declared.cuts.Quoting.TheVariants.{Outside, Inside}
use Rattle.sip_text.specs.Lists.{trimmed}
use Rattle.sip_text.specs.Splits.{in_front}
use Rattle.sip_text.specs.Cuts.{split_from}
use Rattle.sip_text.specs.Escapes.{inside_quotes, unquoted}
use Rattle.sip_text.proofs.Trims.{IsTight, ends_full, tight_again}

front_twice : (a b : List ℕ) (o : Option (List ℕ × List ℕ)) → in_front a (in_front b o) ≡ in_front (a ++ b) o
front_twice a b None = refl
front_twice a b (Some x) = ap (λ (w : List ℕ). Some (w, x.1)) (sym (append_assoc a b x.0))

some_under : (b : ℕ) (o : Option (List ℕ)) → is_some (option_map (λ v. b ∷ v) o) ≡ true → is_some o ≡ true
some_under b None e = absurd cc
some_under b (Some v) e = refl

module _ (P : List ℕ → Type 0) (last : P (34 ∷ [])) (pair : (c : ℕ) (bs : List ℕ) → P bs → P (92 ∷ c ∷ bs))
    (plain : (b c : ℕ) (bs : List ℕ) → (b == 34) ≡ false → (b == 92) ≡ false → P (c ∷ bs) → P (b ∷ c ∷ bs)) where
  by_last : (b : ℕ) (quote : Bool) → (b == 34) ≡ quote → is_some (cond {A = Option (List ℕ)} quote (Some []) None) ≡ true → P (b ∷ [])
  by_last b true q e = subst (λ (x : ℕ). P (x ∷ [])) (sym (eqb-true b 34 q)) last
  by_last b false q e = absurd cc

  by_two : (b c : ℕ) (bs : List ℕ) (quote slash : Bool) → (b == 34) ≡ quote → (b == 92) ≡ slash
      → is_some (cond quote None (cond slash (option_map (λ v. c ∷ v) (inside_quotes bs)) (option_map (λ v. b ∷ v) (inside_quotes (c ∷ bs))))) ≡ true
      → (is_some (inside_quotes (c ∷ bs)) ≡ true → P (c ∷ bs)) → (is_some (inside_quotes bs) ≡ true → P bs) → P (b ∷ c ∷ bs)
  by_two b c bs true slash q p e more behind = absurd cc
  by_two b c bs false true q p e more behind =
      subst (λ (x : ℕ). P (x ∷ c ∷ bs)) (sym (eqb-true b 92 p)) (pair c bs (behind (some_under c (inside_quotes bs) e)))
  by_two b c bs false false q p e more behind = plain b c bs q p (more (some_under b (inside_quotes (c ∷ bs)) e))

  where_quoted : (bytes : List ℕ) → is_some (inside_quotes bytes) ≡ true → P bytes
  where_quoted [] e = absurd cc
  where_quoted (b ∷ []) e = by_last b (b == 34) refl e
  where_quoted (b ∷ c ∷ bs) e = by_two b c bs (b == 34) (b == 92) refl refl e (λ h. where_quoted (c ∷ bs) h) (λ h. where_quoted bs h)

begins_quote : (b : ℕ) (bs : List ℕ) (quote : Bool) → (b == 34) ≡ quote → is_some (cond quote (inside_quotes bs) None) ≡ true
    → (b ≡ 34) × (is_some (inside_quotes bs) ≡ true)
begins_quote b bs true q e = (eqb-true b 34 q, e)
begins_quote b bs false q e = absurd cc

-- ---- cut behind it

module _ (mark : ℕ) (rest : List ℕ) where
  abbrev Passes : List ℕ → Type 0
  Passes bytes = split_from Inside mark (bytes ++ rest) ≡ in_front bytes (split_from Outside mark rest)

  passed_pair : (c : ℕ) (bs : List ℕ) → Passes bs → Passes (92 ∷ c ∷ bs)
  passed_pair c bs is =
      let two : split_from Inside mark (92 ∷ c ∷ (bs ++ rest)) ≡ in_front (92 ∷ []) (in_front (c ∷ []) (split_from Inside mark (bs ++ rest))) = refl in
      two ∙ front_twice (92 ∷ []) (c ∷ []) (split_from Inside mark (bs ++ rest)) ∙ ap (in_front (92 ∷ c ∷ [])) is
      ∙ front_twice (92 ∷ c ∷ []) bs (split_from Outside mark rest)

  passed_plain : (b c : ℕ) (bs : List ℕ) → (b == 34) ≡ false → (b == 92) ≡ false → Passes (c ∷ bs) → Passes (b ∷ c ∷ bs)
  passed_plain b c bs q p is =
      let one : split_from Inside mark (b ∷ ((c ∷ bs) ++ rest)) ≡ in_front (b ∷ []) (split_from Inside mark ((c ∷ bs) ++ rest)) = rw (q, p) refl in
      one ∙ ap (in_front (b ∷ [])) is ∙ front_twice (b ∷ []) (c ∷ bs) (split_from Outside mark rest)

  passed_inside : (bytes : List ℕ) → is_some (inside_quotes bytes) ≡ true → Passes bytes
  passed_inside bytes e = where_quoted Passes refl passed_pair passed_plain bytes e

  pub passed_quoted : (quoted : List ℕ) → (34 == mark) ≡ false → is_some (unquoted quoted) ≡ true
      → split_from Outside mark (quoted ++ rest) ≡ in_front quoted (split_from Outside mark rest)
  passed_quoted [] other e = absurd cc
  passed_quoted (b ∷ bs) other e =
      let begins : (b ≡ 34) × (is_some (inside_quotes bs) ≡ true) = begins_quote b bs (b == 34) refl e in
      let one : split_from Outside mark (34 ∷ (bs ++ rest)) ≡ in_front (34 ∷ []) (split_from Inside mark (bs ++ rest)) = rw other refl in
      subst (λ (x : ℕ). split_from Outside mark (x ∷ (bs ++ rest)) ≡ in_front (x ∷ bs) (split_from Outside mark rest)) (sym begins.0)
      (one ∙ ap (in_front (34 ∷ [])) (passed_inside bs begins.1) ∙ front_twice (34 ∷ []) bs (split_from Outside mark rest))

-- ---- no blank is round it

full_pair : (c : ℕ) (bs : List ℕ) → ends_full bs → ends_full (92 ∷ c ∷ bs)
full_pair c [] full = absurd full
full_pair c (d ∷ bs) full = full

full_inside : (bytes : List ℕ) → is_some (inside_quotes bytes) ≡ true → ends_full bytes
full_inside bytes e = where_quoted ends_full refl full_pair (λ b c bs q p full. full) bytes e

full_behind : (b : ℕ) (bs : List ℕ) → ends_full bs → ends_full (b ∷ bs)
full_behind b [] full = absurd full
full_behind b (c ∷ bs) full = full

pub quoted_tight : (quoted : List ℕ) → is_some (unquoted quoted) ≡ true → IsTight quoted
quoted_tight [] e = absurd cc
quoted_tight (b ∷ bs) e =
    let begins : (b ≡ 34) × (is_some (inside_quotes bs) ≡ true) = begins_quote b bs (b == 34) refl e in
    let tight : IsTight (34 ∷ bs) = (refl, full_behind 34 bs (full_inside bs begins.1)) in
    subst (λ (x : ℕ). IsTight (x ∷ bs)) (sym begins.0) tight

pub quoted_trimmed : (quoted : List ℕ) → is_some (unquoted quoted) ≡ true → trimmed quoted ≡ quoted
quoted_trimmed quoted e = tight_again quoted (quoted_tight quoted e)
