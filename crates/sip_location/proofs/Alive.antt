-- Whether two filings say the same of what lives: each address of record that is filed in one is looked up in the other.
use Rattle.std.proofs.Common.{◌≡◌, ◌≢◌, ℕ, ◌+◌, ◌<◌, Bool, true, false, cond, List, [], ◌∷◌, ◌++◌, length, map, take, get_or}
use Rattle.std.proofs.Common.{Option, Some, None, refl, sym, ap, subst, ◌∙◌, append_assoc}
use Rattle.std.specs.Prelude.{filter, nat_lt, option_to_list}
use Rattle.std.specs.List.{AllByRecursion}
use Rattle.std.specs.Map.{lookup}
use Rattle.std.proofs.lemmas.List.{append-nil, take_more}
use Rattle.std.proofs.lemmas.List.Elements.{filter-append}
use Rattle.sip_uri.specs.declared.aor.Aor.{Aor}
use Rattle.sip_uri.specs.declared.uri.Uri.{Uri}
use Rattle.sip_uri.specs.Aor.{is_same_aor}
use Rattle.sip_location.specs.declared.binding.Binding.{Binding}
use Rattle.sip_location.specs.declared.aor_bindings.AorBindings.{AorBindings}
use Rattle.sip_location.specs.Binding.{is_live, live}
use Rattle.sip_location.specs.KeptBinding.{KeptBinding, binding_of}
use Rattle.sip_location.specs.Code.{code_of}
use Rattle.sip_location.specs.Locations.{of_aor}
use Rattle.sip_location.specs.AorBindings.{bindings_of, rows_in, is_filed_of, filed_of, first_rows, AreFiled}
use Rattle.sip_location.specs.Alive.{lives, LivesAlike}
use Rattle.sip_location.proofs.Updates.{same_is}
use Rattle.sip_location.proofs.Keeping.{live_of_kept}
use Rattle.sip_location.proofs.Planning.{live_of_own}
use Rattle.sip_location.proofs.Finding.{of_first}

-- ---- rows

-- a row of these parts
abbrev row_of : Uri → List ℕ → ℕ → ℕ → KeptBinding
row_of uri call_id cseq expires_at = record { uri = uri; call_id = call_id; cseq = cseq; expires_at = expires_at }

pub row_alike : (a b : KeptBinding) → a.uri ≡ b.uri → a.call_id ≡ b.call_id → a.cseq ≡ b.cseq → a.expires_at ≡ b.expires_at → a ≡ b
row_alike a b uri call_id cseq expires_at =
    ap (λ (u : Uri). row_of u a.call_id a.cseq a.expires_at) uri
    ∙ ap (λ (id : List ℕ). row_of b.uri id a.cseq a.expires_at) call_id
    ∙ ap (λ (n : ℕ). row_of b.uri b.call_id n a.expires_at) cseq
    ∙ ap (λ (n : ℕ). row_of b.uri b.call_id b.cseq n) expires_at

-- a row that lives, and is the first that does of others
pub same_front : (now : ℕ) (row first : KeptBinding) (rest others : List KeptBinding) → nat_lt now row.expires_at ≡ true → row ≡ first
    → lives now rest ≡ first ∷ lives now others → lives now rest ≡ lives now (row ∷ []) ++ lives now others
same_front now row first rest others alive same is =
    is
    ∙ ap (λ (k : KeptBinding). k ∷ lives now others) (sym same)
    ∙ sym (ap (λ (t : Bool). cond t (row ∷ []) [] ++ lives now others) alive)

-- one that doesn't live is none of them
pub none_front : (now : ℕ) (row : KeptBinding) (rest : List KeptBinding) → nat_lt now row.expires_at ≡ false
    → lives now rest ≡ lives now (row ∷ []) ++ lives now rest
none_front now row rest over = sym (ap (λ (t : Bool). cond t (row ∷ []) [] ++ lives now rest) over)

-- one row further
pub alive_more : (now : ℕ) (left right : List KeptBinding) (i : ℕ) (row : KeptBinding) (rest others : List KeptBinding) → i < length left → row ≡ get_or left i row
    → lives now rest ≡ lives now (row ∷ []) ++ lives now others → lives now (take i left) ++ lives now rest ≡ lives now right
    → lives now (take (i + 1) left) ++ lives now others ≡ lives now right
alive_more now left right i row rest others within is took so =
    let more : take (i + 1) left ≡ take i left ++ row ∷ [] = take_more left i row within ∙ ap (λ (k : KeptBinding). take i left ++ k ∷ []) (sym is) in
    ap (λ (ks : List KeptBinding). lives now ks ++ lives now others) more
    ∙ ap (λ (ks : List KeptBinding). ks ++ lives now others) (filter-append (λ (k : KeptBinding). nat_lt now k.expires_at) (take i left) (row ∷ []))
    ∙ append_assoc (lives now (take i left)) (lives now (row ∷ [])) (lives now others)
    ∙ ap (λ (ks : List KeptBinding). lives now (take i left) ++ ks) (sym took)
    ∙ so

-- at the end
pub alive_all : (now : ℕ) (left right : List KeptBinding) (i : ℕ) (rest : List KeptBinding) → take i left ≡ left → lives now rest ≡ []
    → lives now (take i left) ++ lives now rest ≡ lives now right → lives now left ≡ lives now right
alive_all now left right i rest all none so =
    sym (ap (lives now) all)
    ∙ sym (append-nil (lives now (take i left)))
    ∙ sym (ap (λ (ks : List KeptBinding). lives now (take i left) ++ ks) none)
    ∙ so

-- ---- what is filed

kept_live : (aor : Aor) (now : ℕ) (kept : List KeptBinding) → filter (is_live now) (bindings_of aor kept) ≡ bindings_of aor (lives now kept)
kept_live aor now [] = refl
kept_live aor now (k ∷ ks) = by_test (nat_lt now k.expires_at) (kept_live aor now ks) where
  by_test : (t : Bool) → filter (is_live now) (bindings_of aor ks) ≡ bindings_of aor (lives now ks)
      → cond t (binding_of aor k ∷ filter (is_live now) (bindings_of aor ks)) (filter (is_live now) (bindings_of aor ks))
      ≡ bindings_of aor (cond t (k ∷ lives now ks) (lives now ks))
  by_test true e = ap (λ (bs : List Binding). binding_of aor k ∷ bs) e
  by_test false e = e

-- an address whose rows are found elsewhere, where the same of them live
pub lives_there : (aor key : Aor) (now : ℕ) (kept found : List KeptBinding) (others : List Binding) → key ≡ aor → bindings_of key found ≡ of_aor key others
    → lives now kept ≡ lives now found → live aor now (bindings_of aor kept) ≡ live aor now others
lives_there aor key now kept found others same is alike =
    sym (live_of_kept aor now kept)
    ∙ kept_live aor now kept
    ∙ ap (bindings_of aor) alike
    ∙ sym (kept_live aor now found)
    ∙ ap (filter (is_live now)) (subst (λ (a : Aor). bindings_of a found ≡ of_aor a others) same is)
    ∙ sym (live_of_own aor now others)

-- ---- all that is filed

-- what holds of each value holds of what a look-up finds
found_holds : {K X : Type 0} (P : X → Type 0) (test : K → Bool) (es : List (K × X)) (v : X) → lookup test es ≡ Some v
    → AllByRecursion P (map (λ (e : K × X). e.1) es) → P v
found_holds P test [] v got all = absurd (cc)
found_holds {K = K} {X = X} P test (e ∷ es) v got all = by_test (test e.0) got (found_holds P test es v) where
  by_test : (t : Bool) → cond t (Some e.1) (lookup test es) ≡ Some v
      → (lookup test es ≡ Some v → AllByRecursion P (map (λ (f : K × X). f.1) es) → P v) → P v
  by_test true is rest = let same : e.1 ≡ v = cc in subst P same all.0
  by_test false is rest = rest is all.1

-- what stands in a place
placed : {K : Type 0} (P : AorBindings → Type 0) (test : K → Bool) (es : List (K × AorBindings)) (o : Option AorBindings) → lookup test es ≡ o
    → AllByRecursion P (map (λ (e : K × AorBindings). e.1) es) → AllByRecursion P (option_to_list o)
placed P test es None is all = tt
placed P test es (Some f) is all = (found_holds P test es f is all, tt)

both_hold : {X : Type 0} (P : X → Type 0) (xs ys : List X) → AllByRecursion P xs → AllByRecursion P ys → AllByRecursion P (xs ++ ys)
both_hold P [] ys all others = others
both_hold P (x ∷ xs) ys all others = (all.0, both_hold P xs ys all.1 others)

-- the first that is filed of an address says what others say, if any is
first_alive : (aor : Aor) (now : ℕ) (others : List Binding) (fs : List AorBindings) → AllByRecursion (LivesAlike others now) fs
    → bindings_of aor (first_rows (filter (is_filed_of aor) fs)) ≢ []
    → filter (is_live now) (bindings_of aor (first_rows (filter (is_filed_of aor) fs))) ≡ live aor now others
first_alive aor now others [] all some = absurd (some refl)
first_alive aor now others (f ∷ fs) all some = by_test (is_same_aor f.aor aor) refl some (first_alive aor now others fs all.1) where
  by_test : (t : Bool) → is_same_aor f.aor aor ≡ t
      → bindings_of aor (first_rows (cond t (f ∷ filter (is_filed_of aor) fs) (filter (is_filed_of aor) fs))) ≢ []
      → (bindings_of aor (first_rows (filter (is_filed_of aor) fs)) ≢ []
      → filter (is_live now) (bindings_of aor (first_rows (filter (is_filed_of aor) fs))) ≡ live aor now others)
      → filter (is_live now) (bindings_of aor (first_rows (cond t (f ∷ filter (is_filed_of aor) fs) (filter (is_filed_of aor) fs)))) ≡ live aor now others
  by_test true same there rest =
      live_of_kept aor now f.rows
      ∙ subst (λ (a : Aor). live a now (bindings_of a f.rows) ≡ live a now others) (same_is f.aor aor same) all.0
  by_test false other there rest = rest there

-- each address that is filed says what others say, where that holds of all that is filed
pub lives_in : {K : Type 0} (es : List (K × AorBindings)) (test : ℕ → K → Bool) (crowd : List AorBindings) (others : List Binding) (now : ℕ)
    → AreFiled (λ code. lookup (test code) es) crowd → AllByRecursion (LivesAlike others now) (map (λ (e : K × AorBindings). e.1) es)
    → AllByRecursion (LivesAlike others now) crowd → (aor : Aor) → of_aor aor (rows_in (λ code. lookup (test code) es) crowd) ≢ []
    → live aor now (rows_in (λ code. lookup (test code) es) crowd) ≡ live aor now others
lives_in es test crowd others now filed under among aor some =
    let by_code : ℕ → Option AorBindings = λ code. lookup (test code) es in
    let first : of_aor aor (rows_in by_code crowd) ≡ bindings_of aor (first_rows (filed_of aor by_code crowd)) = of_first aor by_code crowd filed in
    let all : AllByRecursion (LivesAlike others now) (option_to_list (by_code (code_of aor)) ++ crowd) =
    both_hold (LivesAlike others now) (option_to_list (by_code (code_of aor))) crowd
    (placed (LivesAlike others now) (test (code_of aor)) es (by_code (code_of aor)) refl under) among in
    live_of_own aor now (rows_in by_code crowd)
    ∙ ap (filter (is_live now)) first
    ∙ first_alive aor now others (option_to_list (by_code (code_of aor)) ++ crowd) all (λ none. some (first ∙ none))

-- two lists, each address that has rows in one says what the other says: each address does
pub either_way : (now : ℕ) (left right : List Binding) → ((aor : Aor) → of_aor aor left ≢ [] → live aor now left ≡ live aor now right)
    → ((aor : Aor) → of_aor aor right ≢ [] → live aor now right ≡ live aor now left) → (aor : Aor) → live aor now left ≡ live aor now right
either_way now left right there back aor = by_rows (of_aor aor left) (of_aor aor right) refl refl where
  some : (bs : List Binding) (x : Binding) (xs : List Binding) → bs ≡ x ∷ xs → bs ≢ []
  some bs x xs is none = absurd (cc)

  by_rows : (mine theirs : List Binding) → of_aor aor left ≡ mine → of_aor aor right ≡ theirs → live aor now left ≡ live aor now right
  by_rows (b ∷ bs) theirs is so = there aor (some (of_aor aor left) b bs is)
  by_rows [] (b ∷ bs) is so = sym (back aor (some (of_aor aor right) b bs so))
  by_rows [] [] is so = live_of_own aor now left ∙ ap (filter (is_live now)) (is ∙ sym so) ∙ sym (live_of_own aor now right)
