-- A challenge tells the nonce that it issues.
use Rattle.std.proofs.Common.{◌≡◌, ℕ, suc, ◌+◌, ◌-◌, ◌<◌, ◌≤◌, Bool, true, false, cond, ◌||◌, List, [], ◌∷◌, ◌++◌, codes, length, drop, Any, Contains, count_by, refl}
use Rattle.std.proofs.Common.{sym, subst, ◌∙◌, arith, append_assoc}
use Rattle.std.specs.List.{AllByRecursion, list_any}
use Rattle.std.proofs.lemmas.Bool.Decides.{nat_tests}
use Rattle.std.proofs.lemmas.List.{length-append, drop-append-le}
use Rattle.std.proofs.lemmas.List.Sums.{sum_by-cons}
use Rattle.std.proofs.lemmas.List.Elements.{Contains-push}
use Rattle.sip_digest.specs.declared.algorithm.Algorithm.{Algorithm}
use Rattle.sip_digest.specs.declared.algorithm.Algorithm.TheVariants.{Md5, Sha256}
use Rattle.sip_message_fields.specs.declared.field_name.FieldName.{FieldName}
use Rattle.sip_edit_response.specs.Challenges.{stale_part, challenge, challenge_fields}
use Rattle.sip_digest.specs.Algorithm.{name_of}
use Rattle.sip_digest.specs.declared.nonces.Nonce.{Nonce}
use Rattle.sip_digest.specs.Nonces.{keep_last, IsNonceOf, is_this, issued}
use Rattle.model_laws.specs.Nonces.{TellsNonce}

-- ---- what is told

-- the parts of a challenge, taken together in another way
parted : (a r front told nonce end rest stale : List ℕ)
    → a ++ r ++ (front ++ told) ++ nonce ++ (end ++ rest) ++ stale ≡ (a ++ r ++ front) ++ told ++ nonce ++ end ++ (rest ++ stale)
parted a r front told nonce end rest stale = simp append_assoc

-- of one algorithm
told_by : (name : FieldName) (realm nonce : List ℕ) (stale : Bool) (algorithm : Algorithm)
    → TellsNonce nonce (record { name = name; value = challenge algorithm realm nonce stale })
told_by name realm nonce stale algorithm = record {
  front = codes "Digest realm=\"" ++ realm ++ codes "\", ";
  back = (codes ", algorithm=" ++ name_of algorithm ++ codes ", qop=\"auth\"") ++ stale_part stale;
  is_value =
      parted (codes "Digest realm=\"") realm (codes "\", ") (codes "nonce=\"") nonce (codes "\"") (codes ", algorithm=" ++ name_of algorithm ++ codes ", qop=\"auth\"")
      (stale_part stale);
}

-- of each that is offered
pub all_told : (name : FieldName) (realm nonce : List ℕ) (stale with_sha256 : Bool)
    → AllByRecursion (TellsNonce nonce) (challenge_fields name with_sha256 realm nonce stale)
all_told name realm nonce stale false = (told_by name realm nonce stale Md5, tt)
all_told name realm nonce stale true = (told_by name realm nonce stale Sha256, (told_by name realm nonce stale Md5, tt))

pub some_told : (name : FieldName) (realm nonce : List ℕ) (stale with_sha256 : Bool) → 1 ≤ length (challenge_fields name with_sha256 realm nonce stale)
some_told name realm nonce stale false = omega arith
some_told name realm nonce stale true = omega arith

-- ---- what is issued

-- the last of a list is kept among its last 4,096
last_kept : (rows : List Nonce) (row : Nonce) → Contains (keep_last 4096 (rows ++ row ∷ [])) row
last_kept rows row =
    let few : length (rows ++ row ∷ []) - 4096 ≤ length rows = omega (arith, length-append rows (row ∷ [])) in
    subst (λ (kept : List Nonce). Contains kept row) (sym (drop-append-le (length (rows ++ row ∷ []) - 4096) rows (row ∷ []) few))
    (Contains-push (drop (length (rows ++ row ∷ []) - 4096) rows) row)

-- what is contained and passes is some that does
some_there : (P : Nonce → Type 0) (rows : List Nonce) (row : Nonce) → Contains rows row → P row → Any P rows
some_there P rows row there holds = (there.0, row, there.1, there.2, holds)

-- some row passes where a test says so
module _ (p : Nonce → Bool) (P : Nonce → Type 0) (tells : (row : Nonce) → p row ≡ true → P row) where
  some_by : (rows : List Nonce) → list_any p rows ≡ true → Any P rows
  some_by [] e = absurd (cc)
  some_by (row ∷ rows) e = by_test (p row) refl (some_by rows) e where
    by_test : (t : Bool) → p row ≡ t → (list_any p rows ≡ true → Any P rows) → (t || list_any p rows) ≡ true → Any P (row ∷ rows)
    by_test true passes later e = (0, row, omega arith, refl, tells row passes)
    by_test false passes later e = let rest = later e in (suc rest.0, rest.1, omega (arith, rest.2), rest.3, rest.4)

-- what the test on a row says
lives : (word now : ℕ) (row : Nonce) → is_this word now row ≡ true → IsNonceOf word now row
lives word now row e =
    let same : row.word ≡ word = grind (arith, nat_tests) in
    let lives : now - row.since < 300000 = grind (arith, nat_tests) in
    (same, lives)

-- none passes where none is counted
none_by : (p : Nonce → Bool) (rows : List Nonce) → count_by p rows ≡ 0 → list_any p rows ≡ false
none_by p [] e = refl
none_by p (row ∷ rows) e = by_test (p row) (none_by p rows) (sym (sum_by-cons (λ y. cond {A = ℕ} (p y) 1 0) row rows) ∙ e) where
  by_test : (t : Bool) → (count_by p rows ≡ 0 → list_any p rows ≡ false) → cond {A = ℕ} t 1 0 + count_by p rows ≡ 0 → (t || list_any p rows) ≡ false
  by_test true later e = absurd (omega (arith, e))
  by_test false later e = later (omega (arith, e))

-- what was issued is known and lives
pub known_once_issued : (rows : List Nonce) (word now : ℕ) → Any (IsNonceOf word now) (issued rows word now)
known_once_issued rows word now = by_test (list_any (is_this word now) rows) refl where
  by_test : (t : Bool) → list_any (is_this word now) rows ≡ t → Any (IsNonceOf word now)
      (cond t rows (keep_last 4096 (rows ++ record { word = word; since = now; count = 0 } ∷ [])))
  by_test true e = some_by (is_this word now) (IsNonceOf word now) (lives word now) rows e
  by_test false e =
      some_there (IsNonceOf word now) (keep_last 4096 (rows ++ record { word = word; since = now; count = 0 } ∷ [])) (record { word = word; since = now; count = 0 })
      (last_kept rows (record { word = word; since = now; count = 0 })) (refl, omega arith)

-- it is new where none of its word lived
pub new_once_issued : (rows : List Nonce) (word now : ℕ) → count_by (is_this word now) rows ≡ 0
    → Contains (issued rows word now) (record { word = word; since = now; count = 0 })
new_once_issued rows word now none = by_test (list_any (is_this word now) rows) (none_by (is_this word now) rows none) where
  by_test : (t : Bool) → t ≡ false → Contains (cond t rows (keep_last 4096 (rows ++ record { word = word; since = now; count = 0 } ∷ [])))
      (record { word = word; since = now; count = 0 })
  by_test true e = absurd (cc)
  by_test false e = last_kept rows (record { word = word; since = now; count = 0 })
