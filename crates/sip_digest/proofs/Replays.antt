-- A credential that was accepted counts no more.
use Rattle.std.proofs.Common.{◌≡◌, ℕ, Bool, true, false, cond, List, [], ◌∷◌, Option, Some, None, refl, ap, arith}
use Rattle.std.specs.Prelude.{find, nat_lt}
use Rattle.std.specs.Option.{option_and_then, option_map_or}
use Rattle.std.proofs.lemmas.Bool.Decides.{nat_tests}
use Rattle.sip_digest.specs.declared.nonces.Nonce.{Nonce}
use Rattle.sip_digest.specs.declared.nonces.Worth.TheVariants.{Right, Stale, Wrong}
use Rattle.sip_digest.specs.declared.nonces.Worth.{Worth}
use Rattle.sip_digest.specs.Credential.{Credential, is_answer, count_of}
use Rattle.sip_digest.specs.NonceText.{word_of}
use Rattle.sip_digest.specs.Nonces.{is_this, counted, standing, row_of, worth_of, spent_by}
use Rattle.sip_digest.proofs.Counting.{with_count}

found_here : (b : Bool) (word count now : ℕ) (row : Nonce) (rows : List Nonce) (r : Nonce) → is_this word now row ≡ b
    → (find (is_this word now) rows ≡ Some r → find (is_this word now) (counted word count rows now) ≡ Some (with_count r count))
    → cond b (Some row) (find (is_this word now) rows) ≡ Some r
    → find (is_this word now) (cond b (with_count row count ∷ rows) (row ∷ counted word count rows now)) ≡ Some (with_count r count)
found_here true word count now row rows r is others found = let same : row ≡ r = cc in rw is (ap (λ (n : Nonce). Some (with_count n count)) same)
found_here false word count now row rows r is others found = rw is (others found)

-- the row that is found has the count now
found_again : (word count now : ℕ) (rows : List Nonce) (r : Nonce) → find (is_this word now) rows ≡ Some r
    → find (is_this word now) (counted word count rows now) ≡ Some (with_count r count)
found_again word count now [] r found = absurd cc
found_again word count now (row ∷ rows) r found =
    found_here (is_this word now row) word count now row rows r refl (found_again word count now rows r) found

not_above : (n : ℕ) → cond (nat_lt n n) Right Stale ≡ Stale
not_above n = grind (arith, nat_tests)

stale_where : (o : Option Nonce) (word count now : ℕ) (rows : List Nonce) → find (is_this word now) rows ≡ o → standing o (Some count) ≡ Right
    → standing (find (is_this word now) (counted word count rows now)) (Some count) ≡ Stale
stale_where None word count now rows is right = absurd cc
stale_where (Some r) word count now rows is right = rw (found_again word count now rows r is) (not_above count)

uncounted : (o : Option Nonce) → standing o None ≡ Right → ⊥
uncounted None right = absurd cc
uncounted (Some r) right = absurd cc

-- the count of a live nonce is stale once it was written
stale_standing : (word count : Option ℕ) (rows : List Nonce) (now : ℕ)
    → standing (option_and_then (λ w. find (is_this w now) rows) word) count ≡ Right
    → standing (option_and_then (λ w. find (is_this w now) (option_map_or (λ n. option_map_or (λ w'. counted w' n rows now) word rows) count rows)) word) count ≡ Stale
stale_standing None count rows now right = absurd cc
stale_standing (Some w) None rows now right = absurd (uncounted (find (is_this w now) rows) right)
stale_standing (Some w) (Some n) rows now right = stale_where (find (is_this w now) rows) w n now rows refl right

answered_right : (answer : Bool) (worth : Worth) → cond answer worth Wrong ≡ Right → (answer ≡ true) × (worth ≡ Right)
answered_right true worth right = (refl, right)
answered_right false worth right = absurd cc

-- the same of the credential that was accepted
stale_for : (rows : List Nonce) (a1 : List ℕ) (c : Credential) (now : ℕ) → worth_of rows a1 c now ≡ Right
    → standing (row_of (spent_by rows c now) c.nonce now) (count_of c) ≡ Stale
stale_for rows a1 c now right =
    stale_standing (word_of c.nonce) (count_of c) rows now (answered_right (is_answer a1 c) _ right).1

pub stale_once_spent : (rows : List Nonce) (a1 : List ℕ) (c : Credential) (now : ℕ) → worth_of rows a1 c now ≡ Right → worth_of (spent_by rows c now) a1 c now ≡ Stale
stale_once_spent rows a1 c now right =
    let answers = (answered_right (is_answer a1 c) _ right).0 in rw answers (stale_for rows a1 c now right)

not_right : (answer : Bool) (worth : Worth) → worth ≡ Stale → cond answer worth Wrong ≡ Right → ⊥
not_right true worth stale right = absurd cc
not_right false worth stale right = absurd cc

pub counts_once : (rows : List Nonce) (a1 b1 : List ℕ) (c d : Credential) (now : ℕ) → d.nonce ≡ c.nonce → count_of d ≡ count_of c
    → worth_of rows a1 c now ≡ Right → worth_of (spent_by rows c now) b1 d now ≡ Right → ⊥
counts_once rows a1 b1 c d now nonce count right =
    not_right (is_answer b1 d) _ (rw (nonce, count) (stale_for rows a1 c now right))
