-- What a right proof rests on.
use Rattle.std.proofs.Common.{◌≡◌, ◌∙◌, ℕ, ◌<◌, Bool, true, false, cond, List, [], ◌∷◌, find, Contains, Option, Some, None, refl, sym, ap, subst, arith, is_some}
use Rattle.std.specs.Prelude.{◌&&◌, nat_lt}
use Rattle.std.specs.Option.{option_and_then}
use Rattle.std.proofs.lemmas.Bool.Decides.{nat_tests}
use Rattle.std.proofs.lemmas.Slice.Eq.{bytes_eq-Decides}
use Rattle.std.proofs.lemmas.List.Elements.{Contains-append_right, Contains-append_left}
use Rattle.sip_message_form.specs.declared.message.Start.{Start}
use Rattle.sip_message_form.specs.declared.message.Start.TheVariants.{Request, Status}
use Rattle.sip_message_form.specs.declared.message.Message.{Message}
use Rattle.sip_message_fields.specs.Values.{values_of}
use Rattle.sip_header_credentials.specs.declared.credentials.Credentials.{Credentials}
use Rattle.sip_header_credentials.specs.Credentials.{credentials_of, is_realm}
use Rattle.sip_digest.specs.Answers.{answer_of}
use Rattle.sip_digest.specs.Credential.{Credential, is_answer, count_of}
use Rattle.sip_digest.specs.NonceText.{nonce_text, word_of}
use Rattle.sip_digest.specs.Nonces.{IsLive, is_this, row_of, standing, worth_of}
use Rattle.sip_digest.specs.declared.nonces.Nonce.{Nonce}
use Rattle.sip_digest.specs.declared.nonces.Worth.{Worth}
use Rattle.sip_digest.specs.declared.nonces.Worth.TheVariants as Worths
use Rattle.sip_digest.proofs.NonceTexts.{names_word}
use Rattle.sip_policy.specs.declared.user.User.{User}
use Rattle.sip_policy.specs.User.{is_named}
use Rattle.sip_auth.specs.Proof as Proofs
use Rattle.sip_auth.specs.Proof.{Claim, for_realm, or_else, first_for_realm, credentials_field, claim_of, is_equal_uri, key_of, proof_with_key, proof_by, proof_from}
use Rattle.sip_auth.specs.Proof.{proof_in, proof_of}
use Rattle.sip_auth.specs.RightAnswer.{IsRightAnswer}

-- ---- lists

-- a list contains its head
head_there : {X : Type 0} (x : X) (xs : List X) → Contains (x ∷ xs) x
head_there x xs = Contains-append_left (x ∷ []) xs x (0, omega arith, refl)

-- and what its tail contains
tail_there : {X : Type 0} (x y : X) (xs : List X) → Contains xs y → Contains (x ∷ xs) y
tail_there x y xs h = Contains-append_right (x ∷ []) xs y h

-- what is found is there, and passes
pub found_there : {X : Type 0} (p : X → Bool) (xs : List X) (y : X) → find p xs ≡ Some y → Contains xs y × (p y ≡ true)
found_there p [] y e = absurd (cc)
found_there p (x ∷ xs) y e = by_test (p x) refl (λ later. found_there p xs y later) e where
  by_test : (t : Bool) → p x ≡ t → (find p xs ≡ Some y → Contains xs y × (p y ≡ true)) → cond t (Some x) (find p xs) ≡ Some y → Contains (x ∷ xs) y × (p y ≡ true)
  by_test true is rest e = let same : x ≡ y = cc in (subst (Contains (x ∷ xs)) same (head_there x xs), subst (λ z. p z ≡ true) same is)
  by_test false is rest e = let later = rest e in (tail_there x y xs later.0, later.1)

-- ---- the nonce

-- a credential is right by a row of its nonce that lives, and a count above the row's
pub record IsByRow (rows : List Nonce) (now : ℕ) (c : Credential) : Type 0 where
  pub row : Nonce
  pub there : Contains rows row
  pub is_text : c.nonce ≡ nonce_text row.word
  pub is_live : IsLive now row
  pub count : ℕ
  pub is_count : count_of c ≡ Some count
  pub is_fresh : row.count < count

-- a row of a word that lives
its_word : (word now : ℕ) (row : Nonce) → is_this word now row ≡ true → row.word ≡ word
its_word word now row e = grind (arith, nat_tests)

its_life : (word now : ℕ) (row : Nonce) → is_this word now row ≡ true → IsLive now row
its_life word now row e = grind (arith, nat_tests)

pub by_row : (rows : List Nonce) (now : ℕ) (c : Credential) → standing (row_of rows c.nonce now) (count_of c) ≡ Worths.Right → IsByRow rows now c
by_row rows now c right = by_word (word_of c.nonce) refl right where
  by_count : (word : ℕ) → word_of c.nonce ≡ Some word → (row : Nonce) → find (is_this word now) rows ≡ Some row → (o : Option ℕ) → count_of c ≡ o
      → standing (Some row) o ≡ Worths.Right → IsByRow rows now c
  by_count word named row found None counts e = absurd (cc)
  by_count word named row found (Some count) counts e = by_test (nat_lt row.count count) refl e where
    by_test : (t : Bool) → nat_lt row.count count ≡ t → cond t Worths.Right Worths.Stale ≡ Worths.Right → IsByRow rows now c
    by_test true less right =
        let it = found_there (is_this word now) rows row found in
        let text : c.nonce ≡ nonce_text word = ((names_word c.nonce word).0 named).1 in
        record {
          row = row;
          there = it.0;
          is_text = text ∙ ap nonce_text (sym (its_word word now row it.1));
          is_live = its_life word now row it.1;
          count = count;
          is_count = counts;
          is_fresh = grind (arith, nat_tests);
        }
    by_test false less right = absurd (cc)

  by_found : (word : ℕ) → word_of c.nonce ≡ Some word → (o : Option Nonce) → find (is_this word now) rows ≡ o → standing o (count_of c) ≡ Worths.Right
      → IsByRow rows now c
  by_found word named None found e = absurd (cc)
  by_found word named (Some row) found e = by_count word named row found (count_of c) refl e

  by_word : (o : Option ℕ) → word_of c.nonce ≡ o → standing (option_and_then (λ word. find (is_this word now) rows) o) (count_of c) ≡ Worths.Right → IsByRow rows now c
  by_word None named e = absurd (cc)
  by_word (Some word) named e = by_found word named (find (is_this word now) rows) refl e

-- a credential that is worth something has the answer
pub record IsByAnswer (rows : List Nonce) (now : ℕ) (a1 : List ℕ) (c : Credential) : Type 0 where
  pub is_answer : c.response ≡ answer_of c.algorithm a1 c.method c.uri c.nonce c.protection
  pub by_row : IsByRow rows now c

pub by_answer : (rows : List Nonce) (now : ℕ) (a1 : List ℕ) (c : Credential) → worth_of rows a1 c now ≡ Worths.Right → IsByAnswer rows now a1 c
by_answer rows now a1 c right = by_test (is_answer a1 c) refl right where
  by_test : (t : Bool) → is_answer a1 c ≡ t → cond t (standing (row_of rows c.nonce now) (count_of c)) Worths.Wrong ≡ Worths.Right → IsByAnswer rows now a1 c
  by_test true is e = record {
    is_answer = (bytes_eq-Decides c.response (answer_of c.algorithm a1 c.method c.uri c.nonce c.protection)).0 is;
    by_row = by_row rows now c e;
  }
  by_test false is e = absurd (cc)

-- ---- the field

-- credentials that count are those of a value, for this realm
record IsOfValue (realm : List ℕ) (values : List (List ℕ)) (c : Credentials) : Type 0 where
  value : List ℕ
  there : Contains values value
  is_read : credentials_of value ≡ Some c
  is_for_realm : is_realm realm c.realm ≡ true

of_value : (realm : List ℕ) (values : List (List ℕ)) (c : Credentials) → first_for_realm realm values ≡ Some c → IsOfValue realm values c
of_value realm [] c e = absurd (cc)
of_value realm (value ∷ values) c e = by_read (credentials_of value) refl (of_value realm values c) e where
  later : IsOfValue realm values c → IsOfValue realm (value ∷ values) c
  later h = record { value = h.value; there = tail_there value h.value values h.there; is_read = h.is_read; is_for_realm = h.is_for_realm }

  by_realm : (d : Credentials) → credentials_of value ≡ Some d → (t : Bool) → is_realm realm d.realm ≡ t
      → (first_for_realm realm values ≡ Some c → IsOfValue realm values c)
      → or_else (cond t (Some d) None) (first_for_realm realm values) ≡ Some c → IsOfValue realm (value ∷ values) c
  by_realm d read true is rest found =
      let same : d ≡ c = cc in
      record {
        value = value;
        there = head_there value values;
        is_read = read ∙ ap Some same;
        is_for_realm = subst (λ (x : Credentials). is_realm realm x.realm ≡ true) same is;
      }
  by_realm d read false is rest found = later (rest found)

  by_read : (o : Option Credentials) → credentials_of value ≡ o → (first_for_realm realm values ≡ Some c → IsOfValue realm values c)
      → or_else (for_realm realm o) (first_for_realm realm values) ≡ Some c → IsOfValue realm (value ∷ values) c
  by_read None read rest found = later (rest found)
  by_read (Some d) read rest found = by_realm d read (is_realm realm d.realm) refl rest found

-- ---- the user

-- a claim that proves a user
record IsByUser (users : List User) (nonces : List Nonce) (now : ℕ) (uri : List ℕ) (claim : Claim) : Type 0 where
  is_for_uri : is_equal_uri claim.credential.uri uri ≡ true
  user : User
  there : Contains users user
  has_name : user.name ≡ claim.name
  key : List ℕ
  is_key : key_of user claim.credential.algorithm ≡ Some key
  by_answer : IsByAnswer nonces now key claim.credential

-- it is what was proved
judged_right : (claim : Claim) (worth : Worth) (name : List ℕ) (c : Credential) → Proofs.judged claim worth ≡ Proofs.Right name c
    → (worth ≡ Worths.Right) × (claim.name ≡ name) × (claim.credential ≡ c)
judged_right claim Worths.Right name c e =
    let plain : Proofs.Right claim.name claim.credential ≡ Proofs.Right name c = e in
    let same_name : claim.name ≡ name = cc in
    let same : claim.credential ≡ c = cc in
    (refl, same_name, same)
judged_right claim Worths.Stale name c e = absurd (cc)
judged_right claim Worths.Wrong name c e = absurd (cc)

by_user : (users : List User) (nonces : List Nonce) (now : ℕ) (uri : List ℕ) (claim : Claim) (name : List ℕ) (c : Credential)
    → proof_from users nonces now uri (Some claim) ≡ Proofs.Right name c
    → IsByUser users nonces now uri claim × (claim.name ≡ name) × (claim.credential ≡ c)
by_user users nonces now uri claim name c right = by_tests (is_some (count_of claim.credential)) (is_equal_uri claim.credential.uri uri) refl right where
  by_key : is_equal_uri claim.credential.uri uri ≡ true → (user : User) → find (is_named claim.name) users ≡ Some user → (o : Option (List ℕ))
      → key_of user claim.credential.algorithm ≡ o
      → proof_with_key nonces now claim o ≡ Proofs.Right name c → IsByUser users nonces now uri claim × (claim.name ≡ name) × (claim.credential ≡ c)
  by_key equal user found None is e = absurd (cc)
  by_key equal user found (Some key) is e =
      let judged = judged_right claim (worth_of nonces key claim.credential now) name c e in
      let it = found_there (is_named claim.name) users user found in (
        record {
          is_for_uri = equal;
          user = user;
          there = it.0;
          has_name = (bytes_eq-Decides user.name claim.name).0 it.1;
          key = key;
          is_key = is;
          by_answer = by_answer nonces now key claim.credential judged.0;
        },
        judged.1,
        judged.2,
      )

  by_found : is_equal_uri claim.credential.uri uri ≡ true → (o : Option User) → find (is_named claim.name) users ≡ o → proof_by nonces now claim o ≡ Proofs.Right name c
      → IsByUser users nonces now uri claim × (claim.name ≡ name) × (claim.credential ≡ c)
  by_found equal None found e = absurd (cc)
  by_found equal (Some user) found e = by_key equal user found (key_of user claim.credential.algorithm) refl e

  by_tests : (counts equal : Bool) → is_equal_uri claim.credential.uri uri ≡ equal → cond (counts && equal) (proof_by nonces now claim (find (is_named claim.name) users))
      Proofs.Wrong ≡ Proofs.Right name c
      → IsByUser users nonces now uri claim × (claim.name ≡ name) × (claim.credential ≡ c)
  by_tests true true is e = by_found is (find (is_named claim.name) users) refl e
  by_tests true false is e = absurd (cc)
  by_tests false equal is e = absurd (cc)

-- ---- the whole

-- A right proof rests on a right answer
pub right_rests : (realm : List ℕ) (users : List User) (nonces : List Nonce) (now : ℕ) (m : Message) (name : List ℕ) (c : Credential)
    → proof_of realm users nonces now m ≡ Proofs.Right name c
    → IsRightAnswer realm users nonces now m name c
right_rests realm users nonces now m name c right = by_start m.start refl right where
  by_claim : (method uri version : List ℕ) → m.start ≡ Request method uri version → (credentials : Credentials)
      → IsOfValue realm (values_of (credentials_field method) m.fields) credentials → (o : Option Claim)
      → claim_of method credentials ≡ o → proof_from users nonces now uri o ≡ Proofs.Right name c → IsRightAnswer realm users nonces now m name c
  by_claim method uri version is credentials of None claims e = absurd (cc)
  by_claim method uri version is credentials of (Some claim) claims e =
      let proved = by_user users nonces now uri claim name c e in
      let user : IsByUser users nonces now uri (record { name = name; credential = c }) =
      subst (λ (x : Credential). IsByUser users nonces now uri (record { name = name; credential = x })) proved.2
      (subst (λ (x : List ℕ). IsByUser users nonces now uri (record { name = x; credential = claim.credential })) proved.1 proved.0) in
      record {
        method = method;
        uri = uri;
        version = version;
        is_request = is;
        value = of.value;
        is_in_field = of.there;
        credentials = credentials;
        is_read = of.is_read;
        is_for_realm = of.is_for_realm;
        is_claim = claims ∙ ap (λ (x : List ℕ). Some (record { name = x; credential = claim.credential })) proved.1
            ∙ ap (λ (x : Credential). Some (record { name = name; credential = x })) proved.2;
        is_for_uri = user.is_for_uri;
        user = user.user;
        is_configured = user.there;
        has_name = user.has_name;
        key = user.key;
        is_key = user.is_key;
        is_answer = user.by_answer.is_answer;
        row = user.by_answer.by_row.row;
        was_issued = user.by_answer.by_row.there;
        is_its_text = user.by_answer.by_row.is_text;
        is_live = user.by_answer.by_row.is_live;
        count = user.by_answer.by_row.count;
        is_count = user.by_answer.by_row.is_count;
        is_fresh = user.by_answer.by_row.is_fresh;
      }

  by_value : (method uri version : List ℕ) → m.start ≡ Request method uri version → (o : Option Credentials)
      → first_for_realm realm (values_of (credentials_field method) m.fields) ≡ o
      → proof_from users nonces now uri (option_and_then (claim_of method) o) ≡ Proofs.Right name c → IsRightAnswer realm users nonces now m name c
  by_value method uri version is None found e = absurd (cc)
  by_value method uri version is (Some credentials) found e =
      by_claim method uri version is credentials (of_value realm (values_of (credentials_field method) m.fields) credentials found) (claim_of method credentials) refl e

  by_start : (start : Start) → m.start ≡ start → proof_in realm users nonces now m.fields start ≡ Proofs.Right name c → IsRightAnswer realm users nonces now m name c
  by_start (Status code reason) is e = absurd (cc)
  by_start (Request method uri version) is e = by_value method uri version is (first_for_realm realm (values_of (credentials_field method) m.fields)) refl e
