-- The nonce of a right credential was issued by a challenge of the history before it.
use Rattle.std.proofs.Common.{◌≡◌, ◌∙◌, ℕ, zero, suc, ◌+◌, ◌≤◌, ◌<◌, Bool, true, false, cond, List, [], ◌∷◌, ◌++◌, length, Contains, Option, Some, None, refl, sym, ap}
use Rattle.std.proofs.Common.{subst, arith, drop}
use Rattle.std.specs.Prelude.{◌-◌, option_map}
use Rattle.std.specs.Option.{option_map_or}
use Rattle.std.specs.List.{AllByRecursion, list_any}
use Rattle.sip_message_form.specs.declared.message.Message.{Message}
use Rattle.sip_digest.specs.declared.nonces.Nonce.{Nonce}
use Rattle.sip_digest.specs.Credential.{Credential, count_of}
use Rattle.sip_digest.specs.NonceText.{nonce_text, word_of}
use Rattle.sip_digest.specs.Nonces.{is_this, issued, counted}
use Rattle.sip_auth.specs.Proof.{Proof, Right, Stale, Wrong, used, proof_of}
use Rattle.sip_auth.specs.RightAnswer.{IsRightAnswer}
use Rattle.sip_auth.proofs.RightAnswers.{right_rests}
use Rattle.sip_event.specs.declared.event.StepOut.{StepOut}
use Rattle.sip_event.specs.declared.event.Event.TheVariants.{Datagram, Time, Fault}
use Rattle.model_steps.specs.state.declared.server.Server.{Server}
use Rattle.model_steps.specs.state.declared.proxy_state.ProxyState.{ProxyState}
use Rattle.model_steps.specs.state.State.{first_state}
use Rattle.model_steps.specs.state.Arrival.{Arrival}
use Rattle.model_steps.specs.verdict_model.declared.question.Question.{Question}
use Rattle.model_steps.specs.verdict_model.Verdict.{Verdict, Drop, Respond, Copy, AckOn, Cancel, Answer, InDialog, Challenge, Deny, Send, Register, verdict_of}
use Rattle.model_steps.specs.Step.{Act, Given, Passing, moment_of, arrival_of}
use Rattle.sip_model.specs.Run.{Link, under, IsChain}
use Rattle.sip_model.specs.Histories.{asked_in, Judged, judged_at, with_issued, nonces_by, nonces_after, WasChallenged}
use Rattle.sip_model.proofs.Lists.{all_weaker, all_contains, head_there, tail_there}
use Rattle.sip_model.proofs.Places.{all_push}
use Rattle.sip_model.proofs.Steps.{stands_at, step_taken}
use Rattle.sip_model.proofs.Moments.{moment_of_chain_rises}
use Rattle.sip_model.proofs.Followed.{nonces_of_chain}
use Rattle.sip_model.proofs.CountsRise.{IsAsked, IsAskedBy, act_asked}

-- a challenge of a history issued a nonce of a word, at a moment
pub record IsIssued (server : Server) (history : List Link) (word since : ℕ) : Type 0 where
  pub link : Link
  pub there : Contains history link
  pub challenge : Judged
  pub is_judged : judged_at (under server link.config) link.before link.act ≡ Some challenge
  pub question : Question
  pub is_challenge : challenge.verdict ≡ Challenge question
  pub word_is : challenge.arrival.word ≡ word
  pub since_is : challenge.arrival.now ≡ since

-- the same of a row
abbrev IsRowIssued : Server → List Link → Nonce → Type 0
IsRowIssued server history row = IsIssued server history row.word row.since

-- what was issued in a history was in a longer one
issued_before : (server : Server) (link : Link) (history : List Link) (row : Nonce) → IsRowIssued server history row → IsRowIssued server (link ∷ history) row
issued_before server link history row h =
    record {
      link = h.link;
      there = tail_there link h.link history h.there;
      challenge = h.challenge;
      is_judged = h.is_judged;
      question = h.question;
      is_challenge = h.is_challenge;
      word_is = h.word_is;
      since_is = h.since_is;
    }

-- the last of some rows
all_dropped : (P : Nonce → Type 0) (n : ℕ) (xs : List Nonce) → AllByRecursion P xs → AllByRecursion P (drop n xs)
all_dropped P zero xs h = h
all_dropped P (suc n) [] h = tt
all_dropped P (suc n) (x ∷ xs) h = all_dropped P n xs h.1

module _ (server : Server) (history : List Link) where
  -- a use issues nothing
  counted_issued : (word count now : ℕ) (rows : List Nonce) → AllByRecursion (IsRowIssued server history) rows
      → AllByRecursion (IsRowIssued server history) (counted word count rows now)
  counted_issued word count now [] h = tt
  counted_issued word count now (row ∷ rows) h = by_test (is_this word now row) (counted_issued word count now rows h.1) where
    by_test : (t : Bool) → AllByRecursion (IsRowIssued server history) (counted word count rows now)
        → AllByRecursion (IsRowIssued server history) (cond t (record row { count = count } ∷ rows) (row ∷ counted word count rows now))
    by_test true rest = h
    by_test false rest = (h.0, rest)

  -- nor does a proof
  used_issued : (now : ℕ) (p : Proof) (rows : List Nonce) → AllByRecursion (IsRowIssued server history) rows
      → AllByRecursion (IsRowIssued server history) (used rows now p)
  used_issued now Stale rows h = h
  used_issued now Wrong rows h = h
  used_issued now (Right name c) rows h = by_parts (count_of c) (word_of c.nonce) where
    by_parts : (count word : Option ℕ) → AllByRecursion (IsRowIssued server history) (option_map_or (λ n. option_map_or (λ w. counted w n rows now) word rows) count rows)
    by_parts None word = h
    by_parts (Some n) None = h
    by_parts (Some n) (Some w) = counted_issued w n now rows h

  -- whatever was asked
  asked_issued : (now : ℕ) (o : Option Question) (rows : List Nonce) → AllByRecursion (IsRowIssued server history) rows
      → AllByRecursion (IsRowIssued server history) (option_map_or (λ q. used rows now q.proof) o rows)
  asked_issued now None rows h = h
  asked_issued now (Some q) rows h = used_issued now q.proof rows h

  -- a challenge issues its nonce
  new_issued : (rows : List Nonce) (word now : ℕ) → IsIssued server history word now → AllByRecursion (IsRowIssued server history) rows
      → AllByRecursion (IsRowIssued server history) (issued rows word now)
  new_issued rows word now new h = by_test (list_any (is_this word now) rows) where
    row : Nonce
    row = record { word = word; since = now; count = 0 }

    by_test : (t : Bool) → AllByRecursion (IsRowIssued server history) (cond t rows (drop (length (rows ++ row ∷ []) - 4096) (rows ++ row ∷ [])))
    by_test true = h
    by_test false = all_dropped (IsRowIssued server history) (length (rows ++ row ∷ []) - 4096) (rows ++ row ∷ []) (all_push (IsRowIssued server history) rows row h new)

  -- and no other verdict does
  verdict_issued : (a : Arrival) (v : Verdict) (rows : List Nonce) → ((q : Question) → v ≡ Challenge q → IsIssued server history a.word a.now)
      → AllByRecursion (IsRowIssued server history) rows
      → AllByRecursion (IsRowIssued server history) (with_issued a v rows)
  verdict_issued a (Challenge q) rows new h = new_issued rows a.word a.now (new q refl) h
  verdict_issued a (Deny q id) rows new h = h
  verdict_issued a (Send q id targets) rows new h = h
  verdict_issued a (Register q id outcome) rows new h = h
  verdict_issued a Drop rows new h = h
  verdict_issued a (Respond r b status) rows new h = h
  verdict_issued a (Copy r) rows new h = h
  verdict_issued a (AckOn address id) rows new h = h
  verdict_issued a (Cancel found) rows new h = h
  verdict_issued a (Answer status extras) rows new h = h
  verdict_issued a (InDialog address id) rows new h = h

-- each nonce after a history was issued by a challenge of it
rows_issued : (server : Server) (history : List Link) → AllByRecursion (IsRowIssued server history) (nonces_after server history)
rows_issued server [] = tt
rows_issued server (link ∷ history) =
    by_judged (judged_at (under server link.config) link.before link.act) refl
    (all_weaker (IsRowIssued server history) (IsRowIssued server (link ∷ history)) (issued_before server link history) (nonces_after server history)
    (rows_issued server history)) where
      by_judged : (o : Option Judged) → judged_at (under server link.config) link.before link.act ≡ o
          → AllByRecursion (IsRowIssued server (link ∷ history)) (nonces_after server history)
          → AllByRecursion (IsRowIssued server (link ∷ history)) (option_map_or (nonces_by (nonces_after server history)) o (nonces_after server history))
      by_judged None is h = h
      by_judged (Some j) is h =
          verdict_issued server (link ∷ history) j.arrival j.verdict _
          (λ q challenge. record {
            link = link;
            there = head_there link history;
            challenge = j;
            is_judged = is;
            question = q;
            is_challenge = challenge;
            word_is = refl;
            since_is = refl;
          })
          (asked_issued server (link ∷ history) j.arrival.now (asked_in j.verdict) (nonces_after server history) h)

-- ---- moments

-- a datagram is judged at a moment, if it is
abbrev IsJudgedBy : ℕ → Option Judged → Type 0
IsJudgedBy moment o = (j : Judged) → o ≡ Some j → j.arrival.now ≤ moment

-- the moment of a datagram that is judged is that of its step
judged_now : (server : Server) (state : ProxyState) (act : Act) (out : StepOut) (j : Judged) → judged_at server state act ≡ Some j
    → (j.arrival.now ≡ stands_at state act out) × (state.moment ≤ j.arrival.now)
judged_now server state (Given (Datagram at word from bytes)) out j e = by_said (verdict_of server state (arrival_of state at word from) bytes) e where
  by_said : (o : Option (Message × Verdict)) → option_map (λ x. record { arrival = arrival_of state at word from; message = x.0; verdict = x.1 }) o ≡ Some j
      → (j.arrival.now ≡ moment_of state at) × (state.moment ≤ j.arrival.now)
  by_said None e = absurd (cc)
  by_said (Some x) e =
      let same : record { arrival = arrival_of state at word from; message = x.0; verdict = x.1 } ≡ j = cc in
      let now : j.arrival.now ≡ moment_of state at = ap (λ (k : Judged). k.arrival.now) (sym same) in
      (now, omega (arith, now))
judged_now server state (Given (Time at)) out j e = absurd (cc)
judged_now server state (Given (Fault at ticket)) out j e = absurd (cc)
judged_now server state (Passing at) out j e = absurd (cc)

-- each datagram of a history was judged no later than its last moment
judged_before : (server : Server) (first : ℕ) (history : List Link) (last : ProxyState) → IsChain server (first_state first) history last
    → AllByRecursion (λ (link : Link). IsJudgedBy last.moment (judged_at (under server link.config) link.before link.act)) history
judged_before server first [] last chain = tt
judged_before server first (link ∷ history) last chain = (
  λ j e.
      let now = (judged_now (under server link.config) link.before link.act link.out j e).0 in
      let at : link.after.moment ≡ stands_at link.before link.act link.out = (step_taken (under server link.config) link.before link.act link.out link.after
      chain.1).is_at in
      let last_is : last.moment ≡ link.after.moment = ap (λ (s : ProxyState). s.moment) chain.0 in
      omega (arith, now, at, last_is),
  all_weaker (λ (earlier : Link). IsJudgedBy link.before.moment (judged_at (under server earlier.config) earlier.before earlier.act))
      (λ (earlier : Link). IsJudgedBy last.moment (judged_at (under server earlier.config) earlier.before earlier.act))
      (λ earlier h j e. let before = h j e in let rises = moment_of_chain_rises server first link history last chain in omega (arith, before, rises)) history
      (judged_before server first history link.before chain.2),
)

-- a row that lives is recent
is_recent : (now since : ℕ) → now - since < 300000 → now < since + 300000
is_recent now since h = omega (arith, h)

-- The nonce of a right credential was issued by a challenge of the history before it
pub challenged_before : (server : Server) (first : ℕ) (link : Link) (history : List Link) (last : ProxyState) → IsChain server (first_state first) (link ∷ history) last
    → (j : Judged) (q : Question) (name : List ℕ) (c : Credential) → judged_at (under server link.config) link.before link.act ≡ Some j → asked_in j.verdict ≡ Some q
    → q.proof ≡ Right name c
    → WasChallenged server history j.arrival.now c.nonce
challenged_before server first link history last chain j q name c is asked right =
    let known : IsAskedBy (under server link.config) link.before.nonces (Some j) = subst (IsAskedBy (under server link.config) link.before.nonces) is
    (act_asked (under server link.config) link.before link.act) in
    let proof : q.proof ≡ proof_of server.config.realm link.config.users link.before.nonces j.arrival.now j.message =
    subst (IsAsked (under server link.config) link.before.nonces j.arrival.now j.message) asked known in
    let answer : IsRightAnswer server.config.realm link.config.users link.before.nonces j.arrival.now j.message name c =
    right_rests server.config.realm link.config.users link.before.nonces j.arrival.now j.message name c (sym proof ∙ right) in
    let all : AllByRecursion (IsRowIssued server history) link.before.nonces =
    subst (AllByRecursion (IsRowIssued server history)) (sym (nonces_of_chain server first history link.before chain.2)) (rows_issued server history) in
    let row : IsRowIssued server history answer.row = all_contains (IsRowIssued server history) link.before.nonces answer.row all answer.was_issued in
    record {
      link = row.link;
      is_there = row.there;
      challenge = row.challenge;
      is_judged = row.is_judged;
      question = row.question;
      is_challenge = row.is_challenge;
      is_its_nonce = answer.is_its_text ∙ ap nonce_text (sym row.word_is);
      is_before =
          let earlier : row.challenge.arrival.now ≤ link.before.moment =
          all_contains (λ (x : Link). IsJudgedBy link.before.moment (judged_at (under server x.config) x.before x.act)) history row.link
          (judged_before server first history link.before chain.2) row.there row.challenge row.is_judged in
          let later : link.before.moment ≤ j.arrival.now = (judged_now (under server link.config) link.before link.act link.out j is).1 in
          omega (arith, earlier, later);
      is_recent = subst (λ (since : ℕ). j.arrival.now < since + 300000) (sym row.since_is) (is_recent j.arrival.now answer.row.since answer.is_live);
    }
