-- Branches that are edited one by one: which of them are final before and after.
use Rattle.std.proofs.Common.{◌≡◌, ◌==◌, Bool, true, false, not, ◌&&◌, ◌||◌, cond, List, [], ◌∷◌, map, filter, Contains, refl, sym, ap, ◌∙◌, true≢false, arith}
use Rattle.std.proofs.lemmas.Bool.Decides.{nat_tests}
use Rattle.std.specs.List.{AllByRecursion, list_all}
use Rattle.model_steps.specs.state.declared.branch.Branch.{Branch}
use Rattle.model_steps.specs.state.declared.branch.Phase.{Phase}
use Rattle.model_steps.specs.state.State.{is_final}
use Rattle.model_steps.specs.context_model.Branches.{is_same_branch, turned, phased, marked_branch}
use Rattle.sip_model.proofs.Later.{bare_branch}
use Rattle.sip_model.proofs.Places.{in_from_contains}
use Rattle.sip_model.proofs.Apart.{TargetsDiffer, only_target}

-- ---- tests

-- both hold
pub and_parts : (p q : Bool) → (p && q) ≡ true → (p ≡ true) × (q ≡ true)
and_parts true q e = (refl, e)
and_parts false q e = absurd (cc)

-- both do
pub and_both : (p q : Bool) → p ≡ true → q ≡ true → (p && q) ≡ true
and_both true q e f = f
and_both false q e f = absurd (cc)

-- a branch that is the same as one to a target goes to a target of the same number
pub same_parts : (x b : Branch) → is_same_branch x b ≡ true → b.is_cancel ≡ false → (x.number ≡ b.number) × (x.is_cancel ≡ false)
same_parts x b same target = by_tests (x.number == b.number) refl x.is_cancel refl b.is_cancel target same where
  by_tests : (n : Bool) → (x.number == b.number) ≡ n → (c : Bool) → x.is_cancel ≡ c → (d : Bool) → d ≡ false → (n && cond c d (not d)) ≡ true
      → (x.number ≡ b.number) × (x.is_cancel ≡ false)
  by_tests false n c is d e both = absurd (cc)
  by_tests true n true is true e both = absurd (true≢false e)
  by_tests true n true is false e both = absurd (cc)
  by_tests true n false is d e both = (grind (arith, nat_tests), is)

-- of two branches to targets that are the same there is one
pub is_that_one : (bs : List Branch) (x b : Branch) → TargetsDiffer bs → Contains bs x → Contains bs b → b.is_cancel ≡ false → is_same_branch x b ≡ true → x ≡ b
is_that_one bs x b differ there here target same =
    let parts = same_parts x b same target in
    only_target bs x b differ (in_from_contains bs x there) (in_from_contains bs b here) parts.1 target parts.0

-- ---- edits

-- an edit of a branch: it goes where it went, is a CANCEL if it was, and its phase stays, unless it is this one
pub record Edits (b : Branch) (edit : Branch → Branch) : Type 0 where
  pub goes : (x : Branch) → bare_branch (edit x) ≡ bare_branch x
  pub keeps : (x : Branch) → (edit x).is_cancel ≡ x.is_cancel
  pub others : (x : Branch) → is_same_branch x b ≡ false → (edit x).phase ≡ x.phase

-- a branch in another phase is one
pub phased_edits : (b c : Branch) (phase : Phase) → ((x : Branch) → is_same_branch x c ≡ is_same_branch x b) → Edits b (phased c phase)
phased_edits b c phase one = record {
  goes = λ x. goes x (is_same_branch x c);
  keeps = λ x. keeps x (is_same_branch x c);
  others = λ x other. ap (λ (t : Bool). (cond t (turned c phase x) x).phase) (one x ∙ other);
} where
  goes : (x : Branch) (t : Bool) → bare_branch (cond t (turned c phase x) x) ≡ bare_branch x
  goes x true = refl
  goes x false = refl

  keeps : (x : Branch) (t : Bool) → (cond t (turned c phase x) x).is_cancel ≡ x.is_cancel
  keeps x true = refl
  keeps x false = refl

-- so is one that is to be cancelled besides
pub marked_edits : (b : Branch) (edit : Branch → Branch) (t : Bool) → Edits b edit → Edits b (λ (x : Branch). cond t (marked_branch (edit x)) (edit x))
marked_edits b edit t h = record {
  goes = λ x. goes t (edit x) ((edit x).is_cancel || is_final (edit x).phase) ∙ h.goes x;
  keeps = λ x. keeps t (edit x) ((edit x).is_cancel || is_final (edit x).phase) ∙ h.keeps x;
  others = λ x other. stays t (edit x) ((edit x).is_cancel || is_final (edit x).phase) ∙ h.others x other;
} where
  goes : (t : Bool) (y : Branch) (u : Bool) → bare_branch (cond t (cond u y (record y { wants_cancel = true })) y) ≡ bare_branch y
  goes true y true = refl
  goes true y false = refl
  goes false y u = refl

  keeps : (t : Bool) (y : Branch) (u : Bool) → (cond t (cond u y (record y { wants_cancel = true })) y).is_cancel ≡ y.is_cancel
  keeps true y true = refl
  keeps true y false = refl
  keeps false y u = refl

  stays : (t : Bool) (y : Branch) (u : Bool) → (cond t (cond u y (record y { wants_cancel = true })) y).phase ≡ y.phase
  stays true y true = refl
  stays true y false = refl
  stays false y u = refl

-- ---- which are final

-- whether all branches to targets have a final response
abbrev pub targets_final : List Branch → Bool
targets_final bs = list_all (λ (b : Branch). is_final b.phase) (filter (λ (b : Branch). not b.is_cancel) bs)

-- where all are after an edit that makes none final, all were before
pub were_final : (edit : Branch → Branch) (bs : List Branch) → ((x : Branch) → (edit x).is_cancel ≡ x.is_cancel)
    → AllByRecursion (λ (x : Branch). x.is_cancel ≡ false → is_final (edit x).phase ≡ true → is_final x.phase ≡ true) bs → targets_final (map edit bs) ≡ true
    → targets_final bs ≡ true
were_final edit [] keeps all e = refl
were_final edit (x ∷ xs) keeps all e = by_cancel x.is_cancel refl (keeps x) (λ later. were_final edit xs keeps all.1 later) e where
  by_cancel : (c : Bool) → x.is_cancel ≡ c → (edit x).is_cancel ≡ x.is_cancel → (targets_final (map edit xs) ≡ true → targets_final xs ≡ true)
      → targets_final (edit x ∷ map edit xs) ≡ true → targets_final (x ∷ xs) ≡ true
  by_cancel true is same rest e =
      let now : (edit x).is_cancel ≡ true = same ∙ is in
      rw is (rest (rw now at e))
  by_cancel false is same rest e =
      let now : (edit x).is_cancel ≡ false = same ∙ is in
      let parts = and_parts (is_final (edit x).phase) (targets_final (map edit xs)) (rw now at e) in
      rw is (and_both (is_final x.phase) (targets_final xs) (all.0 is parts.0) (rest parts.1))

-- where all are after an edit of one branch, all others were before
pub others_were_final : (b : Branch) (edit : Branch → Branch) → Edits b edit → (bs : List Branch) → targets_final (map edit bs) ≡ true
    → AllByRecursion (λ (x : Branch). x.is_cancel ≡ false → is_same_branch x b ≡ false → is_final x.phase ≡ true) bs
others_were_final b edit h [] e = tt
others_were_final b edit h (x ∷ xs) e = by_cancel x.is_cancel refl (h.keeps x) (λ later. others_were_final b edit h xs later) e where
  by_cancel : (c : Bool) → x.is_cancel ≡ c → (edit x).is_cancel ≡ x.is_cancel
      → (targets_final (map edit xs) ≡ true → AllByRecursion (λ (y : Branch). y.is_cancel ≡ false → is_same_branch y b ≡ false → is_final y.phase ≡ true) xs)
      → targets_final (edit x ∷ map edit xs) ≡ true
      → AllByRecursion (λ (y : Branch). y.is_cancel ≡ false → is_same_branch y b ≡ false → is_final y.phase ≡ true) (x ∷ xs)
  by_cancel true is same rest e =
      let now : (edit x).is_cancel ≡ true = same ∙ is in
      ((λ target other. absurd (true≢false (sym is ∙ target))), rest (rw now at e))
  by_cancel false is same rest e =
      let now : (edit x).is_cancel ≡ false = same ∙ is in
      let parts = and_parts (is_final (edit x).phase) (targets_final (map edit xs)) (rw now at e) in
      ((λ target other. ap is_final (sym (h.others x other)) ∙ parts.0), rest parts.1)

-- a branch waits still where none became final
pub waits_still : (before after : List Branch) → (targets_final after ≡ true → targets_final before ≡ true) → targets_final before ≡ false → targets_final after ≡ false
waits_still before after back waits = by_test (targets_final after) refl where
  by_test : (t : Bool) → targets_final after ≡ t → targets_final after ≡ false
  by_test true e = absurd (true≢false (sym (back e) ∙ waits))
  by_test false e = e

-- ---- maps

-- an edit that changes nothing
pub map_same : (bs : List Branch) → bs ≡ map (λ (x : Branch). x) bs
map_same [] = refl
map_same (b ∷ bs) = ap (λ (xs : List Branch). b ∷ xs) (map_same bs)

-- one edit after another
pub map_both : (f g : Branch → Branch) (bs : List Branch) → map f (map g bs) ≡ map (λ (x : Branch). f (g x)) bs
map_both f g [] = refl
map_both f g (b ∷ bs) = ap (λ (xs : List Branch). f (g b) ∷ xs) (map_both f g bs)

-- ---- the last branch ends

-- all branches to targets are final after an edit that ends one, where all others were
pub all_now : (b : Branch) (edit : Branch → Branch) → Edits b edit → ((x : Branch) → is_same_branch x b ≡ true → is_final (edit x).phase ≡ true) → (bs : List Branch)
    → AllByRecursion (λ (x : Branch). x.is_cancel ≡ false → is_same_branch x b ≡ false → is_final x.phase ≡ true) bs → targets_final (map edit bs) ≡ true
all_now b edit h ends [] others = refl
all_now b edit h ends (x ∷ xs) others = by_cancel x.is_cancel refl (is_same_branch x b) refl (all_now b edit h ends xs others.1) where
  by_cancel : (c : Bool) → x.is_cancel ≡ c → (t : Bool) → is_same_branch x b ≡ t → targets_final (map edit xs) ≡ true → targets_final (edit x ∷ map edit xs) ≡ true
  by_cancel true is t same rest =
      let now : (edit x).is_cancel ≡ true = h.keeps x ∙ is in
      rw now rest
  by_cancel false is true same rest =
      let now : (edit x).is_cancel ≡ false = h.keeps x ∙ is in
      rw now (and_both (is_final (edit x).phase) (targets_final (map edit xs)) (ends x same) rest)
  by_cancel false is false same rest =
      let now : (edit x).is_cancel ≡ false = h.keeps x ∙ is in
      rw now (and_both (is_final (edit x).phase) (targets_final (map edit xs)) (ap is_final (h.others x same) ∙ others.0 is same) rest)
