-- Which classes of rules a rule that applies is of.
use Rattle.std.proofs.Common.{◌≡◌, ℕ, Bool, true, false, ◌&&◌, ◌||◌, ◌⊎◌, inl, inr, nat_eq, ◌+◌, ◌<◌, length, take, get_or, List, [], ◌∷◌, ◌++◌, Option, Some, None, refl}
use Rattle.std.proofs.Common.{sym, ap, ap₂, subst, ◌∙◌}
use Rattle.std.specs.List.{list_any}
use Rattle.std.specs.Option.{option_copied}
use Rattle.std.specs.Str.{bytes_eq}
use Rattle.std.specs.Cmp.Lexicographic.{same_text}
use Rattle.std.proofs.lemmas.Bool.Decides.{Decides-eqb}
use Rattle.std.proofs.lemmas.List.{take_more, map-append}
use Rattle.std.proofs.lemmas.List.Folds.{list_any-append}
use Rattle.sip_policy.specs.declared.user.User.{User}
use Rattle.sip_policy.specs.declared.operation.Operation.{Operation}
use Rattle.sip_policy.specs.declared.operation.OperationPattern.{OperationPattern}
use Rattle.sip_policy.specs.declared.operation.OperationPattern.TheVariants as Pattern
use Rattle.sip_policy.specs.declared.who.Who.{Who}
use Rattle.sip_policy.specs.declared.who.Who.TheVariants.{Anyone, Proven, Group}
use Rattle.sip_policy.specs.declared.rule.Rule.{Rule}
use Rattle.sip_policy.specs.Who.{matches_who}
use Rattle.sip_policy.specs.Operation.{matches_operation}
use Rattle.sip_base.specs.Code.{mixed}
use Rattle.sip_policy_index.specs.Code.{text_code, operation_code, class_code, is_of_class, is_of_classes, group_codes, class_codes}
use Rattle.sip_policy.specs.Window.{holds}
use Rattle.sip_policy.specs.TargetPattern.{matches_target}
use Rattle.sip_policy_index.specs.declared.rule_question.RuleQuestion.{RuleQuestion}
use Rattle.sip_policy_index.specs.RuleQuestion.{applies_to, is_looked_at, AreGroupsOf, AreGroupsOfProven}

same_number : (n : ℕ) → nat_eq n n ≡ true
same_number n = (Decides-eqb n n).1 refl

or_true : (b : Bool) → (b || true) ≡ true
or_true true = refl
or_true false = refl

in_groups : (operation : ℕ) (group : List ℕ) (groups : List (List ℕ)) → list_any (bytes_eq group) groups ≡ true
    → list_any (λ (code : ℕ). nat_eq code (text_code (mixed operation 3) group)) (group_codes operation groups) ≡ true
in_groups operation group [] e = absurd cc
in_groups operation group (g ∷ gs) e = by (bytes_eq group g) refl e (in_groups operation group gs)
  where
    by : (b : Bool) → bytes_eq group g ≡ b → (b || list_any (bytes_eq group) gs) ≡ true
        → (list_any (bytes_eq group) gs ≡ true → list_any (λ (code : ℕ). nat_eq code (text_code (mixed operation 3) group)) (group_codes operation gs) ≡ true)
        → (nat_eq (text_code (mixed operation 3) g) (text_code (mixed operation 3) group)
        || list_any (λ (code : ℕ). nat_eq code (text_code (mixed operation 3) group)) (group_codes operation gs)) ≡ true
    by true is e rest = rw (same_text group g (sym is)) (rw (same_number (text_code (mixed operation 3) g)) refl)
    by false is e rest = ap (λ (b : Bool). nat_eq (text_code (mixed operation 3) g) (text_code (mixed operation 3) group) || b) (rest e) ∙ or_true _

-- a user pattern that a proven user is of is in one of the user's classes
in_classes : (users : List User) (name : List ℕ) (groups : List (List ℕ)) → AreGroupsOf users name groups → (operation : ℕ) (who : Who)
    → matches_who users (Some name) who ≡ true
    → list_any (λ (code : ℕ). nat_eq code (class_code operation who)) (class_codes name groups operation) ≡ true
in_classes users name groups h operation Anyone e = rw (same_number (mixed operation 1)) refl
in_classes users name groups h operation Proven e = rw (same_number (mixed operation 1)) refl
in_classes users name groups h operation (Who.User wanted) e =
    rw (same_text name wanted (sym e)) (rw (same_number (text_code (mixed operation 2) wanted)) (or_true _))
in_classes users name groups h operation (Group group) e =
    let there : list_any (bytes_eq group) groups ≡ true = sym (h.are group) ∙ e in
    rw (in_groups operation group groups there) (ap (λ (b : Bool). nat_eq (mixed operation 1) (text_code (mixed operation 3) group) || b) (or_true _) ∙ or_true _)

-- a rule whose user pattern matches is looked at under the code of its operation pattern
looked_at : (users : List User) (proven : Option (List ℕ)) (groups : List (List ℕ)) → ((name : List ℕ) → proven ≡ Some name → AreGroupsOf users name groups)
    → (rule : Rule) → matches_who users proven rule.who ≡ true → is_looked_at proven groups (operation_code rule.operation) rule ≡ true
looked_at users None groups h rule e = same_number (operation_code rule.operation)
looked_at users (Some name) groups h rule e = in_classes users name groups (h name refl) (operation_code rule.operation) rule.who e

or_false : (b : Bool) → (b || false) ≡ b
or_false true = refl
or_false false = refl

-- one group more
pub more_groups : (operation : ℕ) (groups : List (List ℕ)) (i code : ℕ) (group : List ℕ) → i < length groups → group ≡ get_or groups i group
    → code ≡ text_code (mixed operation 3) group
    → (rule : Rule) → (is_of_classes (group_codes operation (take i groups)) rule || is_of_class code rule)
    ≡ is_of_classes (group_codes operation (take (i + 1) groups)) rule
more_groups operation groups i code group within at is rule =
    let taken : take (i + 1) groups ≡ take i groups ++ group ∷ [] = take_more groups i group within ∙ ap (λ (g : List ℕ). take i groups ++ g ∷ []) (sym at) in
    let codes : group_codes operation (take (i + 1) groups) ≡ group_codes operation (take i groups) ++ text_code (mixed operation 3) group ∷ [] =
    ap (group_codes operation) taken ∙ map-append (λ (g : List ℕ). text_code (mixed operation 3) g) (take i groups) (group ∷ []) in
    sym (ap (λ (cs : List ℕ). is_of_classes cs rule) codes
    ∙ list_any-append (λ (c : ℕ). is_of_class c rule) (group_codes operation (take i groups)) (text_code (mixed operation 3) group ∷ [])
    ∙ ap (λ (b : Bool). is_of_classes (group_codes operation (take i groups)) rule || b) (or_false _ ∙ ap (λ (c : ℕ). is_of_class c rule) (sym is)))

-- the classes of a user
pub users_classes : (operation each own : ℕ) (name : List ℕ) (groups : List (List ℕ)) → each ≡ mixed operation 1 → own ≡ text_code (mixed operation 2) name
    → (rule : Rule) → ((is_of_class each rule || is_of_class own rule) || is_of_classes (group_codes operation groups) rule)
    ≡ is_of_classes (class_codes name groups operation) rule
users_classes operation each own name groups is_each is_own rule =
    or_assoc (is_of_class each rule) (is_of_class own rule) _
    ∙ ap₂ (λ (m n : ℕ). is_of_class m rule || (is_of_class n rule || is_of_classes (group_codes operation groups) rule)) is_each is_own
  where
    or_assoc : (a b d : Bool) → ((a || b) || d) ≡ (a || (b || d))
    or_assoc true b d = refl
    or_assoc false b d = refl

pub registers : (pattern : OperationPattern) → matches_operation Operation.Register pattern ≡ true → operation_code pattern ≡ 1
registers Pattern.Register e = refl
registers Pattern.List e = absurd cc
registers Pattern.SendAny e = absurd cc
registers (Pattern.Send wanted) e = absurd cc

pub lists : (pattern : OperationPattern) → matches_operation Operation.List pattern ≡ true → operation_code pattern ≡ 2
lists Pattern.Register e = absurd cc
lists Pattern.List e = refl
lists Pattern.SendAny e = absurd cc
lists (Pattern.Send wanted) e = absurd cc

sends : (method : List ℕ) (pattern : OperationPattern) → matches_operation (Operation.Send method) pattern ≡ true
    → (operation_code pattern ≡ text_code 4 method) ⊎ (operation_code pattern ≡ 3)
sends method Pattern.Register e = absurd cc
sends method Pattern.List e = absurd cc
sends method Pattern.SendAny e = inr refl
sends method (Pattern.Send wanted) e = inl (ap (text_code 4) (sym (same_text method wanted (sym e))))

and_left : (a b : Bool) → (a && b) ≡ true → a ≡ true
and_left true b e = refl
and_left false b e = absurd cc

and_right : (a b : Bool) → (a && b) ≡ true → b ≡ true
and_right true b e = e
and_right false b e = absurd cc

-- the operation of what is asked is of the pattern of a rule that applies
operation_matches : (asked : RuleQuestion) (rule : Rule) → applies_to asked rule ≡ true → matches_operation asked.operation.now rule.operation ≡ true
operation_matches asked rule e = and_left _ _ (and_right (holds asked.minute rule.window) _ e)

who_matches : (asked : RuleQuestion) (rule : Rule) → applies_to asked rule ≡ true → matches_who asked.users.now (option_copied asked.proven) rule.who ≡ true
who_matches asked rule e =
    and_right (matches_target asked.users.now asked.domains.now (option_copied asked.proven) asked.aor.now rule.target) _
    (and_right (matches_operation asked.operation.now rule.operation) _ (and_right (holds asked.minute rule.window) _ e))

-- a rule that applies is looked at under the code of its operation pattern
looked_at_own : (asked : RuleQuestion) → AreGroupsOfProven asked.users.now (option_copied asked.proven) asked.groups.now → (rule : Rule) → applies_to asked rule ≡ true
    → (code : ℕ) → operation_code rule.operation ≡ code → is_looked_at (option_copied asked.proven) asked.groups.now code rule ≡ true
looked_at_own asked h rule e code is =
    subst (λ (n : ℕ). is_looked_at (option_copied asked.proven) asked.groups.now n rule ≡ true) is
    (looked_at asked.users.now (option_copied asked.proven) asked.groups.now h.are rule (who_matches asked rule e))

-- where all patterns of an operation have one code, each rule that applies is looked at under it
pub looked_at_one : (asked : RuleQuestion) → AreGroupsOfProven asked.users.now (option_copied asked.proven) asked.groups.now → (operation : Operation)
    → asked.operation.now ≡ operation
    → (code : ℕ) → ((pattern : OperationPattern) → matches_operation operation pattern ≡ true → operation_code pattern ≡ code)
    → (rule : Rule) → applies_to asked rule ≡ true → is_looked_at (option_copied asked.proven) asked.groups.now code rule ≡ true
looked_at_one asked h operation is code one rule e =
    looked_at_own asked h rule e code (one rule.operation (subst (λ (o : Operation). matches_operation o rule.operation ≡ true) is (operation_matches asked rule e)))

-- of a method, under the code of the method or of `send *`
pub looked_at_either : (asked : RuleQuestion) → AreGroupsOfProven asked.users.now (option_copied asked.proven) asked.groups.now → (method : List ℕ)
    → asked.operation.now ≡ Operation.Send method
    → (code : ℕ) → code ≡ text_code 4 method → (rule : Rule) → applies_to asked rule ≡ true
    → (is_looked_at (option_copied asked.proven) asked.groups.now code rule || is_looked_at (option_copied asked.proven) asked.groups.now 3 rule) ≡ true
looked_at_either asked h method is code own rule e =
    by (sends method rule.operation (subst (λ (o : Operation). matches_operation o rule.operation ≡ true) is (operation_matches asked rule e)))
  where
    by : (operation_code rule.operation ≡ text_code 4 method) ⊎ (operation_code rule.operation ≡ 3)
        → (is_looked_at (option_copied asked.proven) asked.groups.now code rule || is_looked_at (option_copied asked.proven) asked.groups.now 3 rule) ≡ true
    by (inl same) = ap (λ (b : Bool). b || is_looked_at (option_copied asked.proven) asked.groups.now 3 rule) (looked_at_own asked h rule e code (same ∙ sym own))
    by (inr any) = ap (λ (b : Bool). is_looked_at (option_copied asked.proven) asked.groups.now code rule || b) (looked_at_own asked h rule e 3 any) ∙ or_true _
