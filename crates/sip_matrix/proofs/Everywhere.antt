-- What isn't decided otherwise at an example of each class isn't anywhere.
use Rattle.std.proofs.Common.{◌≡◌, inl, inr, ℕ, Bool, true, false, not, ◌&&◌, nat_eq, nat_lt, List, [], ◌∷◌, Option, Some, None, refl, sym, ap, ap₂, ◌∙◌, arith}
use Rattle.std.specs.Bool.{beq}
use Rattle.std.specs.Cmp.Lexicographic.{same_text}
use Rattle.std.specs.List.{list_all, list_any}
use Rattle.std.specs.Prelude.{codes}
use Rattle.std.specs.Str.{bytes_eq}
use Rattle.std.proofs.lemmas.Bool.{and_parts, and_from, and_left, and_right, or_cases, or_left, or_right, or_parts, eqb-true, ltb-true, lt-ltb}
use Rattle.sip_uri.specs.declared.aor.Aor.{Aor}
use Rattle.sip_policy.specs.declared.operation.Operation.{Operation}
use Rattle.sip_policy.specs.declared.operation.OperationPattern.{OperationPattern}
use Rattle.sip_policy.specs.declared.operation.OperationPattern.TheVariants as Pattern
use Rattle.sip_policy.specs.declared.user.User.{User}
use Rattle.sip_policy.specs.declared.rule.Rule.{Rule}
use Rattle.sip_policy.specs.Window.{holds}
use Rattle.sip_policy.specs.Who.{matches_who}
use Rattle.sip_policy.specs.Operation.{matches_operation}
use Rattle.sip_policy.specs.TargetPattern.{matches_target}
use Rattle.sip_policy.specs.User.{is_named, is_own_domain, is_users_address}
use Rattle.sip_policy.specs.Rule.{applies}
use Rattle.sip_policy.specs.Decision.{decision_of, decision_with}
use Rattle.sip_matrix.specs.declared.column.Column.{Column}
use Rattle.sip_matrix.specs.declared.expectation.Times.{Times}
use Rattle.sip_matrix.specs.declared.expectation.Times.TheVariants.{Always, Never, Within}
use Rattle.sip_matrix.specs.declared.expectation.Expectation.{Expectation}
use Rattle.sip_matrix.specs.Address.{column_of}
use Rattle.sip_matrix.specs.Asker.{is_own}
use Rattle.sip_matrix.specs.Column.{meets, is_known, is_same_column}
use Rattle.sip_matrix.specs.Day.{piece_of, pieces_of}
use Rattle.sip_matrix.specs.Example.{are_plain, example_of, has_star, is_plain_operation, is_plain_rule, is_plain_target, named_by, operations_of, other_host}
use Rattle.sip_matrix.specs.Address.{names_host}
use Rattle.sip_matrix.specs.Expected.{asks, free_askers, free_column, free_columns, free_minutes, is_asker, is_decided_so, is_due, is_fault, is_free, is_meant, is_so}
use Rattle.sip_matrix.specs.Expected.{pattern_of, window_of}
use Rattle.sip_matrix.specs.Table.{all_columns}
use Rattle.sip_matrix.proofs.Agreement.{agree_same, agree_from, agree_itself, all_agree}
use Rattle.sip_matrix.proofs.Firsts.{counted_there}
use Rattle.sip_matrix.proofs.Found.{found_same}
use Rattle.sip_matrix.proofs.Listed.{any_in_all, column_listed}
use Rattle.sip_matrix.proofs.Meeting.{all_met, alike_if_same, known_as, met_as, own_alike}
use Rattle.sip_matrix.proofs.Minutes.{one_piece, piece_before, piece_holds}
use Rattle.sip_matrix.proofs.Stars.{false_of_not, is_of_column, known_example, met_example, own_example}

-- ---- lists

-- what passes all tests of a list is seen by one that is there
picked : {X : Type 0} (there holds : X → Bool) (goal : Type 0) → ((x : X) → there x ≡ true → holds x ≡ true → goal) → (xs : List X)
    → list_any there xs ≡ true → list_all holds xs ≡ true → goal
picked there holds goal see [] e all = absurd cc
picked there holds goal see (x ∷ xs) e all =
    let both = and_parts (holds x) (list_all holds xs) all in
    elim (or_cases (there x) (list_any there xs) e) [
      | inl h ↦ see x h both.0
      | inr h ↦ picked there holds goal see xs h both.1
    ]

-- what three tests say of an element together, they say of all
all_from : (one two three wanted : Rule → Bool) → ((rule : Rule) → one rule ≡ true → two rule ≡ true → three rule ≡ true → wanted rule ≡ true) → (rules : List Rule)
    → list_all one rules ≡ true → list_all two rules ≡ true → list_all three rules ≡ true → list_all wanted rules ≡ true
all_from one two three wanted see [] a b c = refl
all_from one two three wanted see (r ∷ rs) a b c =
    let x = and_parts (one r) (list_all one rs) a in
    let y = and_parts (two r) (list_all two rs) b in
    let z = and_parts (three r) (list_all three rs) c in
    and_from _ _ (see r x.0 y.0 z.0) (all_from one two three wanted see rs x.1 y.1 z.1)

-- ---- operations

-- whether a rule is for both of two operations, or for neither
abbrev pub same_for : Operation → Operation → Rule → Bool
same_for one other rule = beq (matches_operation one rule.operation) (matches_operation other rule.operation)

itself_for : (operation : Operation) (rules : List Rule) → list_all (same_for operation operation) rules ≡ true
itself_for operation rules = all_agree (λ (rule : Rule). matches_operation operation rule.operation) (λ (rule : Rule). matches_operation operation rule.operation)
    (λ r. refl) rules

-- whether a pattern names a method
abbrev names : List ℕ → OperationPattern → Bool
names method Pattern.Register = false
names method Pattern.List = false
names method (Pattern.Send wanted) = bytes_eq method wanted
names method Pattern.SendAny = false

-- whether a pattern and rules are for both of two operations, or for neither
abbrev pub alike_by : OperationPattern → List Rule → Operation → Operation → Bool
alike_by pattern rules one other = beq (matches_operation one pattern) (matches_operation other pattern) && list_all (same_for one other) rules

itself_by : (pattern : OperationPattern) (rules : List Rule) (operation : Operation) → alike_by pattern rules operation operation ≡ true
itself_by pattern rules operation = and_from _ _ (agree_itself (matches_operation operation pattern)) (itself_for operation rules)

send_by : (pattern : OperationPattern) (rules : List Rule) (method wanted : List ℕ) → bytes_eq method wanted ≡ true
    → alike_by pattern rules (Operation.Send method) (Operation.Send wanted) ≡ true
send_by pattern rules method wanted e =
    ap (λ (text : List ℕ). alike_by pattern rules (Operation.Send method) (Operation.Send text)) (sym (same_text method wanted (sym e)))
    ∙ itself_by pattern rules (Operation.Send method)

given : (pattern : OperationPattern) (rules : List Rule) (method : List ℕ) (named : OperationPattern) → names method named ≡ true
    → list_any (alike_by pattern rules (Operation.Send method)) (named_by named) ≡ true
given pattern rules method Pattern.Register e = absurd cc
given pattern rules method Pattern.List e = absurd cc
given pattern rules method (Pattern.Send wanted) e = or_left _ _ (send_by pattern rules method wanted e)
given pattern rules method Pattern.SendAny e = absurd cc

-- a method that no rule names is told apart from `*` by none
unnamed_by : (method : List ℕ) (pattern : OperationPattern) → names method pattern ≡ false → is_plain_operation pattern ≡ true
    → matches_operation (Operation.Send method) pattern ≡ matches_operation (Operation.Send (codes "*")) pattern
unnamed_by method Pattern.Register e p = refl
unnamed_by method Pattern.List e p = refl
unnamed_by method (Pattern.Send wanted) e p = e ∙ sym (false_of_not (bytes_eq (codes "*") wanted) p)
unnamed_by method Pattern.SendAny e p = refl

unnamed : (method : List ℕ) (rules : List Rule) → list_any (λ (rule : Rule). names method rule.operation) rules ≡ false → list_all is_plain_rule rules ≡ true
    → list_all (same_for (Operation.Send method) (Operation.Send (codes "*"))) rules ≡ true
unnamed method [] e p = refl
unnamed method (r ∷ rs) e p =
    let none = or_parts (names method r.operation) (list_any (λ (rule : Rule). names method rule.operation) rs) e in
    let plain = and_parts (is_plain_rule r) (list_all is_plain_rule rs) p in
    let texts = and_parts (not (names_host other_host r.target)) (is_plain_target r.target && is_plain_operation r.operation) plain.0 in
    and_from _ _
    (agree_from _ _ (unnamed_by method r.operation none.0 (and_parts (is_plain_target r.target) (is_plain_operation r.operation) texts.1).1))
    (unnamed method rs none.1 plain.1)

-- each operation of a pattern is told apart from none of its examples' one
operation_listed : (pattern : OperationPattern) (rules : List Rule) (operation : Operation) → matches_operation operation pattern ≡ true
    → list_all is_plain_rule rules ≡ true
    → list_any (alike_by pattern rules operation) (operations_of pattern rules) ≡ true
operation_listed Pattern.Register rules Operation.Register e p = or_left _ _ (itself_by Pattern.Register rules Operation.Register)
operation_listed Pattern.Register rules Operation.List e p = absurd cc
operation_listed Pattern.Register rules (Operation.Send method) e p = absurd cc
operation_listed Pattern.List rules Operation.Register e p = absurd cc
operation_listed Pattern.List rules Operation.List e p = or_left _ _ (itself_by Pattern.List rules Operation.List)
operation_listed Pattern.List rules (Operation.Send method) e p = absurd cc
operation_listed (Pattern.Send wanted) rules Operation.Register e p = absurd cc
operation_listed (Pattern.Send wanted) rules Operation.List e p = absurd cc
operation_listed (Pattern.Send wanted) rules (Operation.Send method) e p = or_left _ _ (send_by (Pattern.Send wanted) rules method wanted e)
operation_listed Pattern.SendAny rules Operation.Register e p = absurd cc
operation_listed Pattern.SendAny rules Operation.List e p = absurd cc
operation_listed Pattern.SendAny rules (Operation.Send method) e p = by (list_any (λ (rule : Rule). names method rule.operation) rules) refl
  where
    by : (named : Bool) → list_any (λ (rule : Rule). names method rule.operation) rules ≡ named
        → list_any (alike_by Pattern.SendAny rules (Operation.Send method)) (operations_of Pattern.SendAny rules) ≡ true
    by true is =
        or_right _ _ (any_in_all (alike_by Pattern.SendAny rules (Operation.Send method)) (λ (rule : Rule). named_by rule.operation)
        (λ (rule : Rule). names method rule.operation) (λ rule n. given Pattern.SendAny rules method rule.operation n) rules is)
    by false is = or_left _ _ (and_from _ _ refl (unnamed method rules is p))

due_same : (times : Times) (minute piece : ℕ) → holds minute (window_of times) ≡ holds piece (window_of times) → is_due minute times ≡ is_due piece times
due_same Always minute piece e = refl
due_same Never minute piece e = refl
due_same (Within window) minute piece e = e

-- ---- one question, and the example of its class

module _ (rules : List Rule) (users : List User) (domains : List (List ℕ)) (e : Expectation) where
  abbrev told : List Rule
  told = pattern_of e ∷ rules

  module _ (proven : Option (List ℕ)) (operation other : Operation) (aor : Aor) (column : Column) (minute : ℕ)
      (alike : alike_by e.operation rules operation other ≡ true)
      (same : is_same_column (column_of told users domains aor) column ≡ true)
      (plain : are_plain told users domains ≡ true)
      (asker : is_asker users proven ≡ true) where
    abbrev one : Column
    one = column_of told users domains aor

    abbrev example : Aor
    example = example_of column

    abbrev piece : ℕ
    piece = piece_of told minute

    no_domain : is_own_domain domains other_host ≡ false
    no_domain =
        false_of_not (is_own_domain domains other_host)
        (and_parts (not (is_own_domain domains other_host)) (not (list_any (λ (user : User). has_star user.name) users) && list_all is_plain_rule told) plain).0

    plain_texts : (not (list_any (λ (user : User). has_star user.name) users) ≡ true) × (list_all is_plain_rule told ≡ true)
    plain_texts =
        and_parts (not (list_any (λ (user : User). has_star user.name) users)) (list_all is_plain_rule told)
        (and_parts (not (is_own_domain domains other_host)) (not (list_any (λ (user : User). has_star user.name) users) && list_all is_plain_rule told) plain).1

    known_there : is_users_address users domains example ≡ is_known users domains column
    known_there = known_example users domains column no_domain (false_of_not (list_any (λ (user : User). has_star user.name) users) plain_texts.0)

    asked : (beq (is_known users domains one) (is_known users domains column) ≡ true)
        × (list_all (λ (rule : Rule). beq (meets false one rule.target) (meets false column rule.target)) told ≡ true)
    asked =
        and_parts (beq (is_known users domains one) (is_known users domains column)) (list_all
        (λ (rule : Rule). beq (meets false one rule.target) (meets false column rule.target)) told)
        (alike_if_same told users domains one column same)

    known_same : is_users_address users domains aor ≡ is_users_address users domains example
    known_same = known_as told users domains aor ∙ agree_same (is_known users domains one) (is_known users domains column) asked.0 ∙ sym known_there

    own_same : is_own users domains proven aor ≡ is_own users domains proven example
    own_same = own_example users domains proven aor one column (is_of_column told users domains aor) same asker known_there

    target_same : (rule : Rule) → met_as users domains proven aor one rule ≡ true → beq (meets false one rule.target) (meets false column rule.target) ≡ true
        → is_plain_rule rule ≡ true
        → beq (matches_target users domains proven aor rule.target) (matches_target users domains proven example rule.target) ≡ true
    target_same rule a b p =
        let host = and_parts (not (names_host other_host rule.target)) (is_plain_target rule.target && is_plain_operation rule.operation) p in
        agree_from _ _
        (agree_same (matches_target users domains proven aor rule.target) (meets (is_own users domains proven aor) one rule.target) a
        ∙ own_alike (is_own users domains proven aor) one column rule.target (agree_same (meets false one rule.target) (meets false column rule.target) b)
        ∙ ap (λ (own : Bool). meets own column rule.target) own_same
        ∙ sym (met_example users domains proven column rule.target (false_of_not (names_host other_host rule.target) host.0)
        (and_parts (is_plain_target rule.target) (is_plain_operation rule.operation) host.1).0))

    targets_same : list_all (λ (rule : Rule). beq (matches_target users domains proven aor rule.target) (matches_target users domains proven example rule.target)) told
        ≡ true
    targets_same =
        all_from (met_as users domains proven aor one) (λ (rule : Rule). beq (meets false one rule.target) (meets false column rule.target)) is_plain_rule
        (λ (rule : Rule). beq (matches_target users domains proven aor rule.target) (matches_target users domains proven example rule.target))
        target_same told (all_met users domains proven aor told) asked.1 plain_texts.1

    rule_same : (rule : Rule) → beq (holds minute rule.window) (holds piece rule.window) ≡ true → same_for operation other rule ≡ true
        → beq (matches_target users domains proven aor rule.target) (matches_target users domains proven example rule.target) ≡ true
        → beq (applies users domains proven operation aor minute rule) (applies users domains proven other example piece rule) ≡ true
    rule_same rule a b c =
        agree_from _ _
        (ap₂ (λ (x y : Bool). x && y) (agree_same (holds minute rule.window) (holds piece rule.window) a)
        (ap₂ (λ (x y : Bool). x && (y && matches_who users proven rule.who))
        (agree_same (matches_operation operation rule.operation) (matches_operation other rule.operation) b)
        (agree_same (matches_target users domains proven aor rule.target) (matches_target users domains proven example rule.target) c)))

    rules_same : list_all (λ (rule : Rule). beq (applies users domains proven operation aor minute rule) (applies users domains proven other example piece rule)) told
        ≡ true
    rules_same =
        all_from (λ (rule : Rule). beq (holds minute rule.window) (holds piece rule.window)) (same_for operation other)
        (λ (rule : Rule). beq (matches_target users domains proven aor rule.target) (matches_target users domains proven example rule.target))
        (λ (rule : Rule). beq (applies users domains proven operation aor minute rule) (applies users domains proven other example piece rule))
        rule_same told (piece_holds told minute) alike targets_same

    decided_same : decision_of rules users domains proven operation aor minute ≡ decision_of rules users domains proven other example piece
    decided_same =
        ap (decision_with proven) (found_same (applies users domains proven operation aor minute) (applies users domains proven other example piece)
        (λ (rule : Rule). beq (applies users domains proven operation aor minute rule) (applies users domains proven other example piece rule))
        (λ rule h. agree_same (applies users domains proven operation aor minute rule) (applies users domains proven other example piece rule) h) rules
        (and_parts (beq (applies users domains proven operation aor minute (pattern_of e)) (applies users domains proven other example piece (pattern_of e)))
        (list_all (λ (rule : Rule). beq (applies users domains proven operation aor minute rule) (applies users domains proven other example piece rule)) rules)
        rules_same).1)

    so_same : is_decided_so rules users domains e proven operation aor minute ≡ is_decided_so rules users domains e proven other example piece
    so_same =
        let window = and_parts (beq (holds minute (window_of e.times)) (holds piece (window_of e.times)))
        (list_all (λ (rule : Rule). beq (holds minute rule.window) (holds piece rule.window)) rules) (piece_holds told minute) in
        ap₂ (λ (due known : Bool). is_so e.place due known (decision_of rules users domains proven operation aor minute))
        (due_same e.times minute piece (agree_same (holds minute (window_of e.times)) (holds piece (window_of e.times)) window.0)) known_same
        ∙ ap (is_so e.place (is_due piece e.times) (is_users_address users domains example)) decided_same

    meant_same : is_meant users domains e proven operation aor ≡ is_meant users domains e proven other example
    meant_same =
        ap₂ (λ (x y : Bool). asks e.askers proven && (x && (y && matches_who users proven e.who)))
        (agree_same (matches_operation operation e.operation) (matches_operation other e.operation)
        (and_parts (beq (matches_operation operation e.operation) (matches_operation other e.operation)) (list_all (same_for operation other) rules) alike).0)
        (agree_same (matches_target users domains proven aor e.target) (matches_target users domains proven example e.target)
        (and_parts (beq (matches_target users domains proven aor e.target) (matches_target users domains proven example e.target))
        (list_all (λ (rule : Rule). beq (matches_target users domains proven aor rule.target) (matches_target users domains proven example rule.target)) rules)
        targets_same).0)

    fault_same : nat_lt minute 1440 ≡ true → is_fault rules users domains e proven operation aor minute ≡ is_fault rules users domains e proven other example piece
    fault_same day =
        ap₂ (λ (x y : Bool). x && (is_asker users proven && (nat_lt minute 1440 && not y))) meant_same so_same
        ∙ ap (λ (x : Bool). is_meant users domains e proven other example && (is_asker users proven
        && (x && not (is_decided_so rules users domains e proven other example piece))))
        (day ∙ sym (lt-ltb piece 1440 (omega (arith, piece_before told minute, ltb-true minute 1440 day))))

  -- ---- every question

  abbrev minutes : List ℕ
  minutes = pieces_of told

  at_minute : (proven : Option (List ℕ)) (operation : Operation) (aor : Aor) (minute : ℕ) → nat_lt minute 1440 ≡ true
      → free_minutes rules users domains e proven operation aor minutes ≡ true → is_fault rules users domains e proven operation aor (piece_of told minute) ≡ false
  at_minute proven operation aor minute day free =
      picked (nat_eq (piece_of told minute)) (λ (m : ℕ). not (is_fault rules users domains e proven operation aor m))
      (is_fault rules users domains e proven operation aor (piece_of told minute) ≡ false)
      (λ m same none. ap (is_fault rules users domains e proven operation aor) (eqb-true (piece_of told minute) m same)
      ∙ false_of_not (is_fault rules users domains e proven operation aor m) none)
      minutes (counted_there (nat_eq (piece_of told minute)) minutes (one_piece told minute 1440 (ltb-true minute 1440 day))) free

  by_asker : (proven : Option (List ℕ)) (operation : Operation) (aor : Aor) → is_asker users proven ≡ true
      → free_askers rules users domains e operation minutes aor ≡ true → free_minutes rules users domains e proven operation aor minutes ≡ true
  by_asker None operation aor asker free =
      (and_parts (free_minutes rules users domains e None operation aor minutes)
      (list_all (λ (user : User). free_minutes rules users domains e (Some user.name) operation aor minutes) users) free).0
  by_asker (Some name) operation aor asker free =
      picked (is_named name) (λ (user : User). free_minutes rules users domains e (Some user.name) operation aor minutes)
      (free_minutes rules users domains e (Some name) operation aor minutes ≡ true)
      (λ user same none. ap (λ (text : List ℕ). free_minutes rules users domains e (Some text) operation aor minutes) (sym (same_text user.name name (sym same))) ∙ none)
      users asker
      (and_parts (free_minutes rules users domains e None operation aor minutes)
      (list_all (λ (user : User). free_minutes rules users domains e (Some user.name) operation aor minutes) users) free).1

  module _ (plain : are_plain told users domains ≡ true) (free : is_free rules users domains e ≡ true) where
    plain_rules : list_all is_plain_rule rules ≡ true
    plain_rules =
        (and_parts (is_plain_rule (pattern_of e)) (list_all is_plain_rule rules)
        (and_parts (not (list_any (λ (user : User). has_star user.name) users)) (list_all is_plain_rule told)
        (and_parts (not (is_own_domain domains other_host)) (not (list_any (λ (user : User). has_star user.name) users) && list_all is_plain_rule told) plain).1).1).1

    asked_so : (proven : Option (List ℕ)) (operation : Operation) (aor : Aor) (minute : ℕ) → is_asker users proven ≡ true → nat_lt minute 1440 ≡ true
        → matches_operation operation e.operation ≡ true → is_fault rules users domains e proven operation aor minute ≡ false
    asked_so proven operation aor minute asker day meant =
        picked (alike_by e.operation rules operation) (free_columns rules users domains e minutes (all_columns told users domains))
        (is_fault rules users domains e proven operation aor minute ≡ false)
        (λ other alike none. picked (is_same_column (column_of told users domains aor)) (free_column rules users domains e other minutes)
        (is_fault rules users domains e proven operation aor minute ≡ false)
        (λ column same all. fault_same proven operation other aor column minute alike same plain asker day
        ∙ at_minute proven other (example_of column) minute day (by_asker proven other (example_of column) asker all))
        (all_columns told users domains) (column_listed told users domains aor) none)
        (operations_of e.operation rules) (operation_listed e.operation rules operation meant plain_rules) free

    pub no_fault : (proven : Option (List ℕ)) (operation : Operation) (aor : Aor) (minute : ℕ) → is_fault rules users domains e proven operation aor minute ≡ false
    no_fault proven operation aor minute = by (is_asker users proven) refl (nat_lt minute 1440) refl (matches_operation operation e.operation) refl
      where
        by : (asker : Bool) → is_asker users proven ≡ asker → (day : Bool) → nat_lt minute 1440 ≡ day → (meant : Bool) → matches_operation operation e.operation ≡ meant
            → is_fault rules users domains e proven operation aor minute ≡ false
        by true a true d true m = asked_so proven operation aor minute a d m
        by false a day d meant m = and_right _ _ (and_left _ _ a)
        by true a false d meant m = and_right _ _ (and_right _ _ (and_left _ _ d))
        by true a true d false m = and_left _ _ (and_right _ _ (and_left _ _ m))
