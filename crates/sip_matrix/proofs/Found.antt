-- The rule that decides about a question is that of its cell.
use Rattle.std.proofs.Common.{◌≡◌, ℕ, Bool, true, false, ◌&&◌, if◌then◌else◌, List, [], ◌∷◌, Option, Some, None, find, refl, sym, ap, ap₂, ◌∙◌}
use Rattle.std.specs.Bool.{beq}
use Rattle.std.specs.Cmp.Lexicographic.{same_text}
use Rattle.std.specs.List.{list_all}
use Rattle.std.specs.Str.{bytes_eq}
use Rattle.std.proofs.lemmas.Bool.{and_parts, and_from}
use Rattle.sip_uri.specs.declared.aor.Aor.{Aor}
use Rattle.sip_policy.specs.declared.operation.Operation.{Operation}
use Rattle.sip_policy.specs.declared.user.User.{User}
use Rattle.sip_policy.specs.declared.rule.Rule.{Rule}
use Rattle.sip_policy.specs.Window.{holds}
use Rattle.sip_policy.specs.Who.{matches_who}
use Rattle.sip_policy.specs.Operation.{matches_operation}
use Rattle.sip_policy.specs.TargetPattern.{matches_target}
use Rattle.sip_text.specs.Words.{is_same_text}
use Rattle.sip_policy.specs.User.{is_named, is_own_domain, is_users_name, is_users_address}
use Rattle.sip_policy.specs.Rule.{applies}
use Rattle.sip_policy.specs.Decision.{deciding_rule, decision_of, decision_with}
use Rattle.sip_matrix.specs.declared.column.Column.{Column}
use Rattle.sip_matrix.specs.Asker.{is_in_row, is_own}
use Rattle.sip_matrix.specs.Column.{meets, is_known, are_asked_alike}
use Rattle.sip_matrix.specs.Address.{column_of}
use Rattle.sip_matrix.specs.Day.{piece_of}
use Rattle.sip_matrix.specs.Cell.{applies_in, rule_in, decision_in}
use Rattle.sip_matrix.specs.Finer.{AreAmong}
use Rattle.sip_matrix.proofs.Agreement.{agree_same}
use Rattle.sip_matrix.proofs.Minutes.{piece_holds}
use Rattle.sip_matrix.proofs.Meeting.{all_met_by, known_by, met_as, own_alike}

-- tests that are the same at the rules that are kept find the same one, where all rules are
pub found_same : (one other keep : Rule → Bool) → ((rule : Rule) → keep rule ≡ true → one rule ≡ other rule) → (rules : List Rule) → list_all keep rules ≡ true
    → find one rules ≡ find other rules
found_same one other keep same [] all = refl
found_same one other keep same (r ∷ rs) all =
    let both = and_parts (keep r) (list_all keep rs) all in
    ap₂ (λ (b : Bool) (rest : Option Rule). if b then Some r else rest) (same r both.0) (found_same one other keep same rs both.1)

-- at the beginning of the minute's piece, as some rules have it among which these are
by_piece : (rules all : List Rule) (users : List User) (domains : List (List ℕ)) (proven : Option (List ℕ)) (operation : Operation) (aor : Aor) (minute : ℕ)
    → AreAmong rules all
    → deciding_rule rules users domains proven operation aor minute ≡ deciding_rule rules users domains proven operation aor (piece_of all minute)
by_piece rules all users domains proven operation aor minute among =
    found_same (applies users domains proven operation aor minute) (applies users domains proven operation aor (piece_of all minute))
    (λ (rule : Rule). beq (holds minute rule.window) (holds (piece_of all minute) rule.window))
    (λ rule e. ap (λ (b : Bool). b && (matches_operation operation rule.operation && (matches_target users domains proven aor rule.target
    && matches_who users proven rule.who)))
    (agree_same (holds minute rule.window) (holds (piece_of all minute) rule.window) e))
    rules (among.every (λ (rule : Rule). beq (holds minute rule.window) (holds (piece_of all minute) rule.window)) (piece_holds all minute))

-- by the address's column
by_column : (rules all : List Rule) (users everybody : List User) (domains further : List (List ℕ)) (proven : Option (List ℕ)) (operation : Operation) (aor : Aor)
    (piece : ℕ)
    → AreAmong rules all
    → deciding_rule rules users domains proven operation aor piece
    ≡ rule_in rules users proven operation (column_of all everybody further aor) (is_own users domains proven aor) piece
by_column rules all users everybody domains further proven operation aor piece among =
    let column = column_of all everybody further aor in
    let own = is_own users domains proven aor in
    found_same (applies users domains proven operation aor piece) (applies_in users proven operation column own piece)
    (λ (rule : Rule). beq (matches_target users domains proven aor rule.target) (meets own column rule.target))
    (λ rule e. ap (λ (b : Bool). holds piece rule.window && (matches_operation operation rule.operation && (b && matches_who users proven rule.who)))
    (agree_same (matches_target users domains proven aor rule.target) (meets own column rule.target) e))
    rules (among.every (met_as users domains proven aor column) (all_met_by users domains proven aor all everybody further))

-- by another column that is asked about alike
by_class : (rules : List Rule) (users : List User) (domains : List (List ℕ)) (proven : Option (List ℕ)) (operation : Operation) (one other : Column) (own : Bool)
    (piece : ℕ)
    → are_asked_alike rules users domains one other ≡ true
    → rule_in rules users proven operation one own piece ≡ rule_in rules users proven operation other own piece
by_class rules users domains proven operation one other own piece alike =
    found_same (applies_in users proven operation one own piece) (applies_in users proven operation other own piece)
    (λ (rule : Rule). beq (meets false one rule.target) (meets false other rule.target))
    (λ rule e. ap (λ (b : Bool). holds piece rule.window && (matches_operation operation rule.operation && (b && matches_who users proven rule.who)))
    (own_alike own one other rule.target (agree_same (meets false one rule.target) (meets false other rule.target) e)))
    rules
    (and_parts (beq (is_known users domains one) (is_known users domains other)) (list_all
    (λ (rule : Rule). beq (meets false one rule.target) (meets false other rule.target)) rules) alike).1

-- by the asker's row
by_row : (rules : List Rule) (users : List User) (proven row : Option (List ℕ)) (operation : Operation) (column : Column) (own : Bool) (piece : ℕ)
    → is_in_row rules users proven row ≡ true
    → rule_in rules users proven operation column own piece ≡ rule_in rules users row operation column own piece
by_row rules users None None operation column own piece e = refl
by_row rules users None (Some row) operation column own piece e = absurd cc
by_row rules users (Some name) None operation column own piece e = absurd cc
by_row rules users (Some name) (Some row) operation column own piece alike =
    found_same (applies_in users (Some name) operation column own piece) (applies_in users (Some row) operation column own piece)
    (λ (rule : Rule). beq (matches_who users (Some name) rule.who) (matches_who users (Some row) rule.who))
    (λ rule e. ap (λ (b : Bool). holds piece rule.window && (matches_operation operation rule.operation && (meets own column rule.target && b)))
    (agree_same (matches_who users (Some name) rule.who) (matches_who users (Some row) rule.who) e))
    rules alike

-- in the cell of a finer table
pub rule_of_finer : (rules all : List Rule) (users everybody : List User) (domains further : List (List ℕ)) (proven row : Option (List ℕ)) (operation : Operation)
    (aor : Aor) (column : Column) (minute : ℕ)
    → AreAmong rules all
    → is_in_row rules users proven row ≡ true → are_asked_alike rules users domains (column_of all everybody further aor) column ≡ true
    → deciding_rule rules users domains proven operation aor minute ≡ rule_in rules users row operation column (is_own users domains proven aor) (piece_of all minute)
rule_of_finer rules all users everybody domains further proven row operation aor column minute among in_row alike =
    let own = is_own users domains proven aor in
    by_piece rules all users domains proven operation aor minute among
    ∙ by_column rules all users everybody domains further proven operation aor (piece_of all minute) among
    ∙ by_class rules users domains proven operation (column_of all everybody further aor) column own (piece_of all minute) alike
    ∙ by_row rules users proven row operation column own (piece_of all minute) in_row

among_itself : {X : Type 0} (xs : List X) → AreAmong xs xs
among_itself xs = record { every = λ test e. e; some = λ test e. e }

pub rule_of_cell : (rules : List Rule) (users : List User) (domains : List (List ℕ)) (proven row : Option (List ℕ)) (operation : Operation) (aor : Aor) (column : Column)
    (minute : ℕ)
    → is_in_row rules users proven row ≡ true → are_asked_alike rules users domains (column_of rules users domains aor) column ≡ true
    → deciding_rule rules users domains proven operation aor minute ≡ rule_in rules users row operation column (is_own users domains proven aor) (piece_of rules minute)
rule_of_cell rules users domains proven row operation aor column minute in_row alike =
    rule_of_finer rules rules users users domains domains proven row operation aor column minute (among_itself rules) in_row alike

-- what a rule decides for an asker is what it decides for each one of his row
decided_alike : (rules : List Rule) (users : List User) (proven row : Option (List ℕ)) → is_in_row rules users proven row ≡ true → (found : Option Rule)
    → decision_with proven found ≡ decision_with row found
decided_alike rules users None None e found = refl
decided_alike rules users None (Some row) e found = absurd cc
decided_alike rules users (Some name) None e found = absurd cc
decided_alike rules users (Some name) (Some row) e None = refl
decided_alike rules users (Some name) (Some row) e (Some rule) = refl

pub decision_of_finer : (rules all : List Rule) (users everybody : List User) (domains further : List (List ℕ)) (proven row : Option (List ℕ)) (operation : Operation)
    (aor : Aor) (column : Column) (minute : ℕ)
    → AreAmong rules all
    → is_in_row rules users proven row ≡ true → are_asked_alike rules users domains (column_of all everybody further aor) column ≡ true
    → decision_of rules users domains proven operation aor minute ≡ decision_in rules users row operation column (is_own users domains proven aor) (piece_of all minute)
decision_of_finer rules all users everybody domains further proven row operation aor column minute among in_row alike =
    ap (decision_with proven) (rule_of_finer rules all users everybody domains further proven row operation aor column minute among in_row alike)
    ∙ decided_alike rules users proven row in_row (rule_in rules users row operation column (is_own users domains proven aor) (piece_of all minute))

pub decision_of_cell : (rules : List Rule) (users : List User) (domains : List (List ℕ)) (proven row : Option (List ℕ)) (operation : Operation) (aor : Aor)
    (column : Column) (minute : ℕ)
    → is_in_row rules users proven row ≡ true → are_asked_alike rules users domains (column_of rules users domains aor) column ≡ true
    → decision_of rules users domains proven operation aor minute ≡ decision_in rules users row operation column (is_own users domains proven aor) (piece_of rules minute)
decision_of_cell rules users domains proven row operation aor column minute in_row alike =
    decision_of_finer rules rules users users domains domains proven row operation aor column minute (among_itself rules) in_row alike

-- a user's address is one of more users, in more own domains, too
address_among : (users everybody : List User) (domains further : List (List ℕ)) (aor : Aor) → AreAmong users everybody → AreAmong domains further
    → is_users_address users domains aor ≡ true → is_users_address everybody further aor ≡ true
address_among users everybody domains further aor among hosts e =
    let both = and_parts (is_own_domain domains aor.host) (is_users_name users aor.user) e in
    and_from _ _ (hosts.some (λ (domain : List ℕ). is_same_text domain aor.host) both.0) (among.some (is_named aor.user) both.1)

-- the addresses of a cell are known as the one that is asked about is
pub known_of_finer : (rules all : List Rule) (users everybody : List User) (domains further : List (List ℕ)) (aor : Aor) (column : Column)
    → AreAmong users everybody → AreAmong domains further
    → are_asked_alike rules users domains (column_of all everybody further aor) column ≡ true → is_users_address users domains aor ≡ is_known users domains column
known_of_finer rules all users everybody domains further aor column among hosts alike =
    let known = is_known users domains in
    let one = column_of all everybody further aor in
    known_by all users everybody domains further aor (address_among users everybody domains further aor among hosts)
    ∙ agree_same (known one) (known column) (and_parts (beq (known one) (known column))
    (list_all (λ (rule : Rule). beq (meets false one rule.target) (meets false column rule.target)) rules) alike).0

pub known_of_cell : (rules : List Rule) (users : List User) (domains : List (List ℕ)) (aor : Aor) (column : Column)
    → are_asked_alike rules users domains (column_of rules users domains aor) column ≡ true → is_users_address users domains aor ≡ is_known users domains column
known_of_cell rules users domains aor column alike = known_of_finer rules rules users users domains domains aor column (among_itself users) (among_itself domains) alike

-- a user's own address is a configured user's
pub own_is_known : (users : List User) (domains : List (List ℕ)) (name : List ℕ) (aor : Aor) → is_users_name users name ≡ true
    → is_own users domains (Some name) aor ≡ true → is_users_address users domains aor ≡ true
own_is_known users domains name aor is_user own =
    let both = and_parts (is_own_domain domains aor.host) (bytes_eq aor.user name) own in
    and_from _ _ both.0 (ap (λ (text : List ℕ). is_users_name users text) (same_text aor.user name (sym both.1)) ∙ is_user)
