-- Rules and their windows.
use Rattle.std.proofs.Common.{◌≡◌, ℕ, Bool, true, false, ◌&&◌, List, [], ◌∷◌, Option, Some, None, option_map, is_none, refl, ap₂, find, if◌then◌else◌}
use Rattle.std.specs.List.{list_all}
use Rattle.sip_uri.specs.declared.aor.Aor.{Aor}
use Rattle.sip_policy.specs.declared.decision.Decision.{Decision}
use Rattle.sip_policy.specs.declared.operation.Operation.{Operation}
use Rattle.sip_policy.specs.declared.user.User.{User}
use Rattle.sip_policy.specs.declared.rule.Rule.{Rule}
use Rattle.sip_policy.specs.declared.window.Window.{Window}
use Rattle.sip_policy.specs.Window.{holds}
use Rattle.sip_policy.specs.Rule.{matches, applies, has_no_window}
use Rattle.sip_policy.specs.Decision.{minute_for}
use Rattle.sip_policy.proofs.FirstMatch.{and_both}

-- a rule without a window applies where it matches
always : (window : Option Window) (minute : ℕ) (rest : Bool) → is_none window ≡ true → (holds minute window && rest) ≡ rest
always None minute rest e = refl
always (Some window) minute rest e = absurd cc

-- two tests that agree on the rules of a list find the same one
find_same : (one other keep : Rule → Bool) (rules : List Rule) → ((r : Rule) → keep r ≡ true → one r ≡ other r) → list_all keep rules ≡ true
    → find one rules ≡ find other rules
find_same one other keep [] same all = refl
find_same one other keep (r ∷ rules) same all =
    let both = and_both (keep r) (list_all keep rules) all in
    ap₂ (λ (b : Bool) (rest : Option Rule). if b then Some r else rest) (same r both.0) (find_same one other keep rules same both.1)

pub find_always : (users : List User) (domains : List (List ℕ)) (proven : Option (List ℕ)) (operation : Operation) (aor : Aor) (minute : ℕ) (rules : List Rule)
    → list_all has_no_window rules ≡ true
    → find (applies users domains proven operation aor minute) rules ≡ find (matches users domains proven operation aor) rules
find_always users domains proven operation aor minute rules all =
    find_same (applies users domains proven operation aor minute) (matches users domains proven operation aor) has_no_window rules
    (λ r e. always r.window minute (matches users domains proven operation aor r) e) all

-- no minute is recorded of a rule without a window
map_none : (window : Option Window) (minute : ℕ) → is_none window ≡ true → option_map (λ (w : Window). minute) window ≡ None
map_none None minute e = refl
map_none (Some window) minute e = absurd cc

minute_none : (d : Decision) (minute : ℕ) (r : Rule) → has_no_window r ≡ true → minute_for d minute (Some r) ≡ None
minute_none Decision.Challenge minute r e = refl
minute_none (Decision.Allow id) minute r e = map_none r.window minute e
minute_none (Decision.Via id hop) minute r e = map_none r.window minute e
minute_none (Decision.Deny id) minute r e = map_none r.window minute e

no_rule : (d : Decision) (minute : ℕ) → minute_for d minute None ≡ None
no_rule Decision.Challenge minute = refl
no_rule (Decision.Allow id) minute = refl
no_rule (Decision.Via id hop) minute = refl
no_rule (Decision.Deny id) minute = refl

either_none : (d : Decision) (minute : ℕ) (r : Rule) (rest : Option Rule) (b : Bool) → has_no_window r ≡ true → minute_for d minute rest ≡ None
    → minute_for d minute (if b then Some r else rest) ≡ None
either_none d minute r rest true e f = minute_none d minute r e
either_none d minute r rest false e f = f

pub found_none : (test : Rule → Bool) (d : Decision) (minute : ℕ) (rules : List Rule) → list_all has_no_window rules ≡ true → minute_for d minute (find test rules) ≡ None
found_none test d minute [] all = no_rule d minute
found_none test d minute (r ∷ rules) all =
    let both = and_both (has_no_window r) (list_all has_no_window rules) all in
    either_none d minute r (find test rules) (test r) both.0 (found_none test d minute rules both.1)
