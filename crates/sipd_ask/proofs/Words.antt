-- Denials, by the number of the rule.
use Rattle.std.proofs.Common.{◌≡◌, ◌≢◌, ℕ, List, codes, ap, cond}
use Rattle.std.proofs.lemmas.Bool.{ne_eqb}
use Rattle.sipd_ask.specs.Decide.{numbered, denial_text}

pub by_none : (id : ℕ) → id ≡ 0 → denial_text id ≡ codes "no rule matches: denied, 403, rule 0"
by_none id is = ap denial_text is

pub by_rule : (id : ℕ) → id ≢ 0 → denial_text id ≡ numbered (codes "rule ") id (codes " denies: 403")
by_rule id is = ap (λ t. cond {A = List ℕ} t (codes "no rule matches: denied, 403, rule 0") (numbered (codes "rule ") id (codes " denies: 403"))) (ne_eqb id 0 is)
