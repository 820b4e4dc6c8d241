-- Users who ask alike are of the same groups, as far as rules name them.
use Rattle.std.proofs.Common.{◌≡◌, inl, inr, ℕ, true, List, [], ◌∷◌, Some, sym, ap, ◌∙◌}
use Rattle.std.specs.Bool.{beq}
use Rattle.std.specs.Cmp.Lexicographic.{same_text}
use Rattle.std.proofs.lemmas.Bool.{and_parts, or_cases}
use Rattle.sip_policy.specs.declared.rule.Rule.{Rule}
use Rattle.sip_policy.specs.declared.user.User.{User}
use Rattle.sip_policy.specs.declared.who.Who.{Who}
use Rattle.sip_policy.specs.User.{is_in_group}
use Rattle.sip_policy.specs.Who.{matches_who}
use Rattle.sip_config_types.specs.declared.config.Config.{Config}
use Rattle.sip_matrix.specs.Asker.{ask_alike}
use Rattle.sip_matrix.proofs.Agreement.{agree_same}
use Rattle.sipd_matrix.specs.Unused.{is_named, is_of_group}

module _ (users : List User) (one other group : List ℕ) where
  -- by a rule that names the group
  named_by : (who : Who) → is_of_group group who ≡ true → beq (matches_who users (Some one) who) (matches_who users (Some other) who) ≡ true
      → is_in_group users one group ≡ is_in_group users other group
  named_by (Who.Group named) h e =
      agree_same (is_in_group users one group) (is_in_group users other group)
      (ap (λ (text : List ℕ). beq (is_in_group users one text) (is_in_group users other text)) (same_text group named (sym h)) ∙ e)
  named_by Who.Anyone h e = absurd cc
  named_by Who.Proven h e = absurd cc
  named_by (Who.User name) h e = absurd cc

  in_rules : (rules : List Rule) → ask_alike rules users one other ≡ true → is_named rules group ≡ true
      → is_in_group users one group ≡ is_in_group users other group
  in_rules [] e named = absurd cc
  in_rules (r ∷ rs) e named =
      let both = and_parts (beq (matches_who users (Some one) r.who) (matches_who users (Some other) r.who)) (ask_alike rs users one other) e in
      elim (or_cases (is_of_group group r.who) (is_named rs group) named) [
        | inl h ↦ named_by r.who h both.0
        | inr h ↦ in_rules rs both.1 h
      ]

pub groups_alike : (config : Config) (row name group : List ℕ) → ask_alike config.rules config.users row name ≡ true → is_named config.rules group ≡ true
    → is_in_group config.users row group ≡ is_in_group config.users name group
groups_alike config row name group e named = in_rules config.users row name group config.rules e named
