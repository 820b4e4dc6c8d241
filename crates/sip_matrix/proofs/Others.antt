-- Where a user of a row asks for an address that isn't his own, one that isn't is listed.
use Rattle.std.proofs.Common.{◌≡◌, ℕ, Bool, true, false, not, ◌&&◌, List, Some, refl, sym, ap, ap₂, ◌∙◌, true≢false}
use Rattle.std.specs.Cmp.Lexicographic.{same_text}
use Rattle.std.specs.Str.{bytes_eq}
use Rattle.std.proofs.lemmas.Bool.{and_from}
use Rattle.sip_uri.specs.declared.aor.Aor.{Aor}
use Rattle.sip_policy.specs.declared.user.User.{User}
use Rattle.sip_policy.specs.declared.rule.Rule.{Rule}
use Rattle.sip_policy.specs.User.{is_named, is_own_domain, is_users_name}
use Rattle.sip_matrix.specs.declared.column.Column.{Column}
use Rattle.sip_matrix.specs.declared.column.Column.TheVariants.{Named, Begins, Elsewhere}
use Rattle.sip_matrix.specs.Address.{column_of}
use Rattle.sip_matrix.specs.Asker.{ask_alike, is_own}
use Rattle.sip_matrix.specs.Column.{are_asked_alike, is_same_column}
use Rattle.sip_matrix.specs.Own.{is_address_of, has_other_than, has_others, AsksForOther}
use Rattle.sip_matrix.specs.Table.{all_columns, columns_of}
use Rattle.sip_matrix.proofs.Firsts.{counted_there, exactly_one}
use Rattle.sip_matrix.proofs.Listed.{any_wider, column_listed}
use Rattle.sip_matrix.proofs.Meeting.{alike_if_same, asked_over, own_domain_same, same_parts}
use Rattle.sip_matrix.proofs.Owned.{same_over}
use Rattle.sip_matrix.proofs.Stars.{IsOf, is_of_column}

both_no : (here same user : Bool) → (here && same) ≡ false → (same && (here && user)) ≡ false
both_no true true user e = absurd (true≢false e)
both_no true false user e = refl
both_no false true user e = refl
both_no false false user e = refl

module _ (rules : List Rule) (users : List User) (domains : List (List ℕ)) where
  -- a column that has an address by its form is none of a user's, where the address isn't his own
  other_there : (name : List ℕ) (aor : Aor) → is_own users domains (Some name) aor ≡ false → (column other : Column) → IsOf users domains aor column
      → is_same_column column other ≡ true → is_address_of users domains name other ≡ false
  other_there name aor none (Named own) (Named other) is e =
      let same = same_parts own other e in
      both_no (is_own_domain domains other.host) (bytes_eq other.user name) (is_users_name users other.user)
      (sym (ap₂ (λ (a b : Bool). a && b) (own_domain_same own other same domains) (ap (λ (text : List ℕ). bytes_eq text name) same.user))
      ∙ ap (is_own users domains (Some name)) is ∙ none)
  other_there name aor none (Named own) (Begins other) is e = refl
  other_there name aor none (Named own) Elsewhere is e = refl
  other_there name aor none (Begins own) (Named other) is e = absurd cc
  other_there name aor none (Begins own) (Begins other) is e = refl
  other_there name aor none (Begins own) Elsewhere is e = refl
  other_there name aor none Elsewhere (Named other) is e = absurd cc
  other_there name aor none Elsewhere (Begins other) is e = refl
  other_there name aor none Elsewhere Elsewhere is e = refl

  pub asked_has_others : (class : Column) (row : List ℕ) → AsksForOther rules users domains class row
      → has_others rules users domains (columns_of rules users domains) class row ≡ true
  asked_has_others class row h =
      let column = column_of rules users domains h.aor in
      let there : has_other_than rules users domains (columns_of rules users domains) class h.name ≡ true =
      any_wider (is_same_column column) (λ (other : Column). not (is_address_of users domains h.name other) && are_asked_alike rules users domains class other)
      (λ other e. and_from _ _ (ap not (other_there h.name h.aor h.other column other (is_of_column rules users domains h.aor) e))
      (sym (asked_over rules users domains column class other h.in_class) ∙ alike_if_same rules users domains column other e))
      (columns_of rules users domains)
      (counted_there (is_same_column column) (columns_of rules users domains)
      (exactly_one is_same_column same_over column (all_columns rules users domains) (column_listed rules users domains h.aor))) in
      any_wider (is_named h.name) (λ (user : User). ask_alike rules users row user.name
      && has_other_than rules users domains (columns_of rules users domains) class user.name)
      (λ user e. ap (λ (text : List ℕ). ask_alike rules users row text && has_other_than rules users domains (columns_of rules users domains) class text)
      (same_text user.name h.name (sym e))
      ∙ and_from _ _ h.in_row there)
      users h.is_user
