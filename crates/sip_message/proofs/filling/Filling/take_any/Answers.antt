use Rattle.std.proofs.Common.{◌≡◌, ◌∷◌, [], ℕ, List, Some, None, true, sym, ◌∙◌, refl, subst, rules}
use Rattle.std.specs.Prelude.{MatchResult}
use Rattle.sip_message_fields.specs.FieldName.{is_list}
use Rattle.sip_text.specs.Lists.{cut}
use Rattle.sip_message.specs.HeadContent.{next_length}
use Rattle.sip_message.proofs.HeadFills.{length_either, one_filled}
use Rattle.sip_message.proofs.filling.Filling.take_any.Goals as goal

pub returns-then-is_content_length : goal.returns-then-is_content_length
returns-then-is_content_length c =
    length_either c.take_length.result c.args.self.now c.take_length.new.self (record { name = c.args.name; value = c.args.value })
    (sym c.is_content_length.ensures ∙ c.if-is_content_length.true) c.take_length.ensures.fields
    (subst (λ (v : List ℕ). MatchResult c.take_length.result (λ _. next_length c.args.self.now.length v ≡ Some c.take_length.new.self.length)
    (λ _. next_length c.args.self.now.length v ≡ None)) c.as_slice-bytes.ensures c.take_length.ensures.length)

pub returns : goal.returns
returns c =
    one_filled c.args.self.now _ (record { name = c.args.name; value = c.args.value }) (sym c.is_content_length.ensures ∙ c.if-is_content_length.false)
    (subst (λ (v : List ℕ). is_list c.args.name ≡ true → cut v ≡ Some (v ∷ [])) c.as_slice-bytes.ensures (c.is_one_field.ensures.one c.if-not-is_one_field.false)) refl
    (search rules)
