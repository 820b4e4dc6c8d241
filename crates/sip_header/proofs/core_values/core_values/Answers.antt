use Rattle.std.proofs.Common.{◌≡◌, false, ap, sym, ◌∙◌, get_or}
use Rattle.sip_message_form.specs.fields.declared.field.Field.{Field}
use Rattle.sip_message_form.specs.fields.declared.field_name.FieldName.{FieldName}
use Rattle.sip_message_form.specs.fields.declared.field_name.FieldName.TheVariants as Name
use Rattle.sip_message_form.specs.fields.declared.known_names.KnownName.{KnownName}
use Rattle.sip_message_form.specs.fields.declared.known_names.KnownName.TheVariants as Known
use Rattle.sip_message_form.specs.fields.FieldName.{is_same_name}
use Rattle.sip_message_form.specs.fields.KnownName.{field_name_of}
use Rattle.sip_header.proofs.FoundValues.{field_next, other_next}
use Rattle.sip_header.proofs.core_values.core_values.Goals as goal

pub loop-field-preserved : goal.loop-field-preserved
loop-field-preserved c =
    let field : Field = c.field-item.result in
    let is : field ≡ get_or c.args.fields.now c.loop-field.field-index field = c.field-item.is in (
      field_next Name.From c.args.fields.now c.loop-field.field-index field _ _ c.loop-field-test.true is c.loop-field.invariant.0 c.see.ensures,
      field_next Name.To c.args.fields.now c.loop-field.field-index field _ _ c.loop-field-test.true is c.loop-field.invariant.1 c.see-in-loop-field.ensures,
      field_next Name.CallId c.args.fields.now c.loop-field.field-index field _ _ c.loop-field-test.true is c.loop-field.invariant.2 c.see-in-loop-field-2.ensures,
      field_next Name.CSeq c.args.fields.now c.loop-field.field-index field _ _ c.loop-field-test.true is c.loop-field.invariant.3 c.see-in-loop-field-3.ensures,
    )

pub loop-field-preserved-then-not-may_be_known : goal.loop-field-preserved-then-not-may_be_known
loop-field-preserved-then-not-may_be_known c =
    let field : Field = c.field-item.result in
    let is : field ≡ get_or c.args.fields.now c.loop-field.field-index field = c.field-item.is in
    let other : (known : KnownName) → is_same_name field.name (field_name_of known) ≡ false
    = λ known. ap (λ (n : FieldName). is_same_name n (field_name_of known)) (sym c.name.ensures) ∙ c.may_be_known.ensures known c.if-not-may_be_known.true in (
      other_next Name.From c.args.fields.now c.loop-field.field-index field _ c.loop-field-test.true is (other Known.From) c.loop-field.invariant.0,
      other_next Name.To c.args.fields.now c.loop-field.field-index field _ c.loop-field-test.true is (other Known.To) c.loop-field.invariant.1,
      other_next Name.CallId c.args.fields.now c.loop-field.field-index field _ c.loop-field-test.true is (other Known.CallId) c.loop-field.invariant.2,
      other_next Name.CSeq c.args.fields.now c.loop-field.field-index field _ c.loop-field-test.true is (other Known.CSeq) c.loop-field.invariant.3,
    )
