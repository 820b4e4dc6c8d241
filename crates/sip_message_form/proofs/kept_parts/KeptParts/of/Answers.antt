use Rattle.std.proofs.Common.{ℕ, List, subst, rules, ◌∙◌, ◌≡◌, length, ap, sym}
use Rattle.sip_message_fields.specs.declared.field.Field.{Field}
use Rattle.sip_message_fields.specs.KeptField.{IsPut, AreFieldsPut}
use Rattle.sip_message_fields.specs.Lines.{AreLinesAt}
use Rattle.sip_message_form.specs.declared.message.Start.{Start}
use Rattle.sip_message_form.specs.KeptStart.{IsStartPut}
use Rattle.sip_message_form.proofs.Keeping.{kept_is, kept_within, lines_put}
use Rattle.sip_message_form.proofs.kept_parts.KeptParts.of.Goals as goal

pub invariant_of-result : goal.invariant_of-result
invariant_of-result c =
    kept_within c.in_ok-store.store c.put_start.new.store c.put.new.store c.put_lines.new.out c.args.view.now c.in_ok-start.start c.in_ok-body.body
    c.in_ok-lines.lines.list.items
    (subst (λ (w : Start). IsStartPut c.in_ok-store.store w c.put_start.new.store c.in_ok-start.start) c.start.ensures c.in_ok-start.ensures)
    (subst (λ (w : List ℕ). IsPut c.put_start.new.store w c.put.new.store c.in_ok-body.body) c.body.ensures c.in_ok-body.ensures)
    (subst (λ (w : List Field). AreFieldsPut c.put.new.store w c.put_lines.new.out c.in_ok-lines.lines.list.items) (c.as_slice-fields.ensures ∙ c.fields.ensures)
    (lines_put c.put.new.store c.put_lines.new.out _ c.in_ok-lines.lines.list.items _ c.in_ok-lines.lines.end (search rules) c.in_ok-lines.ensures
    c.in_ok-put_lines.ensures))

pub returns : goal.returns
returns c =
    kept_is c.in_ok-store.store c.put_start.new.store c.put.new.store c.put_lines.new.out c.args.view.now c.in_ok-start.start c.in_ok-body.body
    c.in_ok-lines.lines.list.items
    (subst (λ (w : Start). IsStartPut c.in_ok-store.store w c.put_start.new.store c.in_ok-start.start) c.start.ensures c.in_ok-start.ensures)
    (subst (λ (w : List ℕ). IsPut c.put_start.new.store w c.put.new.store c.in_ok-body.body) c.body.ensures c.in_ok-body.ensures)
    (subst (λ (w : List Field). AreFieldsPut c.put.new.store w c.put_lines.new.out c.in_ok-lines.lines.list.items) (c.as_slice-fields.ensures ∙ c.fields.ensures)
    (lines_put c.put.new.store c.put_lines.new.out _ c.in_ok-lines.lines.list.items _ c.in_ok-lines.lines.end (search rules) c.in_ok-lines.ensures
    c.in_ok-put_lines.ensures))
