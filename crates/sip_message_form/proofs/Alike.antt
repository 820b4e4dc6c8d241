-- Messages that stand in stores say the same where the stores are the same, and what names their parts.
use Rattle.std.proofs.Common.{◌≡◌, ℕ, List, ap, ◌∙◌}
use Rattle.sip_message_fields.specs.text.declared.span.Span.{Span}
use Rattle.sip_message_fields.specs.declared.kept_field.KeptField.{KeptField}
use Rattle.sip_message_form.specs.declared.kept_start.KeptStart.{KeptStart}
use Rattle.sip_message_form.specs.Kept.{message_kept}

pub kept_alike : (store other : List ℕ) (start first : KeptStart) (list fields : List KeptField) (body rest : Span) → store ≡ other → start ≡ first → list ≡ fields
    → body ≡ rest → message_kept store start list body ≡ message_kept other first fields rest
kept_alike store other start first list fields body rest same_store same_start same_list same_body =
    ap (λ (s : List ℕ). message_kept s start list body) same_store
    ∙ ap (λ (s : KeptStart). message_kept other s list body) same_start
    ∙ ap (λ (l : List KeptField). message_kept other first l body) same_list
    ∙ ap (λ (b : Span). message_kept other first fields b) same_body
