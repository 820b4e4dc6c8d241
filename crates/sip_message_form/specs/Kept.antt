-- A message whose bytes stand in one store.
use Rattle.std.specs.Prelude.{◌≡◌, ℕ, List, All, map}
use Rattle.sip_message_fields.specs.text.declared.span.Span.{Span}
use Rattle.sip_message_fields.specs.text.Span.{part, IsWithin}
use Rattle.sip_message_fields.specs.declared.kept_field.KeptField.{KeptField}
use Rattle.sip_message_fields.specs.KeptField.{field_kept, IsStored}
use Rattle.sip_message_form.specs.declared.message.Message.{Message}
use Rattle.sip_message_form.specs.declared.kept_start.KeptStart.{KeptStart}
use Rattle.sip_message_form.specs.KeptStart.{start_kept, IsStartStored}
use Rattle.sip_message_form.specs.Text.{text_of}

-- the message that is kept so in a store
abbrev pub message_kept : List ℕ → KeptStart → List KeptField → Span → Message
message_kept store start list body = record { start = start_kept store start; fields = map (field_kept store) list; body = part store body }

-- its parts lie in the store
pub record ArePartsStored (store : List ℕ) (start : KeptStart) (list : List KeptField) (body : Span) : Type 0 where
  pub start_within : IsStartStored store start
  pub fields_within : All (IsStored store) list
  pub body_within : IsWithin body store

-- a body stands in a store
pub record IsBodyKept (body store : List ℕ) (span : Span) : Type 0 where
  pub bytes : part store span ≡ body
  pub within : IsWithin span store

-- the store is its written form, in which its bytes lie
pub record IsMessageStored (store : List ℕ) (start : KeptStart) (list : List KeptField) (body : Span) : Type 0 where
  pub start_within : IsStartStored store start
  pub fields_within : All (IsStored store) list
  pub body_within : IsWithin body store
  pub text : store ≡ text_of (message_kept store start list body)
