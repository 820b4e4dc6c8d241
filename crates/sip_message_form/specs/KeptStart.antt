-- A first line whose bytes stand in a store.
use Rattle.std.specs.Prelude.{◌≡◌, ℕ, List}
use Rattle.std.specs.Option.{option_map_or}
use Rattle.sip_message_fields.specs.text.Span.{part, IsWithin}
use Rattle.sip_message_fields.specs.KeptField.{Keeps}
use Rattle.sip_message_form.specs.declared.message.Start.{Start}
use Rattle.sip_message_form.specs.declared.message.Start.TheVariants.{Request, Status}
use Rattle.sip_message_form.specs.declared.kept_start.KeptStart.{KeptStart}

-- the first line that is kept so in a store (RFC 3261 7.1, 7.2)
abbrev pub start_kept : List ℕ → KeptStart → Start
start_kept store kept = option_map_or (λ code. Status code (part store kept.first)) kept.code
    (Request (part store kept.first) (part store kept.uri) (part store kept.version))

-- its bytes lie in the store
pub record IsStartStored (store : List ℕ) (kept : KeptStart) : Type 0 where
  pub first : IsWithin kept.first store
  pub uri : IsWithin kept.uri store
  pub version : IsWithin kept.version store

-- a first line was put into a store
pub record IsStartPut (old : List ℕ) (start : Start) (new : List ℕ) (kept : KeptStart) : Type 0 where
  pub same : start_kept new kept ≡ start
  pub within : IsStartStored new kept
  pub keeps : Keeps old new

-- a first line stands in a store
pub record IsStartKept (start : Start) (store : List ℕ) (kept : KeptStart) : Type 0 where
  pub same : start_kept store kept ≡ start
  pub within : IsStartStored store kept
