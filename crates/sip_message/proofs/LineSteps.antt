-- A line that is taken, or refused.
use Rattle.std.proofs.Common.{◌≡◌, ◌⊎◌, ℕ, false, List, Option, Some, None, refl, ap, ◌∙◌, inl, inr}
use Rattle.std.specs.Option.{option_and_then}
use denote.Ref.{Bor}
use Rattle.sip_message_fields.specs.declared.field.Field.{Field}
use Rattle.sip_message_fields.specs.declared.piece.ViewPiece.TheVariants as Whole
use Rattle.sip_message_fields.specs.Slice.{IsCutFrom, IsPieceCutFrom}
use Rattle.sip_message.specs.declared.content.Content.{Content}
use Rattle.sip_message.specs.declared.line.WholeLine.{WholeLine}
use Rattle.sip_message.specs.declared.line.WholeLine.TheVariants.{Part}
use Rattle.sip_message.specs.declared.line_fault.LineFault.{LineFault}
use Rattle.sip_message.specs.declared.line_fault.LineFault.TheVariants.{NoMemory}
use Rattle.sip_message.specs.declared.part_field.PartField.{PartField}
use Rattle.sip_message.specs.Lines.{is_fold, head_at}
use Rattle.sip_message.specs.Line.{line_piece, line_bytes}
use Rattle.sip_message.specs.Field.{field_of}
use Rattle.sip_message.specs.Parts.{field_seen}
use Rattle.sip_message.specs.HeadContent.{IsFault, field_taken, line_taken, IsWhole, IsFieldTaken, IsLineTaken, IsLineRefused}
use Rattle.sip_message.proofs.Wholes.{without_folds}

-- a line with its folds is refused whose field is
refused : (n : Option ℕ) (line after rest : Bor (List ℕ)) (whole : WholeLine) → IsWhole line after whole rest → line_taken n (line_bytes whole) ≡ None
    → IsLineRefused n line.now after.now
refused n line after rest whole is none = record { whole = line_bytes whole; more = head_at rest.now; bytes = is.bytes; none = none }

pub no_field : (n : Option ℕ) (line after rest : Bor (List ℕ)) (whole : WholeLine) (e : LineFault) → IsWhole line after whole rest
    → IsFault e (field_of (line_bytes whole))
    → (e ≡ NoMemory) ⊎ IsLineRefused n line.now after.now
no_field n line after rest whole e is (inl none) = inl none
no_field n line after rest whole e is (inr none) = inr (refused n line after rest whole is (rw none refl))

pub not_taken : (n : Option ℕ) (line after rest : Bor (List ℕ)) (whole : WholeLine) (field : Field) (e : LineFault) → IsWhole line after whole rest
    → field_of (line_bytes whole) ≡ Some field → IsFault e (field_taken n field) → (e ≡ NoMemory) ⊎ IsLineRefused n line.now after.now
not_taken n line after rest whole field e is says (inl none) = inl none
not_taken n line after rest whole field e is says (inr none) = inr (refused n line after rest whole is (ap (option_and_then (field_taken n)) says ∙ none))

pub taken : (old new : Content) (line after rest : Bor (List ℕ)) (whole : WholeLine) (field : PartField) → IsWhole line after whole rest
    → field_of (line_bytes whole) ≡ Some (field_seen field) → IsPieceCutFrom (line_piece whole) field.value → IsFieldTaken old field new
    → IsLineTaken old line after new rest
taken old new line after rest whole field is says stands t = record { whole = whole; field = field; is_whole = is; says = says; stands = stands; taken = t }

-- ---- a line without folds

pub bad_here : (n : Option ℕ) (line after : Bor (List ℕ)) → is_fold after.now ≡ false → field_of line.now ≡ None → IsLineRefused n line.now after.now
bad_here n line after is none = refused n line after after (Part line) (without_folds line after is) (rw none refl)

pub fault_here : (n : Option ℕ) (line after : Bor (List ℕ)) (field : Field) (e : LineFault) → is_fold after.now ≡ false → field_of line.now ≡ Some field
    → IsFault e (field_taken n field) → (e ≡ NoMemory) ⊎ IsLineRefused n line.now after.now
fault_here n line after field e is says fault = not_taken n line after after (Part line) field e (without_folds line after is) says fault

pub taken_here : (old new : Content) (line after : Bor (List ℕ)) (field : PartField) → is_fold after.now ≡ false → field_of line.now ≡ Some (field_seen field)
    → IsPieceCutFrom (Whole.Part line) field.value → IsFieldTaken old field new → IsLineTaken old line after new after
taken_here old new line after field is says stands t = taken old new line after after (Part line) field (without_folds line after is) says stands t

-- ---- a field whose value stands in the line

pub part_cut : (line value : Bor (List ℕ)) → IsCutFrom line value → IsPieceCutFrom (Whole.Part line) (Whole.Part value)
part_cut line value cut = record { slice = λ source is. cut.of_whole source is; joined = refl }
