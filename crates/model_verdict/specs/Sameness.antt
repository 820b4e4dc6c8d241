-- When a REGISTER comes to the same, and when verdicts are the same.
use Rattle.std.specs.Prelude.{◌≡◌, ℕ, Option, Some, None}
use Rattle.sip_message_form.specs.declared.message.Message.{Message}
use Rattle.sip_location.specs.Sameness.{SameBindings}
use Rattle.model_verdict.specs.declared.question.Question.{Question}
use Rattle.model_verdict.specs.Verdict.{Registered, Bound, Refused, Verdict, Register}

-- A REGISTER comes to the same: the same refusal, or rows that say the same from its moment on.
abbrev pub SameRegistered : ℕ → Registered → Registered → Type 0
SameRegistered now (Bound left) (Bound right) = SameBindings now left right
SameRegistered now (Refused status extras) other = other ≡ Refused status extras
SameRegistered now (Bound left) (Refused status extras) = ⊥

-- Two verdicts are the same: they are equal, or both take a REGISTER by the same rule, for the same question, and it comes to the same.
pub data SameVerdict (now : ℕ) : Verdict → Verdict → Type 0 where
  Alike : (verdict : Verdict) → SameVerdict now verdict verdict
  AlikeRegister : (q : Question) (id : ℕ) (left right : Registered) → SameRegistered now left right
      → SameVerdict now (Register q id left) (Register q id right)

-- Two datagrams say the same: neither says a message, or both say one, with verdicts that are the same.
abbrev pub SameSaid : ℕ → Option (Message × Verdict) → Option (Message × Verdict) → Type 0
SameSaid now None other = other ≡ None
SameSaid now (Some left) (Some right) = (left.0 ≡ right.0) × SameVerdict now left.1 right.1
SameSaid now (Some left) None = ⊥
