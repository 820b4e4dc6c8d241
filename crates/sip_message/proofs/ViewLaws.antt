-- What is read of a datagram, by what its first line and its head say.
use Rattle.std.proofs.Common.{◌≡◌, ◌⊎◌, ℕ, Bool, List, Option, Some, Result, Ok, Err, sym, ap, ◌∙◌, inl, inr}
use Rattle.std.specs.Option.{ok_or}
use Rattle.sip_message_fields.specs.declared.field.Field.{Field}
use Rattle.sip_message_form.specs.declared.message.Start.{Start}
use Rattle.sip_message_form.specs.declared.message.Message.{Message}
use Rattle.sip_message_form.specs.declared.error.ReadError.{ReadError}
use Rattle.sip_message_form.specs.declared.error.ReadError.TheVariants.{NoMemory, NotSip}
use Rattle.sip_message.specs.Lines.{after_blanks, line_at}
use Rattle.sip_message.specs.Start.{start_of}
use Rattle.sip_message.specs.Body.{body_of, is_short}
use Rattle.sip_message.specs.Reading.{◌>>=◌, limited, head_said, datagram_of, content_of}
use Rattle.sip_message.proofs.Limits.{within, datagram_limited}
use Rattle.sip_message.proofs.Standing.{with_start, content_is, head_fault}

abbrev message_of : Start → List Field → List ℕ → Message
message_of start fields body = record { start = start; fields = fields; body = body }

by_content : (bytes : List ℕ) (r : Result (Bool × Message) ReadError) → content_of bytes ≡ r → datagram_of bytes ≡ r >>= within
by_content bytes r is = datagram_limited bytes ∙ ap (λ (s : Result (Bool × Message) ReadError). s >>= within) is

pub view_is : (bytes blankless line head : List ℕ) (start : Start) (x : Option ℕ × List Field × List ℕ) (short : Bool) (view : Message) (body : List ℕ)
    → blankless ≡ after_blanks bytes → Some (line, head) ≡ line_at blankless
    → ok_or (start_of line) NotSip ≡ Ok start → head_said head ≡ Ok x → short ≡ is_short x.0 x.2 → body ≡ body_of x.0 x.2 → view ≡ message_of start x.1 body
    → limited short view ≡ datagram_of bytes
view_is bytes blankless line head start x short view body after first says said s b v =
    let content : content_of bytes ≡ Ok (with_start start x) = content_is bytes blankless line head start after first says
    ∙ ap (λ (r : Result (Option ℕ × List Field × List ℕ) ReadError). r >>= (λ y. Ok (with_start start y))) said in
    ap (λ (t : Bool). limited t view) s ∙ ap (limited (is_short x.0 x.2)) (v ∙ ap (message_of start x.1) b) ∙ sym (by_content bytes (Ok (with_start start x)) content)

pub view_fault : (bytes blankless line head : List ℕ) (start : Start) (e : ReadError) → blankless ≡ after_blanks bytes → Some (line, head) ≡ line_at blankless
    → ok_or (start_of line) NotSip ≡ Ok start
    → (e ≡ NoMemory) ⊎ (head_said head ≡ Err e) → (e ≡ NoMemory) ⊎ (datagram_of bytes ≡ Err e)
view_fault bytes blankless line head start e after first says fault = on (head_fault bytes head start e (content_is bytes blankless line head start after first says)
    fault)
  where
    on : (e ≡ NoMemory) ⊎ (content_of bytes ≡ Err e) → (e ≡ NoMemory) ⊎ (datagram_of bytes ≡ Err e)
    on (inl none) = inl none
    on (inr is) = inr (by_content bytes (Err e) is)
