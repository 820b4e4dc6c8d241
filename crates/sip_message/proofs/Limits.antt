-- What is read is what the parts say, within the last limits.
use Rattle.std.proofs.Common.{◌≡◌, ℕ, Bool, true, false, cond, List, Result, Ok, Err, refl, length}
use Rattle.std.specs.Prelude.{nat_lt}
use Rattle.std.specs.Option.{ok_or}
use Rattle.sip_message_form.specs.declared.message.Start.{Start}
use Rattle.sip_message_form.specs.declared.message.Message.{Message}
use Rattle.sip_message_form.specs.declared.error.ReadError.{ReadError}
use Rattle.sip_message_form.specs.declared.error.ReadError.TheVariants.{TooLong, NotSip, BadField}
use Rattle.sip_message.specs.Lines.{after_blanks, line_at, head_at}
use Rattle.sip_message.specs.Start.{start_of}
use Rattle.sip_message.specs.Field.{entries_of, kept}
use Rattle.sip_message.specs.Body.{lengths, one_length}
use Rattle.sip_message.specs.Reading.{◌>>=◌, limited, message_from, datagram_of, reading_of, content_from, content_of, parts_of}

abbrev pub within : Bool × Message → Result Message ReadError
within x = limited x.0 x.1

step : {A : Type 0} (r : Result A ReadError) (f : A → Result Message ReadError) (g : A → Result (Bool × Message) ReadError) → ((x : A) → f x ≡ g x >>= within)
    → r >>= f ≡ (r >>= g) >>= within
step (Ok x) f g same = same x
step (Err e) f g same = refl

contents_limited : (start : Start) (lines : List (List ℕ)) (rest : List ℕ) → message_from start lines rest ≡ content_from start lines rest >>= within
unfolding message_from content_from
contents_limited start lines rest = step (ok_or (entries_of lines) BadField) _ _ (λ entries.
    step (ok_or (one_length (lengths entries)) BadField) _ _ (λ n. step (ok_or (kept entries) BadField) _ _ (λ fields. refl)))

pub datagram_limited : (bytes : List ℕ) → datagram_of bytes ≡ content_of bytes >>= within
unfolding datagram_of content_of
datagram_limited bytes = step (ok_or (line_at (after_blanks bytes)) NotSip) _ _ (λ first.
    step (ok_or (start_of first.0) NotSip) _ _ (λ start. step (ok_or (head_at first.1) NotSip) _ _ (λ head. contents_limited start head.0 head.1)))

either : (t : Bool) (a : Result Message ReadError) (b : Result (Bool × Message) ReadError) → a ≡ b >>= within → cond t (Err TooLong) a ≡ cond t (Err TooLong) b >>= within
either true a b same = refl
either false a b same = same

pub limits_last : (bytes : List ℕ) → reading_of bytes ≡ parts_of bytes >>= within
unfolding reading_of parts_of
limits_last bytes = either (nat_lt 65507 (length bytes)) (datagram_of bytes) (content_of bytes) (datagram_limited bytes)
