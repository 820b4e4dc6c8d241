-- What is read of a datagram has a head, and what is read whole is said.
use Rattle.std.proofs.Common.{◌≡◌, ℕ, Bool, true, false, cond, List, length, Option, Some, None, Result, Ok, Err, option_map, refl, ap, subst, true≢false}
use Rattle.std.specs.Prelude.{nat_lt}
use Rattle.std.specs.Option.{ok_or, option_map_or}
use Rattle.sip_message_fields.specs.declared.field.Field.{Field}
use Rattle.sip_message_form.specs.declared.error.ReadError.{ReadError}
use Rattle.sip_message_form.specs.declared.error.ReadError.TheVariants.{NoMemory, TooLong, NotSip, BadField, TooManyFields, ShortBody}
use Rattle.sip_message_form.specs.declared.message.Start.{Start}
use Rattle.sip_message_form.specs.declared.message.Message.{Message}
use Rattle.sip_message_form.specs.Text.{text_of}
use Rattle.sip_message.specs.Lines.{after_blanks, line_at, lines_at, unfolded, head_at}
use Rattle.sip_message.specs.Start.{start_of}
use Rattle.sip_message.specs.Field.{entries_of, kept}
use Rattle.sip_message.specs.Body.{lengths, one_length, is_short}
use Rattle.sip_message.specs.Says.{IsHead}
use Rattle.sip_message.specs.Reading.{◌>>=◌, with_body, limited, message_from, datagram_of, reading_of}
use Rattle.sip_message.proofs.CutLaws.{cut_is}
use Rattle.sip_message.proofs.StartLaws.{start_is}
use Rattle.sip_message.proofs.SaysLaws.{first_some}
use Rattle.sip_model.specs.verdict_model.Verdict.{message_in}

-- ---- a head

-- the start line of what was read, and another one where nothing was
abbrev start_or : Start → Option (Message × Bool) → Start
start_or start said = option_map_or (λ (x : Message × Bool). x.0.start) said start

limited_start : (m whole : Message) (short many long brief : Bool)
    → message_in (cond many (Err TooManyFields) (cond long (Err TooLong) (cond brief (Err (ShortBody whole)) (Ok whole)))) ≡ Some (m, short) → whole.start ≡ m.start
limited_start m whole short true long brief e = absurd (cc)
limited_start m whole short false true brief e = absurd (cc)
limited_start m whole short false false true e = ap (start_or whole.start) e
limited_start m whole short false false false e = ap (start_or whole.start) e

-- what is read behind a start line has it
from_start : (s : Start) (lines : List (List ℕ)) (rest : List ℕ) (m : Message) (short : Bool) → message_in (message_from s lines rest) ≡ Some (m, short) → s ≡ m.start
unfolding message_from
from_start s lines rest m short e = by_entries (entries_of lines) e where
  by_kept : (n : Option ℕ) (o : Option (List Field)) → message_in (ok_or o BadField >>= λ fields. limited (is_short n rest) (with_body s fields n rest)) ≡ Some (m, short)
      → s ≡ m.start
  by_kept n None e = absurd (cc)
  by_kept n (Some fields) e =
      limited_start m (with_body s fields n rest) short (nat_lt 256 (length fields)) (nat_lt 49152 (length (text_of (with_body s fields n rest)))) (is_short n rest) e

  by_length : (entries : List Field) (o : Option (Option ℕ))
      → message_in (ok_or o BadField >>= λ n. ok_or (kept entries) BadField >>= λ fields. limited (is_short n rest) (with_body s fields n rest)) ≡ Some (m, short)
      → s ≡ m.start
  by_length entries None e = absurd (cc)
  by_length entries (Some n) e = by_kept n (kept entries) e

  by_entries : (o : Option (List Field))
      → message_in
      (ok_or o BadField >>= λ entries. ok_or (one_length (lengths entries)) BadField >>= λ n. ok_or (kept entries) BadField >>=
      λ fields. limited (is_short n rest) (with_body s fields n rest))
      ≡ Some (m, short)
      → s ≡ m.start
  by_entries None e = absurd (cc)
  by_entries (Some entries) e = by_length entries (one_length (lengths entries)) e

-- bytes have a head with a start line
pub record HasHead (bytes : List ℕ) (start : Start) : Type 0 where
  pub lines : List (List ℕ)
  pub rest : List ℕ
  pub is_head : IsHead bytes start lines rest

-- the lines of a head, each with its folds, and what follows them
abbrev with_folds : List (List ℕ) × List ℕ → List (List ℕ) × List ℕ
with_folds x = (unfolded x.0, x.1)

-- those of which a message is read do, whatever came of its body
pub head_in : (bytes : List ℕ) (m : Message) (short : Bool) → message_in (reading_of bytes) ≡ Some (m, short) → HasHead bytes m.start
unfolding reading_of datagram_of
head_in bytes m short e = by_size (nat_lt 65507 (length bytes)) e where
  by_lines : (x : List ℕ × List ℕ) (s : Start) (o : Option (List (List ℕ) × List ℕ)) → line_at (after_blanks bytes) ≡ Some x → start_of x.0 ≡ Some s
      → lines_at false x.1 ≡ o
      → message_in (ok_or (option_map with_folds o) NotSip >>= λ head. message_from s head.0 head.1) ≡ Some (m, short)
      → HasHead bytes m.start
  by_lines x s None first start lines e = absurd (cc)
  by_lines x s (Some y) first start lines e =
      subst (HasHead bytes) (from_start s (unfolded y.0) y.1 m short e) (record {
        lines = y.0;
        rest = y.1;
        is_head = record { first = x.0; is_cut = cut_is bytes x.0 x.1 y.0 y.1 first (first_some s x.0 start) lines; is_start = start_is x.0 s start };
      })

  by_start : (x : List ℕ × List ℕ) (o : Option Start) → line_at (after_blanks bytes) ≡ Some x → start_of x.0 ≡ o
      → message_in (ok_or o NotSip >>= λ start. ok_or (head_at x.1) NotSip >>= λ head. message_from start head.0 head.1) ≡ Some (m, short) → HasHead bytes m.start
  by_start x None first start e = absurd (cc)
  by_start x (Some s) first start e = by_lines x s (lines_at false x.1) first start refl e

  by_line : (o : Option (List ℕ × List ℕ)) → line_at (after_blanks bytes) ≡ o
      → message_in (ok_or o NotSip >>= λ first. ok_or (start_of first.0) NotSip >>= λ start. ok_or (head_at first.1) NotSip >>= λ head. message_from start head.0 head.1)
      ≡ Some (m, short)
      → HasHead bytes m.start
  by_line None first e = absurd (cc)
  by_line (Some x) first e = by_start x (start_of x.0) first refl e

  by_size : (t : Bool) → message_in (cond t (Err TooLong) (datagram_of bytes)) ≡ Some (m, short) → HasHead bytes m.start
  by_size true e = absurd (cc)
  by_size false e = by_line (line_at (after_blanks bytes)) refl e

-- ---- a whole message

-- what is read whole is read
pub reads : (r : Result Message ReadError) (m : Message) → message_in r ≡ Some (m, false) → r ≡ Ok m
reads (Ok n) m e = ap (λ (o : Option (Message × Bool)). Ok (option_map_or (λ (x : Message × Bool). x.0) o n)) e
reads (Err (ShortBody n)) m e = absurd (true≢false (ap (λ (o : Option (Message × Bool)). option_map_or (λ (x : Message × Bool). x.1) o false) e))
reads (Err NoMemory) m e = absurd (cc)
reads (Err NotSip) m e = absurd (cc)
reads (Err BadField) m e = absurd (cc)
reads (Err TooLong) m e = absurd (cc)
reads (Err TooManyFields) m e = absurd (cc)
