-- Where the parts of a datagram stand, put together.
use Rattle.std.proofs.Common.{◌≡◌, ◌⊎◌, ℕ, Bool, List, Option, Some, Result, Ok, Err, refl, sym, ap, subst, ◌∙◌, inl, inr}
use Rattle.std.specs.Option.{option_and_then, ok_or}
use denote.Ref.{Bor}
use Rattle.sip_message_fields.specs.declared.field.Field.{Field}
use Rattle.sip_message_form.specs.declared.message.Start.{Start}
use Rattle.sip_message_form.specs.declared.message.Message.{Message}
use Rattle.sip_message_form.specs.declared.error.ReadError.{ReadError}
use Rattle.sip_message_form.specs.declared.error.ReadError.TheVariants.{NoMemory, NotSip, BadField}
use Rattle.sip_message_fields.specs.Slice.{IsSliceOf, IsCutFrom}
use Rattle.sip_message.specs.declared.content.Content.{Content}
use Rattle.sip_message.specs.declared.datagram_parts.DatagramParts.{DatagramParts}
use Rattle.sip_message.specs.Lines.{after_blanks, line_at, head_at}
use Rattle.sip_message.specs.Start.{start_of}
use Rattle.sip_message.specs.Field.{entries_of, kept}
use Rattle.sip_message.specs.Body.{lengths, one_length, is_short}
use Rattle.sip_message.specs.Reading.{◌>>=◌, with_body, head_said, content_from, content_of}
use Rattle.sip_message.specs.HeadContent.{IsContentOf}
use Rattle.sip_message.specs.Parts.{joined_values, folds_of_head, AreSlicesOf, ArePartsOf}
use Rattle.sip_message.proofs.Wholes.{all_of_it}

pub parts_are : (datagram blankless line head rest : Bor (List ℕ)) (content : Content) (parts : DatagramParts) → blankless.now ≡ after_blanks datagram.now
    → IsCutFrom datagram blankless → Some (line.now, head.now) ≡ line_at blankless.now → IsCutFrom blankless head
    → IsContentOf head content rest → parts.fields ≡ content.fields → IsCutFrom rest parts.body → ArePartsOf datagram parts
parts_are datagram blankless line head rest content parts after after_cut first head_cut are same body =
    let whole : IsSliceOf datagram head = head_cut.of_whole datagram (after_cut.of_whole datagram (all_of_it datagram)) in
    let at : line_at (after_blanks datagram.now) ≡ Some (line.now, head.now) = ap line_at (sym after) ∙ sym first in record {
      folds = ap (λ (o : Option (List ℕ × List ℕ)). option_and_then (λ f. folds_of_head f.1) o) at ∙ are.folds ∙ ap (λ w. Some (joined_values w.items)) (sym same);
      slices = subst (λ w. AreSlicesOf datagram w.items) (sym same) (are.slices datagram whole);
      body = body.of_whole datagram (are.follows.of_whole datagram whole);
    }

-- ---- what is said

-- whether the body is short, and the message, of what a head says
abbrev pub with_start : Start → Option ℕ × List Field × List ℕ → Bool × Message
with_start start x = (is_short x.0 x.2, with_body start x.1 x.0 x.2)

after_step : {A B C : Type 0} (r : Result A ReadError) (f : A → Result C ReadError) (g : A → Result B ReadError) (h : B → Result C ReadError)
    → ((x : A) → f x ≡ g x >>= h) → r >>= f ≡ (r >>= g) >>= h
after_step (Ok x) f g h same = same x
after_step (Err e) f g h same = refl

by_head : (start : Start) (head : List ℕ) → ok_or (head_at head) NotSip >>= (λ x. content_from start x.0 x.1) ≡ head_said head >>= (λ x. Ok (with_start start x))
unfolding head_said content_from
by_head start head =
    after_step (ok_or (head_at head) NotSip) _ _ _ (λ x. after_step (ok_or (entries_of x.0) BadField) _ _ _
    (λ entries. after_step (ok_or (one_length (lengths entries)) BadField) _ _ _ (λ n. after_step (ok_or (kept entries) BadField) _ _ _ (λ fields. refl))))

pub content_is : (bytes blankless line head : List ℕ) (start : Start) → blankless ≡ after_blanks bytes → Some (line, head) ≡ line_at blankless
    → ok_or (start_of line) NotSip ≡ Ok start → content_of bytes ≡ head_said head >>= (λ x. Ok (with_start start x))
unfolding content_of
content_is bytes blankless line head start after first says =
    let at : line_at (after_blanks bytes) ≡ Some (line, head) = ap line_at (sym after) ∙ sym first in
    rw (at, says) (by_head start head)

pub head_fault : (bytes head : List ℕ) (start : Start) (e : ReadError) → content_of bytes ≡ head_said head >>= (λ x. Ok (with_start start x))
    → (e ≡ NoMemory) ⊎ (head_said head ≡ Err e) → (e ≡ NoMemory) ⊎ (content_of bytes ≡ Err e)
head_fault bytes head start e is (inl none) = inl none
head_fault bytes head start e is (inr fault) = inr (is ∙ ap (λ (r : Result (Option ℕ × List Field × List ℕ) ReadError). r >>= (λ x. Ok (with_start start x))) fault)
