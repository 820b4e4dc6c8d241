use Rattle.std.proofs.Common.{ℕ, List, ◌-◌, ◌/◌, ◌++◌, ◌∙◌, ap, codes}
use Rattle.std.proofs.lemmas.Result.{on_ok_weaker}
use Rattle.sip_uri.specs.Uri.{text_of}
use Rattle.sipd_calls.specs.Notation.{Number, Words, further_text}
use Rattle.sipd_calls.proofs.Parts.{three_parts}
use Rattle.sipd_standing.specs.PhoneProgram.{address_member}
use Rattle.sipd_standing.proofs.phone_program.push_front.Goals as goal

pub returns : goal.returns
returns c =
    let notation = c.args.notation in
    let binding = c.args.binding.now in
    on_ok_weaker c.push_further-2.result
    (λ h. three_parts c.args.out.now (address_member notation c.args.row.now) (further_text notation (codes "contact") (Words (text_of binding.uri)))
    (further_text notation (codes "left") (Number ((binding.expires_at - c.args.at) / 1000))) c.push_address.new.out c.push_further.new.out
    c.push_further-2.new.out c.in_ok-push_address.ensures
    (c.in_ok-push_further.ensures
    ∙ ap (λ (text : List ℕ). c.push_address.new.out ++ further_text notation (codes "contact") (Words text)) c.uri_text.ensures.says)
    (h ∙ ap (λ (n : ℕ). c.push_further.new.out ++ further_text notation (codes "left") (Number n)) c.seconds_left.ensures)) c.push_further-2.ensures
