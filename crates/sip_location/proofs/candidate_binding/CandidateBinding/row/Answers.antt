use Rattle.std.proofs.Common.{◌∙◌, sym, subst, ap}
use Rattle.sip_uri.specs.Uri.{text_of}
use Rattle.sip_location.specs.KeptBinding.{IsUriText}
use Rattle.sip_location.proofs.Reading.{is_text, is_said_text, row_says}
use Rattle.sip_location.proofs.candidate_binding.CandidateBinding.row.Goals as goal

pub new-requires : goal.new-requires
new-requires c =
    let says = rw c.in-Some.is at c.self.invariant.says in
    is_said_text c.self.inside.uri c.in-Some.text.now c.self.invariant.valid says

pub new-requires-in-None : goal.new-requires-in-None
new-requires-in-None c = subst IsUriText (sym (c.as_slice.ensures ∙ c.in_ok-text-in-None.ensures ∙ ap text_of c.uri.ensures))
    (is_text c.self.inside.uri c.self.invariant.valid)

pub returns-in-Some : goal.returns-in-Some
returns-in-Some c =
    let says = rw c.in-Some.is at c.self.invariant.says in
    rw (← c.self.view_is)
    (row_says c.new.result c.self.inside.uri c.in-Some.text.now c.self.inside.call_id.now c.self.inside.cseq c.self.inside.expires_at c.self.invariant.valid says
    c.new.ensures)

pub returns-in_ok-text-in-None : goal.returns-in_ok-text-in-None
returns-in_ok-text-in-None c =
    rw (← c.self.view_is)
    (row_says c.new-in-None.result c.self.inside.uri c.as_slice.result.now c.self.inside.call_id.now c.self.inside.cseq c.self.inside.expires_at c.self.invariant.valid
    (c.as_slice.ensures ∙ c.in_ok-text-in-None.ensures ∙ ap text_of c.uri.ensures) c.new-in-None.ensures)
