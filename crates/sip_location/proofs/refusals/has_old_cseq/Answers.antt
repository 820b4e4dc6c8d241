use Rattle.std.proofs.Common.{◌≡◌, ◌∙◌, List, ap}
use Rattle.std.specs.Prelude.{◌&&◌}
use Rattle.std.specs.List.{list_any}
use Rattle.std.proofs.lemmas.Result.{IfOk-weaker}
use Rattle.sip_header.specs.declared.contact_item.ContactItem.{ContactItem}
use Rattle.sip_location.specs.Newer.{is_of_call}
use Rattle.sip_location.specs.Registration.{speaks_of, has_old_cseq}
use Rattle.sip_location.proofs.Older.{by_contacts}
use Rattle.sip_location.proofs.refusals.has_old_cseq.Goals as goal

pub returns : goal.returns
returns c =
    let r = c.args.request.now in
    let bindings = c.args.bindings.now in
    IfOk-weaker c.any_speaks_of_newer.result (λ speaks. speaks ≡ list_any (λ k. list_any (λ b. is_of_call r b && speaks_of b k) bindings) c.as_slice.result.now)
    (λ old. old ≡ has_old_cseq r bindings)
    (λ t is. is ∙ ap (λ (contacts : List ContactItem). list_any (λ k. list_any (λ b. is_of_call r b && speaks_of b k) bindings) contacts) c.as_slice.ensures.items
    ∙ by_contacts r bindings) c.any_speaks_of_newer.ensures
