use Rattle.std.proofs.Common.{refl, sym, ap, ◌∙◌}
use Rattle.sip_location.specs.KeptBinding.{uri_in}
use Rattle.sip_location.proofs.Alive.{row_alike}
use Rattle.sip_location.proofs.row.BindingRow.is_same.Goals as goal

pub returns : goal.returns
returns c = λ is.
    let counts = c.if-not-counts_as.ensures refl in
    row_alike c.args.self.now c.args.other.now
    (sym c.uri_text.ensures.uri ∙ ap uri_in (c.same_bytes-2.ensures.equal.0 is) ∙ c.uri_text-2.ensures.uri)
    (sym c.call_id.ensures ∙ c.same_bytes.ensures.equal.0 c.if-not-same_bytes.false ∙ c.call_id-2.ensures)
    counts.0 counts.1
