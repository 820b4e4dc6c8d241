use Rattle.std.proofs.Common.{List, ap, ◌∙◌}
use Rattle.std.proofs.lemmas.Result.{on_ok_weaker}
use Rattle.sip_days.specs.Hearing.{hears_with}
use Rattle.sip_days.specs.Changing.{with_each}
use Rattle.sip_days.specs.declared.call.Call.{Call}
use Rattle.sip_days.proofs.Opened.{written_each}
use Rattle.sip_days.proofs.hearing.tell_places.Goals as goal

pub returns : goal.returns
returns c =
    on_ok_weaker c.tell_each.result
    (λ h. written_each (hears_with c.args.bye.now c.args.out.now) c.args.places.now c.args.calls.now c.tell_each.new.calls
    (h ∙ ap (λ (l : List Call). with_each (hears_with c.args.bye.now c.args.out.now) c.args.places.now l) c.as_mut_slice.ensures.value))
    c.tell_each.ensures
