-- One more step of a day.
use Rattle.std.proofs.Common.{◌≡◌, List, [], ◌∷◌, ◌++◌, refl, sym, ◌∙◌, ap}
use Rattle.sip_model.specs.Run.{Link}
use Rattle.sip_listener.specs.Heard.{Heard, Tells, event_in, heard_at, heard_of}
use Rattle.sip_days.specs.declared.registered.Registered.{Registered}
use Rattle.sip_days.specs.Phones.{adds_phones, phones_behind, phones_of, phones_with}

more_behind : (rows : List Registered) (day : List Heard) (step : Heard)
    → phones_behind rows (day ++ step ∷ []) ≡ phones_with step.config.offset step.event step.out.records (phones_behind rows day)
more_behind rows [] step = refl
more_behind rows (x ∷ day) step = more_behind (phones_with x.config.offset x.event x.out.records rows) day step

pub phones_more : (day : List Heard) (step : Heard) → phones_of (day ++ step ∷ []) ≡ phones_with step.config.offset step.event step.out.records (phones_of day)
phones_more day step = more_behind [] day step

pub phones_told : (rows : List Registered) (history : List Link) → Tells adds_phones [] rows history → rows ≡ phones_of (heard_of history)
phones_told rows [] h = h
phones_told rows (link ∷ history) h =
    h.last ∙ ap (λ (l : List Registered). phones_with link.config.offset (event_in link.act) link.out.records l) (phones_told h.half history h.earlier)
    ∙ sym (phones_more (heard_of history) (heard_at link))
