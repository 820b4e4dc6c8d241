-- One more step of a day.
use Rattle.std.proofs.Common.{◌≡◌, List, [], ◌∷◌, ◌++◌, refl, sym, ◌∙◌, ap}
use Rattle.sip_model.specs.Run.{Link}
use Rattle.sip_listener.specs.Heard.{Heard, Tells, heard_at, heard_of}
use Rattle.sipd_sources.specs.declared.filter.SourceFilter.{SourceFilter}
use Rattle.sipd_sources.specs.Told.{Known, adds_sources, known_behind, known_with, none, sources_of}

more_behind : (known : Known) (day : List Heard) (step : Heard) → known_behind known (day ++ step ∷ []) ≡ known_with step (known_behind known day)
more_behind known [] step = refl
more_behind known (x ∷ day) step = more_behind (known_with x known) day step

pub sources_more : (filter : SourceFilter) (day : List Heard) (step : Heard) → sources_of filter (day ++ step ∷ []) ≡ known_with step (sources_of filter day)
sources_more filter day step = more_behind (none filter) day step

pub sources_told : (filter : SourceFilter) (known : Known) (history : List Link) → Tells adds_sources (none filter) known history
    → known ≡ sources_of filter (heard_of history)
sources_told filter known [] h = h
sources_told filter known (link ∷ history) h =
    h.last ∙ ap (λ (k : Known). known_with (heard_at link) k) (sources_told filter h.half history h.earlier)
    ∙ sym (sources_more filter (heard_of history) (heard_at link))
