-- Faults of the journal and of the log, piece behind piece.
use Rattle.std.proofs.Common.{◌≢◌, List, [], ◌∷◌, ◌++◌, refl, sym, ◌∙◌, subst}
use Rattle.sip_audit.specs.declared.record.Record.{Record}
use Rattle.sip_event.specs.declared.event.Event.{Event}
use Rattle.sip_loop.specs.Serving.{AreFaulted, AreHeld, AreWhole, Asked, Clear, Doing, Stage, Stopped, Told, Unlogged, Untold, event_told, gathered, records_logged}
use Rattle.sip_loop.specs.Courses.{IsThrough}
use Rattle.sip_loop.proofs.Gathering.{gathered_behind}

none_both : {A : Type 0} {P : Type 0} (xs ys : List A) → (xs ≢ [] → P) → (ys ≢ [] → P) → xs ++ ys ≢ [] → P
none_both [] ys h k some = k some
none_both (x ∷ xs) ys h k some = h (λ e. cc)

pub whole_nothing : (t : Told) → AreWhole t []
whole_nothing t = record { journal = λ some. absurd (some refl); log = λ some. absurd (some refl) }

pub whole_on : (before half : Told) (done more : List Doing) → AreHeld before half → AreWhole before done → AreWhole half more → AreWhole before (more ++ done)
whole_on before half done more held h k = record {
  journal = λ some. none_both (gathered event_told done) (gathered event_told more) h.journal (λ told. sym held.0 ∙ k.journal told)
      (subst (λ (l : List Event). l ≢ []) (gathered_behind event_told more done) some);
  log = λ some. none_both (gathered records_logged done) (gathered records_logged more) h.log (λ logged. sym held.1 ∙ k.log logged)
      (subst (λ (l : List Record). l ≢ []) (gathered_behind records_logged more done) some);
}

pub faulted_nothing : (stage : Stage) (t : Told) → IsThrough stage → AreFaulted stage t t
faulted_nothing Clear t is = (refl, refl)
faulted_nothing (Asked turn) t is = (refl, refl)
faulted_nothing (Stopped cause) t is = absurd is
faulted_nothing (Untold cause records) t is = absurd is
faulted_nothing (Unlogged records) t is = absurd is

pub held_through : (stage : Stage) (before after : Told) → IsThrough stage → AreFaulted stage before after → AreHeld before after
held_through Clear before after is h = h
held_through (Asked turn) before after is h = h
held_through (Stopped cause) before after is h = absurd is
held_through (Untold cause records) before after is h = absurd is
held_through (Unlogged records) before after is h = absurd is

pub faulted_on : (stage : Stage) (before half after : Told) → AreHeld before half → AreFaulted stage half after → AreFaulted stage before after
faulted_on Clear before half after held h = (h.0 ∙ held.0, h.1 ∙ held.1)
faulted_on (Asked turn) before half after held h = (h.0 ∙ held.0, h.1 ∙ held.1)
faulted_on (Stopped cause) before half after held h = (h.0 ∙ held.0, h.1 ∙ held.1)
faulted_on (Untold cause records) before half after held h = (h.0, h.1 ∙ held.1)
faulted_on (Unlogged records) before half after held h = (h.0 ∙ held.0, h.1)
