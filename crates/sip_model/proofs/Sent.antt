-- What a step hands out is told by what goes for the first time and what goes again, where it does one of the two alone.
use Rattle.std.proofs.Common.{◌≡◌, ◌⊎◌, inl, inr, ◌∙◌, ℕ, Bool, true, false, not, cond, List, [], ◌∷◌, refl, sym, ap, ap₂}
use Rattle.sip_audit.specs.declared.record.Record.{Record}
use Rattle.sip_event.specs.declared.packet.Packet.{Packet}
use Rattle.sip_event.specs.declared.event.StepOut.{StepOut}
use Rattle.model_steps.specs.Step.{originals, retransmissions}

-- where nothing goes again, all goes for the first time
firsts_alone : (ps : List Packet) → retransmissions ps ≡ [] → originals ps ≡ ps
firsts_alone [] none = refl
firsts_alone (p ∷ ps) none = by_test p.again none (firsts_alone ps) where
  by_test : (t : Bool) → cond t (p ∷ retransmissions ps) (retransmissions ps) ≡ [] → (retransmissions ps ≡ [] → originals ps ≡ ps)
      → cond (not t) (p ∷ originals ps) (originals ps) ≡ p ∷ ps
  by_test true none rest = absurd (cc)
  by_test false none rest = ap (λ (qs : List Packet). p ∷ qs) (rest none)

-- and the other way round
again_alone : (ps : List Packet) → originals ps ≡ [] → retransmissions ps ≡ ps
again_alone [] none = refl
again_alone (p ∷ ps) none = by_test p.again none (again_alone ps) where
  by_test : (t : Bool) → cond (not t) (p ∷ originals ps) (originals ps) ≡ [] → (originals ps ≡ [] → retransmissions ps ≡ ps)
      → cond t (p ∷ retransmissions ps) (retransmissions ps) ≡ p ∷ ps
  by_test true none rest = ap (λ (qs : List Packet). p ∷ qs) (rest none)
  by_test false none rest = absurd (cc)

-- a step does one of the two alone
abbrev pub GoesOneWay : List Packet → Type 0
GoesOneWay ps = (originals ps ≡ []) ⊎ (retransmissions ps ≡ [])

-- then packets of which the same go for the first time, and the same again, are the same
pub one_packets : (ps qs : List Packet) → originals ps ≡ originals qs → retransmissions ps ≡ retransmissions qs → GoesOneWay ps → ps ≡ qs
one_packets ps qs firsts again (inl none) = sym (again_alone ps none) ∙ again ∙ again_alone qs (sym firsts ∙ none)
one_packets ps qs firsts again (inr none) = sym (firsts_alone ps none) ∙ firsts ∙ firsts_alone qs (sym again ∙ none)

-- a step of its parts
abbrev step_with : ℕ → List Packet → List Record → StepOut
step_with at packets records = record { at = at; packets = packets; records = records }

-- steps with the same parts are the same
pub one_step : (one other : StepOut) → one.at ≡ other.at → one.packets ≡ other.packets → one.records ≡ other.records → one ≡ other
one_step one other at packets records =
    ap₂ (λ (m : ℕ) (ps : List Packet). step_with m ps one.records) at packets ∙ ap (λ (rs : List Record). step_with other.at other.packets rs) records
