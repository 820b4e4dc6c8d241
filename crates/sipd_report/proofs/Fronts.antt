-- Fronts of texts that are written.
use Rattle.std.proofs.Common.{ℕ, List, [], ◌++◌, Option, sym, ◌∙◌, ap, append-nil, append_assoc}
use Rattle.std.specs.Io.KnownBytes.{Appends, Keeps}
use Rattle.sip_replay_script.specs.Devices.{WritesFront}
use Rattle.sip_replay_script.proofs.Fronts.{appends_kept}

-- all of it, which wasn't handed on
pub front_of_all : (a b c : Option (List ℕ)) (text : List ℕ) → Appends a b text → Keeps b c → WritesFront a c text
front_of_all a b c text h k = record { done = text; rest = []; cut = sym (append-nil text); written = appends_kept a b c text h k }

-- a front of the first of two texts, and of the second behind the first
pub front_first : (a b : Option (List ℕ)) (first second : List ℕ) → WritesFront a b first → WritesFront a b (first ++ second)
front_first a b first second h =
    record { done = h.done; rest = h.rest ++ second; cut = ap (λ list. list ++ second) h.cut ∙ append_assoc h.done h.rest second; written = h.written }
