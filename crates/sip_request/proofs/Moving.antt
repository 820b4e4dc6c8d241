-- How the timers of slots, parts and requests move: what stands is counted by every test.
use Rattle.std.proofs.Common.{ℕ, ◌+◌, List, [], ◌++◌, Option, refl, arith}
use Rattle.sip_timers.specs.declared.letter.Letter.{Letter}
use Rattle.sip_timers.specs.declared.timer.Timer.{Timer}
use Rattle.sip_timers.specs.Moves.{IsHeld, Moves}
use Rattle.model_transactions.specs.declared.timer_keys.TimerKeys.{TimerKeys}
use Rattle.sip_request.specs.declared.part.RequestPart.{RequestPart}
use Rattle.sip_request.specs.Slots.{part_standing, slot_timers}
use Rattle.sip_timers.proofs.Moving.{count-append}

-- what stands stays
pub Moves-stays : (ts named : List Timer) → Moves ts named ts named
Moves-stays ts named = record { same = λ p. refl; keys_differ = λ differ. differ }

-- a timer that is stopped makes way for another one
pub Moves-replaced : (ts us vs before after : List Timer) → Moves ts before us [] → Moves us [] vs after → Moves ts before vs after
Moves-replaced ts us vs before after a b = record {
  same = λ p. omega (arith, a.same p, b.same p);
  keys_differ = λ differ. b.keys_differ (a.keys_differ differ);
}

-- ---- a part: three slots

held_last : (ts a b c : List Timer) → IsHeld ts (a ++ (b ++ c)) → IsHeld ts c
held_last ts a b c h = record { stand = λ p. omega (arith, h.stand p, count-append p a (b ++ c), count-append p b c); keys_differ = h.keys_differ }

pub held_call : (ts : List Timer) (keys : TimerKeys) (part : RequestPart) → IsHeld ts (part_standing keys part)
    → IsHeld ts (slot_timers part.request part.owner keys.call part.timers.call)
held_call ts keys part h =
    let of_slot : ℕ → Option (Letter × ℕ) → List Timer = slot_timers part.request part.owner in
    held_last ts (of_slot keys.again part.timers.again) (of_slot keys.last part.timers.last) (of_slot keys.call part.timers.call) h

pub held_second : (ts us a b c third : List Timer) → IsHeld ts (a ++ (b ++ c)) → Moves ts c us third → IsHeld us b
held_second ts us a b c third h m = record {
  stand = λ p. omega (arith, h.stand p, m.same p, count-append p a (b ++ c), count-append p b c);
  keys_differ = m.keys_differ h.keys_differ;
}

pub held_first : (ts us vs a b c third second : List Timer) → IsHeld ts (a ++ (b ++ c)) → Moves ts c us third → Moves us b vs second → IsHeld vs a
held_first ts us vs a b c third second h m n = record {
  stand = λ p. omega (arith, h.stand p, m.same p, n.same p, count-append p a (b ++ c), count-append p b c);
  keys_differ = n.keys_differ (m.keys_differ h.keys_differ);
}

-- the third one first
pub Moves-three_back : (ts us vs ws a b c first second third : List Timer) → Moves ts c us third → Moves us b vs second → Moves vs a ws first
    → Moves ts (a ++ (b ++ c)) ws (first ++ (second ++ third))
Moves-three_back ts us vs ws a b c first second third k m n = record {
  same = λ p. omega (
    arith,
    k.same p,
    m.same p,
    n.same p,
    count-append p a (b ++ c),
    count-append p b c,
    count-append p first (second ++ third),
    count-append p second third,
  );
  keys_differ = λ differ. n.keys_differ (m.keys_differ (k.keys_differ differ));
}

pub Moves-three_stopped : (ts us vs ws a b c : List Timer) → Moves ts c us [] → Moves us b vs [] → Moves vs a ws [] → Moves ts (a ++ (b ++ c)) ws []
Moves-three_stopped ts us vs ws a b c k m n = record {
  same = λ p. omega (arith, k.same p, m.same p, n.same p, count-append p a (b ++ c), count-append p b c);
  keys_differ = λ differ. n.keys_differ (m.keys_differ (k.keys_differ differ));
}
