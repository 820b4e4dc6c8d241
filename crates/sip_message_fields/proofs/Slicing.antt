-- A slice of a slice is one of the whole.
use Rattle.std.proofs.Common.{◌≡◌, ℕ, ◌+◌, ◌-◌, ◌≤◌, List, length, take, drop, ap, ◌∙◌, arith}
use Rattle.std.proofs.lemmas.List.{drop-drop, drop-take, take-take, length-drop, length-take}
use denote.Ref.{Bor}
use Rattle.sip_text.specs.declared.span.Span.{Span}
use Rattle.sip_text.specs.Span.{part, IsWithin}
use Rattle.sip_message_fields.specs.Slice.{IsSliceOf}

within_part : (xs : List ℕ) (outer : Span) → IsWithin outer xs → length (part xs outer) ≡ outer.end - outer.start
within_part xs outer w = grind (arith, w.ordered, w.inside, length-drop outer.start xs, length-take (outer.end - outer.start) (drop outer.start xs))

part_of_part : (xs : List ℕ) (a b c d : ℕ) → a ≤ b → c ≤ d → d ≤ b - a → take (d - c) (drop c (take (b - a) (drop a xs))) ≡ take ((a + d) - (a + c)) (drop (a + c) xs)
part_of_part xs a b c d ab cd fits =
    let whole : b - a ≡ c + ((b - a) - c) = omega (arith, cd, fits) in
    let size : d - c ≡ (a + d) - (a + c) = omega (arith, cd) in
    ap (λ (n : ℕ). take (d - c) (drop c (take n (drop a xs)))) whole
    ∙ ap (λ (ys : List ℕ). take (d - c) ys) (drop-take c ((b - a) - c) (drop a xs))
    ∙ take-take (d - c) ((b - a) - c) (drop c (drop a xs)) (omega (arith, cd, fits))
    ∙ ap (λ (ys : List ℕ). take (d - c) ys) (drop-drop c a xs)
    ∙ ap (λ (n : ℕ). take n (drop (a + c) xs)) size

pub of_whole : (whole middle slice : Bor (List ℕ)) → IsSliceOf whole middle → IsSliceOf middle slice → IsSliceOf whole slice
of_whole whole middle slice m s =
    let long : length middle.now ≡ m.span.end - m.span.start = ap length m.bytes ∙ within_part whole.now m.span m.within in
    let fits : s.span.end ≤ m.span.end - m.span.start = omega (arith, long, s.within.inside) in record {
      span = record { start = m.span.start + s.span.start; end = m.span.start + s.span.end };
      within = record { ordered = omega (arith, s.within.ordered); inside = omega (arith, fits, m.within.ordered, m.within.inside) };
      bytes = s.bytes ∙ ap (λ (xs : List ℕ). part xs s.span) m.bytes
          ∙ part_of_part whole.now m.span.start m.span.end s.span.start s.span.end m.within.ordered s.within.ordered fits;
      block = s.block ∙ m.block;
      place = omega (arith, s.place, m.place);
    }
