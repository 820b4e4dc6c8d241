-- Two lists that are compared place by place: where those before a place are the same, and those at it, then all before the next one are.
use Rattle.std.proofs.Common.{◌≡◌, ℕ, ◌+◌, ◌<◌, ◌≤◌, List, length, take, get_or, slice_get, Some, sym, ◌∙◌}
use Rattle.std.proofs.lemmas.List.{get_or_default, take_all, take_more_same}
use Rattle.std.proofs.lemmas.Option.{get_or_from_slice_get, slice_get_within}

-- one place further
pub alike_more : {X : Type 0} (left right : List X) (at : ℕ) (d e : X) → at < length left → at < length right → get_or left at d ≡ get_or right at e
    → take at left ≡ take at right → take (at + 1) left ≡ take (at + 1) right
alike_more left right at d e in_left in_right same so = take_more_same left right at d in_left in_right so (same ∙ get_or_default right at e d in_right)

-- the same of what was read there
pub alike_read : {X : Type 0} (left right : List X) (at : ℕ) (one other : X) → slice_get left at ≡ Some one → slice_get right at ≡ Some other → one ≡ other
    → take at left ≡ take at right → take (at + 1) left ≡ take (at + 1) right
alike_read left right at one other is_one is_other same so =
    alike_more left right at one other (slice_get_within left at one is_one) (slice_get_within right at other is_other)
    (get_or_from_slice_get left at one one is_one ∙ same ∙ sym (get_or_from_slice_get right at other other is_other)) so

-- at the end
pub alike_all : {X : Type 0} (left right : List X) (at : ℕ) → length left ≤ at → length right ≤ at → take at left ≡ take at right → left ≡ right
alike_all left right at in_left in_right so = sym (take_all at left in_left) ∙ so ∙ take_all at right in_right
