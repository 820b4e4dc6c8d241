use Rattle.std.proofs.Common.{◌≡◌, ◌+◌, ◌≤◌, length, take}
use Rattle.std.specs.List.{suffix_len}
use Rattle.sip_text.specs.Lists.{is_blank}
use Rattle.sip_text.proofs.lists.blanks_behind.Given as goal

-- the bytes behind the end are all blank
abbrev pub invariant-loop-end : goal.invariant-loop-end
invariant-loop-end l = record {
  within : l.end ≤ length l.bytes;
  so_far : suffix_len is_blank (take l.end l.bytes) + length l.bytes ≡ suffix_len is_blank l.bytes + l.end;
}

abbrev pub decreases-loop-end : goal.decreases-loop-end
decreases-loop-end l = l.end
