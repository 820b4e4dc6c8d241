use Rattle.std.proofs.Common.{◌≡◌, ◌+◌, drop}
use Rattle.std.specs.List.{prefix_len}
use Rattle.sip_uri.specs.Reading.{is_of_place}
use Rattle.sip_uri.proofs.parts.place_length.Given as goal

-- no byte so far ends host and port
abbrev pub invariant-loop-at : goal.invariant-loop-at
invariant-loop-at l = l.at + prefix_len is_of_place (drop l.at l.text) ≡ prefix_len is_of_place l.text
