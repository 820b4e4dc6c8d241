use Rattle.std.proofs.Common.{◌≡◌, ◌++◌, ◌∷◌, take}
use Rattle.std.specs.List.{flat_map}
use Rattle.sip_uri.specs.Uri.{header_text}
use Rattle.sip_uri.proofs.writing.write_other_headers.Given as goal

-- the headers so far are written
abbrev pub invariant-loop-header : goal.invariant-loop-header
invariant-loop-header l = l.out ≡ l.fn.out ++ flat_map (λ h. 38 ∷ header_text h) (take l.header-index l.headers)
