-- Texts that are compared as URIs, for the worked examples.
use Rattle.std.specs.Prelude.{ℕ, Bool, List, Option, option_map}
use Rattle.std.specs.Option.{option_and_then}
use Rattle.std.specs.Result.{result_ok}
use Rattle.sip_uri_equality.specs.Equality.{same}
use Rattle.sip_uri.specs.Reading.{reading_of}

-- whether the URIs that two texts write are equal, if both write one
abbrev pub are_equal : List ℕ → List ℕ → Option Bool
are_equal left right = option_and_then (λ u. option_map (λ v. same u v) (result_ok (reading_of right))) (result_ok (reading_of left))
