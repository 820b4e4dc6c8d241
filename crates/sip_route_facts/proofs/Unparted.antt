-- A URI in which no `;` stands has no parameters, so that no server put it into Record-Route.
use Rattle.std.proofs.Common.{◌≡◌, ℕ, Bool, true, false, cond, List, [], ◌∷◌, length, map, Option, Some, None, refl, sym, ap, ◌∙◌, arith, Bor}
use Rattle.std.specs.Prelude.{Result, Ok, Err, is_some}
use Rattle.std.specs.Option.{option_and_then}
use Rattle.std.specs.Result.{result_ok}
use Rattle.std.specs.List.{list_all}
use Rattle.sip_text.specs.Splits.{split_at_byte}
use Rattle.sip_uri.specs.Host.{is_not}
use Rattle.sip_uri.specs.declared.error.UriError.{UriError}
use Rattle.sip_uri.specs.declared.parameters.UriParameter.{UriParameter}
use Rattle.sip_uri.specs.declared.uri.Uri.{Uri}
use Rattle.sip_uri.specs.Reading.{reading_of}
use Rattle.sip_route.specs.Way.{last_route}
use Rattle.sip_route_facts.specs.declared.route_facts.RecordedHostPort.{RecordedHostPort}
use Rattle.sip_route.specs.Routes.{all_but_last}
use Rattle.sip_route_facts.specs.RouteFacts.{first_host_port, is_recorded, recorded_in, recorded_of}
use Rattle.sip_uri.proofs.WrittenBytes.{unsplit, unparted}
use Rattle.sip_uri.proofs.ReadingLaws.{is_written}

none_either : (t : Bool) (o : Option RecordedHostPort) → o ≡ None → cond t o None ≡ None
none_either true o e = e
none_either false o e = refl

not_recorded : (routes : List (List ℕ)) (u : Uri) (ps : List UriParameter) → ps ≡ [] → u.parameters ≡ ps → recorded_in routes u ≡ None
not_recorded routes u ps none is = rw (is ∙ none) refl

by_reading : (uri : List ℕ) (routes : List (List ℕ)) (r : Result Uri UriError) → list_all (is_not 59) uri ≡ true → reading_of uri ≡ r
    → option_and_then (recorded_in routes) (result_ok r) ≡ None
by_reading uri routes (Err fault) all is = refl
by_reading uri routes (Ok u) all is = not_recorded routes u u.parameters (unparted uri u (is_written uri u is) all) refl

none_there : (o : Option (List ℕ × List ℕ)) → is_some o ≡ false → o ≡ None
none_there None e = refl
none_there (Some x) e = absurd cc

pub none_recorded : (uri : List ℕ) (routes : List (List ℕ)) → is_some (split_at_byte 59 uri) ≡ false → recorded_of uri routes ≡ None
none_recorded uri routes e =
    let bare : split_at_byte 59 uri ≡ None = none_there (split_at_byte 59 uri) e in
    none_either (is_some (last_route routes)) (option_and_then (recorded_in routes) (result_ok (reading_of uri)))
    (by_reading uri routes (reading_of uri) (unsplit uri bare) refl)

-- ---- in another order: what a URI says before the Routes

none_by : (recorded t : Bool) (o : Option RecordedHostPort) → recorded ≡ false → None ≡ cond t (cond recorded o None) None
none_by false true o e = refl
none_by false false o e = refl
none_by true t o e = absurd cc

-- none is recorded in a URI that no server put into Record-Route
pub none_in : (routes : List (List ℕ)) (u : Uri) → is_recorded u ≡ false → None ≡ cond (is_some (last_route routes)) (recorded_in routes u) None
none_in routes u e =
    none_by (is_recorded u) (is_some (last_route routes)) (Some (record { host = u.host; port = u.port; first = first_host_port (all_but_last routes) })) e

some_by : (recorded t : Bool) (o : Option RecordedHostPort) → recorded ≡ true → t ≡ true → o ≡ cond t (cond recorded o None) None
some_by true true o r e = refl
some_by true false o r e = absurd cc
some_by false t o r e = absurd cc

-- where it leads else
pub some_in : (routes : List (List ℕ)) (u : Uri) (host_port : RecordedHostPort) → host_port
    ≡ record { host = u.host; port = u.port; first = first_host_port (all_but_last routes) }
    → is_recorded u ≡ true → is_some (last_route routes) ≡ true
    → Some host_port ≡ cond (is_some (last_route routes)) (recorded_in routes u) None
some_in routes u host_port is recorded replaced =
    ap (λ (p : RecordedHostPort). Some p) is
    ∙ some_by (is_recorded u) (is_some (last_route routes)) (Some (record { host = u.host; port = u.port; first = first_host_port (all_but_last routes) })) recorded
    replaced

-- nor without a Route
pub none_replaces : (uri : List ℕ) (routes : List (Bor (List ℕ))) → length routes ≡ 0 → None ≡ recorded_of uri (map (λ x. x.now) routes)
none_replaces uri [] e = refl
none_replaces uri (x ∷ xs) e = absurd (omega (arith, e))

-- nor in what can't be read
pub none_read : (uri : List ℕ) (routes : List (List ℕ)) → result_ok (reading_of uri) ≡ None → None ≡ recorded_of uri routes
none_read uri routes e = sym (none_either (is_some (last_route routes)) (option_and_then (recorded_in routes) (result_ok (reading_of uri)))
    (ap (option_and_then (recorded_in routes)) e))
