-- Lists of values, item by item.
use Rattle.std.proofs.Common.{◌≡◌, ℕ, ◌+◌, ◌<◌, ◌≤◌, not, ◌==◌, List, [], ◌∷◌, ◌++◌, length, drop, get_or, Ok, refl, ap, arith}
use Rattle.std.proofs.lemmas.Bool.Decides.{nat_tests}
use Rattle.std.proofs.lemmas.List.{drop_all}
use Rattle.toml.specs.View.{view, items_view}
use Rattle.toml.specs.declared.value.Value.{Value}
use Rattle.toml.proofs.Views.{items_view-drop}
use Rattle.sip_config_values.specs.declared.grammar.Grammar.{Grammar}
use Rattle.sip_config_values.specs.Refusals.{◌>>=◌}
use Rattle.sip_config_values.specs.Values.{text_as, has_items}
use Rattle.sip_config_values.specs.Rows.{texts_after}

pub texts_step : (grammar : Grammar) (values : List Value) (i : ℕ) (other : Value) (before : List (List ℕ)) → i < length values
    → texts_after grammar before (items_view (drop i values)) ≡ (text_as grammar (view (get_or values i other)) >>=
    λ text. texts_after grammar (before ++ text ∷ []) (items_view (drop (i + 1) values)))
texts_step grammar values i other before within = ap (texts_after grammar before) (items_view-drop values i other within)

pub texts_end : (grammar : Grammar) (values : List Value) (i : ℕ) (before : List (List ℕ)) → length values ≤ i
    → texts_after grammar before (items_view (drop i values)) ≡ Ok before
texts_end grammar values i before past = ap (λ (list : List Value). texts_after grammar before (items_view list)) (drop_all i values past)

-- there are items where there are values
pub has_some : (values : List Value) → has_items (items_view values) ≡ not (length values == 0)
has_some [] = refl
has_some (value ∷ values) = grind (arith, nat_tests)
