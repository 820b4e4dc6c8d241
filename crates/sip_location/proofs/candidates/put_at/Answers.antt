use Rattle.std.proofs.Common.{◌≡◌, ◌+◌, ℕ, List, false, arith, sym, ◌∙◌, ap}
use Rattle.std.specs.Prelude.{◌-◌, length, take, drop, set}
use Rattle.std.specs.List.{list_any}
use Rattle.sip_uri.specs.declared.uri.Uri.{Uri}
use Rattle.sip_uri_equality.specs.Equality.{same}
use Rattle.sip_location.specs.declared.binding.Binding.{Binding}
use Rattle.sip_location.proofs.Places.{place, place-le, put_is, put_over, rest_taken}
use Rattle.sip_location.proofs.candidates.put_at.Goals as goal

pub insert-requires : goal.insert-requires
insert-requires c = grind (arith, place-le c.args.binding.uri c.args.list.now.items)

pub returns-then-any_is_equal : goal.returns-then-any_is_equal
returns-then-any_is_equal c = rw (c.in_ok-insert.ensures.items, c.remove_equal.ensures, c.uri-then-any_is_equal.ensures, c.requires.first)
    (put_is c.args.binding c.args.list.now.items)

pub returns : goal.returns
returns c =
    let rows = c.args.list.now.items in
    let is_equal = λ (b : Binding). same b.uri c.args.binding.uri in
    let others : list_any is_equal (drop (place c.args.binding.uri rows + 1) rows) ≡ false =
    ap (λ (n : ℕ). list_any is_equal (drop (n + 1) rows)) (sym c.requires.first) ∙ ap (list_any is_equal) (sym (rest_taken (c.args.place + 1) rows))
    ∙ ap (λ (w : List Binding). list_any is_equal (take (length w - (c.args.place + 1)) (drop (c.args.place + 1) w))) (sym c.deref.ensures.value)
    ∙ ap (λ (u : Uri). list_any (λ (b : Binding). same b.uri u) (take (length c.deref.result.now - (c.args.place + 1)) (drop (c.args.place + 1) c.deref.result.now)))
    (sym c.uri.ensures) ∙ sym c.any_is_equal.ensures ∙ c.if-any_is_equal.false in
    ap (λ (n : ℕ). set rows n c.args.binding) c.requires.first ∙ put_over c.args.binding rows (omega (arith, c.requires.first)) others
