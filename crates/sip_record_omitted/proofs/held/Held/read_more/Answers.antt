use Rattle.std.proofs.Common.{◌∙◌, ◌+◌, ◌-◌, ◌++◌, ◌≡◌, ap, arith, sym, drop, length, take, slice_range, List, ℕ}
use Rattle.std.specs.Vec.{with_items}
use Rattle.std.proofs.lemmas.List.{with_items_is}
use Rattle.sip_record_omitted.specs.Holding.{Holding}
use Rattle.sip_record_omitted.proofs.Ahead.{keeps_read}
use Rattle.sip_record_omitted.proofs.Parts.{grown_range}
use Rattle.sip_record_omitted.proofs.held.Held.read_more.Goals as goal

pub returns-clause-kept : goal.returns-clause-kept
returns-clause-kept g c =
    let size : ℕ = c.self.inside.end - c.self.inside.start in
    let room : List ℕ = c.ask_behind.new.room in
    let part : List ℕ = take c.in_ok-count.count (drop size room) in
    let buffer = c.self.inside.buffer in
    let moved : List ℕ = c.move_front.new.room in
    let wide : length moved ≡ buffer.len = c.move_front.ensures.len ∙ ap (λ (l : List ℕ). length l) c.as_mut_slice.ensures.value ∙ sym buffer.ok.0 in
    let first : (with_items buffer moved).items ≡ moved = with_items_is buffer moved wide in
    let given : c.as_mut_slice-2.result.now ≡ moved = c.as_mut_slice-2.ensures.value ∙ first in
    let second : (with_items (with_items buffer moved) room).items ≡ room =
    with_items_is (with_items buffer moved) room (c.ask_behind.auto.room ∙ ap (λ (l : List ℕ). length l) given ∙ wide) in
    let new : Holding = record {
      lines = c.self.inside.lines;
      given = c.self.inside.given;
      inside = c.self.inside.inside;
      unread = slice_range (with_items (with_items buffer moved) room).items 0 (size + c.in_ok-count.count);
      added = c.self.inside.added;
    } in
    keeps_read _ _ c.args.self.now new part c.in_ok-count.ensures.bytes
    (ap (λ (l : List ℕ). slice_range l 0 (size + c.in_ok-count.count)) second
    ∙ grown_range room size c.in_ok-count.count (omega (arith, c.in_ok-count.ensures.within))
    ∙ ap (λ (l : List ℕ). l ++ part) (c.in_ok-count.ensures.kept ∙ ap (λ (l : List ℕ). take size l) given ∙ c.move_front.ensures.moved
    ∙ ap (λ (l : List ℕ). take size (drop c.self.inside.start l)) c.as_mut_slice.ensures.value
    ∙ ap (λ (h : Holding). h.unread) c.self.view_is))
    (ap (λ (h : Holding). h.lines) c.self.view_is)
    (ap (λ (h : Holding). h.given) c.self.view_is)
    (ap (λ (h : Holding). h.inside) c.self.view_is)
