use Rattle.std.proofs.Common.{List, ℕ, sym, subst, ◌∙◌, ap, ap₂}
use Rattle.std.proofs.lemmas.Result.{err_from_is_err_and}
use Rattle.std.specs.Str.{bytes_eq}
use Rattle.sip_journal.specs.Configurations.{rest_stop, RestStops}
use Rattle.sip_replay_script.specs.Lines.{pending, GivesLine, IsSpent}
use Rattle.sip_journal.specs.Segments.{configuration_line, piece_of}
use Rattle.sip_journal.proofs.Configurations.{line_stops, other_stops, over_stops, piece_stops}
use Rattle.sip_journal.proofs.configuration.take_line.Goals as goal

pub returns-in-Err-clause-stopped : goal.returns-in-Err-clause-stopped
returns-in-Err-clause-stopped g c =
    subst (λ stop. RestStops c.args.longest (IsSpent (g.R.TellingReader.has_failed c.next.new.reader) c.next.new.self.asks)
    (pending c.args.lines.now (g.R.TellingReader.remaining c.args.reader.now)) c.args.text.now stop)
    (sym (c.rest_stop.ensures ∙ ap₂ (λ (text line : List ℕ). rest_stop text line c.in-Err.stop) c.as_slice.ensures c.deref.ensures.value))
    (line_stops c.args.longest (IsSpent (g.R.TellingReader.has_failed c.next.new.reader) c.next.new.self.asks)
    (pending c.args.lines.now (g.R.TellingReader.remaining c.args.reader.now)) c.args.text.now c.next.new.line.items c.in-Err.stop
    c.in-Err.ensures.stopped)

pub returns-then-not-more-clause-stopped : goal.returns-then-not-more-clause-stopped
returns-then-not-more-clause-stopped g c =
    over_stops c.args.text.now c.args.lines.now c.next.new.self (g.R.TellingReader.remaining c.args.reader.now) (g.R.TellingReader.remaining c.next.new.reader)
    (c.in-Ok.ensures.over c.if-not-more.true)

pub returns-in_err-add_piece-clause-stopped : goal.returns-in_err-add_piece-clause-stopped
returns-in_err-add_piece-clause-stopped g c =
    let p = err_from_is_err_and c.from_residual.result c.from_residual.ensures.1 in
    rw (p.1, p.2) (piece_stops c.args.longest (IsSpent (g.R.TellingReader.has_failed c.next.new.reader) c.next.new.self.asks) c.args.lines.now c.next.new.self
    (g.R.TellingReader.remaining c.args.reader.now)
    (g.R.TellingReader.remaining c.next.new.reader) c.deref-2.result.now c.args.text.now c.in_err-add_piece.field-0.0
    (subst (λ (l : List ℕ). GivesLine c.args.lines.now c.next.new.self (g.R.TellingReader.remaining c.args.reader.now) (g.R.TellingReader.remaining c.next.new.reader) l)
    (sym c.deref-2.ensures.value) (c.in-Ok.ensures.given c.if-not-more.false))
    c.in_err-add_piece.ensures.stopped)

pub returns-else-is_last-clause-stopped : goal.returns-else-is_last-clause-stopped
returns-else-is_last-clause-stopped g c =
    let none = c.in_ok-add_piece.ensures.none c.if-branch.false in
    other_stops c.args.text.now c.args.lines.now c.next.new.self (g.R.TellingReader.remaining c.args.reader.now) (g.R.TellingReader.remaining c.next.new.reader)
    c.next.new.line.items (c.in-Ok.ensures.given c.if-not-more.false)
    (ap piece_of (sym c.deref-2.ensures.value) ∙ none.0)
    (sym (c.is_last.ensures ∙ ap₂ (λ (line text : List ℕ). bytes_eq line (configuration_line text)) c.deref-3.ensures.value (c.as_slice-2.ensures ∙ none.1))
    ∙ c.if-is_last.false)
