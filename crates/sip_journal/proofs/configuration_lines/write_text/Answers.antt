use Rattle.std.proofs.Common.{◌≤◌, List, ℕ, arith, drop, length, subst, sym}
use Rattle.std.proofs.lemmas.List.{length-drop, take_rest}
use Rattle.sip_journal.specs.Recorder.{IsFirstPiece}
use Rattle.sip_journal.proofs.Configuring.{err_is, front_of_text, ok_is, writes_more}
use Rattle.sip_journal.proofs.configuration_lines.write_text.Goals as goal

pub returns-then-is_err-clause-part : goal.returns-then-is_err-clause-part
returns-then-is_err-clause-part g c = λ _.
    front_of_text (g.W.TellingWriter.contents c.args.writer.now) (g.W.TellingWriter.contents c.loop-done.writer) (g.W.TellingWriter.contents c.put.new.writer)
    c.args.text.now c.first_piece-piece.result.mark
    c.first_piece-piece.result.bytes.now c.plain.result.now c.loop-done.done c.first_piece-piece.result.count c.loop-done.invariant.0
    (subst (λ (l : List ℕ). IsFirstPiece l c.first_piece-piece.result.mark c.first_piece-piece.result.bytes.now c.first_piece-piece.result.count)
    (take_rest c.args.text.now c.loop-done.done) c.first_piece-piece.ensures)
    c.plain.ensures (err_is c.put.result (sym c.if-is_err.ensures.value) c.put.ensures.front)

pub loop-done-preserved : goal.loop-done-preserved
loop-done-preserved g c =
    let p : IsFirstPiece (drop c.loop-done.done c.args.text.now) c.first_piece-piece.result.mark c.first_piece-piece.result.bytes.now c.first_piece-piece.result.count =
    subst (λ (l : List ℕ). IsFirstPiece l c.first_piece-piece.result.mark c.first_piece-piece.result.bytes.now c.first_piece-piece.result.count)
    (take_rest c.args.text.now c.loop-done.done) c.first_piece-piece.ensures in
    let within : c.first_piece-piece.result.count ≤ length (drop c.loop-done.done c.args.text.now) = p.within in
    let inside : c.loop-done.done ≤ length c.args.text.now = c.loop-done.invariant.1 in (
      writes_more (g.W.TellingWriter.contents c.args.writer.now) (g.W.TellingWriter.contents c.loop-done.writer) (g.W.TellingWriter.contents c.put.new.writer)
          c.args.text.now c.first_piece-piece.result.mark
          c.first_piece-piece.result.bytes.now c.plain.result.now c.loop-done.done c.first_piece-piece.result.count c.loop-done.invariant.0 p c.plain.ensures
          (ok_is c.put.result c.if-is_err.ensures.negation c.put.ensures.ok),
      omega (arith, within, inside, length-drop c.loop-done.done c.args.text.now),
    )
