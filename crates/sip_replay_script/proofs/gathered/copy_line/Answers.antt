use Rattle.std.proofs.Common.{◌≡◌, ◌+◌, ◌++◌, take, drop, ◌∙◌, arith}
use Rattle.sip_replay_script.proofs.Gathering.{all_passed, copied_behind, cut_back, line_ends, nothing_before}
use Rattle.sip_replay_script.proofs.gathered.copy_line.Goals as goal

pub returns-in-Some-clause-copied : goal.returns-in-Some-clause-copied
returns-in-Some-clause-copied c =
    let a = c.args in
    let l = c.loop-run in
    let run = c.in-Some.run' in
    let found = c.in-Some.ensures in
    let further : take (a.to + (l.done + 16)) c.copy_lanes.new.room ≡ take a.to a.room.now ++ take (l.done + 16) (drop a.from a.text.now) =
    copied_behind a.text.now a.room.now l.room c.copy_lanes.new.room a.from a.to l.done l.invariant.1 c.copy_lanes.ensures.copied in
    record {
      ends = line_ends a.text.now a.from l.done run l.invariant.3 found.0 found.1 (omega (arith, l.invariant.0, c.requires.text));
      copied = cut_back c.copy_lanes.new.room a.room.now (drop a.from a.text.now) a.to (l.done + 16) (l.done + run) (omega (arith, found.1))
          (omega (arith, c.requires.text, c.requires.room)) further;
      fits = omega (arith, c.copy_lanes.ensures.len, l.invariant.0, l.invariant.2, c.requires.room, found.1);
    }

pub loop-run-preserved : goal.loop-run-preserved
loop-run-preserved c =
    let a = c.args in
    let l = c.loop-run in
    let sum : a.from + (l.done + 16) ≡ a.from + l.done + 16 = omega arith in (
      omega (arith, c.if-from-done.false),
      copied_behind a.text.now a.room.now l.room c.copy_lanes.new.room a.from a.to l.done l.invariant.1 c.copy_lanes.ensures.copied,
      c.copy_lanes.ensures.len ∙ l.invariant.2,
      λ k low high. all_passed a.text.now a.from (a.from + l.done) l.invariant.3 c.in_default.ensures k low (omega (arith, high, sum)),
    )

pub returns-then-from-done-clause-copied : goal.returns-then-from-done-clause-copied
returns-then-from-done-clause-copied c =
    let a = c.args in
    let l = c.loop-run in
    let further : take (a.to + (l.done + 16)) c.copy_lanes.new.room ≡ take a.to a.room.now ++ take (l.done + 16) (drop a.from a.text.now) =
    copied_behind a.text.now a.room.now l.room c.copy_lanes.new.room a.from a.to l.done l.invariant.1 c.copy_lanes.ensures.copied in
    nothing_before c.copy_lanes.new.room a.room.now (drop a.from a.text.now) a.to (l.done + 16) (omega (arith, c.requires.text, c.requires.room)) further
