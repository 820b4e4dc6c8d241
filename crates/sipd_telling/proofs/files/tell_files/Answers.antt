use Rattle.std.proofs.Common.{◌≡◌, ℕ, arith, length, subst}
use Rattle.sipd_telling.specs.Records.{TellsRecords}
use Rattle.sipd_telling.proofs.Leading.{none_told, records_more}
use Rattle.sipd_telling.proofs.files.tell_files.Goals as goal

pub loop-place-init : goal.loop-place-init
loop-place-init g c =
    none_told g.L.Listener.hears c.args.onward.now.listener c.begin.new.self.listener c.begin.new.self.reached c.begin.ensures.same c.begin.ensures.reached

pub loop-place-preserved : goal.loop-place-preserved
loop-place-preserved g c =
    records_more g.L.Listener.hears c.loop-place.place c.args.onward.now.listener c.loop-place.onward.listener c.tell_file.new.onward.listener
    c.loop-place.onward.reached c.tell_file.new.onward.reached c.loop-place.invariant c.in_ok-told.ensures

pub returns : goal.returns
returns g c =
    let all : c.loop-place.place ≡ length c.args.paths.now = omega arith in
    record {
      reached = c.loop-place.onward.reached;
      tells =
          subst (λ (n : ℕ). TellsRecords g.L.Listener.hears n c.args.onward.now.listener c.loop-place.onward.listener c.loop-place.onward.reached) all
          c.loop-place.invariant;
    }
