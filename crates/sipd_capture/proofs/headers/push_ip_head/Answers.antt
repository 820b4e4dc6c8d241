use Rattle.std.proofs.Common.{◌++◌, [], ◌∷◌, List, ℕ, ◌∙◌, ap}
use Rattle.sipd_capture.specs.Headers.{checksum, high_first}
use Rattle.sipd_capture.proofs.Adding.{more, more_ok}
use Rattle.sipd_capture.proofs.headers.push_ip_head.Goals as goal

pub returns : goal.returns
returns c =
    let out : List ℕ = c.args.out.now in
    let kind : List ℕ = high_first 17664 in
    let size : List ℕ = high_first c.args.length in
    let plain : List ℕ = 0 ∷ 0 ∷ 64 ∷ 0 ∷ 64 ∷ 17 ∷ [] in
    let sum : List ℕ = high_first (checksum c.args.length c.args.from c.args.to) in
    more_ok c.extend-3.result out c.extend-2.new.self c.extend-3.new.self (kind ++ size ++ plain ++ sum ++ c.args.from) c.args.to
    (more out c.push_high_first-3.new.out c.extend-2.new.self (kind ++ size ++ plain ++ sum) c.args.from
    (more out c.extend.new.self c.push_high_first-3.new.out (kind ++ size ++ plain) sum
    (more out c.push_high_first-2.new.out c.extend.new.self (kind ++ size) plain
    (more out c.push_high_first.new.out c.push_high_first-2.new.out kind size c.in_ok-push_high_first.ensures c.in_ok-push_high_first-2.ensures)
    c.in_ok-extend.ensures.ok)
    (c.in_ok-push_high_first-3.ensures ∙ ap (λ (n : ℕ). c.extend.new.self ++ high_first n) c.checksum.ensures))
    c.in_ok-extend-2.ensures.ok)
    c.extend-3.ensures.ok
