use Rattle.std.proofs.Common.{inl, inr, refl}
use Rattle.std.proofs.lemmas.Result.{err_from_is_err_and}
use Rattle.sip_run.specs.engine.StepError.{refusal_at, refusal_of}
use Rattle.sip_run.specs.Due.{standing_of}
use Rattle.sip_loop.proofs.FaultsLeaveNone.{arrival_leaves_none, silence_leaves_none}
use Rattle.sip_loop.proofs.WhatIsDue.{ok_not_refused}
use Rattle.sip_loop.proofs.Turning.{fails_arrival, fails_silence, takes_arrival, takes_silence}
use Rattle.sip_loop.proofs.serving.take_event.Goals as goal

pub returns-in_err-from-clause-broken : goal.returns-in_err-from-clause-broken
returns-in_err-from-clause-broken g c =
    let p = err_from_is_err_and c.from_residual.result c.from_residual.ensures.1 in
    rw (p.1, p.2) (inl (record { failed = refl; hears = c.in_err-from.ensures.silent; draws = refl }))

pub returns-in_err-out-in-Some-clause-broken : goal.returns-in_err-out-in-Some-clause-broken
returns-in_err-out-in-Some-clause-broken g c =
    let p = err_from_is_err_and c.from_residual-in_err-out-in-Some.result c.from_residual-in_err-out-in-Some.ensures.1 in
    rw (p.1, p.2)
    (inr
    (fails_arrival c.args.engine.now.state c.args.at c.next_word-word.result c.in-Some.from (g.L.Link.held c.receive.new.self) (g.L.Link.heard c.args.link.now)
    (g.L.Link.heard c.receive.new.self)
    (g.W.Rng.stream c.args.words.now) (g.W.Rng.stream c.next_word-word.new.words) c.in_err-out-in-Some.field-0.0 (rw c.in-Some.is at c.in_ok-from.ensures.tells)
    c.next_word-word.ensures.word c.next_word-word.ensures.left c.in_err-out-in-Some.ensures.otherwise))

pub returns-in_err-out-in-None-clause-broken : goal.returns-in_err-out-in-None-clause-broken
returns-in_err-out-in-None-clause-broken g c =
    let p = err_from_is_err_and c.from_residual-in_err-out-in-None.result c.from_residual-in_err-out-in-None.ensures.1 in
    rw (p.1, p.2)
    (inr
    (fails_silence c.args.engine.now.state c.args.at (g.L.Link.heard c.args.link.now) (g.L.Link.heard c.receive.new.self) (g.W.Rng.stream c.args.words.now)
    c.in_err-out-in-None.field-0.0
    (rw c.in-None.is at c.in_ok-from.ensures.tells) c.in_err-out-in-None.ensures.otherwise))

pub returns-in_ok-out-in-Some-clause-taken : goal.returns-in_ok-out-in-Some-clause-taken
returns-in_ok-out-in-Some-clause-taken g c =
    takes_arrival c.args.engine.now.server (standing_of c.args.engine.now) (standing_of c.deliver.new.self) c.args.at c.next_word-word.result c.in-Some.from
    c.bytes.result.now (g.L.Link.held c.receive.new.self) (g.L.Link.heard c.args.link.now)
    (g.L.Link.heard c.receive.new.self) (g.W.Rng.stream c.args.words.now) (g.W.Rng.stream c.next_word-word.new.words) c.in_ok-out-in-Some.out c.bytes.ensures
    (rw c.in-Some.is at c.in_ok-from.ensures.tells)
    c.next_word-word.ensures.word c.next_word-word.ensures.left (ok_not_refused (refusal_of c.args.engine.now.state c.args.at) c.in_ok-out-in-Some.out
    c.in_ok-out-in-Some.ensures.refused) (rw c.in-Some.is at c.in_ok-from.ensures.writable) c.in_ok-out-in-Some.ensures.step c.in_ok-out-in-Some.ensures.queue

pub returns-in_ok-out-in-None-clause-taken : goal.returns-in_ok-out-in-None-clause-taken
returns-in_ok-out-in-None-clause-taken g c =
    takes_silence c.args.engine.now.server (standing_of c.args.engine.now) (standing_of c.fire.new.self) c.args.at (g.L.Link.heard c.args.link.now)
    (g.L.Link.heard c.receive.new.self) (g.W.Rng.stream c.args.words.now) c.in_ok-out-in-None.out
    (rw c.in-None.is at c.in_ok-from.ensures.tells) (ok_not_refused (refusal_at c.args.at) c.in_ok-out-in-None.out c.in_ok-out-in-None.ensures.refused)
    (c.in_ok-out-in-None.ensures.waited c.requires.none c.requires.none_again) c.in_ok-out-in-None.ensures.queue

pub returns-in_ok-out-in-Some-clause-none_left : goal.returns-in_ok-out-in-Some-clause-none_left
returns-in_ok-out-in-Some-clause-none_left g c =
    arrival_leaves_none c.no_deadline_passed.ensures.has_fired c.args.engine.now.server c.is_reached.ensures.first c.is_reached.ensures.history c.args.engine.now.state
    c.deliver.new.self.state c.args.at c.in_ok-out-in-Some.out c.is_reached.ensures.chain
    c.next_word-word.result c.in-Some.from c.bytes.result.now c.in_ok-out-in-Some.ensures.step

pub returns-in_ok-out-in-None-clause-none_left : goal.returns-in_ok-out-in-None-clause-none_left
returns-in_ok-out-in-None-clause-none_left g c =
    silence_leaves_none c.no_deadline_passed.ensures.has_fired c.args.engine.now.server c.is_reached.ensures.first c.is_reached.ensures.history c.args.engine.now.state
    c.fire.new.self.state c.args.at c.in_ok-out-in-None.out c.is_reached.ensures.chain
    (c.in_ok-out-in-None.ensures.waited c.requires.none c.requires.none_again)
