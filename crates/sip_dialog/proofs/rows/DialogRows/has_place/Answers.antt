use Rattle.std.proofs.Common.{◌≡◌, ◌≤◌, ℕ, List, false, true, nat_lt, ◌∙◌, ap, sym, subst, arith, length}
use Rattle.sip_dialog.specs.Rows.{Entries, StandsNowhere, dialogs_in}
use Rattle.sip_dialog.specs.Sameness.{SameDialogs}
use Rattle.sip_dialog.proofs.Alone.{Row}
use Rattle.sip_dialog.proofs.Ending.{no_place}
use Rattle.sip_dialog.proofs.Tables.{place_free, place_after, known_same}
use Rattle.sip_dialog.proofs.rows.DialogRows.has_place.Goals as goal

pub returns-then-len-lt-KNOWN-clause-place : goal.returns-then-len-lt-KNOWN-clause-place
returns-then-len-lt-KNOWN-clause-place c =
    place_free c.args.now c.args.self.now.entries (omega (
      arith,
      c.if-len-lt-KNOWN.true,
      c.len.ensures,
      c.self.inside.rows.ok.0,
      ap (λ (v : Entries). length v.entries) c.self.view_is,
    ))

-- ---- none has ended

pub returns-then-now-self-clause-place : goal.returns-then-now-self-clause-place
returns-then-now-self-clause-place c =
    let many : 4096 ≤ length c.self.inside.rows.items = omega (arith, c.if-len-lt-KNOWN.false, c.len.ensures, c.self.inside.rows.ok.0) in
    rw (← c.self.view_is) (no_place c.self.inside.until c.self.inside.rows.items c.self.invariant.2 c.args.now c.if-now-self.true many)

never : false ≡ true → ⊥
never e = cc

pub returns-then-now-self-clause-few : goal.returns-then-now-self-clause-few
returns-then-now-self-clause-few c = λ e. absurd (never e)

-- ---- one may have

pub returns-clause-place : goal.returns-clause-place
returns-clause-place c =
    let long : c.len-2.result ≡ length c.forget.new.self.entries = omega (
      arith,
      c.len-2.ensures,
      c.self-2.inside.rows.ok.0,
      ap (λ (v : Entries). length v.entries) c.self-2.view_is,
      ap (λ (l : List Row). length l) c.look_ahead.ensures.entries,
    ) in
    ap (λ (n : ℕ). nat_lt n 4096) long ∙ place_after c.args.now c.args.self.now.entries c.forget.new.self.entries c.forget.ensures.known

pub returns-clause-same : goal.returns-clause-same
returns-clause-same c =
    subst (λ (l : List Row). SameDialogs c.args.now (dialogs_in l) (dialogs_in c.args.self.now.entries)) (sym c.look_ahead.ensures.entries)
    (known_same c.args.now (dialogs_in c.args.self.now.entries) (dialogs_in c.forget.new.self.entries) c.forget.ensures.known)

pub returns-clause-nowhere : goal.returns-clause-nowhere
returns-clause-nowhere c = λ id none. subst (λ (l : List Row). StandsNowhere id l) (sym c.look_ahead.ensures.entries) (c.forget.ensures.absent id none)

pub returns-clause-len : goal.returns-clause-len
returns-clause-len c = omega (arith, c.forget.ensures.len, ap (λ (l : List Row). length l) c.look_ahead.ensures.entries)
