use Rattle.std.proofs.Common.{◌≡◌, ◌-◌, ℕ, Bool, cond, Option, Some, refl, sym, ap, subst, ◌∙◌, arith}
use Rattle.std.proofs.lemmas.Option.{slice_get_past, slice_get_read}
use Rattle.sip_digest.specs.Nonces.{is_this}
use Rattle.sip_digest.specs.Rows.{nonces_in}
use Rattle.sip_digest.proofs.Lookups.{Seeks, seek_first, seek_past, seek_other, seek_row}
use Rattle.sip_digest.proofs.nonces.place_among.Goals as goal
use Rattle.sip_digest.proofs.nonces.place_among.Goals.{then-is_this, else-is_this}

pub loop-front-init : goal.loop-front-init
loop-front-init c = seek_first (nonces_in c.args.rows.now.items) c.args.word c.args.now c.args.front c.requires.newest

pub returns-in_default : goal.returns-in_default
returns-in_default c =
    absurd (seek_row c.args.rows.now.items c.args.word c.args.now c.loop-front.front (c.loop-front.front - 1) c.loop-front.place refl c.loop-front-test.true
    c.loop-front.invariant (slice_get_past c.args.rows.now.items _ c.in_default.ensures.item.3))

pub returns-then-bucket_of-bucket : goal.returns-then-bucket_of-bucket
returns-then-bucket_of-bucket c =
    seek_other c.args.rows.now.items c.args.word c.args.now c.loop-front.front (c.loop-front.front - 1) c.loop-front.place c.in-Some.row.now refl
    (slice_get_read c.args.rows.now.items _ _ _ refl c.in-Some.ensures.item.3.0 c.in-Some.ensures.lookup)
    (λ e. c.if-bucket_of-bucket.true (c.bucket_of.ensures ∙ e ∙ sym c.bucket_of-bucket.ensures)) c.loop-front.invariant

pub loop-front-preserved : goal.loop-front-preserved
loop-front-preserved c =
    let at : ℕ = c.loop-front.front - 1 in
    let gap : at - c.in-Some.row.now.gap ≡ c.saturating_sub-front.result = omega (arith, c.saturating_sub-front.ensures, c.from.ensures) in
    let place : cond (is_this c.args.word c.args.now c.in-Some.row.now.nonce) (Some at) c.loop-front.place ≡ c.if-is_this.place =
    elim c.if-is_this.branch [
      | then-is_this w ↦ ap (λ (t : Bool). cond t (Some at) c.loop-front.place) (sym c.is_this.ensures ∙ w.if-is_this.true) ∙ sym w.place-is
      | else-is_this w ↦ ap (λ (t : Bool). cond t (Some at) c.loop-front.place) (sym c.is_this.ensures ∙ w.if-is_this.false) ∙ sym w.place-is
    ] in
    subst (λ (front : ℕ). Seeks (nonces_in c.args.rows.now.items) c.args.word c.args.now front c.if-is_this.place) gap
    (subst (λ (seen : Option ℕ). Seeks (nonces_in c.args.rows.now.items) c.args.word c.args.now (at - c.in-Some.row.now.gap) seen) place
    (seek_past c.args.rows.now.items c.args.word c.args.now c.loop-front.front at c.loop-front.place c.in-Some.row.now c.requires.linked refl c.loop-front-test.true
    (slice_get_read c.args.rows.now.items _ _ _ refl c.in-Some.ensures.item.3.0 c.in-Some.ensures.lookup)
    (sym c.bucket_of.ensures ∙ c.if-bucket_of-bucket.false ∙ c.bucket_of-bucket.ensures) c.loop-front.invariant))
