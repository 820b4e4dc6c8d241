-- What came of a datagram, part by part.
use Rattle.std.proofs.Common.{◌≡◌, ℕ, Bool, List, Option, ◌∙◌, ap}
use Rattle.std.specs.Prelude.{◌&&◌, not, is_some}
use Rattle.sip_audit.specs.declared.record.Record.{Record}
use Rattle.sip_event.specs.declared.packet.Packet.{Packet}
use Rattle.sipd_report.specs.Entries.{is_challenge}
use Rattle.sipd_sources.specs.declared.asked.Asked.{Asked}
use Rattle.sipd_sources.specs.Asked.{asked_by, name_by}
use Rattle.sipd_sources.specs.Claims.{answers_stale, given_in}

abbrev pub made : Bool → Bool → Bool → Option (List ℕ) → Asked
made challenged proven wrong name = record { challenged = challenged; proven = proven; wrong = wrong; name = name }

pub asked_as : (realm bytes : List ℕ) (packets : List Packet) (r : Record) (given : Option (Option (List ℕ))) (challenged gave proven wrong : Bool)
    (name : Option (List ℕ)) → given ≡ given_in realm bytes → challenged ≡ is_challenge r.outcome → gave ≡ is_some given
    → wrong ≡ (challenged && gave && not (answers_stale packets)) → proven ≡ is_some r.who → name ≡ name_by given r
    → made challenged proven wrong name ≡ asked_by realm bytes packets r
asked_as realm bytes packets r given challenged gave proven wrong name same asks there is proves named =
    ap (λ (b : Bool). made b proven wrong name) asks
    ∙ ap (λ (b : Bool). made (is_challenge r.outcome) b wrong name) proves
    ∙ ap (λ (b : Bool). made (is_challenge r.outcome) (is_some r.who) b name)
    (is
    ∙ ap (λ (b : Bool). b && gave && not (answers_stale packets)) asks
    ∙ ap (λ (b : Bool). is_challenge r.outcome && b && not (answers_stale packets)) (there ∙ ap (λ (g : Option (Option (List ℕ))). is_some g) same))
    ∙ ap (λ (n : Option (List ℕ)). made (is_challenge r.outcome) (is_some r.who)
    (is_challenge r.outcome && is_some (given_in realm bytes) && not (answers_stale packets)) n)
    (named ∙ ap (λ (g : Option (Option (List ℕ))). name_by g r) same)
