-- Records that nothing makes.
use Rattle.std.proofs.Common.{◌≤◌, suc, subst, arith, ◌≡◌, ℕ, List, [], ◌∷◌, length, drop, Option, Some, None, refl, sym, ap, ◌∙◌}
use Rattle.std.specs.Option.{option_map_or}
use Rattle.std.specs.Fmt.{digits}
use Rattle.hex.specs.Hex.{encode_with}
use Rattle.sip_uri.specs.Reading.{rest_of, reading_of}
use Rattle.sip_header.specs.CoreFields.{core_in}
use Rattle.sip_digest.specs.NonceText.{nonce_text}
use Rattle.sip_message_form.specs.declared.message.Message.{Message}
use Rattle.sip_audit.specs.declared.record.Record.{Record}
use Rattle.sip_model.specs.state.declared.server.Server.{Server}
use Rattle.sip_model.specs.state.declared.proxy_state.ProxyState.{ProxyState}
use Rattle.sip_model.specs.state.Arrival.{Arrival}
use Rattle.sip_model.specs.verdict_model.Verdict.{Verdict, Drop, Respond, Copy, AckOn, Cancel, Answer, InDialog, Challenge, Deny, Send, Register}
use Rattle.sip_model.specs.steps_model.Examples.{sample, vault_effect}
use Rattle.sip_model.specs.steps_model.Step.{Act}
use Rattle.sip_model.specs.Run.{Link, under}
use Rattle.sip_model.specs.Histories.{Judged, judged_at, records_of, records_at}
use Rattle.sip_model.specs.Access.{Access}
use Rattle.model_laws.specs.WrongRecords.{recorded_twice, recorded_later}
use Rattle.model_laws.proofs.Coming.{differ}

-- a verdict makes one record or none
one_of : (server : Server) (a : Arrival) (m : Message) (verdict : Verdict) → drop 1 (records_of server a m verdict) ≡ []
one_of server a m (Challenge q) = refl
one_of server a m (Deny q id) = refl
one_of server a m (Send q id targets) = refl
one_of server a m (Register q id outcome) = refl
one_of server a m Drop = refl
one_of server a m (Respond r b status) = refl
one_of server a m (Copy r) = refl
one_of server a m (AckOn address id) = refl
one_of server a m (Cancel found) = refl
one_of server a m (Answer status extras) = refl
one_of server a m (InDialog address id) = refl

-- so does a step
pub one_record : (server : Server) (state : ProxyState) (act : Act) → drop 1 (records_at server state act) ≡ []
one_record server state act = by_found (judged_at server state act) where
  by_found : (found : Option Judged) → drop 1 (option_map_or (λ j. records_of server j.arrival j.message j.verdict) found []) ≡ []
  by_found None = refl
  by_found (Some j) = one_of server j.arrival j.message j.verdict

-- so a lawful one does
pub at_most_one : (server : Server) (earlier : List Link) (link : Link) → Access server (link ∷ earlier) → length link.out.records ≤ 1
at_most_one server earlier link access = by_list link.out.records (ap (λ (rs : List Record). drop 1 rs) access.0.records
    ∙ one_record (under server link.config) link.before link.act) where
      by_list : (rs : List Record) → drop 1 rs ≡ [] → length rs ≤ 1
      by_list [] e = omega (arith)
      by_list (x ∷ rest) e = subst (λ (ys : List Record). suc (length ys) ≤ 1) (sym e) (omega (arith))

-- the denial has one, and the wrong step two
pub denial_has_one : length vault_effect.records ≡ 1
unfolding digits encode_with rest_of reading_of core_in nonce_text
denial_has_one = refl

twice_are_two : (known after : ProxyState) → length (drop 1 (recorded_twice known after).out.records) ≡ 1
unfolding digits encode_with rest_of reading_of core_in nonce_text
twice_are_two known after = refl

-- a count is no other one
no_count : (records : List Record) → length records ≡ 1 → records ≡ [] → ⊥
no_count records one none = differ 0 1 refl refl (ap (λ (n : ℕ). Some n) (sym (ap (λ (rs : List Record). length rs) none) ∙ one))

module _ (known after : ProxyState) (earlier : List Link) where
  pub twice_refused : Access sample (recorded_twice known after ∷ earlier) → ⊥
  twice_refused access =
      no_count (drop 1 (recorded_twice known after).out.records) (twice_are_two known after)
      (ap (λ (rs : List Record). drop 1 rs) access.0.records ∙ one_record sample (recorded_twice known after).before (recorded_twice known after).act)

  pub later_refused : Access sample (recorded_later known after ∷ earlier) → ⊥
  later_refused access = no_count vault_effect.records denial_has_one access.0.records
