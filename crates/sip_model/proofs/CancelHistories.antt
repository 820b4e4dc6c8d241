-- Over every history: each CANCEL goes out at most eleven times for each of its first sendings.
use Rattle.std.proofs.Common.{count_by, ◌≡◌, ℕ, ◌+◌, ◌*◌, ◌≤◌, Bool, true, false, ◌&&◌, ◌==◌, List, [], ◌∷◌, refl, sym, ap, subst, ◌∙◌, arith, bytes_eq}
use Rattle.std.proofs.lemmas.Slice.Eq.{bytes_eq-Decides}
use Rattle.sip_dialog.specs.Addresses.{is_same_addr}
use Rattle.sip_event.specs.declared.packet.Packet.{Packet}
use Rattle.model_steps.specs.state.declared.server.Server.{Server}
use Rattle.model_steps.specs.state.declared.open_request.OpenRequest.{OpenRequest}
use Rattle.model_steps.specs.state.declared.proxy_state.ProxyState.{ProxyState}
use Rattle.model_steps.specs.state.State.{first_state}
use Rattle.model_steps.specs.Step.{originals, retransmissions}
use Rattle.sip_model.specs.Run.{Link, under, IsChain}
use Rattle.sip_model.specs.Parts.{HasParts, next_after}
use Rattle.sip_model.specs.Cancels.{begins_cancel, says_same, handed_out, first_sendings, IsOwnCancel, GoOutElevenTimes}
use Rattle.sip_model.proofs.FinalsHistory.{PartsLaw}
use Rattle.sip_model.proofs.SendingLists.{count_parts}
use Rattle.sip_model.proofs.SendingTimes.{AreCopyLaws}
use Rattle.sip_model.proofs.CancelTexts.{IsTest}
use Rattle.sip_model.proofs.CancelParts.{Stands, total, IsWell, parts_well}
use Rattle.sip_model.proofs.Rising.{number_is}

-- what says the same as a CANCEL of this server is one
same_test : (p : Packet) → IsOwnCancel p → IsTest (says_same p)
same_test p own = record {
  either = λ q again. refl;
  begins = λ q same. ap begins_cancel ((bytes_eq-Decides q.bytes p.bytes).0 (texts q same)) ∙ own.begins;
  no_branch = λ q same. number_is q.ticket.branch p.ticket.branch (branches q same) ∙ own.no_branch;
} where
  four : (a b c d : Bool) → (a && b && c && d) ≡ true → (b ≡ true) × (d ≡ true)
  four true true true true e = (refl, refl)
  four true true true false e = absurd (cc)
  four true true false d e = absurd (cc)
  four true false c d e = absurd (cc)
  four false b c d e = absurd (cc)

  texts : (q : Packet) → says_same p q ≡ true → bytes_eq q.bytes p.bytes ≡ true
  texts q same = (four (is_same_addr q.to p.to) (bytes_eq q.bytes p.bytes) (q.ticket.datagram == p.ticket.datagram) (q.ticket.branch == p.ticket.branch) same).0

  branches : (q : Packet) → says_same p q ≡ true → (q.ticket.branch == p.ticket.branch) ≡ true
  branches q same = (four (is_same_addr q.to p.to) (bytes_eq q.bytes p.bytes) (q.ticket.datagram == p.ticket.datagram) (q.ticket.branch == p.ticket.branch) same).1

-- What holds after a history of what it handed out, and of the copies that may still be sent: eleven for each first sending.
record Holds (p : Packet) (server : Server) (history : List Link) (next : ℕ) (requests : List OpenRequest) (laws : AreCopyLaws) (is_test : IsTest (says_same p)) : Type
    0 where
  stands : Stands next requests
  few : handed_out p history + total laws (says_same p) is_test server requests ≤ 11 * first_sendings p history

module _ (laws : AreCopyLaws) (parts : PartsLaw) (server : Server) (first : ℕ) (p : Packet) (is_test : IsTest (says_same p)) where
  -- in a whole history
  chain_holds : (history : List Link) (last : ProxyState) → IsChain server (first_state first) history last → Holds p server history last.next last.requests laws is_test
  chain_holds [] last chain =
      subst (λ (s : ProxyState). Holds p server [] s.next s.requests laws is_test) (sym chain)
      (record { stands = record { numbered = record { differ = λ n. omega arith; are_below = λ n high. refl }; fine = tt }; few = omega arith })
  chain_holds (link ∷ history) last chain =
      let made : HasParts (under server link.config) link.before link.act link.out link.after =
      parts (under server link.config) link.before link.act link.out link.after chain.1 in
      let before : Holds p server history link.before.next link.before.requests laws is_test = chain_holds history link.before chain.2 in
      let well : IsWell laws (says_same p) is_test (under server link.config) (next_after link.before link.act) link.before.requests link.after.requests
      (originals link.out.packets) (retransmissions link.out.packets) =
      parts_well laws (says_same p) is_test (under server link.config) link.before link.act link.after.moment link.before.requests link.after.requests
      (originals link.out.packets) (retransmissions link.out.packets) made.none_passed made.parts before.stands in
      let few = before.few in
      let fewer : total laws (says_same p) is_test server link.after.requests + count_by (says_same p) (retransmissions link.out.packets) ≤ total laws (says_same p)
      is_test server link.before.requests + 10 * count_by (says_same p) (originals link.out.packets) = well.fewer in
      subst (λ (s : ProxyState). Holds p server (link ∷ history) s.next s.requests laws is_test) (sym chain.0) (record {
        stands = subst (λ (n : ℕ). Stands n link.after.requests) (sym made.is_next) well.stands;
        few = omega (arith, few, fewer, count_parts (says_same p) (λ (q : Packet). q.again) link.out.packets);
      })

-- The law.
pub chain_eleven : AreCopyLaws → PartsLaw → (server : Server) (first : ℕ) (history : List Link) (last : ProxyState) → IsChain server (first_state first) history last
    → GoOutElevenTimes history
chain_eleven laws parts server first history last chain p own =
    let few = (chain_holds laws parts server first p (same_test p own) history last chain).few in omega (arith, few)
