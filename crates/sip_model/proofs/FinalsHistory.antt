-- Over every history the caller of each request is sent at most one final answer, or several 2xx of an INVITE.
use Rattle.std.proofs.Common.{◌≡◌, inl, inr, ℕ, ◌≤◌, Bool, true, false, not, ◌&&◌, List, [], ◌∷◌, refl, sym, subst, arith}
use Rattle.std.proofs.lemmas.List.Sums.{length-filter}
use Rattle.sip_event.specs.declared.packet.Packet.{Packet}
use Rattle.sip_event.specs.declared.event.StepOut.{StepOut}
use Rattle.model_steps.specs.state.declared.server.Server.{Server}
use Rattle.model_steps.specs.state.declared.proxy_state.ProxyState.{ProxyState}
use Rattle.model_steps.specs.state.State.{first_state}
use Rattle.model_steps.specs.Step.{Act, IsStep, originals, retransmissions}
use Rattle.sip_model.specs.Run.{Link, under, IsChain}
use Rattle.sip_model.specs.Lives.{sent_first}
use Rattle.sip_model.specs.Parts.{HasParts}
use Rattle.sip_model.specs.Invites.{WasInvite}
use Rattle.sip_model.specs.FinalAnswers.{begins_success, is_final_to, IsAnsweredOnce}
use Rattle.sip_model.proofs.FinalsLists.{contained_behind, kept_pass}
use Rattle.sip_model.proofs.FinalsCounts.{is_other_to, IsOne}
use Rattle.sip_model.proofs.FinalsParts.{LaterLaw, FirstLaw, AreTold, told_weaker, ComesAs, parts_told}
use Rattle.sip_model.proofs.Lists.{head_there}

-- each step has its parts
abbrev pub PartsLaw : Type 0
PartsLaw = (server : Server) (old : ProxyState) (act : Act) (out : StepOut) (new : ProxyState) → IsStep server old act out new → HasParts server old act out new

-- ---- INVITEs that came

-- one that came in a history came in a longer one
pub invite_later : (link : Link) (history : List Link) (n : ℕ) → WasInvite n history → WasInvite n (link ∷ history)
invite_later link history n h = record {
  link = h.link;
  a = h.a;
  bytes = h.bytes;
  m = h.m;
  short = h.short;
  is_there = contained_behind link history h.link h.is_there;
  is_said = h.is_said;
  is_number = h.is_number;
  is_invite = h.is_invite;
}

-- one that the newest step is taken for came
pub invite_now : (link : Link) (history : List Link) → ComesAs (λ n. WasInvite n (link ∷ history)) link.before link.act
invite_now link history = λ a bytes m short said invite.
    record { link = link; a = a; bytes = bytes; m = m; short = short; is_there = head_there link history; is_said = said; is_number = refl; is_invite = invite }

-- ---- histories

-- in a whole history
chain_told : LaterLaw → FirstLaw → PartsLaw → (server : Server) (first : ℕ) (history : List Link) (last : ProxyState) → IsChain server (first_state first) history last
    → AreTold (λ n. WasInvite n history) last.requests last.next (sent_first history)
chain_told later one parts server first [] last chain =
    subst (λ (s : ProxyState). AreTold (λ n. WasInvite n []) s.requests s.next []) (sym chain)
    (record { numbered = record { differ = λ n. omega arith; are_below = λ n high. refl }; none_later = λ n high. refl; each_one = λ n. inl (omega arith); fit = tt })
chain_told later one parts server first (link ∷ history) last chain =
    let made : HasParts (under server link.config) link.before link.act link.out link.after =
    parts (under server link.config) link.before link.act link.out link.after chain.1 in
    let before = told_weaker (λ n. WasInvite n history) (λ n. WasInvite n (link ∷ history)) link.before.requests link.before.next (sent_first history)
    (invite_later link history)
    (chain_told later one parts server first history link.before chain.2) in
    subst (λ (s : ProxyState). AreTold (λ n. WasInvite n (link ∷ history)) s.requests s.next (sent_first (link ∷ history))) (sym chain.0)
    (subst (λ (n : ℕ). AreTold (λ k. WasInvite k (link ∷ history)) link.after.requests n (sent_first (link ∷ history))) (sym made.is_next)
    (parts_told later one (λ n. WasInvite n (link ∷ history)) (sent_first history) (under server link.config) link.before link.act link.after.moment link.after.requests
    (originals link.out.packets) (retransmissions link.out.packets)
    (invite_now link history) made.parts before))

-- the bound, in packets
bound : (n : ℕ) (history : List Link) → IsOne (λ k. WasInvite k history) n (sent_first history) → IsAnsweredOnce n history
bound n history (inl few) = inl (subst (λ (k : ℕ). k ≤ 1) (sym (length-filter (is_final_to n) (sent_first history))) few)
bound n history (inr all) = inr (
  all.0,
  kept_pass (is_final_to n) (λ (p : Packet). begins_success p.bytes) (is_other_to n) (sent_first history)
      (λ p final none. passes (is_final_to n p) (begins_success p.bytes) final none) all.1,
) where
  passes : (x y : Bool) → x ≡ true → (x && not y) ≡ false → y ≡ true
  passes true true final none = refl
  passes true false final none = absurd (cc)
  passes false y final none = absurd (cc)

-- each number of a history is within it
pub chain_once : LaterLaw → FirstLaw → PartsLaw → (server : Server) (first : ℕ) (history : List Link) (last : ProxyState)
    → IsChain server (first_state first) history last
    → (number : ℕ) → IsAnsweredOnce number history
chain_once later one parts server first history last chain number = bound number history ((chain_told later one parts server first history last chain).each_one number)
