-- A branch that is sent a second CANCEL.
use Rattle.std.proofs.Common.{◌≡◌, ◌≤◌, Bool, true, false, ◌&&◌, List, [], ◌∷◌, Contains, refl, sym, ap, ap₂, subst, ◌∙◌, true≢false, arith, count_by}
use Rattle.sip_message_form.specs.Text.{text_of}
use Rattle.sip_edit.specs.OwnRequests.{cancel_of}
use Rattle.sip_event.specs.declared.packet.Packet.{Packet}
use Rattle.model_steps.specs.state.declared.server.Server.{Server}
use Rattle.model_steps.specs.state.declared.branch.Branch.{Branch}
use Rattle.model_steps.specs.state.declared.open_request.OpenRequest.{OpenRequest}
use Rattle.model_steps.specs.context_model.Calls.{sample, first_ringing, one_rings}
use Rattle.model_steps.specs.context_model.Sending.{request_of}
use Rattle.sip_model.specs.Run.{Link}
use Rattle.sip_model.specs.Lives.{sent_first}
use Rattle.sip_model.specs.Cancels.{BranchName, is_named, is_own_cancel, IsCancelOf, AreCancelsOf, NoMore, Another, OneMore, HasOneCancelEach}
use Rattle.sip_model.specs.SecondCancel.{second_cancel}
use Rattle.sip_model.proofs.Places.{all_in, count_cons, in_from_contains, one_at, same_number}

-- the first of some packets has a name, if it is a CANCEL of this server
record HasName (server : Server) (history : List Link) (names : List BranchName) (p : Packet) (rest : List Packet) : Type 0 where
  name : BranchName
  others : List BranchName
  are : names ≡ name ∷ others
  is_its : IsCancelOf server history name p
  behind : AreCancelsOf server history others rest

first_name : (server : Server) (history : List Link) (names : List BranchName) (packets : List Packet) (p : Packet) (rest : List Packet) → is_own_cancel p ≡ true
    → packets ≡ p ∷ rest → AreCancelsOf server history names packets
    → HasName server history names p rest
first_name server history _ _ p rest own e NoMore = absurd (cc)
first_name server history _ _ p rest own e (Another names q packets other behind) = let same : q ≡ p = cc in
    absurd (true≢false (sym own ∙ ap is_own_cancel (sym same) ∙ other))
first_name server history _ _ p rest own e (OneMore name names q packets is behind) =
    let same : q ≡ p = cc in
    let same_rest : packets ≡ rest = cc in
    record {
      name = name;
      others = names;
      are = refl;
      is_its = subst (IsCancelOf server history name) same is;
      behind = subst (AreCancelsOf server history names) same_rest behind;
    }

-- the CANCEL of the target that rings
the_cancel : Packet
the_cancel = record {
  to = record { ip = 127 ∷ 0 ∷ 0 ∷ 1 ∷ []; port = 5082 };
  bytes = text_of (cancel_of (request_of sample one_rings first_ringing));
  ticket = record { datagram = 4; branch = 0 };
  again = false;
}

is_own : is_own_cancel the_cancel ≡ true
unfolding the_cancel
is_own = refl

-- it is what is sent, twice
sent_twice : sent_first second_cancel ≡ the_cancel ∷ the_cancel ∷ []
unfolding the_cancel
sent_twice = refl

-- whatever is the CANCEL of a branch here is that of the one branch
named_so : (name : BranchName) (p : Packet) → IsCancelOf sample second_cancel name p → is_named (4, 1) name ≡ true
named_so name p is =
    let open_then : is.link.before.requests ≡ one_rings ∷ [] = all_in (λ (l : Link). l.before.requests ≡ one_rings ∷ []) second_cancel is.link (refl, (refl, tt))
    (in_from_contains second_cancel is.link is.is_there) in
    let request : is.request ≡ one_rings =
    all_in (λ (x : OpenRequest). x ≡ one_rings) (one_rings ∷ []) is.request (refl, tt)
    (in_from_contains (one_rings ∷ []) is.request (subst (λ (rs : List OpenRequest). Contains rs is.request) open_then is.is_open)) in
    let branch : is.branch ≡ first_ringing =
    all_in (λ (x : Branch). x ≡ first_ringing) (first_ringing ∷ []) is.branch (refl, tt)
    (in_from_contains (first_ringing ∷ []) is.branch (subst (λ (x : OpenRequest). Contains x.branches is.branch) request is.is_inside)) in
    let number : name.0 ≡ 4 = sym is.is_request ∙ ap (λ (x : OpenRequest). x.number) request in
    let target : name.1 ≡ 1 = sym is.is_branch ∙ ap (λ (x : Branch). x.number) branch in
    ap₂ (λ (s t : Bool). s && t) (same_number name.0 4 number) (same_number name.1 1 target)

-- so the same name is given twice
pub second_refused : HasOneCancelEach sample second_cancel → ⊥
second_refused has =
    let first : HasName sample second_cancel has.names the_cancel (the_cancel ∷ []) =
    first_name sample second_cancel has.names (sent_first second_cancel) the_cancel (the_cancel ∷ []) is_own sent_twice has.are_all in
    let second : HasName sample second_cancel first.others the_cancel [] = first_name sample second_cancel first.others (the_cancel ∷ []) the_cancel [] is_own refl
    first.behind in
    let names : has.names ≡ first.name ∷ second.name ∷ second.others = first.are ∙ ap (λ (ns : List BranchName). first.name ∷ ns) second.are in
    let few = subst (λ (ns : List BranchName). count_by (is_named (4, 1)) ns ≤ 1) names (has.differ (4, 1)) in
    absurd (omega (
      arith,
      few,
      count_cons (is_named (4, 1)) first.name (second.name ∷ second.others),
      count_cons (is_named (4, 1)) second.name second.others,
      one_at (is_named (4, 1) first.name) (named_so first.name the_cancel first.is_its),
      one_at (is_named (4, 1) second.name) (named_so second.name the_cancel second.is_its),
    ))
