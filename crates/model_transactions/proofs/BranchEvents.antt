-- What each event leaves of the branches of an open request.
use Rattle.std.proofs.Common.{◌≡◌, ℕ, ◌+◌, ◌≤◌, Bool, true, false, cond, List, [], ◌∷◌, map, Option, Some, None, Contains, refl, sym, ap, ◌∙◌, subst, arith}
use Rattle.std.specs.Prelude.{◌&&◌, ◌||◌}
use Rattle.std.specs.List.{AllByRecursion, flat_map}
use Rattle.std.proofs.lemmas.List.{map-id}
use Rattle.std.proofs.lemmas.List.Elements.{All-from_recursion, All-contains}
use Rattle.sip_event.specs.declared.packet.Packet.{Packet}
use Rattle.sip_message_form.specs.declared.message.Message.{Message}
use Rattle.sip_targets.specs.declared.target.Target.{Target}
use Rattle.sip_uri.specs.declared.addr.Addr.{Addr}
use Rattle.sip_context_branches.specs.state.declared.branch.Branch.{Branch}
use Rattle.sip_context_branches.specs.state.declared.branch.Phase.{Phase}
use Rattle.sip_context_branches.specs.state.declared.branch.Phase.TheVariants.{Unheard, Heard, Cancelled, Done, Ended}
use Rattle.sip_context_branches.specs.state.declared.open_request.OpenRequest.{OpenRequest}
use Rattle.sip_context_branches.specs.state.declared.open_request.Side.TheVariants.{Closed}
use Rattle.sip_context_branches.specs.state.declared.open_request.Upward.{Upward}
use Rattle.sip_context_branches.specs.state.declared.resend.Resend.{Resend}
use Rattle.sip_context_branches.specs.state.declared.server.Server.{Server}
use Rattle.sip_context_branches.specs.state.State.{is_answering, is_decline, is_final, is_invite, is_provisional, is_success}
use Rattle.sip_context_branches.specs.context_model.Branches.{is_same_branch, turned, phased, with_phase, with_final, marked_branch, marked, given_up, best_upward}
use Rattle.sip_context_branches.specs.context_model.Branches.{after_upward, settled, invite_heard, other_heard, heard, relayed_provisional, relayed_success, search_ended}
use Rattle.sip_context_branches.specs.context_model.Branches.{told_to, final_of, linger, with_answer, acks_of, further, target_responded, cancel_responded, responded}
use Rattle.sip_context_branches.specs.context_model.Branches.{target_overdue, branch_overdue, overdue, side_overdue, send_failed, cancelled, with_cancel, acknowledged}
use Rattle.sip_context_branches.specs.context_model.Branches.{acknowledged_side, was_refused}
use Rattle.sip_context_branches.specs.context_model.Retransmission.{branch_next, resent_branch, with_resend}
use Rattle.sip_context_branches.specs.context_model.Opening.{branch_to, branches_from, dialog_branch, opening, tried, trying}
use Rattle.model_transactions.specs.Matching.{may_be_cancelled, IsNewNumber, AreBranched, NoBranch, OneBranch}
use Rattle.model_transactions.specs.Kept.{AreKept}
use Rattle.model_transactions.proofs.Branched.{Keeps, kept, mapped, all_as_far, all_join}

-- ---- branches that are mapped

-- a request has the branches of another one, each as an event leaves it
pub record AreMapped (before after : List Branch) : Type 0 where
  pub f : Branch → Branch
  pub keeps : AllByRecursion (Keeps f) before
  pub is : after ≡ map f before

unchanged : (bs : List Branch) → AllByRecursion (Keeps (λ b. b)) bs
unchanged [] = tt
unchanged (b ∷ bs) = (record { number = refl; is_cancel = refl; phase = λ e. e }, unchanged bs)

mapped_same : (bs : List Branch) → AreMapped bs bs
mapped_same bs = record { f = λ b. b; keeps = unchanged bs; is = sym (map-id bs) }

mapped_by : (f : Branch → Branch) (bs : List Branch) → AllByRecursion (Keeps f) bs → AreMapped bs (map f bs)
mapped_by f bs keeps = record { f = f; keeps = keeps; is = refl }

twice : (f g : Branch → Branch) (bs : List Branch) → ((b : Branch) → Keeps g b) → AllByRecursion (Keeps f) bs → AllByRecursion (Keeps (λ b. g (f b))) bs
twice f g [] each all = tt
twice f g (b ∷ bs) each all = (
  record {
    number = (each (f b)).number ∙ all.0.number;
    is_cancel = (each (f b)).is_cancel ∙ all.0.is_cancel;
    phase = λ e. (each (f b)).phase (all.0.phase e);
  },
  twice f g bs each all.1,
)

map-twice : (f g : Branch → Branch) (bs : List Branch) → map g (map f bs) ≡ map (λ b. g (f b)) bs
map-twice f g [] = refl
map-twice f g (b ∷ bs) = ap (λ xs. g (f b) ∷ xs) (map-twice f g bs)

-- and then by another one, whatever they are
mapped_then : (g : Branch → Branch) (before after : List Branch) → ((b : Branch) → Keeps g b) → AreMapped before after → AreMapped before (map g after)
mapped_then g before after each m =
    record { f = λ b. g (m.f b); keeps = twice m.f g before each m.keeps; is = ap (λ xs. map g xs) m.is ∙ map-twice m.f g before }

-- ---- what follows every event

same_branches : (now : ℕ) (o : Option Upward) (r : OpenRequest) → (after_upward now o r).branches ≡ r.branches
same_branches now None r = refl
same_branches now (Some u) r = refl

settled_branches : (server : Server) (now : ℕ) (acks : List Packet) (relayed : Option Upward) (r : OpenRequest)
    → (settled server now acks relayed r).request.branches ≡ flat_map (with_cancel now) r.branches
settled_branches server now acks relayed r =
    let told : OpenRequest = after_upward now relayed r in
    ap (λ bs. flat_map (with_cancel now) bs) (same_branches now (best_upward server told) told ∙ same_branches now relayed r)

pub settles : (server : Server) (now : ℕ) (acks : List Packet) (relayed : Option Upward) (before : List Branch) (r : OpenRequest) → AreBranched before
    → AreMapped before r.branches → AreKept before (settled server now acks relayed r).request.branches
settles server now acks relayed before r branched m =
    let e : (settled server now acks relayed r).request.branches ≡ flat_map (with_cancel now) (map m.f before) = settled_branches server now acks relayed r
    ∙ ap (λ bs. flat_map (with_cancel now) bs) m.is in
    subst (λ (xs : List Branch). AreKept before xs) (sym e) (kept m.f now before m.keeps branched)

-- ---- what events do to branches

marks : (b : Branch) → Keeps marked_branch b
marks b = record {
  number = by_number (b.is_cancel || is_final b.phase);
  is_cancel = by_kind (b.is_cancel || is_final b.phase);
  phase = λ e. by_phase (b.is_cancel || is_final b.phase) e;
} where
  by_number : (t : Bool) → (cond t b (record b { wants_cancel = true })).number ≡ b.number
  by_number true = refl
  by_number false = refl

  by_kind : (t : Bool) → (cond t b (record b { wants_cancel = true })).is_cancel ≡ b.is_cancel
  by_kind true = refl
  by_kind false = refl

  by_phase : (t : Bool) → may_be_cancelled b.phase ≡ false → may_be_cancelled (cond t b (record b { wants_cancel = true })).phase ≡ false
  by_phase true e = e
  by_phase false e = e

-- a branch is in another phase, from which it is no further than it was
phases_one : (b : Branch) (p : Phase) (x : Branch) → (is_same_branch x b ≡ true → may_be_cancelled x.phase ≡ false → may_be_cancelled p ≡ false) → Keeps (phased b p) x
phases_one b p x past = record {
  number = by_number (is_same_branch x b);
  is_cancel = by_kind (is_same_branch x b);
  phase = λ e. by_phase (is_same_branch x b) refl e;
} where
  by_number : (t : Bool) → (cond t (turned b p x) x).number ≡ x.number
  by_number true = refl
  by_number false = refl

  by_kind : (t : Bool) → (cond t (turned b p x) x).is_cancel ≡ x.is_cancel
  by_kind true = refl
  by_kind false = refl

  by_phase : (t : Bool) → is_same_branch x b ≡ t → may_be_cancelled x.phase ≡ false → may_be_cancelled (cond t (turned b p x) x).phase ≡ false
  by_phase true same e = past same e
  by_phase false same e = e

phases_past : (b : Branch) (p : Phase) (bs : List Branch) → may_be_cancelled p ≡ false → AllByRecursion (Keeps (phased b p)) bs
phases_past b p [] e = tt
phases_past b p (x ∷ bs) e = (phases_one b p x (λ same is. e), phases_past b p bs e)

phases_on : (b : Branch) (p : Phase) (bs : List Branch) → (may_be_cancelled b.phase ≡ false → may_be_cancelled p ≡ false)
    → AllByRecursion (λ x. is_same_branch x b ≡ true → may_be_cancelled x.phase ≡ may_be_cancelled b.phase) bs
    → AllByRecursion (Keeps (phased b p)) bs
phases_on b p [] on far = tt
phases_on b p (x ∷ bs) on far = (phases_one b p x (λ same is. on (sym (far.0 same) ∙ is)), phases_on b p bs on far.1)

other_heard_past : (p : Phase) → may_be_cancelled p ≡ false → may_be_cancelled (other_heard p) ≡ false
other_heard_past (Unheard due) e = absurd (cc)
other_heard_past (Heard due) e = absurd (cc)
other_heard_past (Cancelled due) e = refl
other_heard_past (Done due status) e = refl
other_heard_past Ended e = refl

invite_heard_past : (now status : ℕ) (p : Phase) → may_be_cancelled p ≡ false → may_be_cancelled (invite_heard now status p) ≡ false
invite_heard_past now status (Unheard due) e = absurd (cc)
invite_heard_past now status (Heard due) e = absurd (cc)
invite_heard_past now status (Cancelled due) e = refl
invite_heard_past now status (Done due first) e = refl
invite_heard_past now status Ended e = refl

heard_past : (r : OpenRequest) (now status : ℕ) (p : Phase) → may_be_cancelled p ≡ false → may_be_cancelled (heard r now status p) ≡ false
heard_past r now status p e = by_test (is_invite r) where
  by_test : (t : Bool) → may_be_cancelled (cond t (invite_heard now status p) (other_heard p)) ≡ false
  by_test true = invite_heard_past now status p e
  by_test false = other_heard_past p e

wants : (b : Branch) (x : Branch) → Keeps (λ y. cond (is_same_branch y b) (record y { wants_cancel = true }) y) x
wants b x = record { number = by_number (is_same_branch x b); is_cancel = by_kind (is_same_branch x b); phase = λ e. by_phase (is_same_branch x b) e } where
  by_number : (t : Bool) → (cond t (record x { wants_cancel = true }) x).number ≡ x.number
  by_number true = refl
  by_number false = refl

  by_kind : (t : Bool) → (cond t (record x { wants_cancel = true }) x).is_cancel ≡ x.is_cancel
  by_kind true = refl
  by_kind false = refl

  by_phase : (t : Bool) → may_be_cancelled x.phase ≡ false → may_be_cancelled (cond t (record x { wants_cancel = true }) x).phase ≡ false
  by_phase true e = e
  by_phase false e = e

all_want : (b : Branch) (bs : List Branch) → AllByRecursion (Keeps (λ y. cond (is_same_branch y b) (record y { wants_cancel = true }) y)) bs
all_want b [] = tt
all_want b (x ∷ bs) = (wants b x, all_want b bs)

all_mark : (bs : List Branch) → AllByRecursion (Keeps marked_branch) bs
all_mark [] = tt
all_mark (x ∷ bs) = (marks x, all_mark bs)

-- the branches that are one with one of them are as far
far_as : (bs : List Branch) (b : Branch) → AreBranched bs → Contains bs b → AllByRecursion (λ x. is_same_branch x b ≡ true
    → may_be_cancelled x.phase ≡ may_be_cancelled b.phase) bs
far_as bs b branched there =
    let P : Branch → Type 0 = λ y. AllByRecursion (λ x. is_same_branch x y ≡ true → may_be_cancelled x.phase ≡ may_be_cancelled y.phase) bs in
    All-contains P bs b (All-from_recursion P bs (all_as_far bs branched)) there

-- ---- events

search_mapped : (r : OpenRequest) (status : ℕ) (before : List Branch) (after : OpenRequest) → AreMapped before after.branches
    → AreMapped before (search_ended r status after).branches
search_mapped r status before after m = by_test (is_invite r && (is_success status || is_decline status)) where
  by_test : (t : Bool) → AreMapped before (cond t (marked after) after).branches
  by_test true = mapped_then marked_branch before after.branches marks m
  by_test false = m

pub responds : (server : Server) (now status : ℕ) (r : OpenRequest) (b : Branch) (m : Message) → AreBranched r.branches → Contains r.branches b
    → AreKept r.branches (responded server now r b status m).request.branches
responds server now status r b m branched there = by_kind b.is_cancel where
  far : AllByRecursion (λ x. is_same_branch x b ≡ true → may_be_cancelled x.phase ≡ may_be_cancelled b.phase) r.branches
  far = far_as r.branches b branched there

  heard_on : AreMapped r.branches (with_phase b (heard r now status b.phase) r).branches
  heard_on = mapped_by (phased b (heard r now status b.phase)) r.branches (phases_on b (heard r now status b.phase) r.branches (heard_past r now status b.phase) far)

  of_cancel : (t u : Bool) → AreKept r.branches (cond t (settled server now [] None (with_phase b (other_heard b.phase) r))
      (cond u (settled server now [] None r) (settled server now [] None (with_phase b (Done (now + 5000) status) r)))).request.branches
  of_cancel true u =
      settles server now [] None r.branches (with_phase b (other_heard b.phase) r) branched
      (mapped_by (phased b (other_heard b.phase)) r.branches (phases_on b (other_heard b.phase) r.branches (other_heard_past b.phase) far))
  of_cancel false true = settles server now [] None r.branches r branched (mapped_same r.branches)
  of_cancel false false =
      settles server now [] None r.branches (with_phase b (Done (now + 5000) status) r) branched
      (mapped_by (phased b (Done (now + 5000) status)) r.branches (phases_past b (Done (now + 5000) status) r.branches refl))

  of_target : (t u : Bool) → AreKept r.branches (cond t (settled server now [] (relayed_provisional r b status m) (with_phase b (heard r now status b.phase) r))
      (cond u (settled server now [] (further r b b.phase status m) r) (settled server now (acks_of server r b status m) (relayed_success r b status m)
      (with_answer r b now status m)))).request.branches
  of_target true u = settles server now [] (relayed_provisional r b status m) r.branches (with_phase b (heard r now status b.phase) r) branched heard_on
  of_target false true = settles server now [] (further r b b.phase status m) r.branches r branched (mapped_same r.branches)
  of_target false false =
      let answered : OpenRequest = with_final (final_of status m) (with_phase (told_to r b status m) (Done (now + linger r) status) r) in
      settles server now (acks_of server r b status m) (relayed_success r b status m) r.branches (with_answer r b now status m) branched
      (search_mapped r status r.branches answered (mapped_by (phased (told_to r b status m) (Done (now + linger r) status)) r.branches
      (phases_past (told_to r b status m) (Done (now + linger r) status) r.branches refl)))

  by_kind : (t : Bool) → AreKept r.branches (cond t (cancel_responded server now r b status m) (target_responded server now r b status m)).request.branches
  by_kind true = of_cancel (is_provisional status) (is_final b.phase)
  by_kind false = of_target (is_provisional status) (is_final b.phase)

gives_up : (b : Branch) (status : ℕ) (r : OpenRequest) → AreMapped r.branches (given_up b status r).branches
gives_up b status r = mapped_by (phased b Ended) r.branches (phases_past b Ended r.branches refl)

ends_overdue : (r : OpenRequest) (b : Branch) (p : Phase) → AreMapped r.branches (target_overdue r b p).branches
ends_overdue r b (Unheard due) = gives_up b 408 r
ends_overdue r b (Heard due) = by_test (is_invite r) where
  by_test : (t : Bool) → AreMapped r.branches (cond t (record r {
    branches = map (λ (x : Branch). cond (is_same_branch x b) (record x { wants_cancel = true }) x)
        r.branches;
  }) (given_up b 408 r)).branches
  by_test true = mapped_by (λ y. cond (is_same_branch y b) (record y { wants_cancel = true }) y) r.branches (all_want b r.branches)
  by_test false = gives_up b 408 r
ends_overdue r b (Cancelled due) = gives_up b 487 r
ends_overdue r b (Done due status) = mapped_by (phased b Ended) r.branches (phases_past b Ended r.branches refl)
ends_overdue r b Ended = mapped_same r.branches

pub is_overdue : (server : Server) (now : ℕ) (r : OpenRequest) (b : Branch) → AreBranched r.branches → AreKept r.branches (overdue server now r b).request.branches
is_overdue server now r b branched = settles server now [] None r.branches (branch_overdue r b) branched (by_kind b.is_cancel) where
  by_kind : (t : Bool) → AreMapped r.branches (cond t (with_phase b Ended r) (target_overdue r b b.phase)).branches
  by_kind true = mapped_by (phased b Ended) r.branches (phases_past b Ended r.branches refl)
  by_kind false = ends_overdue r b b.phase

pub side_is_overdue : (server : Server) (now : ℕ) (r : OpenRequest) → AreBranched r.branches → AreKept r.branches (side_overdue server now r).request.branches
side_is_overdue server now r branched = settles server now [] None r.branches (record r { side = Closed }) branched (mapped_same r.branches)

pub fails : (server : Server) (now : ℕ) (r : OpenRequest) (b : Branch) → AreBranched r.branches → AreKept r.branches (send_failed server now r b).request.branches
fails server now r b branched = settles server now [] None r.branches (given_up b 503 r) branched (gives_up b 503 r)

pub cancels : (server : Server) (now : ℕ) (r : OpenRequest) → AreBranched r.branches → AreKept r.branches (cancelled server now r).request.branches
cancels server now r branched = by_test (is_invite r && is_answering r.side) where
  by_test : (t : Bool) → AreKept r.branches (settled server now [] None (cond t (marked r) r)).request.branches
  by_test true = settles server now [] None r.branches (marked r) branched (mapped_by marked_branch r.branches (all_mark r.branches))
  by_test false = settles server now [] None r.branches r branched (mapped_same r.branches)

-- ---- openings

numbers_above : (now from number : ℕ) (ts : List Target) → number + 1 ≤ from → IsNewNumber number (branches_from now from ts)
numbers_above now from number [] low = tt
numbers_above now from number (t ∷ ts) low = ((λ e. omega (arith, e, low)), numbers_above now (from + 1) number ts (omega (arith, low)))

pub begin_branched : (now number : ℕ) (ts : List Target) → AreBranched (branches_from now number ts)
begin_branched now number [] = NoBranch
begin_branched now number (t ∷ ts) = OneBranch (branch_to now number t) (branches_from now (number + 1) ts) refl (numbers_above now (number + 1) number ts (omega arith))
    (begin_branched now (number + 1) ts)

pub dialog_branched : (server : Server) (now : ℕ) (m : Message) (address : Addr) → AreBranched (dialog_branch server now m address ∷ [])
dialog_branched server now m address = OneBranch (dialog_branch server now m address) [] refl tt NoBranch

tried_branches : (now : ℕ) (us : List Upward) (r : OpenRequest) → (tried now us r).branches ≡ r.branches
tried_branches now [] r = refl
tried_branches now (u ∷ us) r = tried_branches now us _

pub opens : (server : Server) (now : ℕ) (r : OpenRequest) → AreBranched r.branches → AreBranched (opening server now r).request.branches
opens server now r branched =
    (settles server now [] None r.branches (tried now (trying server r) r) branched
    (subst (λ (xs : List Branch). AreMapped r.branches xs) (sym (tried_branches now (trying server r) r)) (mapped_same r.branches))).branched

-- ---- what only maps the branches

goes_one : (b : Branch) (next : Resend) (x : Branch) → Keeps (resent_branch b next) x
goes_one b next x = record { number = by_number (is_same_branch x b); is_cancel = by_kind (is_same_branch x b); phase = λ e. by_phase (is_same_branch x b) e } where
  by_number : (t : Bool) → (cond t (record x { again = next }) x).number ≡ x.number
  by_number true = refl
  by_number false = refl

  by_kind : (t : Bool) → (cond t (record x { again = next }) x).is_cancel ≡ x.is_cancel
  by_kind true = refl
  by_kind false = refl

  by_phase : (t : Bool) → may_be_cancelled x.phase ≡ false → may_be_cancelled (cond t (record x { again = next }) x).phase ≡ false
  by_phase true e = e
  by_phase false e = e

all_go : (b : Branch) (next : Resend) (bs : List Branch) → AllByRecursion (Keeps (resent_branch b next)) bs
all_go b next [] = tt
all_go b next (x ∷ bs) = (goes_one b next x, all_go b next bs)

pub stays : (bs : List Branch) → AreBranched bs → AreKept bs bs
stays bs branched = subst (λ (xs : List Branch). AreKept bs xs) (map-id bs) (mapped (λ b. b) bs (unchanged bs) branched)

pub goes_again : (r : OpenRequest) (b : Branch) → AreBranched r.branches → AreKept r.branches (with_resend b r).branches
goes_again r b branched = mapped (resent_branch b (branch_next r b)) r.branches (all_go b (branch_next r b) r.branches) branched

pub acknowledges : (now : ℕ) (r : OpenRequest) → AreBranched r.branches → AreKept r.branches (acknowledged now r).branches
acknowledges now r branched = by_test (is_invite r && was_refused r.answer) where
  by_test : (t : Bool) → AreKept r.branches (cond t (record r { side = acknowledged_side now r.side }) r).branches
  by_test true = stays r.branches branched
  by_test false = stays r.branches branched

pub begins : (bs : List Branch) → AreBranched bs → AreKept [] bs
begins bs branched = record { branched = branched; matched = all_join bs branched }
