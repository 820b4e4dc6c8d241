-- Two runs, side by side, from their first steps on.
use Rattle.std.proofs.Common.{◌≡◌, ◌⊎◌, ◌∙◌, ℕ, ◌≤◌, List, [], ◌∷◌, ◌++◌, drop, reverse, append-nil, Option, Some, None, refl, sym, ap, ap₂, subst, arith}
use Rattle.std.specs.List.{AllByRecursion}
use Rattle.sip_config_types.specs.declared.config.Config.{Config}
use Rattle.sip_event.specs.declared.event.Event.{Event}
use Rattle.sip_event.specs.declared.event.Event.TheVariants.{Datagram, Time, Fault}
use Rattle.sip_event.specs.declared.event.StepOut.{StepOut}
use Rattle.model_steps.specs.state.declared.server.Server.{Server}
use Rattle.model_steps.specs.state.declared.open_request.OpenRequest.{OpenRequest}
use Rattle.model_steps.specs.state.declared.proxy_state.ProxyState.{ProxyState}
use Rattle.model_steps.specs.state.SameState.{SameState}
use Rattle.model_steps.specs.state.State.{first_state}
use Rattle.model_steps.specs.Step.{Act, Given, Passing, IsDeadline, IsResend, IsStep, NoneBy, NoneAgainBy, moment_of}
use Rattle.sip_model.specs.Run.{Link, under, IsChain, IsPaced, IsRun, IsUnder, IsUpTo, event_moment, event_of, events_of, first_moment, next_moment, steps_of}
use Rattle.model_transactions.specs.Queue.{Entry, entries_of, queue_after}
use Rattle.sip_model.specs.TimerOrder.{IsFirstOf, IsOfEntry, queue_from}
use Rattle.sip_model.specs.Ties.{AreOne, AreOrderly, ArePrompt, IsOrderly, IsPrompt, Label, configurations_of, due_of, label_of, labels_of}
use Rattle.sip_model.proofs.TiedLists.{onto, turned_round}
use Rattle.sip_model.proofs.Firsts.{at_one_moment, nothing_happens}
use Rattle.sip_model.proofs.TiedAlike.{Sameness, happens_alike, one_due}
use Rattle.sip_model.proofs.Reached.{Histories, step_one_way}
use Rattle.sip_model.proofs.OneEntry.{one_happens}
use Rattle.sip_model.proofs.TiedSteps.{one_given}
use Rattle.sip_model.proofs.Chains.{chain_under}

-- ---- a history from its first step on

-- a step comes next: it begins in a state in which these timers stand, and time passes in it up to the first of the events that are left
record ComesNext (server : Server) (queue : List Entry) (state : ProxyState) (link : Link) (left : List Event) : Type 0 where
  begins : link.before ≡ state
  configured : IsUnder server.config link
  step : IsStep server link.before link.act link.out link.after
  orderly : IsOrderly server queue link.before link.act link.out link.after
  paced : IsUpTo (first_moment left None) link.act

-- the timers that stand after a step
abbrev queue_then : List Entry → Link → List Entry
queue_then queue link = queue_after queue (entries_of link.after.requests)

-- steps, the first one first, lead from one state, in which these timers stand, to another
abbrev Follows : Server → List Entry → ProxyState → List Link → ProxyState → Type 0
Follows server queue first [] last = last ≡ first
Follows server queue first (link ∷ later) last = ComesNext server queue first link (events_of later) × Follows server (queue_then queue link) link.after later last

-- the timers that stand after them
abbrev queue_along : List Entry → List Link → List Entry
queue_along queue [] = queue
queue_along queue (link ∷ later) = queue_along (queue_then queue link) later

-- the moment of the event that comes next is that of the first of the events
next_is : (act : Act) (events : List Event) → next_moment (first_moment events None) act ≡ first_moment (event_of act events) None
next_is (Given event) events = refl
next_is (Passing at) events = refl

-- a history, turned round
turned : (server : Server) (queue : List Entry) (first middle last : ProxyState) (history later : List Link) → IsChain server first history middle
    → AllByRecursion (IsUnder server.config) history → AreOrderly server queue history
    → IsPaced (first_moment (events_of later) None) history → Follows server (queue_from queue history) middle later last
    → Follows server queue first (onto history later) last
turned server queue first middle last [] later chain configured orderly paced follows = subst (λ (s : ProxyState). Follows server queue s later last) chain follows
turned server queue first middle last (link ∷ history) later chain configured orderly paced follows =
    turned server queue first link.before last history (link ∷ later) chain.2 configured.1 orderly.1
    (subst (λ (o : Option ℕ). IsPaced o history) (next_is link.act (events_of later)) paced.1) (
      record {
        begins = refl;
        configured = configured.0;
        step = subst (λ (c : Config). IsStep (under server c) link.before link.act link.out link.after) configured.0 chain.1;
        orderly = subst (λ (c : Config). IsOrderly (under server c) (queue_from queue history) link.before link.act link.out link.after) configured.0 orderly.0;
        paced = paced.0;
      },
      subst (λ (s : ProxyState). Follows server (queue_then (queue_from queue history) link) s later last) chain.0 follows,
    )

-- the timers that stand after it
queue_turned : (queue : List Entry) (history later : List Link) → queue_along queue (onto history later) ≡ queue_along (queue_from queue history) later
queue_turned queue [] later = refl
queue_turned queue (link ∷ history) later = queue_turned queue history (link ∷ later)

-- its events
events_turned : (history later : List Link) → events_of (onto history later) ≡ reverse (events_of history) ++ events_of later
events_turned [] later = refl
events_turned (link ∷ history) later = events_turned history (link ∷ later) ∙ by_act link.act where
  by_act : (act : Act) → reverse (events_of history) ++ event_of act (events_of later) ≡ reverse (event_of act (events_of history)) ++ events_of later
  by_act (Given event) = sym (turned_round event (events_of history) (events_of later))
  by_act (Passing at) = refl

-- its steps
steps_turned : (history later : List Link) → steps_of (onto history later) ≡ reverse (steps_of history) ++ steps_of later
steps_turned [] later = refl
steps_turned (link ∷ history) later = steps_turned history (link ∷ later) ∙ sym (turned_round link.out (steps_of history) (steps_of later))

-- a chain behind another one
pub joined_chain : (server : Server) (first middle last : ProxyState) (history later : List Link) → IsChain server first history middle → IsChain server middle later last
    → IsChain server first (later ++ history) last
joined_chain server first middle last history [] before behind = subst (λ (s : ProxyState). IsChain server first history s) (sym behind) before
joined_chain server first middle last history (link ∷ later) before behind = (
  behind.0,
  behind.1,
  joined_chain server first middle link.before history later before behind.2,
)

-- the step of a link, under its own configuration
own_step : (server : Server) (link : Link) → IsUnder server.config link → IsStep server link.before link.act link.out link.after
    → IsStep (under server link.config) link.before link.act link.out link.after
own_step server link is step = subst (λ (c : Config). IsStep (under server c) link.before link.act link.out link.after) (sym is) step

-- ---- what comes next in both

-- two moments up to which time passes before the next event are one
one_moment : (left : List Event) (at when : ℕ) → IsUpTo (first_moment left None) (Passing at) → IsUpTo (first_moment left None) (Passing when) → at ≡ when
one_moment [] at when h k = absurd h
one_moment (event ∷ left) at when h k = h ∙ sym k

-- nothing is due by the moment of an event that comes next
none_due : (server : Server) (old : ProxyState) (event : Event) (out : StepOut) (new : ProxyState) → IsStep server old (Given event) out new
    → IsPrompt server old (Given event) out new
    → NoneBy (moment_of old (event_moment event)) old.requests × NoneAgainBy (moment_of old (event_moment event)) old.requests
none_due server old (Datagram at word from bytes) out new h prompt = (h.none_due, h.none_again)
none_due server old (Time at) out new h prompt = (h.none_due, h.none_again_due)
none_due server old (Fault at ticket) out new h prompt = prompt

-- so time doesn't pass before it
no_passing : (server : Server) (left right : ProxyState) → SameState left right → (event : Event) (at : ℕ) (out another : StepOut) (new newer : ProxyState)
    → IsStep server left (Given event) out new
    → IsPrompt server left (Given event) out new → at ≡ event_moment event → IsDeadline server right at another newer ⊎ IsResend server right at another newer → ⊥
no_passing server left right same event at out another new newer step prompt moment happens =
    let none = none_due server left event out new step prompt in
    let begins : left.moment ≡ right.moment = same.moment in
    nothing_happens server right at (moment_of left (event_moment event)) another newer (subst (NoneBy (moment_of left (event_moment event))) same.requests none.0)
    (subst (NoneAgainBy (moment_of left (event_moment event))) same.requests none.1) (omega (arith, begins, moment)) happens

-- ---- what happens first

-- the first of one list is one
one_first : {X : Type 0} {x y : X} {xs ys : List X} → x ∷ xs ≡ y ∷ ys → x ≡ y
one_first e = cc

-- two things that are of the first timer of one queue are of one
first_entry : (server : Server) (queue : List Entry) (old other : ProxyState) (at when : ℕ) (out another : StepOut) (new newer : ProxyState)
    → (h : IsFirstOf server queue old at out new)
    → (k : IsFirstOf server queue other when another newer) → h.entry ≡ k.entry
first_entry server queue old other at when out another new newer h k = one_first (sym h.stands ∙ k.stands)

-- ---- labels

-- the first label of a list
abbrev head_label : List Label → Option Label
head_label [] = None
head_label (x ∷ xs) = Some x

label_first : {x y : Label} → Some x ≡ Some y → x ≡ y
label_first e = cc

-- ---- side by side

-- two runs take the same steps from here on, after which the same timers stand
record Same (queue : List Entry) (one other : List Link) (last end : ProxyState) : Type 0 where
  are : AreOne (steps_of one) (steps_of other) last end
  queues : queue_along queue one ≡ queue_along queue other

module _ (sameness : Sameness)
    (steps_same : (server : Server) (left right : ProxyState) (act : Act) (out : StepOut) (new : ProxyState) → SameState left right → left.moment ≤ out.at
    → IsStep server left act out new → IsStep server right act out new)
    (histories : Histories)
    (stands : (server : Server) (old new : ProxyState) (act : Act) (out : StepOut) → IsStep server old act out new → new.moment ≡ out.at)
    (rises : (server : Server) (first : ℕ) (link : Link) (history : List Link) (last : ProxyState) → IsChain server (first_state first) (link ∷ history) last
    → link.before.moment ≤ last.moment)
    (server : Server) (first : ℕ) (past : List Link) (start : ProxyState) (reached : IsChain server (first_state first) past start) where
  -- one more step, which was the same
  with_one : (queue : List Entry) (link twin : Link) (one other : List Link) (last end : ProxyState) → link.out ≡ twin.out → SameState link.after twin.after
      → Same (queue_then queue link) one other last end
      → Same queue (link ∷ one) (twin ∷ other) last end
  with_one queue link twin one other last end out states same = record {
    are = record { steps_are = ap₂ (λ (x : StepOut) (xs : List StepOut). x ∷ xs) out same.are.steps_are; state = same.are.state };
    queues = same.queues ∙ ap (λ (rs : List OpenRequest). queue_along (queue_after queue (entries_of rs)) other) states.requests;
  }

  -- a step on the way
  walked_on : (queue : List Entry) (walked : List Link) (state : ProxyState) (link : Link) (left : List Event) → IsChain server start walked state
      → ComesNext server queue state link left → IsChain server start (link ∷ walked) link.after
  walked_on queue walked state link left chain next = (
    refl,
    own_step server link next.configured next.step,
    subst (λ (s : ProxyState). IsChain server start walked s) (sym next.begins) chain,
  )

  -- from a first state on
  from_first : (walked : List Link) (state : ProxyState) → IsChain server start walked state → IsChain server (first_state first) (walked ++ past) state
  from_first walked state chain = joined_chain server (first_state first) start state past walked reached chain

  -- two steps with one label are one
  one_label : (config : Config) (left right : ProxyState) (act its : Act) (out another : StepOut) (new newer : ProxyState) (walked : List Link)
      → IsChain server start walked left → SameState left right
      → IsStep (under server config) left act out new → IsStep (under server config) right its another newer
      → (prompt : IsPrompt (under server config) left act out new) (prompted : IsPrompt (under server config) right its another newer)
      → label_of (under server config) left act out new prompt ≡ label_of (under server config) right its another newer prompted → (out ≡ another) × SameState new newer
  one_label config left right (Given event) (Given its) out another new newer walked chain same mine theirs prompt prompted e =
      let events : event ≡ its = cc in
      one_given sameness steps_same (under server config) left right same event out another new newer
      (step_one_way histories (under server config) first (walked ++ past) left (chain_under server config (first_state first) (walked ++ past) left
      (from_first walked left chain)) (Given event) out new mine)
      mine (subst (λ (x : Event). IsStep (under server config) right (Given x) another newer) (sym events) theirs)
  one_label config left right (Given event) (Passing when) out another new newer walked chain same mine theirs prompt prompted e = absurd (cc)
  one_label config left right (Passing at) (Given its) out another new newer walked chain same mine theirs prompt prompted e = absurd (cc)
  one_label config left right (Passing at) (Passing when) out another new newer walked chain same mine theirs prompt prompted e =
      let at_once : out.at ≡ another.at = at_one_moment (under server config) left right at when out another new newer same.requests prompt prompted in
      let risen = rises server first (record { config = config; before = left; act = Passing at; out = out; after = new }) (walked ++ past) new
      (refl, mine, from_first walked left chain) in
      let stood = stands (under server config) left new (Passing at) out mine in
      let moment = same.moment in
      let moved = happens_alike sameness (under server config) right left (sameness.turned left right same) when another newer
      (omega (arith, at_once, risen, stood, moment)) prompted in
      let dues : due_of prompt ≡ due_of prompted = cc in
      one_due sameness (under server config) left at when out another new newer at_once prompt moved.0 (dues ∙ sym moved.1)

  -- also where the configuration of the other one is said in other words
  abbrev OneLabel : Config → (config : Config) (left right : ProxyState) (act its : Act) (out another : StepOut) (new newer : ProxyState)
      → IsPrompt (under server config) left act out new → Type 0
  OneLabel other config left right act its out another new newer prompt =
      IsStep (under server other) right its another newer → (prompted : IsPrompt (under server other) right its another newer)
      → label_of (under server config) left act out new prompt ≡ label_of (under server other) right its another newer prompted → (out ≡ another) × SameState new newer

  one_label_too : (config other : Config) (left right : ProxyState) (act its : Act) (out another : StepOut) (new newer : ProxyState) (walked : List Link)
      → IsChain server start walked left → SameState left right
      → config ≡ other → IsStep (under server config) left act out new → (prompt : IsPrompt (under server config) left act out new)
      → OneLabel other config left right act its out another new newer prompt
  one_label_too config other left right act its out another new newer walked chain same is mine prompt =
      subst (λ (c : Config). OneLabel c config left right act its out another new newer prompt) is
      (λ theirs prompted e. one_label config left right act its out another new newer walked chain same mine theirs prompt prompted e)

  -- the steps that come next in both, and what is left of both behind them if they are the same
  module _ (queue : List Entry) (walked : List Link) (link twin : Link) (one other : List Link) (last end : ProxyState) (here : IsChain server start walked link.before)
      (begin : SameState link.before twin.before)
      (step : IsStep server link.before link.act link.out link.after) (is_under : IsUnder server.config link)
      (further : SameState link.after twin.after → events_of one ≡ events_of other → Same (queue_then queue link) one other last end) where
    -- both are the same
    go_on : events_of one ≡ events_of other → (link.out ≡ twin.out) × SameState link.after twin.after → Same queue (link ∷ one) (twin ∷ other) last end
    go_on rest same = with_one queue link twin one other last end same.0 same.1 (further same.1 rest)

    -- the first isn't before the moment of its state
    later : link.before.moment ≤ link.out.at
    later =
        let risen = rises server first link (walked ++ past) link.after (refl, own_step server link is_under step, from_first walked link.before here) in
        let at = stands server link.before link.after link.act link.out step in
        omega (arith, risen, at)

    -- what is due first happens in both
    by_due : (at : ℕ) → IsFirstOf server queue link.before at link.out link.after → IsFirstOf server queue twin.before at twin.out twin.after
        → (link.out ≡ twin.out) × SameState link.after twin.after
    by_due at d its = one_due sameness server link.before at at link.out twin.out link.after twin.after at_once d.happens moved.0 (dues ∙ sym moved.1) where
      entries : d.entry ≡ its.entry
      entries = first_entry server queue link.before twin.before at at link.out twin.out link.after twin.after d its

      at_once : link.out.at ≡ twin.out.at
      at_once = d.at_due ∙ ap (λ (e : Entry). e.due) entries ∙ sym its.at_due

      moved : (x : IsDeadline server link.before at twin.out twin.after ⊎ IsResend server link.before at twin.out twin.after) × (due_of x ≡ due_of its.happens)
          × ((entry : Entry) → IsOfEntry entry its.happens → IsOfEntry entry x)
      moved =
          happens_alike sameness server twin.before link.before (sameness.turned link.before twin.before begin) at twin.out twin.after
          (let moment = begin.moment in omega (arith, later, at_once, moment)) its.happens

      dues : due_of d.happens ≡ due_of its.happens
      dues =
          one_happens server link.before (histories.rising server first (walked ++ past) link.before (from_first walked link.before here))
          (histories.branched server first (walked ++ past) link.before (from_first walked link.before here))
          its.entry at at link.out twin.out link.after twin.after at_once d.happens moved.0 (subst (λ (e : Entry). IsOfEntry e d.happens) entries d.is_its)
          (moved.2 its.entry its.is_its)
          ∙ moved.1

    -- whatever comes next
    by_acts : (act its : Act) → event_of act (events_of one) ≡ event_of its (events_of other) → IsStep server link.before act link.out link.after
        → IsStep server twin.before its twin.out twin.after
        → IsOrderly server queue link.before act link.out link.after → IsOrderly server queue twin.before its twin.out twin.after
        → IsUpTo (first_moment (events_of one) None) act → IsUpTo (first_moment (events_of other) None) its
        → Same queue (link ∷ one) (twin ∷ other) last end
    by_acts (Given event) (Given its) e mine theirs orderly ordered up upon =
        let events : event ≡ its = cc in
        let rest : events_of one ≡ events_of other = cc in
        go_on rest
        (one_given sameness steps_same server link.before twin.before begin event link.out twin.out link.after twin.after
        (step_one_way histories server first (walked ++ past) link.before (from_first walked link.before here) (Given event) link.out link.after mine)
        mine (subst (λ (x : Event). IsStep server twin.before (Given x) twin.out twin.after) (sym events) theirs))
    by_acts (Given event) (Passing when) e mine theirs orderly ordered up upon =
        absurd (no_passing server link.before twin.before begin event when link.out twin.out link.after twin.after mine orderly
        (subst (λ (es : List Event). IsUpTo (first_moment es None) (Passing when)) (sym e) upon) ordered.happens)
    by_acts (Passing at) (Given its) e mine theirs orderly ordered up upon =
        absurd (no_passing server twin.before link.before (sameness.turned link.before twin.before begin) its at twin.out link.out twin.after link.after theirs ordered
        (subst (λ (es : List Event). IsUpTo (first_moment es None) (Passing at)) e up) orderly.happens)
    by_acts (Passing at) (Passing when) e mine theirs orderly ordered up upon =
        let moments : at ≡ when = one_moment (events_of one) at when up (subst (λ (es : List Event). IsUpTo (first_moment es None) (Passing when)) (sym e) upon) in
        go_on e (by_due at orderly (subst (λ (m : ℕ). IsFirstOf server queue twin.before m twin.out twin.after) (sym moments) ordered))

  -- one run is over, and the other goes on with a step: no
  goes_no_further : (act : Act) (left : List Event) → [] ≡ event_of act left → IsUpTo (first_moment left None) act → ⊥
  goes_no_further (Given event) left e up = cc
  goes_no_further (Passing at) left e up = subst (λ (es : List Event). IsUpTo (first_moment es None) (Passing at)) (sym e) up

  -- both, step by step
  side_by_side : (queue : List Entry) (one other walked : List Link) (left right last end : ProxyState) → IsChain server start walked left → SameState left right
      → Follows server queue left one last
      → Follows server queue right other end → events_of one ≡ events_of other → Same queue one other last end
  side_by_side queue [] [] walked left right last end chain same h k e = record {
    are = record { steps_are = refl; state = subst (λ (s : ProxyState). SameState s end) (sym h) (subst (λ (s : ProxyState). SameState left s) (sym k) same) };
    queues = refl;
  }
  side_by_side queue [] (twin ∷ other) walked left right last end chain same h k e = absurd (goes_no_further twin.act (events_of other) e k.0.paced)
  side_by_side queue (link ∷ one) [] walked left right last end chain same h k e = absurd (goes_no_further link.act (events_of one) (sym e) h.0.paced)
  side_by_side queue (link ∷ one) (twin ∷ other) walked left right last end chain same h k e =
      by_acts queue walked link twin one other last end
      (subst (λ (s : ProxyState). IsChain server start walked s) (sym h.0.begins) chain)
      (subst (λ (s : ProxyState). SameState s twin.before) (sym h.0.begins) (subst (λ (s : ProxyState). SameState left s) (sym k.0.begins) same))
      h.0.step h.0.configured
      (λ states rest. side_by_side (queue_then queue link) one other (link ∷ walked) link.after twin.after last end
      (walked_on queue walked left link (events_of one) chain h.0) states h.1
      (subst (λ (rs : List OpenRequest). Follows server (queue_after queue (entries_of rs)) twin.after other end) (sym states.requests) k.1) rest)
      link.act twin.act e h.0.step k.0.step h.0.orderly k.0.orderly h.0.paced k.0.paced

  -- ---- where both let the same happen

  -- two histories with the same labels took the same steps
  pub labels_decide : (history its : List Link) (other_start last end : ProxyState) → SameState start other_start → IsChain server start history last
      → IsChain server other_start its end → (prompt : ArePrompt server history)
      → (other_prompt : ArePrompt server its) → configurations_of history ≡ configurations_of its → labels_of server history prompt ≡ labels_of server its other_prompt
      → AreOne (steps_of history) (steps_of its) last end
  labels_decide [] [] other_start last end same chain other_chain prompt other_prompt configs e =
      record { steps_are = refl; state = subst (λ (s : ProxyState). SameState s end) (sym chain) (subst (λ (s : ProxyState). SameState start s) (sym other_chain) same) }
  labels_decide [] (twin ∷ its) other_start last end same chain other_chain prompt other_prompt configs e = absurd (cc)
  labels_decide (link ∷ history) [] other_start last end same chain other_chain prompt other_prompt configs e = absurd (cc)
  labels_decide (link ∷ history) (twin ∷ its) other_start last end same chain other_chain prompt other_prompt configs e =
      let before : AreOne (steps_of history) (steps_of its) link.before twin.before =
      labels_decide history its other_start link.before twin.before same chain.2 other_chain.2 prompt.1 other_prompt.1 (ap (drop 1) configs) (ap (drop 1) e) in
      let is : link.config ≡ twin.config = cc in
      let step = one_label_too link.config twin.config link.before twin.before link.act twin.act link.out twin.out link.after twin.after history chain.2 before.state is
      chain.1 prompt.0 other_chain.1 other_prompt.0 (label_first (ap head_label e)) in
      record {
        steps_are = ap₂ (λ (x : StepOut) (xs : List StepOut). x ∷ xs) step.0 before.steps_are;
        state = subst (λ (s : ProxyState). SameState s end) (sym chain.0) (subst (λ (s : ProxyState). SameState link.after s) (sym other_chain.0) step.1);
      }

  -- two whole runs took the same steps, after which the same timers stand
  pub runs_one : (queue : List Entry) (other_start last end : ProxyState) (events : List Event) (steps others : List StepOut) (history its : List Link)
      → SameState start other_start
      → IsRun server start events None steps history last → IsRun server other_start events None others its end → AreOrderly server queue history
      → AreOrderly server queue its
      → AreOne steps others last end × (queue_from queue history ≡ queue_from queue its)
  runs_one queue other_start last end events steps others history its same run other_run orderly ordered = (
    record { steps_are = sym (taken history steps run.of_steps) ∙ both.are.steps_are ∙ taken its others other_run.of_steps; state = both.are.state },
    sym (queue_turned queue history []) ∙ both.queues ∙ queue_turned queue its [],
  ) where
    told : (h : List Link) → reverse (events_of h) ≡ events → events_of (onto h []) ≡ events
    told h is = events_turned h [] ∙ append-nil (reverse (events_of h)) ∙ is

    taken : (h : List Link) (outs : List StepOut) → reverse (steps_of h) ≡ outs → steps_of (onto h []) ≡ outs
    taken h outs is = steps_turned h [] ∙ append-nil (reverse (steps_of h)) ∙ is

    both : Same queue (onto history []) (onto its []) last end
    both =
        side_by_side queue (onto history []) (onto its []) [] start other_start last end refl same
        (turned server queue start last last history [] run.chain run.configured orderly run.paced refl)
        (turned server queue other_start end end its [] other_run.chain other_run.configured ordered other_run.paced refl)
        (told history run.of_events ∙ sym (told its other_run.of_events))
