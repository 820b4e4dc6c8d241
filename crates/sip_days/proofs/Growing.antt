-- One more step of a day.
use Rattle.std.proofs.Common.{◌≡◌, Bool, true, false, List, [], ◌∷◌, ◌++◌, Option, None, Some, refl, sym, ◌∙◌, ap, append_assoc, append-nil, ℕ}
use Rattle.std.specs.Prelude.{map}
use Rattle.sip_dialog.specs.declared.dialog.DialogId.{DialogId}
use Rattle.sip_audit.specs.declared.record.Record.{Record}
use Rattle.sip_model.specs.Run.{Link}
use Rattle.sip_listener.specs.Heard.{Heard, Tells, event_in, heard_at, heard_of}
use Rattle.sip_days.specs.declared.call.Answer.{Answer}
use Rattle.sip_days.specs.declared.call.Ending.{Ending}
use Rattle.sip_days.specs.declared.call.Call.{Call}
use Rattle.sip_days.specs.Calls.{answer_among, answer_at, behind_answer, behind_if, bye_in, call_id_in, call_of, calls_of, ending_among, ending_at}
use Rattle.sip_days.specs.Calls.{ending_of, ending_with, first_of, invites_in, is_taken, source_in}
use Rattle.sip_days.specs.Hearing.{adds_calls, begun_by, calls_with, ended_with, hears_with}
use Rattle.sip_days.proofs.Deciding.{map_joined}

-- ---- the first of a kind

first_alone : {X : Type 0} (x : Option X) → first_of x None ≡ x
first_alone None = refl
first_alone (Some x) = refl

first_further : {X : Type 0} (a b c : Option X) → first_of a (first_of b c) ≡ first_of (first_of a b) c
first_further None b c = refl
first_further (Some x) b c = refl

answer_more : (number : ℕ) (steps : List Heard) (step : Heard)
    → answer_among number (steps ++ step ∷ []) ≡ first_of (answer_among number steps) (answer_at number step.out)
answer_more number [] step = first_alone (answer_at number step.out)
answer_more number (x ∷ steps) step =
    ap (λ (o : Option Answer). first_of (answer_at number x.out) o) (answer_more number steps step)
    ∙ first_further (answer_at number x.out) (answer_among number steps) (answer_at number step.out)

ending_more : (id : DialogId) (steps : List Heard) (step : Heard) → ending_among id (steps ++ step ∷ []) ≡ first_of (ending_among id steps) (ending_at id step)
ending_more id [] step = first_alone (ending_at id step)
ending_more id (x ∷ steps) step =
    ap (λ (o : Option Ending). first_of (ending_at id x) o) (ending_more id steps step) ∙ first_further (ending_at id x) (ending_among id steps) (ending_at id step)

-- ---- behind the answer

behind_alone : (answer : Option Answer) → behind_if answer [] [] ≡ []
behind_alone None = refl
behind_alone (Some answer) = refl

behind_none : (own rest : Option Answer) (steps others : List Heard) → first_of own rest ≡ None → (rest ≡ None → others ≡ []) → behind_if own steps others ≡ []
behind_none None rest steps others none h = h none
behind_none (Some answer) rest steps others none h = absurd cc

-- no step answers: nothing stands behind an answer that comes last
behind_last : (number : ℕ) (steps : List Heard) (step : Heard) → answer_among number steps ≡ None → behind_answer number (steps ++ step ∷ []) ≡ []
behind_last number [] step none = behind_alone (answer_at number step.out)
behind_last number (x ∷ steps) step none =
    behind_none (answer_at number x.out) (answer_among number steps) (steps ++ step ∷ []) (behind_answer number (steps ++ step ∷ [])) none
    (λ e. behind_last number steps step e)

behind_some : (own rest : Option Answer) (answer : Answer) (steps others more : List Heard) (step : Heard) → first_of own rest ≡ Some answer
    → (rest ≡ Some answer → others ≡ more ++ step ∷ []) → behind_if own (steps ++ step ∷ []) others ≡ behind_if own steps more ++ step ∷ []
behind_some None rest answer steps others more step is h = h is
behind_some (Some own) rest answer steps others more step is h = refl

behind_more : (number : ℕ) (steps : List Heard) (step : Heard) (answer : Answer) → answer_among number steps ≡ Some answer
    → behind_answer number (steps ++ step ∷ []) ≡ behind_answer number steps ++ step ∷ []
behind_more number [] step answer is = absurd cc
behind_more number (x ∷ steps) step answer is =
    behind_some (answer_at number x.out) (answer_among number steps) answer steps (behind_answer number (steps ++ step ∷ []))
    (behind_answer number steps) step is (λ e. behind_more number steps step answer e)

-- ---- the end

ending_nothing : (taken : Bool) (dialog : Option DialogId) → ending_with taken dialog [] ≡ None
ending_nothing true None = refl
ending_nothing true (Some id) = refl
ending_nothing false dialog = refl

none_ends : (answer : Option Answer) → ending_of answer [] ≡ None
none_ends None = refl
none_ends (Some answer) = ending_nothing (is_taken answer.status) answer.dialog

first_ended : (id : DialogId) (ending : Option Ending) (step : Heard)
    → first_of ending (ending_at id step) ≡ ended_with true (Some id) step.out.at (bye_in step) ending
first_ended id None step = refl
first_ended id (Some ending) step = refl

end_more : (taken : Bool) (dialog : Option DialogId) (later : List Heard) (step : Heard)
    → ending_with taken dialog (later ++ step ∷ []) ≡ ended_with taken dialog step.out.at (bye_in step) (ending_with taken dialog later)
end_more true None later step = refl
end_more true (Some id) later step = ending_more id later step ∙ first_ended id (ending_among id later) step
end_more false dialog later step = refl

-- ---- a call, and one more step

-- the call that begins with a step, with an answer and an end
abbrev call_from : Heard → Record → Option Answer → Option Ending → Call
call_from x r answer ending = record {
  decision = r;
  source = source_in x.event;
  call_id = call_id_in x.event;
  offset = x.config.offset;
  answer = answer;
  ending = ending;
}

made : (x : Heard) (r : Record) (answer other : Option Answer) (ending then_ending : Option Ending) → answer ≡ other → ending ≡ then_ending
    → call_from x r answer ending ≡ call_from x r other then_ending
made x r answer other ending then_ending same same_end =
    ap (λ (o : Option Answer). call_from x r o ending) same ∙ ap (λ (e : Option Ending). call_from x r other e) same_end

-- what a step makes of a call
abbrev one_more : Heard → Call → Call
one_more step call = hears_with (bye_in step) step.out call

call_more_by : (x step : Heard) (day : List Heard) (r : Record) (answer : Option Answer) → answer_among r.number (x ∷ day) ≡ answer
    → call_of x (day ++ step ∷ []) r ≡ one_more step (call_from x r answer (ending_of answer (behind_answer r.number (x ∷ day))))
call_more_by x step day r None is =
    let among : answer_among r.number ((x ∷ day) ++ step ∷ []) ≡ answer_at r.number step.out =
    answer_more r.number (x ∷ day) step ∙ ap (λ (o : Option Answer). first_of o (answer_at r.number step.out)) is in
    let end : ending_of (answer_among r.number ((x ∷ day) ++ step ∷ [])) (behind_answer r.number ((x ∷ day) ++ step ∷ [])) ≡ None =
    ap (λ (l : List Heard). ending_of (answer_among r.number ((x ∷ day) ++ step ∷ [])) l) (behind_last r.number (x ∷ day) step is)
    ∙ none_ends (answer_among r.number ((x ∷ day) ++ step ∷ [])) in
    made x r (answer_among r.number ((x ∷ day) ++ step ∷ [])) (answer_at r.number step.out)
    (ending_of (answer_among r.number ((x ∷ day) ++ step ∷ [])) (behind_answer r.number ((x ∷ day) ++ step ∷ []))) None among end
call_more_by x step day r (Some answer) is =
    let among : answer_among r.number ((x ∷ day) ++ step ∷ []) ≡ Some answer =
    answer_more r.number (x ∷ day) step ∙ ap (λ (o : Option Answer). first_of o (answer_at r.number step.out)) is in
    let end : ending_of (answer_among r.number ((x ∷ day) ++ step ∷ [])) (behind_answer r.number ((x ∷ day) ++ step ∷ []))
    ≡ ended_with (is_taken answer.status) answer.dialog step.out.at (bye_in step) (ending_of (Some answer) (behind_answer r.number (x ∷ day))) =
    ap (λ (o : Option Answer). ending_of o (behind_answer r.number ((x ∷ day) ++ step ∷ []))) among
    ∙ ap (λ (l : List Heard). ending_of (Some answer) l) (behind_more r.number (x ∷ day) step answer is)
    ∙ end_more (is_taken answer.status) answer.dialog (behind_answer r.number (x ∷ day)) step in
    made x r (answer_among r.number ((x ∷ day) ++ step ∷ [])) (Some answer)
    (ending_of (answer_among r.number ((x ∷ day) ++ step ∷ [])) (behind_answer r.number ((x ∷ day) ++ step ∷ [])))
    (ended_with (is_taken answer.status) answer.dialog step.out.at (bye_in step) (ending_of (Some answer) (behind_answer r.number (x ∷ day)))) among end

call_more : (x step : Heard) (day : List Heard) (r : Record) → call_of x (day ++ step ∷ []) r ≡ one_more step (call_of x day r)
call_more x step day r = call_more_by x step day r (answer_among r.number (x ∷ day)) refl

own_calls : (x step : Heard) (day : List Heard) (records : List Record)
    → map (call_of x (day ++ step ∷ [])) records ≡ map (one_more step) (map (call_of x day) records)
own_calls x step day [] = refl
own_calls x step day (r ∷ records) =
    ap (λ (c : Call). c ∷ map (call_of x (day ++ step ∷ [])) records) (call_more x step day r)
    ∙ ap (λ (l : List Call). one_more step (call_of x day r) ∷ l) (own_calls x step day records)

-- ---- a call that begins with the last step

begun_one : (step : Heard) (r : Record) → call_of step [] r ≡ begun_by step.config.offset step.event step.out r
begun_one step r =
    made step r (answer_among r.number (step ∷ [])) (answer_at r.number step.out)
    (ending_of (answer_among r.number (step ∷ [])) (behind_answer r.number (step ∷ []))) None (first_alone (answer_at r.number step.out))
    (ap (λ (l : List Heard). ending_of (answer_among r.number (step ∷ [])) l) (behind_alone (answer_at r.number step.out))
    ∙ none_ends (answer_among r.number (step ∷ [])))

begun_all : (step : Heard) (records : List Record) → map (call_of step []) records ≡ map (begun_by step.config.offset step.event step.out) records
begun_all step [] = refl
begun_all step (r ∷ records) =
    ap (λ (c : Call). c ∷ map (call_of step []) records) (begun_one step r)
    ∙ ap (λ (l : List Call). begun_by step.config.offset step.event step.out r ∷ l) (begun_all step records)

-- ---- a day, and one more step

pub calls_more : (day : List Heard) (step : Heard) → calls_of (day ++ step ∷ []) ≡ calls_with step.config.offset step.event step.out (calls_of day)
calls_more [] step = append-nil (map (call_of step []) (invites_in step)) ∙ begun_all step (invites_in step)
calls_more (x ∷ day) step =
    ap (λ (l : List Call). map (call_of x (day ++ step ∷ [])) (invites_in x) ++ l) (calls_more day step)
    ∙ ap (λ (l : List Call). l ++ calls_with step.config.offset step.event step.out (calls_of day)) (own_calls x step day (invites_in x))
    ∙ sym (append_assoc (map (one_more step) (map (call_of x day) (invites_in x))) (map (one_more step) (calls_of day))
    (map (begun_by step.config.offset step.event step.out) (invites_in step)))
    ∙ ap (λ (l : List Call). l ++ map (begun_by step.config.offset step.event step.out) (invites_in step))
    (sym (map_joined (one_more step) (map (call_of x day) (invites_in x)) (calls_of day)))

pub calls_told : (calls : List Call) (history : List Link) → Tells adds_calls [] calls history → calls ≡ calls_of (heard_of history)
calls_told calls [] h = h
calls_told calls (link ∷ history) h =
    h.last
    ∙ ap (λ (l : List Call). calls_with link.config.offset (event_in link.act) link.out l) (calls_told h.half history h.earlier)
    ∙ sym (calls_more (heard_of history) (heard_at link))
