-- What a listener was told of records, one behind the other.
use Rattle.std.proofs.Common.{◌≡◌, ◌⊎◌, inl, inr, ℕ, suc, ◌+◌, Bool, true, false, Result, Ok, Err, List, [], ◌∷◌, ◌++◌, Option, None, Some, add-one, refl, sym, ◌∙◌, ap, subst, append-nil}
use Rattle.std.specs.Prelude.{if◌then◌else◌, OnErr, OnOk}
use Rattle.std.specs.Borrow.{Bor}
use Rattle.sip_model.specs.Run.{Link}
use Rattle.sip_journal.specs.declared.record_head.RecordHead.{RecordHead}
use Rattle.sip_listener.specs.Heard.{Heard, Tells, adds, heard_at, heard_of}
use Rattle.sipd_exit.specs.declared.files.Stated.{Stated}
use Rattle.sipd_telling.specs.Onward.{HearsAll, HearsIfNew, HearsOnward, RefusesOnward, is_known, new_steps, point_of, reached_behind, reached_with, start_of, step_if_new}
use Rattle.sipd_telling.specs.Records.{SaysHistory, SaysMore, SaysSteps, TellsNext, TellsRecord, TellsRecords}
use Rattle.sipd_telling.specs.declared.onward.DayPoint.{DayPoint}

-- ---- one step more

reached_more : (point : DayPoint) (steps : List Heard) (step : Heard) → reached_behind point (steps ++ step ∷ []) ≡ reached_with (reached_behind point steps) step
reached_more point [] step = refl
reached_more point (x ∷ steps) step = reached_more (reached_with point x) steps step

in_front : (is : Bool) (x : Heard) (all some more : List Heard) → all ≡ some ++ more → step_if_new is x all ≡ step_if_new is x some ++ more
in_front true x all some more h = h
in_front false x all some more h = ap (λ (l : List Heard). x ∷ l) h

new_more : (known : Option DayPoint) (point : DayPoint) (steps : List Heard) (step : Heard) → new_steps known point (steps ++ step ∷ [])
    ≡ new_steps known point steps ++ step_if_new (is_known known (reached_with (reached_behind point steps) step)) step []
new_more known point [] step = refl
new_more known point (x ∷ steps) step =
    in_front (is_known known (reached_with point x)) x (new_steps known (reached_with point x) (steps ++ step ∷ []))
    (new_steps known (reached_with point x) steps)
    (step_if_new (is_known known (reached_with (reached_behind (reached_with point x) steps) step)) step [])
    (new_more known (reached_with point x) steps step)

-- where nothing is known all steps are new
pub all_new : (point : DayPoint) (steps : List Heard) → new_steps None point steps ≡ steps
all_new point [] = refl
all_new point (x ∷ steps) = ap (λ (l : List Heard). x ∷ l) (all_new (reached_with point x) steps)

-- ---- what is heard

heard_more : {L : Type 0} (hears : L → Heard → L → Type 0) (old half new : L) (steps : List Heard) (step : Heard) → HearsAll hears old half steps
    → hears half step new → HearsAll hears old new (steps ++ step ∷ [])
heard_more {L} hears old half new [] step h last = record { half = new; first = subst (λ (x : L). hears x step new) h last; others = refl }
heard_more {L} hears old half new (x ∷ steps) step h last =
    record { half = h.half; first = h.first; others = heard_more hears h.half half new steps step h.others last }

heard_if_new : {L : Type 0} (hears : L → Heard → L → Type 0) (old half new : L) (steps : List Heard) (step : Heard) (is : Bool)
    → HearsAll hears old half steps → HearsIfNew hears is half step new → HearsAll hears old new (steps ++ step_if_new is step [])
heard_if_new {L} hears old half new steps step true h last =
    subst (λ (l : List Heard). HearsAll hears old new l) (sym (append-nil steps)) (subst (λ (x : L). HearsAll hears old x steps) (sym last) h)
heard_if_new {L} hears old half new steps step false h last = heard_more hears old half new steps step h last

pub heard_both : {L : Type 0} (hears : L → Heard → L → Type 0) (old half new : L) (steps others : List Heard) → HearsAll hears old half steps
    → HearsAll hears half new others → HearsAll hears old new (steps ++ others)
heard_both {L} hears old half new [] others h k = subst (λ (x : L). HearsAll hears x new others) h k
heard_both {L} hears old half new (x ∷ steps) others h k =
    record { half = h.half; first = h.first; others = heard_both hears h.half half new steps others h.others k }

-- ---- one step, told to a listener that is led on

module _ {L : Type 0} (known reached : Option DayPoint) (old : L) (step : Heard) (point : DayPoint) (is : Bool) where
  known_as : (will : Bool) → point ≡ reached_with (point_of reached) step → is ≡ is_known known point → is ≡ will
      → is_known known (reached_with (point_of reached) step) ≡ will
  known_as will at by so = ap (λ (p : DayPoint). is_known known p) (sym at) ∙ sym by ∙ so

  -- a known one isn't heard
  pub hears_known : (hears : L → Heard → L → Type 0) → point ≡ reached_with (point_of reached) step → is ≡ is_known known point → is ≡ true
      → HearsOnward hears known known reached (Some point) old step old
  hears_known hears at by so = record {
    same = refl;
    reaches = ap (λ (p : DayPoint). Some p) at;
    heard = subst (λ (b : Bool). HearsIfNew hears b old step old) (sym (known_as true at by so)) refl;
  }

  -- any other one is
  pub hears_new : {U E : Type 0} (hears : L → Heard → L → Type 0) (result : Result U E) (new : L) → point ≡ reached_with (point_of reached) step
      → is ≡ is_known known point → is ≡ false → OnOk result (hears old step new)
      → OnOk result (HearsOnward hears known known reached (Some point) old step new)
  hears_new hears (Ok x) new at by so h = record {
    same = refl;
    reaches = ap (λ (p : DayPoint). Some p) at;
    heard = subst (λ (b : Bool). HearsIfNew hears b old step new) (sym (known_as false at by so)) h;
  }
  hears_new hears (Err e) new at by so h = tt

  -- or refused
  pub refuses_new : {U E : Type 0} (refuses : L → Heard → L → Type 0) (result : Result U E) (new : L) → point ≡ reached_with (point_of reached) step
      → is ≡ is_known known point → is ≡ false → OnErr result (refuses old step new)
      → OnErr result (RefusesOnward refuses known known reached (Some point) old step new)
  refuses_new refuses (Ok x) new at by so h = tt
  refuses_new refuses (Err e) new at by so h =
      record { same = refl; reaches = ap (λ (p : DayPoint). Some p) at; unknown = known_as false at by so; refused = h }

-- ---- a listener that is led on

abbrev pub hears_on : {O L : Type 0} → (L → Heard → L → Type 0) → (O → L) → (O → Option DayPoint) → (O → Option DayPoint) → O → Heard → O → Type 0
hears_on hears listener known reached old step new =
    HearsOnward hears (known old) (known new) (reached old) (reached new) (listener old) step (listener new)

pub record IsLed {O L : Type 0} (hears : L → Heard → L → Type 0) (listener : O → L) (known reached : O → Option DayPoint) (old new : O) (point : DayPoint)
    (steps : List Heard) : Type 0 where
  pub same : known new ≡ known old
  pub reaches : reached new ≡ Some (reached_behind point steps)
  pub heard : HearsAll hears (listener old) (listener new) (new_steps (known old) point steps)

module _ {O L : Type 0} (hears : L → Heard → L → Type 0) (listener : O → L) (known reached : O → Option DayPoint) where
  led_nowhere : (old new : O) (point : DayPoint) → reached old ≡ Some point → new ≡ old → IsLed hears listener known reached old new point []
  led_nowhere old new point is h = record { same = ap known h; reaches = ap reached h ∙ is; heard = ap listener h }

  led_more : (old half new : O) (point : DayPoint) (steps : List Heard) (step : Heard) → IsLed hears listener known reached old half point steps
      → hears_on hears listener known reached half step new → IsLed hears listener known reached old new point (steps ++ step ∷ [])
  led_more old half new point steps step h last =
      let there : reached_with (point_of (reached half)) step ≡ reached_with (reached_behind point steps) step =
      ap (λ (p : Option DayPoint). reached_with (point_of p) step) h.reaches in
      let is : is_known (known half) (reached_with (point_of (reached half)) step) ≡ is_known (known old) (reached_with (reached_behind point steps) step) =
      ap (λ (k : Option DayPoint). is_known k (reached_with (point_of (reached half)) step)) h.same ∙ ap (λ (p : DayPoint). is_known (known old) p) there in
      record {
        same = last.same ∙ h.same;
        reaches = last.reaches ∙ ap (λ (p : DayPoint). Some p) (there ∙ sym (reached_more point steps step));
        heard =
            subst (λ (l : List Heard). HearsAll hears (listener old) (listener new) l) (sym (new_more (known old) point steps step))
            (heard_if_new hears (listener old) (listener half) (listener new) (new_steps (known old) point steps) step
            (is_known (known old) (reached_with (reached_behind point steps) step)) h.heard
            (subst (λ (b : Bool). HearsIfNew hears b (listener half) step (listener new)) is last.heard));
      }

  led : (old new : O) (point : DayPoint) (history : List Link) → reached old ≡ Some point → Tells (hears_on hears listener known reached) old new history
      → IsLed hears listener known reached old new point (heard_of history)
  led old new point [] is h = led_nowhere old new point is h
  led old new point (link ∷ history) is h =
      led_more old h.half new point (heard_of history) (heard_at link) (led old h.half point history is h.earlier) h.last

-- ---- a record

all_kept : (history : List Link) → Tells adds [] (heard_of history) history
all_kept [] = refl
all_kept (link ∷ history) = record { half = heard_of history; earlier = all_kept history; last = refl }

-- the steps that it says, whoever is told them
kept_record : {O : Type 0} (hears : O → Heard → O → Type 0) (head : RecordHead) (named : Option (Bor Stated)) (behind : Option (List ℕ)) (old new : O)
    → (h : TellsRecord hears head named behind old new) → SaysSteps head (heard_of h.told.retold.takes.history)
kept_record hears head named behind old new h = record {
  named = named;
  behind = behind;
  tells = record {
    config = h.config;
    lines = h.lines;
    rest = h.rest;
    begins = h.begins;
    server_then = h.server_then;
    standing = h.standing;
    told = record {
      lines_then = h.told.lines_then;
      is_over = h.told.is_over;
      retold = record {
        rest = h.told.retold.rest;
        takes = record {
          items = h.told.retold.takes.items;
          text = h.told.retold.takes.text;
          history = h.told.retold.takes.history;
          says = h.told.retold.takes.says;
          consumes = h.told.retold.takes.consumes;
          counted = h.told.retold.takes.counted;
          in_time = h.told.retold.takes.in_time;
          goes = h.told.retold.takes.goes;
          told = all_kept h.told.retold.takes.history;
        };
        ends = h.told.retold.ends;
      };
    };
    access = h.access;
  };
}

follows_by : (follows : Bool) (known before : Option DayPoint) → known ≡ (if follows then before else None) → (known ≡ None) ⊎ (known ≡ before)
follows_by true known before h = inr h
follows_by false known before h = inl h

-- one record more, for which the listener was turned
pub next_told : {O L : Type 0} (old turned new : O) (hears : L → Heard → L → Type 0) (listener : O → L) (known reached : O → Option DayPoint) (follows : Bool)
    (head : RecordHead) (named : Option (Bor Stated)) (behind : Option (List ℕ)) → listener turned ≡ listener old → reached turned ≡ Some (start_of head.first)
    → known turned ≡ (if follows then reached old else None)
    → TellsRecord (hears_on hears listener known reached) head named behind turned new
    → TellsNext hears (reached old) (reached new) (listener old) (listener new)
next_told {O} {L} old turned new hears listener known reached follows head named behind same starts knows h =
    let l : IsLed hears listener known reached turned new (start_of head.first) (heard_of h.told.retold.takes.history) =
    led hears listener known reached turned new (start_of head.first) h.told.retold.takes.history starts h.told.retold.takes.told in
    record {
      known = known turned;
      follows = follows_by follows (known turned) (reached old) knows;
      head = head;
      steps = heard_of h.told.retold.takes.history;
      says = kept_record (hears_on hears listener known reached) head named behind turned new h;
      reached_is = l.reaches;
      heard =
          subst
          (λ (x : L). HearsAll hears x (listener new) (new_steps (known turned) (start_of head.first) (heard_of h.told.retold.takes.history)))
          same l.heard;
    }

-- ---- records

one_record_more : {L : Type 0} (hears : L → Heard → L → Type 0) (count : ℕ) (old half new : L) (before reached : Option DayPoint)
    → TellsRecords hears count old half before → TellsNext hears before reached half new → TellsRecords hears (suc count) old new reached
one_record_more hears count old half new before reached others next = record {
  day = others.day ++ new_steps next.known (start_of next.head.first) next.steps;
  says = record {
    earlier = others.day;
    before = before;
    others = others.says;
    known = next.known;
    follows = next.follows;
    head = next.head;
    steps = next.steps;
    says = next.says;
    reached_is = next.reached_is;
    day_is = refl;
  };
  heard = heard_both hears old half new others.day (new_steps next.known (start_of next.head.first) next.steps) others.heard next.heard;
}

pub records_more : {L : Type 0} (hears : L → Heard → L → Type 0) (count : ℕ) (old half new : L) (before reached : Option DayPoint)
    → TellsRecords hears count old half before → TellsNext hears before reached half new → TellsRecords hears (count + 1) old new reached
records_more hears count old half new before reached others next =
    subst (λ (n : ℕ). TellsRecords hears n old new reached) (sym (add-one count)) (one_record_more hears count old half new before reached others next)

pub none_told : {L : Type 0} (hears : L → Heard → L → Type 0) (old new : L) (reached : Option DayPoint) → new ≡ old → reached ≡ None
    → TellsRecords hears 0 old new reached
none_told hears old new reached same is = record { day = []; says = (refl, is); heard = same }

-- of one record alone nothing is known before
alone_by : (day steps : List Heard) (point : DayPoint) (earlier : List Heard) (known before : Option DayPoint) → earlier ≡ [] → before ≡ None
    → (known ≡ None) ⊎ (known ≡ before) → day ≡ earlier ++ new_steps known point steps → day ≡ steps
alone_by day steps point earlier known before none nowhere (inl is) h =
    h ∙ ap (λ (l : List Heard). l ++ new_steps known point steps) none ∙ ap (λ (k : Option DayPoint). new_steps k point steps) is ∙ all_new point steps
alone_by day steps point earlier known before none nowhere (inr is) h =
    h ∙ ap (λ (l : List Heard). l ++ new_steps known point steps) none ∙ ap (λ (k : Option DayPoint). new_steps k point steps) (is ∙ nowhere) ∙ all_new point steps

pub alone : (day : List Heard) (reached : Option DayPoint) → (h : SaysMore day reached (SaysHistory 0)) → day ≡ h.steps
alone day reached h = alone_by day h.steps (start_of h.head.first) h.earlier h.known h.before h.others.0 h.others.1 h.follows h.day_is
