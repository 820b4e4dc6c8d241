-- What a start comes to, put together.
use Rattle.std.proofs.Common.{◌≡◌, inl, inr, ℕ, Bool, true, false, List, [], Option, None, Some, refl, sym, ◌∙◌, ap, subst}
use Rattle.std.specs.Prelude.{Result, Ok, Err, IfOk}
use Rattle.rand_core.specs.Stream.{Stream}
use Rattle.sip_config.specs.Stated.{States}
use Rattle.sip_config.specs.values.declared.error.ConfigError.{ConfigError}
use Rattle.sip_config_types.specs.declared.config.Config.{Config}
use Rattle.sip_event.specs.declared.event.Boot.{Boot}
use Rattle.sip_event.specs.declared.event.StepOut.{StepOut}
use Rattle.sip_model.specs.state.declared.server.Server.{Server}
use Rattle.sip_model.specs.TimerOrder.{Standing, first_standing}
use Rattle.sip_model.specs.state.State.{first_state}
use Rattle.sip_resume.specs.run.engine.Engine.{Engine}
use Rattle.sip_resume.specs.run.engine.engine_time.proxy.Proxy.{Secrets, secrets_of}
use Rattle.sip_resume.specs.run.Due.{standing_of}
use Rattle.sip_resume.proofs.of_standings.{standing_is}
use Rattle.sip_journal.specs.Record.{NotesConfiguration}
use Rattle.sip_journal.specs.declared.record_head.RecordHead.{RecordHead}
use Rattle.sip_journal.specs.declared.record_mark.RecordMark.TheVariants.{Whole}
use Rattle.sip_replay_script.specs.Lines.{Reading, pending}
use Rattle.sip_resume.specs.Outputs.{Outputs}
use Rattle.sip_resume.specs.Whole.{IsRecordResumed}
use Rattle.sipd_old_record.specs.OldRecord.{SaysHead}
use Rattle.sipd_start.specs.Begins.{IsServerOf, StartsAnew, Written, TakesOld, LeadsTo, GoesOn, GoesOnFrom, IsFileNotResumed, IsLeftBehind, GoesOnFromFile, Begins}
use Rattle.sipd_start.specs.Boots.{boot_again}
use Rattle.sipd_start.specs.Shorter.{GoesOnAlike, IsLedByFile, IsLedSomehow, LeadsAlike}
use Rattle.sip_model.specs.SameAhead.{SameAhead}
use Rattle.sipd_boot.specs.Boots.{behind_boot, secret_from, behind_secret}
use Rattle.sipd_start.specs.OldRecords.{IsBegunBy}
use Rattle.sipd_record_files.specs.Places.{is_input}
use Rattle.sipd_start.specs.declared.not_resumed.NotResumed.{NotResumed as Reason}
use Rattle.sipd_start.specs.declared.not_resumed.StartStop.TheVariants.{NotResumed}

-- ---- the server of a file

abbrev config_in : Config → Result Config ConfigError → Config
config_in other (Ok config) = config
config_in other (Err e) = other

pub states_one : (bytes : List ℕ) (one other : Config) → States bytes one → States bytes other → other ≡ one
states_one bytes one other a b = ap (config_in one) (sym b.stated ∙ a.stated)

abbrev pub server_with : Config → ℕ → Server
server_with config word = record { config = config; word = word }

-- it was opened with a configuration that these bytes state
is_opened_by : (bytes : List ℕ) (config : Config) (word : ℕ) (server : Server) → States bytes config → server ≡ server_with config word → IsServerOf bytes word server
is_opened_by bytes config word server states is = record {
  states = subst (λ (s : Server). States bytes s.config) (sym is) states;
  word_is = ap (λ (s : Server). s.word) is;
}

pub is_begun : (bytes : List ℕ) (config : Config) (head : RecordHead) (keys : ℕ) (boot : Boot) (server : Server)
    → boot ≡ boot_again head keys → States bytes config → server ≡ server_with config boot.word
    → IsServerOf bytes head.word server
is_begun bytes config head keys boot server is states opened = subst (λ w. IsServerOf bytes w server) (ap (λ (b : Boot). b.word) is)
    (is_opened_by bytes config boot.word server states opened)

pub is_at_first : (head : RecordHead) (keys : ℕ) (boot : Boot) (old : Standing)
    → boot ≡ boot_again head keys → old ≡ first_standing boot.first → old ≡ first_standing head.first
is_at_first head keys boot old is fresh = fresh ∙ ap (λ (b : Boot). first_standing b.first) is

-- it stands where it was opened, with no timer
pub opened_standing : (engine : Engine) (first : ℕ) → engine.state ≡ first_state first → engine.timers ≡ [] → standing_of engine ≡ first_standing first
opened_standing engine first state timers = standing_is engine (first_state first) [] state timers

-- and under another configuration it stands where it stood
pub same_standing : (old new : Engine) → new.state ≡ old.state → new.timers ≡ old.timers → standing_of new ≡ standing_of old
same_standing old new state timers = standing_is new old.state old.timers state timers

-- ---- what is left of a record

pub takes_old : (first bytes : List ℕ) (server middle server_then : Server) (old new new_then : Standing) (events : Option (List ℕ))
    (number lines : ℕ) (last : Option StepOut) (written : Written) (begun taken : Outputs) (written_then : Written)
    → NotesConfiguration written begun.written first → IsRecordResumed server middle old new events number begun taken lines last
    → NotesConfiguration taken.written written_then bytes
    → IsServerOf bytes middle.word server_then → new_then ≡ new → TakesOld first bytes server server_then old new_then number events lines last written written_then
takes_old first bytes server middle server_then old new new_then events number lines last written begun taken written_then told h behind under same =
    let word : middle.word ≡ server.word = ap (λ (s : Server). s.word) h.takes.in_force in
    record {
      in_force = middle;
      begun = begun;
      taken = taken;
      told_first = told;
      resumed = subst (λ s. IsRecordResumed server middle old s events number begun taken lines last) (sym same) h;
      told_last = behind;
      is_under = subst (λ w. IsServerOf bytes w server_then) word under;
    }

pub leads : (first bytes : List ℕ) (server server_then : Server) (old new : Standing) (number : ℕ) (events : Option (List ℕ)) (lines : ℕ)
    (last : Option StepOut) (written written_then : Written)
    → TakesOld first bytes server server_then old new number events lines last written written_then
    → LeadsTo first bytes server server_then old number events new lines last
leads first bytes server server_then old new number events lines last written written_then h = record { written = written; written_then = written_then; takes = h }

-- ---- it goes on

pub goes_on : (first bytes digest : List ℕ) (head : RecordHead) (keys : ℕ) (boot : Boot) (events : Option (List ℕ)) (reading : Reading)
    (rest : Option (List ℕ)) (config : Config) (server engine : Server) (old new : Standing) (lines : ℕ) (last : Option StepOut)
    → boot ≡ boot_again head keys → States first config → server ≡ server_with config boot.word → old ≡ first_standing boot.first
    → IsBegunBy bytes digest head events reading rest first
    → LeadsTo first bytes server engine old reading.number (pending reading rest) new lines last → GoesOn bytes digest head events engine new lines last
goes_on first bytes digest head keys boot events reading rest config server engine old new lines last is states opened fresh by h =
    let begun : IsServerOf first head.word server = is_begun first config head keys boot server is states opened in
    record {
      reading = reading;
      rest = rest;
      first = first;
      begun_by = by;
      begun = server;
      is_begun = begun;
      is_server = subst (λ w. IsServerOf bytes w engine) begun.word_is h.takes.is_under;
      leads = subst (λ s. LeadsTo first bytes server engine s reading.number (pending reading rest) new lines last) (is_at_first head keys boot old is fresh) h;
    }

-- the same of what was taken, and told a journal
pub goes_on_after : (first bytes digest : List ℕ) (head : RecordHead) (keys : ℕ) (boot : Boot) (events : Option (List ℕ)) (reading : Reading)
    (rest : Option (List ℕ)) (config : Config) (server engine : Server) (old new : Standing) (lines : ℕ) (last : Option StepOut) (written written_then : Written)
    → boot ≡ boot_again head keys → States first config → server ≡ server_with config boot.word → old ≡ first_standing boot.first
    → IsBegunBy bytes digest head events reading rest first
    → TakesOld first bytes server engine old new reading.number (pending reading rest) lines last written written_then
    → GoesOn bytes digest head events engine new lines last
goes_on_after first bytes digest head keys boot events reading rest config server engine old new lines last written written_then is states opened fresh by h =
    goes_on first bytes digest head keys boot events reading rest config server engine old new lines last is states opened fresh by
    (leads first bytes server engine old new reading.number (pending reading rest) lines last written written_then h)

-- and it has the word of the first line
pub under_head : (first bytes : List ℕ) (head : RecordHead) (keys : ℕ) (boot : Boot) (config : Config) (server engine : Server) (old new : Standing)
    (number : ℕ) (events : Option (List ℕ)) (lines : ℕ) (last : Option StepOut) (written written_then : Written)
    → boot ≡ boot_again head keys → server ≡ server_with config boot.word
    → TakesOld first bytes server engine old new number events lines last written written_then → IsServerOf bytes head.word engine
under_head first bytes head keys boot config server engine old new number events lines last written written_then is opened h =
    subst (λ (w : ℕ). IsServerOf bytes w engine) (ap (λ (s : Server). s.word) opened ∙ ap (λ (b : Boot). b.word) is) h.is_under

pub went_on : {A E : Type 0} (result : Result A E) (server_of : A → Server) (state_of : A → Standing) (lines_of : A → ℕ) (last_of : A → Option StepOut)
    (first bytes digest : List ℕ) (head : RecordHead) (keys : ℕ) (boot : Boot) (events : Option (List ℕ)) (reading : Reading) (rest : Option (List ℕ))
    (config : Config) (server : Server) (old : Standing)
    → boot ≡ boot_again head keys → States first config → server ≡ server_with config boot.word → old ≡ first_standing boot.first
    → IsBegunBy bytes digest head events reading rest first
    → IfOk result (λ a. LeadsTo first bytes server (server_of a) old reading.number (pending reading rest) (state_of a) (lines_of a) (last_of a))
    → IfOk result (λ a. GoesOn bytes digest head events (server_of a) (state_of a) (lines_of a) (last_of a))
went_on (Ok a) server_of state_of lines_of last_of first bytes digest head keys boot events reading rest config server old is states opened fresh by h =
    goes_on first bytes digest head keys boot events reading rest config server (server_of a) old (state_of a) (lines_of a) (last_of a) is states opened fresh by h
went_on (Err e) server_of state_of lines_of last_of first bytes digest head keys boot events reading rest config server old is states opened fresh by h = tt

-- it keeps the secrets with which it was opened again
pub secrets_drawn : {A E : Type 0} (result : Result A E) (secrets_in : A → Secrets) (head : RecordHead) (keys : ℕ) (boot : Boot) (opened : Secrets)
    → boot ≡ boot_again head keys → opened ≡ secrets_of boot.keys
    → IfOk result (λ a. secrets_in a ≡ opened) → IfOk result (λ a. secrets_in a ≡ secrets_of keys)
secrets_drawn (Ok a) secrets_in head keys boot opened is so kept = kept ∙ so ∙ ap (λ (b : Boot). secrets_of b.keys) is
secrets_drawn (Err e) secrets_in head keys boot opened is so kept = tt

pub goes_on_from : (bytes digest : List ℕ) (head : RecordHead) (whole events : Option (List ℕ)) (server : Server) (state : Standing) (lines : ℕ) (last : Option StepOut)
    → SaysHead whole events head → head.mark ≡ Whole → GoesOn bytes digest head events server state lines last → GoesOnFrom bytes digest whole server state lines last
goes_on_from bytes digest head whole events server state lines last says is_whole h =
    record { head = head; events = events; says = says; is_whole = is_whole; goes_on = h }

under_drawn : (words : Stream) (keys : ℕ) (secrets : Secrets) → keys ≡ secret_from words → secrets ≡ secrets_of keys
    → secrets ≡ secrets_of (secret_from words)
under_drawn words keys secrets drawn under = under ∙ ap secrets_of drawn

pub goes_on_from_input : (is_input : Bool) (input : Option (List ℕ)) (bytes digest : List ℕ) (words left : Stream) (keys : ℕ) (server : Server)
    (state : Standing) (secrets : Secrets) (lines : ℕ) (last : Option StepOut)
    → GoesOnFrom bytes digest input server state lines last → keys ≡ secret_from words → secrets ≡ secrets_of keys → left ≡ behind_secret words
    → GoesOnFromFile is_input input bytes digest words server state secrets last left
goes_on_from_input is_input input bytes digest words left keys server state secrets lines last h drawn under rest =
    record { whole = input; of_input = λ _. refl; lines = lines; goes_on = h; under = under_drawn words keys secrets drawn under; rest = rest }

goes_on_from_file : (is_input : Bool) (input whole : Option (List ℕ)) (bytes digest : List ℕ) (words left : Stream) (keys : ℕ) (server : Server)
    (state : Standing) (secrets : Secrets) (lines : ℕ) (last : Option StepOut)
    → is_input ≡ false → GoesOnFrom bytes digest whole server state lines last → keys ≡ secret_from words → secrets ≡ secrets_of keys
    → left ≡ behind_secret words → GoesOnFromFile is_input input bytes digest words server state secrets last left
goes_on_from_file true input whole bytes digest words left keys server state secrets lines last is h drawn under rest = absurd cc
goes_on_from_file false input whole bytes digest words left keys server state secrets lines last is h drawn under rest =
    record { whole = whole; of_input = λ other. absurd cc; lines = lines; goes_on = h; under = under_drawn words keys secrets drawn under; rest = rest }

-- the same of what a file held, behind some of its lines
pub goes_on_led : (is_input : Bool) (input : Option (List ℕ)) (bytes digest : List ℕ) (words left : Stream) (keys : ℕ) (server : Server)
    (state : Standing) (secrets : Secrets) (last : Option StepOut)
    → is_input ≡ false → IsLedSomehow bytes digest server state last → keys ≡ secret_from words → secrets ≡ secrets_of keys → left ≡ behind_secret words
    → GoesOnFromFile is_input input bytes digest words server state secrets last left
goes_on_led is_input input bytes digest words left keys server state secrets last is h drawn under rest =
    goes_on_from_file is_input input h.1.0 bytes digest words left keys server state secrets h.0 last is h.1.1 drawn under rest

-- behind all that is left of it, or behind a shorter one, which some file held, too
pub led_whole : (bytes digest : List ℕ) (whole : Option (List ℕ)) (server : Server) (state : Standing) (lines : ℕ) (last : Option StepOut)
    → GoesOnFrom bytes digest whole server state lines last → IsLedSomehow bytes digest server state last
led_whole bytes digest whole server state lines last h = (lines, (whole, h))

pub led_alike : (bytes digest : List ℕ) (server : Server) (state : Standing) (last : Option StepOut)
    → GoesOnAlike bytes digest server state last → IsLedSomehow bytes digest server state last
led_alike bytes digest server state last h = (h.lines, (h.leads.shorter, h.leads.goes_on))

-- ---- two servers of one configuration

server_one : (bytes : List ℕ) (one other : ℕ) (left right : Server) → one ≡ other → IsServerOf bytes one left → IsServerOf bytes other right
    → left ≡ right
server_one bytes one other left right words a b =
    let config : left.config ≡ right.config = sym (states_one bytes left.config right.config a.states b.states) in
    let word : left.word ≡ right.word = a.word_is ∙ words ∙ sym b.word_is in
    ap (λ (c : Config). server_with c left.word) config ∙ ap (λ (w : ℕ). server_with right.config w) word

alike : (bytes digest : List ℕ) (one other : ℕ) (shorter : Option (List ℕ)) (left right : Server) (state state_then : Standing) (lines lines_then : ℕ)
    (last last_then : Option StepOut)
    → GoesOnFrom bytes digest shorter left state lines last → IsLedByFile bytes digest right state_then lines_then last_then
    → IsServerOf bytes one left → IsServerOf bytes other right → one ≡ other → SameAhead state.state state_then.state
    → LeadsAlike bytes digest left state lines last
alike bytes digest one other shorter left right state state_then lines lines_then last last_then h g a b words same = record {
  shorter = shorter;
  goes_on = h;
  whole = g.0;
  other = state_then;
  other_lines = lines_then;
  other_last = last_then;
  leads = subst (λ (s : Server). GoesOnFrom bytes digest g.0 s state_then lines_then last_then) (sym (server_one bytes one other left right words a b)) g.1;
  same = same;
}

pub led_by_file : (bytes digest : List ℕ) (whole : Option (List ℕ)) (server : Server) (state : Standing) (lines : ℕ) (last : Option StepOut)
    → GoesOnFrom bytes digest whole server state lines last → IsLedByFile bytes digest server state lines last
led_by_file bytes digest whole server state lines last h = (whole, h)

pub alike_in_files : (bytes digest : List ℕ) (one other : ℕ) (left right : Server) (state state_then : Standing) (lines lines_then : ℕ)
    (last last_then : Option StepOut)
    → IsLedByFile bytes digest left state lines last → IsLedByFile bytes digest right state_then lines_then last_then
    → IsServerOf bytes one left → IsServerOf bytes other right → one ≡ other → SameAhead state.state state_then.state
    → LeadsAlike bytes digest left state lines last
alike_in_files bytes digest one other left right state state_then lines lines_then last last_then h g a b words same =
    alike bytes digest one other h.0 left right state state_then lines lines_then last last_then h.1 g a b words same

pub goes_alike : (bytes digest : List ℕ) (server : Server) (state : Standing) (lines : ℕ) (last : Option StepOut)
    → LeadsAlike bytes digest server state lines last → GoesOnAlike bytes digest server state last
goes_alike bytes digest server state lines last h = record { lines = lines; leads = h }

-- the same of what it is taken apart to
pub goes_alike_apart : (bytes digest : List ℕ) (led engine : Engine) (lines : ℕ) (last_of last : Option StepOut) → engine ≡ led → last ≡ last_of
    → LeadsAlike bytes digest led.server (standing_of led) lines last_of → GoesOnAlike bytes digest engine.server (standing_of engine) last
goes_alike_apart bytes digest led engine lines last_of last is same h =
    subst (λ (e : Engine). GoesOnAlike bytes digest e.server (standing_of e) last) (sym is)
    (subst (λ (l : Option StepOut). GoesOnAlike bytes digest led.server (standing_of led) l) (sym same)
    (goes_alike bytes digest led.server (standing_of led) lines last_of h))

pub begins_again : (named : Option (List ℕ)) (old : List ℕ) (input : Option (List ℕ)) (F : Type 0) (before now : Option ℕ) (bytes digest : List ℕ)
    (words left : Stream) (server : Server) (state : Standing) (secrets : Secrets) (last : Option StepOut) → named ≡ Some old
    → GoesOnFromFile (is_input old) input bytes digest words server state secrets last left
    → Begins named input F before now bytes digest words server state secrets last left
begins_again named old input F before now bytes digest words left server state secrets last is h =
    subst (λ (n : Option (List ℕ)). Begins n input F before now bytes digest words server state secrets last left) (sym is) (inr h)

pub begins_anew : (named : Option (List ℕ)) (old : List ℕ) (reason : Reason) (input : Option (List ℕ)) (F : Type 0) (before now : Option ℕ)
    (bytes digest : List ℕ) (words next left : Stream) (server : Server) (state : Standing) (secrets : Secrets) (last : Option StepOut) → named ≡ Some old
    → IsFileNotResumed (is_input old) input F before now bytes digest (NotResumed reason) → IsLeftBehind words next
    → StartsAnew bytes next server state secrets last → left ≡ behind_boot next
    → Begins named input F before now bytes digest words server state secrets last left
begins_anew named old reason input F before now bytes digest words next left server state secrets last is why behind h rest =
    subst (λ (n : Option (List ℕ)). Begins n input F before now bytes digest words server state secrets last left) (sym is)
    (inl (record { why = (reason, why); next = next; behind = behind; starts = h; rest = rest }))

pub begins_alone : (named input : Option (List ℕ)) (F : Type 0) (before now : Option ℕ) (bytes digest : List ℕ) (words left : Stream)
    (server : Server) (state : Standing) (secrets : Secrets) (last : Option StepOut) → named ≡ None
    → StartsAnew bytes words server state secrets last → left ≡ behind_boot words → Begins named input F before now bytes digest words server state secrets last left
begins_alone named input F before now bytes digest words left server state secrets last is h rest =
    subst (λ (n : Option (List ℕ)). Begins n input F before now bytes digest words server state secrets last left) (sym is)
    (inl (record { why = tt; next = words; behind = inl refl; starts = h; rest = rest }))
