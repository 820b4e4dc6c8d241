-- The last configuration of what stands behind the first line of a record, read from there.
use Rattle.std.proofs.Common.{◌≡◌, inr, inl, ℕ, List, Option, None, Some, ◌∙◌, subst}
use Rattle.std.specs.Prelude.{Result, Ok, Err, IfErr, IfOk}
use Rattle.sip_config_types.specs.declared.config.Config.{Config}
use Rattle.sip_replay_script.specs.Devices.{later}
use Rattle.sip_replay_script.specs.Lines.{IsSpent, Reading, pending}
use Rattle.sipd_exit.specs.declared.exit.Exit.{Exit}
use Rattle.sipd_old_record.specs.Own.{unread}
use Rattle.sipd_old_record.specs.Readers.{most_asks}
use Rattle.sipd_tools.specs.Against.{Begins, IsFirstUnread, IsLastBehind, IsLastOf, IsNotLast, IsStated, IsWithoutLast}

count_of : (lines : Reading) (asks : ℕ) (before now : Option ℕ) → lines ≡ unread → later asks now ≡ later lines.asks before → later asks now ≡ later most_asks before
count_of lines asks before now fresh asked = subst (λ (l : Reading). later asks now ≡ later l.asks before) fresh asked

pub unread_first : (digest : List ℕ) (F : Type 0) (before now : Option ℕ) (events : Option (List ℕ)) (exit : Exit) (lines : Reading) (asks : ℕ) → lines ≡ unread
    → later asks now ≡ later lines.asks before
    → IsFirstUnread digest (IsSpent F asks) lines events exit → IsNotLast digest F before now events exit
unread_first digest F before now events exit lines asks fresh asked h =
    record {
      asks = asks;
      left_of = count_of lines asks before now fresh asked;
      why =
          inr (inl (subst (λ (l : Reading). IsFirstUnread digest (IsSpent F asks) l events exit) fresh h));
    }

begins_so : (digest : List ℕ) (events rest : Option (List ℕ)) (lines reading : Reading) (first : Option Config) → lines ≡ unread
    → Begins digest lines reading events rest first → Begins digest unread reading events rest first
begins_so digest events rest lines reading first fresh h = subst (λ (l : Reading). Begins digest l reading events rest first) fresh h

pub last_is : (result : Result Config Exit) (digest : List ℕ) (events rest : Option (List ℕ)) (lines reading : Reading) (first : Option Config) → lines ≡ unread
    → Begins digest lines reading events rest first
    → IfOk result (IsLastBehind first (pending reading rest)) → IfOk result (IsLastOf digest events)
last_is (Ok config) digest events rest lines reading first fresh begins h =
    record { reading = reading; rest = rest; first = first; begins = begins_so digest events rest lines reading first fresh begins; last = h }
last_is (Err exit) digest events rest lines reading first fresh begins h = tt

-- it is stated by its bytes
stated_first : (digest : List ℕ) (events rest : Option (List ℕ)) (lines reading : Reading) (first : Option Config) (config : Config) → first ≡ Some config
    → Begins digest lines reading events rest first → IsStated config
stated_first digest events rest lines reading None config is begins = absurd cc
stated_first digest events rest lines reading (Some other) config is begins =
    let same : other ≡ config = cc in subst IsStated same (begins.0, begins.1.gives.states)

pub last_stated : (result : Result Config Exit) (digest : List ℕ) (events rest : Option (List ℕ)) (lines reading : Reading) (first : Option Config)
    → Begins digest lines reading events rest first
    → IfOk result (IsLastBehind first (pending reading rest)) → IfOk result IsStated
last_stated (Ok config) digest events rest lines reading first begins (inl h) = (h.0, h.1.states)
last_stated (Ok config) digest events rest lines reading first begins (inr h) = stated_first digest events rest lines reading first config h.0 begins
last_stated (Err exit) digest events rest lines reading first begins h = tt

pub without_last : (result : Result Config Exit) (digest : List ℕ) (F : Type 0) (before middle now : Option ℕ) (events rest : Option (List ℕ)) (lines reading : Reading)
    (first : Option Config) (asks : ℕ) → lines ≡ unread → Begins digest lines reading events rest first
    → later reading.asks middle ≡ later lines.asks before → later asks now ≡ later reading.asks middle
    → IfErr result (IsWithoutLast first (IsSpent F asks) (pending reading rest) reading.number) → IfErr result (IsNotLast digest F before now events)
without_last (Ok config) digest F before middle now events rest lines reading first asks fresh begins asked asked_then h = tt
without_last (Err exit) digest F before middle now events rest lines reading first asks fresh begins asked asked_then h = record {
  asks = asks;
  left_of = count_of lines asks before now fresh (asked_then ∙ asked);
  why = inr (inr (record { reading = reading; rest = rest; first = first; begins = begins_so digest events rest lines reading first fresh begins; why = h }));
}
