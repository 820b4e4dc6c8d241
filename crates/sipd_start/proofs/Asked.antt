-- How often a reader was asked, and why nothing more is had of it, by the laws of that.
use Rattle.std.proofs.Common.{◌≡◌, inl, inr, ℕ, Option}
use Rattle.sip_replay_script.specs.Devices.{later}
use Rattle.sip_replay_script.specs.Lines.{IsSpent}
use Rattle.sipd_old_record.specs.Readers.{HasStopped, WasAsked}

abbrev pub SpentLaw : Type 0
SpentLaw = (asks n : ℕ) (before now : Option ℕ) → later asks now ≡ later n before → asks ≡ 0 → WasAsked n before now

abbrev pub BeforeLaw : Type 0
BeforeLaw = (n : ℕ) (before middle now : Option ℕ) → WasAsked 0 before middle → WasAsked n middle now → WasAsked n before now

abbrev pub FurtherLaw : Type 0
FurtherLaw = (asks n : ℕ) (before middle now : Option ℕ) → later asks middle ≡ later n before → WasAsked asks middle now → WasAsked n before now

pub has_stopped : SpentLaw → (F : Type 0) (asks n : ℕ) (before now : Option ℕ) → later asks now ≡ later n before → IsSpent F asks → HasStopped F n before now
has_stopped law F asks n before now h (inl failed) = inl failed
has_stopped law F asks n before now h (inr zero) = inr (law asks n before now h zero)

pub stopped_before : BeforeLaw → (F : Type 0) (n : ℕ) (before middle now : Option ℕ) → WasAsked 0 before middle → HasStopped F n middle now → HasStopped F n before now
stopped_before law F n before middle now h (inl failed) = inl failed
stopped_before law F n before middle now h (inr asked) = inr (law n before middle now h asked)

pub stopped_further : FurtherLaw → (F : Type 0) (asks n : ℕ) (before middle now : Option ℕ) → later asks middle ≡ later n before
    → HasStopped F asks middle now → HasStopped F n before now
stopped_further law F asks n before middle now h (inl failed) = inl failed
stopped_further law F asks n before middle now h (inr asked) = inr (law asks n before middle now h asked)
