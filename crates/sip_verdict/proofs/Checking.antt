-- What the checks give.
use Rattle.std.proofs.Common.{◌≡◌, ℕ, Bool, List, Option, Some, None, option_map, [], Result, Ok, Err, inl, inr, refl, ap, sym, ◌∙◌}
use Rattle.std.specs.Result.{result_ok}
use Rattle.sip_message_form.specs.declared.message.Message.{Message}
use Rattle.sip_message_form.specs.declared.message.Start.{Start}
use Rattle.sip_message_form.specs.declared.message.Start.TheVariants.{Request, Status}
use Rattle.sip_header.specs.declared.core_fields.CoreFields.{CoreFields}
use Rattle.sip_header.specs.CoreFields.{Gives, core_of}
use Rattle.sip_header.specs.declared.error.HeaderError.{HeaderError}
use Rattle.sip_header.specs.declared.error.HeaderError.TheVariants as Bad
use Rattle.sip_route.specs.declared.own.Own.{Own}
use Rattle.sip_validate.specs.declared.refused.Refused.{Refused}
use Rattle.sip_validate.specs.declared.refused.Refused.TheVariants as Why
use Rattle.sip_validate.specs.Refused.{refused_with}
use Rattle.sip_validate.specs.Refusal.{refusal_of}
use Rattle.sip_verdict.specs.Verdict.{IsRequestOf}

-- ---- of what was read

-- where no row is told, none applies
pub none_applies : (row : Option (ℕ × List ℕ)) (refused : Option Refused) → refused ≡ None → refused ≡ option_map refused_with row → row ≡ None
none_applies None refused none h = refl
none_applies (Some x) refused none h = absurd (cc)

-- the row that is told applies
told_by : (row : Option (ℕ × List ℕ)) (status : ℕ) (extra : List ℕ) → Some (Why.Status status extra) ≡ option_map refused_with row → row ≡ Some (status, extra)
told_by None status extra h = absurd (cc)
told_by (Some x) status extra h = let both : Some (x.0, x.1) ≡ Some (status, extra) = cc in both

pub told_applies : (row : Option (ℕ × List ℕ)) (refused : Option Refused) (why : Refused) (status : ℕ) (extra : List ℕ) → refused ≡ Some why
    → why ≡ Why.Status status extra
    → refused ≡ option_map refused_with row → row ≡ Some (status, extra)
told_applies row refused why status extra is is_status h =
    told_by row status extra (sym (ap (λ (w : Refused). Some w) is_status) ∙ sym is ∙ h)

-- a message whose core fields can't be read is refused
abbrev pub Unread : Own → Message → Bool → Type 0
Unread own m short =
    (method uri version : List ℕ) → m.start ≡ Request method uri version → result_ok (core_of m) ≡ None → refusal_of own m short ≡ Some (400, [])

unread_by : (start : Start) (own : Own) (m : Message) (short : Bool) (method : List ℕ) → m.start ≡ start → IsRequestOf method start → Unread own m short
    → result_ok (core_of m) ≡ None → refusal_of own m short ≡ Some (400, [])
unread_by (Request name uri version) own m short method is request law none = law name uri version is none
unread_by (Status code reason) own m short method is request law none = absurd request

pub unread : (own : Own) (m : Message) (short : Bool) (method : List ℕ) → IsRequestOf method m.start → Unread own m short → result_ok (core_of m) ≡ None
    → refusal_of own m short ≡ Some (400, [])
unread own m short method request law none = unread_by m.start own m short method refl request law none

-- core fields that aren't lacked for want of memory can't be read
pub core_unread : (result : Result CoreFields HeaderError) (e : HeaderError) (m : Message) → result ≡ Err e → (e ≡ Bad.NoMemory → ⊥)
    → Gives (λ (c : CoreFields). c) result (core_of m) → result_ok (core_of m) ≡ None
core_unread (Ok core) e m is not h = absurd (cc)
core_unread (Err why) e m is not h =
    let same : why ≡ e = cc in
    elim h [ inl memory ↦ absurd (not (sym same ∙ memory)) | inr bad ↦ ap (λ (r : Result CoreFields HeaderError). result_ok r) bad ]
