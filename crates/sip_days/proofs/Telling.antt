-- The records of a step, one after the other.
use Rattle.std.proofs.Common.{◌≡◌, ◌<◌, ◌≤◌, ℕ, ◌+◌, ℤ, Bool, true, false, List, ◌∷◌, length, drop, get_or, Option, refl, sym, ◌∙◌, ap}
use Rattle.std.specs.Prelude.{if◌then◌else◌}
use Rattle.std.proofs.lemmas.List.{at_drop_all, at_drop_more}
use Rattle.sip_audit.specs.declared.record.Record.{Record}
use Rattle.sip_event.specs.declared.event.Event.{Event}
use Rattle.sip_days.specs.declared.registered.Registered.{Registered}
use Rattle.sip_days.specs.Phones.{if_registered, is_registered, phones_with, registered_by, with_registered}

-- ---- one record

put_by : (is : Bool) (made before behind : List Registered) → is ≡ true → made ≡ behind → made ≡ (if is then behind else before)
put_by true made before behind there puts = puts
put_by false made before behind there puts = absurd cc

pub put_so : (offset : ℤ) (event : Option Event) (r : Record) (rows made : List Registered) (is : Bool) (new : Registered) → is ≡ is_registered r → is ≡ true
    → new ≡ registered_by offset event r → made ≡ with_registered new rows → made ≡ if_registered offset event r rows
put_so offset event r rows made is new same there says puts =
    put_by (is_registered r) made rows (with_registered (registered_by offset event r) rows) (sym same ∙ there)
    (puts ∙ ap (λ (x : Registered). with_registered x rows) says)

kept_by : (is : Bool) (before behind : List Registered) → is ≡ false → before ≡ (if is then behind else before)
kept_by true before behind missing = absurd cc
kept_by false before behind missing = refl

pub kept_so : (offset : ℤ) (event : Option Event) (r : Record) (rows : List Registered) (is : Bool) → is ≡ is_registered r → is ≡ false
    → rows ≡ if_registered offset event r rows
kept_so offset event r rows is same missing =
    kept_by (is_registered r) rows (with_registered (registered_by offset event r) rows) (sym same ∙ missing)

-- ---- all

pub one_more : (offset : ℤ) (event : Option Event) (records : List Record) (i : ℕ) (r : Record) (rows made all : List Registered) → i < length records
    → r ≡ get_or records i r → phones_with offset event (drop i records) rows ≡ all → made ≡ if_registered offset event r rows
    → phones_with offset event (drop (i + 1) records) made ≡ all
one_more offset event records i r rows made all lt is so_far puts =
    ap (λ (l : List Registered). phones_with offset event (drop (i + 1) records) l) puts
    ∙ ap (λ (x : Record). phones_with offset event (x ∷ drop (i + 1) records) rows) is
    ∙ sym (at_drop_more (λ (rs : List Record). phones_with offset event rs rows) records i r lt)
    ∙ so_far

pub at_end : (offset : ℤ) (event : Option Event) (records : List Record) (i : ℕ) (rows all : List Registered) → length records ≤ i
    → phones_with offset event (drop i records) rows ≡ all → rows ≡ all
at_end offset event records i rows all past so_far = sym (at_drop_all (λ (rs : List Record). phones_with offset event rs rows) records i past) ∙ so_far
