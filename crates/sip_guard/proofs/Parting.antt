-- Each source of a table has the number that its own datagrams make, whatever others send.
use Rattle.std.proofs.Common.{◌≡◌, ℕ, ◌+◌, ◌*◌, ◌≤◌, Bool, true, false, List, [], ◌∷◌, if◌then◌else◌, refl, sym, ap, subst, ◌∙◌, le_refl, nat_le, arith}
use Rattle.std.specs.Cmp.Lexicographic.{bytes_decides}
use Rattle.sip_guard.specs.declared.limit.Limit.{Limit}
use Rattle.sip_guard.specs.Allowance.{admits, behind, owed, moment_of}
use Rattle.sip_guard.specs.Courses.{moments_of, ComesFrom, Takes}
use Rattle.sip_guard.specs.Rates.{used_by}
use Rattle.sip_guard.specs.Sources.{SourceTable, same_ip, used_of}
use Rattle.sip_guard.proofs.Rating.{later_alike}

-- what is past a moment by as much is admitted alike
alike_admits : (limit : Limit) (used other now : ℕ) → owed limit used now ≡ owed limit other now → admits limit used now ≡ admits limit other now
alike_admits limit used other now e = ap (λ (n : ℕ). nat_le (n + 1000) (1000 * limit.burst)) e

alike_behind : (limit : Limit) (used other now : ℕ) → owed limit used now ≡ owed limit other now → behind limit used now ≡ behind limit other now
alike_behind limit used other now e = ap (λ (n : ℕ). moment_of limit now + n + 1000) e

-- the number of a source behind one more datagram of its own
own_taken : (limit : Limit) (ip : List ℕ) (at : ℕ) (moments : List ℕ) (old new : SourceTable) (b : Bool) → admits limit (used_of ip old) at ≡ b
    → Takes limit ip at old new → owed limit (used_of ip old) at ≡ owed limit (used_by limit moments) at
    → owed limit (used_of ip new) at ≡ owed limit (used_by limit (at ∷ moments)) at
own_taken limit ip at moments old new true is takes alike =
    let room = ap (λ (c : Bool). if c then behind limit (used_of ip old) at else used_of ip old) takes.room in
    let admitted = sym (alike_admits limit (used_of ip old) (used_by limit moments) at alike) ∙ is in
    let used = ap (λ (c : Bool). if c then behind limit (used_by limit moments) at else used_by limit moments) admitted in
    ap (λ (n : ℕ). owed limit n at) ((takes.charged is).own ∙ room ∙ alike_behind limit (used_of ip old) (used_by limit moments) at alike ∙ sym used)
own_taken limit ip at moments old new false is takes alike =
    let admitted = sym (alike_admits limit (used_of ip old) (used_by limit moments) at alike) ∙ is in
    let used = ap (λ (c : Bool). if c then behind limit (used_by limit moments) at else used_by limit moments) admitted in
    ap (λ (table : SourceTable). owed limit (used_of ip table) at) (takes.beyond is) ∙ alike ∙ ap (λ (n : ℕ). owed limit n at) (sym used)

-- a datagram of another source leaves it past that moment by as much
other_taken : (limit : Limit) (sender ip : List ℕ) (at : ℕ) (old new : SourceTable) (b : Bool) → admits limit (used_of sender old) at ≡ b
    → Takes limit sender at old new → same_ip sender ip ≡ false → owed limit (used_of ip new) at ≡ owed limit (used_of ip old) at
other_taken limit sender ip at old new true is takes apart = (takes.charged is).others ip apart
other_taken limit sender ip at old new false is takes apart = ap (λ (table : SourceTable). owed limit (used_of ip table) at) (takes.beyond is)

taken : (limit : Limit) (sender ip : List ℕ) (at : ℕ) (before : List (List ℕ × ℕ)) (old new : SourceTable) (b : Bool) → same_ip sender ip ≡ b
    → Takes limit sender at old new → owed limit (used_of ip old) at ≡ owed limit (used_by limit (moments_of ip before)) at
    → owed limit (used_of ip new) at ≡ owed limit (used_by limit (if b then at ∷ moments_of ip before else moments_of ip before)) at
taken limit sender ip at before old new true is takes alike =
    let same = (bytes_decides sender ip).0 is in
    own_taken limit ip at (moments_of ip before) old new (admits limit (used_of ip old) at) refl (subst (λ (s : List ℕ). Takes limit s at old new) same takes) alike
taken limit sender ip at before old new false is takes alike =
    other_taken limit sender ip at old new (admits limit (used_of sender old) at) refl takes is ∙ alike

pub number_of_its_own : (limit : Limit) (datagrams : List (List ℕ × ℕ)) (latest : ℕ) (table : SourceTable) → ComesFrom limit datagrams latest table
    → (ip : List ℕ) (now : ℕ) → latest ≤ now → owed limit (used_of ip table) now ≡ owed limit (used_by limit (moments_of ip datagrams)) now
number_of_its_own limit [] latest table comes ip now rises = ap (λ (n : ℕ). owed limit n now) (comes ip)
number_of_its_own limit (datagram ∷ before) latest table comes ip now rises =
    let old = comes.1.0 in
    let alike = number_of_its_own limit before datagram.1 old comes.1.1.0 ip datagram.1 (le_refl datagram.1) in
    let then_alike = taken limit datagram.0 ip datagram.1 before old table (same_ip datagram.0 ip) refl comes.1.1.1 alike in
    later_alike limit (used_of ip table) (used_by limit (moments_of ip (datagram ∷ before))) datagram.1 now (omega (arith, comes.0, rises)) then_alike

pub admitted_by_its_own : (limit : Limit) (datagrams : List (List ℕ × ℕ)) (latest : ℕ) (table : SourceTable) → ComesFrom limit datagrams latest table
    → (ip : List ℕ) (now : ℕ) → latest ≤ now → admits limit (used_of ip table) now ≡ admits limit (used_by limit (moments_of ip datagrams)) now
admitted_by_its_own limit datagrams latest table comes ip now rises =
    alike_admits limit (used_of ip table) (used_by limit (moments_of ip datagrams)) now (number_of_its_own limit datagrams latest table comes ip now rises)
