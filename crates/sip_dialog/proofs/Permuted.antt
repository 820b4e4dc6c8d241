-- Of lists of dialogs with names of their own that are as long, and of which each of the one stands in the other, tests count as many.
use Rattle.std.proofs.Common.{◌≡◌, ℕ, ◌+◌, ◌≤◌, Bool, true, false, cond, List, [], ◌∷◌, length, refl, ap, ◌∙◌, arith}
use Rattle.std.specs.Prelude.{◌&&◌, not, count_by}
use Rattle.std.specs.List.{AllByRecursion}
use Rattle.sip_dialog.specs.declared.dialog.DialogId.{DialogId}
use Rattle.sip_dialog.specs.declared.dialog.Dialog.{Dialog}
use Rattle.sip_dialog.specs.SameNames.{alike}
use Rattle.sip_dialog.specs.Dialogs.{is_named}
use Rattle.sip_dialog.specs.Met.{Stands}
use Rattle.sip_dialog.proofs.Alone.{and_turned}
use Rattle.sip_dialog.proofs.Sameness.{count_first, count_alike, length_counts, split_by}

-- each has a name of its own
abbrev pub AreAlone : List Dialog → Type 0
AreAlone ds = (id : DialogId) → count_by (is_named id) ds ≤ 1

-- a dialog has its name
named_so : (d : Dialog) → is_named d.id d ≡ true
named_so d = alike.refl d.id

-- behind one dialog no other has its name
none_named : (d : Dialog) (ds : List Dialog) → AreAlone (d ∷ ds) → count_by (is_named d.id) ds ≡ 0
none_named d ds alone =
    let here : cond {A = ℕ} (is_named d.id d) 1 0 ≡ 1 = ap (λ (t : Bool). cond {A = ℕ} t 1 0) (named_so d) in
    omega (arith, alone d.id, count_first (is_named d.id) d ds, here)

-- so a test counts as many there as have another name
others_counted : (p : Dialog → Bool) (d : Dialog) (ds : List Dialog) → AreAlone (d ∷ ds) → count_by p ds ≡ count_by (λ x. not (is_named d.id x) && p x) ds
others_counted p d ds alone =
    let turned : count_by (λ x. is_named d.id x && p x) ds ≡ count_by (λ x. p x && is_named d.id x) ds =
    count_alike (λ (x : Dialog). is_named d.id x && p x) (λ x. p x && is_named d.id x) ds (λ x. and_turned (is_named d.id x) (p x)) in
    omega (arith, none_named d ds alone, split_by (is_named d.id) p ds, split_by p (is_named d.id) ds, turned)

alone_behind : (d : Dialog) (ds : List Dialog) → AreAlone (d ∷ ds) → AreAlone ds
alone_behind d ds alone = λ id. omega (arith, alone id, count_first (is_named id) d ds)

-- of those that stand in others a test counts no more than of these
counted_within : (left right : List Dialog) → AreAlone left → AllByRecursion (λ (d : Dialog). Stands d right) left → (p : Dialog → Bool)
    → count_by p left ≤ count_by p right
counted_within [] right alone stand p = omega arith
counted_within (d ∷ left) right alone stand p =
    let here : cond {A = ℕ} (is_named d.id d && p d) 1 0 ≡ cond {A = ℕ} (p d) 1 0 = ap (λ (t : Bool). cond {A = ℕ} (t && p d) 1 0) (named_so d) in
    let rest = counted_within left right (alone_behind d left alone) stand.1 (λ x. not (is_named d.id x) && p x) in
    omega (arith, here, rest, stand.0 (λ x. is_named d.id x && p x), others_counted p d left alone, split_by (is_named d.id) p right, count_first p d left)

-- those that pass and those that don't are all
and_true : (t : Bool) → (t && true) ≡ t
and_true true = refl
and_true false = refl

of_all : (p : Dialog → Bool) (ds : List Dialog) → count_by (λ (x : Dialog). true) ds ≡ count_by p ds + count_by (λ x. not (p x)) ds
of_all p ds =
    split_by p (λ x. true) ds
    ∙ ap (λ (n : ℕ). n + count_by (λ x. not (p x) && true) ds) (count_alike (λ x. p x && true) p ds (λ x. and_true (p x)))
    ∙ ap (λ (n : ℕ). count_by p ds + n) (count_alike (λ x. not (p x) && true) (λ x. not (p x)) ds (λ x. and_true (not (p x))))

-- and as many, where they are as many
pub counted_alike : (left right : List Dialog) → AreAlone left → AllByRecursion (λ (d : Dialog). Stands d right) left → length left ≡ length right
    → (p : Dialog → Bool) → count_by p left ≡ count_by p right
counted_alike left right alone stand sized p =
    omega (
      arith,
      sized,
      length_counts left,
      length_counts right,
      of_all p left,
      of_all p right,
      counted_within left right alone stand p,
      counted_within left right alone stand (λ x. not (p x)),
    )
