-- Minutes, the pieces of the day that they are in, and the windows that hold there.
use Rattle.std.proofs.Common.{◌≡◌, ℕ, zero, suc, ◌+◌, ◌<◌, ◌≤◌, Bool, true, false, ◌&&◌, ◌||◌, cond, nat_eq, nat_lt, nat_le, if◌then◌else◌, List, [], ◌∷◌, ◌++◌, Option}
use Rattle.std.proofs.Common.{Some, None, count_by, refl, sym, ap, ap₂, ◌∙◌, true≢false, add-one, arith}
use Rattle.std.specs.Bool.{beq}
use Rattle.std.specs.List.{list_all, list_any}
use Rattle.std.proofs.lemmas.Bool.{and_parts, and_from, or_parts, ltb-true, ltb-false, leb-true, leb-false, eqb-true, eqb-false, lt-ltb, le-ltb, le-leb, lt-leb}
use Rattle.std.proofs.lemmas.Bool.{false_from_ne_true}
use Rattle.std.proofs.lemmas.List.Sums.{sum_by_push}
use Rattle.sip_policy.specs.declared.window.Window.{Window}
use Rattle.sip_policy.specs.declared.rule.Rule.{Rule}
use Rattle.sip_policy.specs.Window.{holds}
use Rattle.sip_matrix.specs.Day.{is_bound_of, begins_piece, piece_of, pieces_below}
use Rattle.sip_matrix.proofs.Agreement.{all_agree}

-- ---- windows

-- where a bound isn't at the next minute, it is as far from it as from this one
from_same : (from minute : ℕ) → nat_eq (suc minute) from ≡ false → nat_le from (suc minute) ≡ nat_le from minute
from_same from minute apart = by (nat_le from minute) refl
  where
    by : (b : Bool) → nat_le from minute ≡ b → nat_le from (suc minute) ≡ b
    by true e = le-leb from (suc minute) (omega (arith, leb-true from minute e))
    by false e = lt-leb from (suc minute) (omega (arith, leb-false from minute e, eqb-false (suc minute) from apart))

until_same : (until minute : ℕ) → nat_eq (suc minute) until ≡ false → nat_lt (suc minute) until ≡ nat_lt minute until
until_same until minute apart = by (nat_lt minute until) refl
  where
    by : (b : Bool) → nat_lt minute until ≡ b → nat_lt (suc minute) until ≡ b
    by true e = lt-ltb (suc minute) until (omega (arith, ltb-true minute until e, eqb-false (suc minute) until apart))
    by false e = le-ltb (suc minute) until (omega (arith, ltb-false minute until e))

-- a window without a bound at the next minute holds then as it does now
holds_on : (window : Option Window) (minute : ℕ) → is_bound_of (suc minute) window ≡ false → holds (suc minute) window ≡ holds minute window
holds_on None minute e = refl
holds_on (Some window) minute e =
    let apart = or_parts (nat_eq (suc minute) window.from) (nat_eq (suc minute) window.until) e in
    ap₂ (λ (x y : Bool). if nat_lt window.from window.until then x && y else (x || y)) (from_same window.from minute apart.0) (until_same window.until minute apart.1)

all_hold_on : (rules : List Rule) (minute piece : ℕ) → list_any (λ (rule : Rule). is_bound_of (suc minute) rule.window) rules ≡ false
    → list_all (λ (rule : Rule). beq (holds minute rule.window) (holds piece rule.window)) rules ≡ true
    → list_all (λ (rule : Rule). beq (holds (suc minute) rule.window) (holds piece rule.window)) rules ≡ true
all_hold_on [] minute piece none e = refl
all_hold_on (r ∷ rs) minute piece none e =
    let apart = or_parts (is_bound_of (suc minute) r.window) (list_any (λ (rule : Rule). is_bound_of (suc minute) rule.window) rs) none in
    let both = and_parts (beq (holds minute r.window) (holds piece r.window)) (list_all (λ (rule : Rule). beq (holds minute rule.window) (holds piece rule.window)) rs) e
    in
    and_from _ _ (ap (λ (b : Bool). beq b (holds piece r.window)) (holds_on r.window minute apart.0) ∙ both.0) (all_hold_on rs minute piece apart.1 both.1)

-- the rules' windows hold at a minute as at the beginning of its piece
pub piece_holds : (rules : List Rule) (minute : ℕ) → list_all (λ (rule : Rule). beq (holds minute rule.window) (holds (piece_of rules minute) rule.window)) rules ≡ true
unfolding piece_of
piece_holds rules zero = all_agree (λ (rule : Rule). holds 0 rule.window) (λ (rule : Rule). holds 0 rule.window) (λ r. refl) rules
piece_holds rules (suc minute) = by (begins_piece rules (suc minute)) refl (piece_holds rules minute)
  where
    by : (b : Bool) → begins_piece rules (suc minute) ≡ b → list_all (λ (rule : Rule). beq (holds minute rule.window) (holds (piece_of rules minute) rule.window)) rules
        ≡ true
        → list_all (λ (rule : Rule). beq (holds (suc minute) rule.window) (holds (cond b (suc minute) (piece_of rules minute)) rule.window)) rules ≡ true
    by true e before = all_agree (λ (rule : Rule). holds (suc minute) rule.window) (λ (rule : Rule). holds (suc minute) rule.window) (λ r. refl) rules
    by false e before =
        all_hold_on rules minute (piece_of rules minute) (or_parts (nat_eq (suc minute) 0) (list_any (λ (rule : Rule). is_bound_of (suc minute) rule.window) rules) e).1
        before

-- ---- pieces

-- a piece begins at the beginning of the piece of a minute, which is no later
pub piece_begins : (rules : List Rule) (minute : ℕ) → begins_piece rules (piece_of rules minute) ≡ true
unfolding piece_of
piece_begins rules zero = refl
piece_begins rules (suc minute) = by (begins_piece rules (suc minute)) refl (piece_begins rules minute)
  where
    by : (b : Bool) → begins_piece rules (suc minute) ≡ b → begins_piece rules (piece_of rules minute) ≡ true
        → begins_piece rules (cond b (suc minute) (piece_of rules minute)) ≡ true
    by true e before = e
    by false e before = before

pub piece_before : (rules : List Rule) (minute : ℕ) → piece_of rules minute ≤ minute
unfolding piece_of
piece_before rules zero = omega arith
piece_before rules (suc minute) = by (begins_piece rules (suc minute)) (piece_before rules minute)
  where
    by : (b : Bool) → piece_of rules minute ≤ minute → cond b (suc minute) (piece_of rules minute) ≤ suc minute
    by true before = omega arith
    by false before = omega arith

-- a number below the next one is below this one, or is it
below_next : (p n : ℕ) (below same : Bool) → nat_lt p n ≡ below → nat_eq p n ≡ same → (cond below 1 0 + cond same 1 0) ≡ cond (nat_lt p (suc n)) 1 0
below_next p n true true e f = absurd (not_both p n (ltb-true p n e) (eqb-true p n f))
  where
    not_both : (a b : ℕ) → a < b → a ≡ b → ⊥
    not_both a b l s = absurd (omega arith)
below_next p n true false e f = ap (λ (b : Bool). cond b 1 0) (sym (lt-ltb p (suc n) (omega (arith, ltb-true p n e))))
below_next p n false true e f = ap (λ (b : Bool). cond b 1 0) (sym (lt-ltb p (suc n) (omega (arith, eqb-true p n f))))
below_next p n false false e f = ap (λ (b : Bool). cond b 1 0) (sym (le-ltb p (suc n) (omega (arith, ltb-false p n e, eqb-false p n f))))

none_more : (b : Bool) → cond b 1 0 ≡ (cond b 1 0 + cond false 1 0)
none_more true = refl
none_more false = refl

-- of the pieces below a number there is one that begins at a minute where one begins, if the minute is below
counted : (rules : List Rule) (p n : ℕ) → begins_piece rules p ≡ true → count_by (nat_eq p) (pieces_below rules n) ≡ cond (nat_lt p n) 1 0
unfolding pieces_below
counted rules p zero e = ap (λ (b : Bool). cond b 1 0) (sym (le-ltb p 0 (omega arith)))
counted rules p (suc n) e = by (begins_piece rules n) refl (counted rules p n e)
  where
    by : (b : Bool) → begins_piece rules n ≡ b → count_by (nat_eq p) (pieces_below rules n) ≡ cond (nat_lt p n) 1 0
        → count_by (nat_eq p) (cond b (pieces_below rules n ++ n ∷ []) (pieces_below rules n)) ≡ cond (nat_lt p (suc n)) 1 0
    by true begins before =
        sum_by_push (λ (x : ℕ). cond (nat_eq p x) 1 0) (pieces_below rules n) n
        ∙ ap (λ (m : ℕ). m + cond (nat_eq p n) 1 0) before
        ∙ below_next p n (nat_lt p n) (nat_eq p n) refl refl
    by false begins before =
        let apart : nat_eq p n ≡ false = false_from_ne_true (nat_eq p n) (λ s. true≢false (sym e ∙ ap (begins_piece rules) (eqb-true p n s) ∙ begins)) in
        before
        ∙ none_more (nat_lt p n)
        ∙ below_next p n (nat_lt p n) false refl apart

-- each minute below a number is of one of the pieces below it
pub one_piece : (rules : List Rule) (minute n : ℕ) → minute < n → count_by (nat_eq (piece_of rules minute)) (pieces_below rules n) ≡ 1
one_piece rules minute n below =
    counted rules (piece_of rules minute) n (piece_begins rules minute)
    ∙ ap (λ (b : Bool). cond b 1 0) (lt-ltb (piece_of rules minute) n (omega (arith, piece_before rules minute)))

-- the pieces below a number, one minute after the other
pub no_pieces : (rules : List Rule) → [] ≡ pieces_below rules 0
unfolding pieces_below
no_pieces rules = refl

pub piece_more : (rules : List Rule) (n : ℕ) → (if begins_piece rules n then pieces_below rules n ++ n ∷ [] else pieces_below rules n) ≡ pieces_below rules (n + 1)
unfolding pieces_below
piece_more rules n = rw add-one refl
