-- A host and its port, by the host name at the front.
use Rattle.std.proofs.Common.{◌≡◌, ℕ, zero, suc, ◌+◌, Bool, true, false, cond, List, [], ◌∷◌, ◌++◌, length, take, drop, Option, Some, None, refl, sym, ap, ◌∙◌}
use Rattle.std.proofs.Common.{append_assoc, arith}
use Rattle.std.specs.Prelude.{◌==◌, ◌&&◌, option_map}
use Rattle.std.proofs.lemmas.Bool.{eqb-true}
use Rattle.std.proofs.lemmas.List.{append-nil, take_at, drop_at, take-append-drop}
use Rattle.std.specs.Option.{option_and_then}
use Rattle.std.specs.List.{list_all, prefix_len}
use Rattle.sip_uri.specs.Host.{is_host_byte, is_host, begins_bracket, is_not, host_length, place_of, is_place_byte, IsPlaceAt, IsNameAt}
use Rattle.sip_uri.specs.Port.{port_of, port_value}
use Rattle.sip_uri.proofs.Ports.{port_bytes}

-- a host with the port that is written behind it
abbrev with_port : List ℕ → List ℕ → Option (List ℕ × Option (List ℕ))
with_port host rest = option_map (λ port. (host, port)) (port_of rest)

by_test : (host rest : List ℕ) (t : Bool) → is_host host ≡ t → option_and_then {T = List ℕ × List ℕ} (λ x. with_port x.0 x.1) (cond t (Some (host, rest)) None)
    ≡ cond t (with_port host rest) None
by_test host rest true is = refl
by_test host rest false is = refl

-- the place of a text, by its host
place_is : (text : List ℕ) → place_of text ≡ cond (is_host (take (host_length text) text)) (with_port (take (host_length text) text) (drop (host_length text) text)) None
place_is text = by_test (take (host_length text) text) (drop (host_length text) text) (is_host (take (host_length text) text)) refl

at_host : (text host rest : List ℕ) (t : Bool) → host ≡ take (host_length text) text → rest ≡ drop (host_length text) text → is_host host ≡ t
    → cond t (with_port host rest) None ≡ place_of text
at_host text host rest t front behind is =
    let here : is_host (take (host_length text) text) ≡ t = ap is_host (sym front) ∙ is in
    sym (place_is text ∙ rw (here, ← front, ← behind) refl)

pub host_here : (text host rest : List ℕ) → host ≡ take (host_length text) text → rest ≡ drop (host_length text) text → is_host host ≡ true
    → option_map (λ port. (host, port)) (port_of rest) ≡ place_of text
host_here text host rest front behind is = at_host text host rest true front behind is

pub no_host : (text host rest : List ℕ) → host ≡ take (host_length text) text → rest ≡ drop (host_length text) text → is_host host ≡ false → None ≡ place_of text
no_host text host rest front behind is = at_host text host rest false front behind is

-- ---- a place begins with its host

abbrev first_or : List ℕ → Option (List ℕ × Option (List ℕ)) → List ℕ
first_or other None = other
first_or other (Some x) = x.0

by_port : (a host : List ℕ) (digits : Option (List ℕ)) (o : Option (Option (List ℕ)))
    → option_map {U = List ℕ × Option (List ℕ)} (λ port. (a, port)) o ≡ Some (host, digits) → a ≡ host
by_port a host digits None e = absurd cc
by_port a host digits (Some p) e = ap (first_or a) e

begins_by : (front a b host : List ℕ) (digits : Option (List ℕ)) (t : Bool) → front ≡ a ++ b → cond t (with_port a b) None ≡ Some (host, digits) → front ≡ host ++ b
begins_by front a b host digits true whole e = whole ∙ ap (λ (w : List ℕ). w ++ b) (by_port a host digits (port_of b) e)
begins_by front a b host digits false whole e = absurd cc

pub host_first : (front host : List ℕ) (digits : Option (List ℕ)) → place_of front ≡ Some (host, digits) → front ≡ host ++ drop (host_length front) front
host_first front host digits e =
    begins_by front (take (host_length front) front) (drop (host_length front) front) host digits (is_host (take (host_length front) front))
    (sym (take-append-drop (host_length front) front)) (sym (place_is front) ∙ e)

-- ---- a host name

next : (n : ℕ) → 1 + n ≡ suc n
next n = omega arith

take_next : (n b : ℕ) (bs : List ℕ) → take (1 + n) (b ∷ bs) ≡ b ∷ take n bs
take_next n b bs = ap (λ (k : ℕ). take k (b ∷ bs)) (next n)

drop_next : (n b : ℕ) (bs : List ℕ) → drop (1 + n) (b ∷ bs) ≡ drop n bs
drop_next n b bs = ap (λ (k : ℕ). drop k (b ∷ bs)) (next n)

no_colon : (b : ℕ) → (b == 58) ≡ true → is_host_byte b ≡ true → ⊥
no_colon b is host = grind arith

-- what stands before a `:` is of the bytes of a name, and then all of them; or there is another byte, which begins no port
record IsNamed (text : List ℕ) : Type 0 where
  good : list_all is_host_byte (take (prefix_len (is_not 58) text) text) ≡ true → prefix_len (is_not 58) text ≡ prefix_len is_host_byte text
  bad : list_all is_host_byte (take (prefix_len (is_not 58) text) text) ≡ false → port_of (drop (prefix_len is_host_byte text) text) ≡ None

by_both : (b : ℕ) (bs : List ℕ) (colon host : Bool) → (b == 58) ≡ colon → is_host_byte b ≡ host → IsNamed bs → IsNamed (b ∷ bs)
by_both b bs true true p q ih = absurd (no_colon b p q)
by_both b bs true false p q ih =
    let all : list_all is_host_byte (take (prefix_len (is_not 58) (b ∷ bs)) (b ∷ bs)) ≡ true = rw p refl in
    record { good = λ e. rw (p, q) refl; bad = λ e. absurd (never (sym all ∙ e)) }
  where
    never : true ≡ false → ⊥
    never e = cc
by_both b bs false true p q ih =
    let before : prefix_len (is_not 58) (b ∷ bs) ≡ 1 + prefix_len (is_not 58) bs = rw p refl in
    let names : prefix_len is_host_byte (b ∷ bs) ≡ 1 + prefix_len is_host_byte bs = rw q refl in
    let all : list_all is_host_byte (take (prefix_len (is_not 58) (b ∷ bs)) (b ∷ bs)) ≡ list_all is_host_byte (take (prefix_len (is_not 58) bs) bs) =
    ap (λ (n : ℕ). list_all is_host_byte (take n (b ∷ bs))) before ∙ ap (list_all is_host_byte) (take_next (prefix_len (is_not 58) bs) b bs) ∙ rw q refl in
    record {
      good = λ e. before ∙ ap (λ (n : ℕ). 1 + n) (ih.good (sym all ∙ e)) ∙ sym names;
      bad = λ e. ap (λ (n : ℕ). port_of (drop n (b ∷ bs))) names ∙ ap port_of (drop_next (prefix_len is_host_byte bs) b bs) ∙ ih.bad (sym all ∙ e);
    }
by_both b bs false false p q ih =
    let before : prefix_len (is_not 58) (b ∷ bs) ≡ 1 + prefix_len (is_not 58) bs = rw p refl in
    let none : prefix_len is_host_byte (b ∷ bs) ≡ 0 = rw q refl in
    let all : list_all is_host_byte (take (prefix_len (is_not 58) (b ∷ bs)) (b ∷ bs)) ≡ false =
    ap (λ (n : ℕ). list_all is_host_byte (take n (b ∷ bs))) before ∙ ap (list_all is_host_byte) (take_next (prefix_len (is_not 58) bs) b bs) ∙ rw q refl in
    let no_port : port_of (b ∷ bs) ≡ None = rw p refl in
    record {
      good = λ e. absurd (never (sym all ∙ e));
      bad = λ e. ap (λ (n : ℕ). port_of (drop n (b ∷ bs))) none ∙ no_port;
    }
  where
    never : false ≡ true → ⊥
    never e = cc

named : (text : List ℕ) → IsNamed text
named [] = record { good = λ e. refl; bad = λ e. cc }
named (b ∷ bs) = by_both b bs (b == 58) (is_host_byte b) refl refl (named bs)

-- ---- whether what stands before a `:` is a host

some_name : (text : List ℕ) (n : ℕ) → begins_bracket text ≡ false → list_all is_host_byte (take n text) ≡ true → (length (take n text) == 0) ≡ false
    → is_host (take n text) ≡ true
some_name [] zero plain all some = absurd cc
some_name [] (suc n) plain all some = absurd cc
some_name (b ∷ bs) zero plain all some = absurd cc
some_name (b ∷ bs) (suc n) plain all some = rw plain all

not_name : (text : List ℕ) (n : ℕ) → begins_bracket text ≡ false → list_all is_host_byte (take n text) ≡ false → is_host (take n text) ≡ false
not_name [] zero plain all = refl
not_name [] (suc n) plain all = refl
not_name (b ∷ bs) zero plain all = refl
not_name (b ∷ bs) (suc n) plain all = rw plain all

empty_host : (text : List ℕ) → (length text == 0) ≡ true → is_host text ≡ false
empty_host [] e = refl
empty_host (b ∷ bs) e = absurd (grind arith)

to_colon : (text : List ℕ) → begins_bracket text ≡ false → host_length text ≡ prefix_len (is_not 58) text
to_colon text plain = rw plain refl

by_all : (text host rest : List ℕ) (t : Bool) → list_all is_host_byte (take (prefix_len (is_not 58) text) text) ≡ t → begins_bracket text ≡ false
    → host ≡ take (prefix_len is_host_byte text) text → rest ≡ drop (prefix_len is_host_byte text) text → (length host == 0) ≡ false
    → option_map (λ port. (host, port)) (port_of rest) ≡ place_of text
by_all text host rest true all plain front behind some =
    let long : prefix_len is_host_byte text ≡ host_length text = sym (to_colon text plain ∙ (named text).good all) in
    let before : host ≡ take (host_length text) text = front ∙ ap (λ (n : ℕ). take n text) long in
    let behind_it : rest ≡ drop (host_length text) text = behind ∙ ap (λ (n : ℕ). drop n text) long in
    let here : take (prefix_len (is_not 58) text) text ≡ host = ap (λ (n : ℕ). take n text) (sym (to_colon text plain)) ∙ sym before in
    let is : is_host host ≡ true = ap is_host (sym here) ∙ some_name text (prefix_len (is_not 58) text) plain all (ap (λ (w : List ℕ). length w == 0) here ∙ some) in
    host_here text host rest before behind_it is
by_all text host rest false all plain front behind some =
    let none : port_of rest ≡ None = ap port_of behind ∙ (named text).bad all in
    let before : take (host_length text) text ≡ take (prefix_len (is_not 58) text) text = ap (λ (n : ℕ). take n text) (to_colon text plain) in
    let is : is_host (take (host_length text) text) ≡ false = ap is_host before ∙ not_name text (prefix_len (is_not 58) text) plain all in
    ap (λ o. option_map (λ port. (host, port)) o) none ∙ no_host text (take (host_length text) text) (drop (host_length text) text) refl refl is

pub name_here : (text host rest : List ℕ) → begins_bracket text ≡ false → host ≡ take (prefix_len is_host_byte text) text
    → rest ≡ drop (prefix_len is_host_byte text) text → (length host == 0) ≡ false
    → option_map (λ port. (host, port)) (port_of rest) ≡ place_of text
name_here text host rest plain front behind some = by_all text host rest (list_all is_host_byte (take (prefix_len (is_not 58) text) text)) refl plain front behind some

no_name_by : (text : List ℕ) (t : Bool) → list_all is_host_byte (take (prefix_len (is_not 58) text) text) ≡ t → begins_bracket text ≡ false
    → (length (take (prefix_len is_host_byte text) text) == 0) ≡ true
    → is_host (take (prefix_len (is_not 58) text) text) ≡ false
no_name_by text true all plain none = ap (λ (n : ℕ). is_host (take n text)) ((named text).good all) ∙ empty_host (take (prefix_len is_host_byte text) text) none
no_name_by text false all plain none = not_name text (prefix_len (is_not 58) text) plain all

pub no_name : (text host : List ℕ) → begins_bracket text ≡ false → host ≡ take (prefix_len is_host_byte text) text → (length host == 0) ≡ true → None ≡ place_of text
no_name text host plain front none =
    let is : is_host (take (prefix_len (is_not 58) text) text) ≡ false = no_name_by text (list_all is_host_byte (take (prefix_len (is_not 58) text) text)) refl plain
    (ap (λ (w : List ℕ). length w == 0) (sym front) ∙ none) in
    no_host text (take (host_length text) text) (drop (host_length text) text) refl refl (ap (λ (n : ℕ). is_host (take n text)) (to_colon text plain) ∙ is)

-- ---- a place at the front

and_both : (a b : Bool) → (a && b) ≡ true → (a ≡ true) × (b ≡ true)
and_both true b e = (refl, e)
and_both false b e = absurd cc

run_step : (b : ℕ) (bs : List ℕ) (t : Bool) → is_host_byte b ≡ t → list_all is_host_byte (take (prefix_len is_host_byte bs) bs) ≡ true
    → list_all is_host_byte (take (prefix_len is_host_byte (b ∷ bs)) (b ∷ bs)) ≡ true
run_step b bs true e later =
    let long : prefix_len is_host_byte (b ∷ bs) ≡ 1 + prefix_len is_host_byte bs = rw e refl in
    ap (λ (n : ℕ). list_all is_host_byte (take n (b ∷ bs))) long ∙ ap (list_all is_host_byte) (take_next (prefix_len is_host_byte bs) b bs) ∙ rw e later
run_step b bs false e later =
    let none : prefix_len is_host_byte (b ∷ bs) ≡ 0 = rw e refl in
    ap (λ (n : ℕ). list_all is_host_byte (take n (b ∷ bs))) none

-- the bytes so many are of a name
run : (text : List ℕ) → list_all is_host_byte (take (prefix_len is_host_byte text) text) ≡ true
run [] = refl
run (b ∷ bs) = run_step b bs (is_host_byte b) refl (run bs)

pub name_run : (n : ℕ) (text name : List ℕ) → n ≡ prefix_len is_host_byte text → name ≡ take n text → list_all is_host_byte name ≡ true
name_run n text name long front = ap (list_all is_host_byte) (front ∙ ap (λ (k : ℕ). take k text) long) ∙ run text

run_length : (name rest : List ℕ) → list_all is_host_byte name ≡ true → prefix_len is_host_byte rest ≡ 0 → prefix_len is_host_byte (name ++ rest) ≡ length name
run_length [] rest all stops = stops
run_length (b ∷ name) rest all stops =
    let both = and_both (is_host_byte b) (list_all is_host_byte name) all in
    rw (both.0, run_length name rest both.1 stops) (next (length name))

no_opening : (b : ℕ) (t : Bool) → (b == 91) ≡ t → is_host_byte b ≡ true → t ≡ false
no_opening b false is host = refl
no_opening b true is host =
    let same : b ≡ 91 = eqb-true b 91 is in
    let never : true ≡ false = sym host ∙ ap is_host_byte same in
    absurd cc

no_bracket : (name rest : List ℕ) → list_all is_host_byte name ≡ true → (length name == 0) ≡ false → begins_bracket (name ++ rest) ≡ false
no_bracket [] rest all some = absurd cc
no_bracket (b ∷ name) rest all some = no_opening b (b == 91) refl (and_both (is_host_byte b) (list_all is_host_byte name) all).0

place_there : (name rest : List ℕ) → list_all is_host_byte name ≡ true → (length name == 0) ≡ false → prefix_len is_host_byte rest ≡ 0
    → option_map (λ port. (name, port)) (port_of rest) ≡ place_of (name ++ rest)
place_there name rest all some stops =
    let long : prefix_len is_host_byte (name ++ rest) ≡ length name = run_length name rest all stops in
    name_here (name ++ rest) name rest (no_bracket name rest all some)
    (sym (ap (λ (n : ℕ). take n (name ++ rest)) long ∙ take_at name rest (length name) refl))
    (sym (ap (λ (n : ℕ). drop n (name ++ rest)) long ∙ drop_at name rest (length name) refl)) some

name_plain : (name : List ℕ) → list_all is_host_byte name ≡ true → list_all is_place_byte name ≡ true
name_plain [] all = refl
name_plain (b ∷ name) all =
    let both = and_both (is_host_byte b) (list_all is_host_byte name) all in
    rw both.0 (name_plain name both.1)

port_plain : (name digits : List ℕ) → list_all is_host_byte name ≡ true → list_all is_host_byte digits ≡ true → list_all is_place_byte (name ++ 58 ∷ digits) ≡ true
port_plain [] digits all of_port = name_plain digits of_port
port_plain (b ∷ name) digits all of_port =
    let both = and_both (is_host_byte b) (list_all is_host_byte name) all in
    rw both.0 (port_plain name digits both.1 of_port)

-- what was cut is what both parts make
pub both_parts : (n : ℕ) (text front rest : List ℕ) → front ≡ take n text → rest ≡ drop n text → text ≡ front ++ rest
both_parts n text front rest before behind = sym (take-append-drop n text) ∙ ap (λ (w : List ℕ). w ++ drop n text) (sym before)
    ∙ ap (λ (w : List ℕ). front ++ w) (sym behind)

-- what follows a name that was split off
pub host_at : (name rest : List ℕ) → list_all is_host_byte name ≡ true → (length name == 0) ≡ false → IsPlaceAt (name ++ rest) name None rest
host_at name rest all some =
    record {
      front = name;
      whole = refl;
      plain = name_plain name all;
      is_place = sym (ap place_of (append-nil name)) ∙ sym (place_there name [] all some refl);
    }

pub name_at : (name rest : List ℕ) → list_all is_host_byte name ≡ true → (length name == 0) ≡ false → IsNameAt (name ++ rest) name rest
name_at name rest all some = record { whole = refl; bytes = all; some = some }

port_is : (digits : List ℕ) (number : ℕ) → port_value digits ≡ Some number → port_of (58 ∷ digits) ≡ Some (Some digits)
port_is digits number is = rw is refl

pub port_at : (name rest after digits last : List ℕ) (number : ℕ) → list_all is_host_byte name ≡ true → (length name == 0) ≡ false → rest ≡ 58 ∷ after
    → after ≡ digits ++ last → port_value digits ≡ Some number
    → IsPlaceAt (name ++ rest) name (Some digits) last
port_at name rest after digits last number all some colon cut is =
    record {
      front = name ++ 58 ∷ digits;
      whole = ap (λ (w : List ℕ). name ++ w) (colon ∙ ap (λ (w : List ℕ). 58 ∷ w) cut) ∙ sym (append_assoc name (58 ∷ digits) last);
      plain = port_plain name digits all (port_bytes digits number is);
      is_place = sym (place_there name (58 ∷ digits) all some refl) ∙ ap (λ o. option_map (λ port. (name, port)) o) (port_is digits number is);
    }
