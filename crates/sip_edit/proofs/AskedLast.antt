-- A Via with one parameter and an `rport` behind it, which ends its value.
use Rattle.std.proofs.Common.{◌≡◌, ℕ, Bool, true, false, cond, List, [], ◌∷◌, ◌++◌, Option, Some, None, refl, sym, ap, subst, ◌∙◌, append_assoc}
use Rattle.std.specs.Prelude.{decimal, codes, is_some}
use Rattle.std.specs.List.{AllZip}
use Rattle.std.proofs.lemmas.List.{append-nil}
use Rattle.sip_text.specs.Words.{is_token_text, is_same_text}
use Rattle.sip_text.proofs.PartLaws.{only_parts}
use Rattle.sip_uri.specs.declared.addr.Addr.{Addr}
use Rattle.sip_uri.specs.Addresses.{ip_text}
use Rattle.sip_route.specs.header.declared.parameters.HeaderParameter.{HeaderParameter}
use Rattle.sip_route.specs.header.declared.via.Via.{Via}
use Rattle.sip_route.specs.header.Parameters.{IsParameter, parameter_of}
use Rattle.sip_route.specs.header.Via.{via_of, IsVia}
use Rattle.sip_route.proofs.of_header.Words.{AllPassing}
use Rattle.sip_route.proofs.of_header.ParameterLaws.{is_plain, plain_text, written_via}
use Rattle.sip_edit.specs.TopVia.{is_parameter, edited, with_source, received_as, received_via, IsBeforePort}
use Rattle.sip_edit.proofs.Unedited.{named, joined, as_written}

-- ---- what stands before the last `;`

never_plain : (xs ys zs ws : List ℕ) → AllPassing is_plain (xs ++ 59 ∷ ys) → zs ≡ ws
never_plain [] ys zs ws all =
    let never : is_plain 59 ≡ true = all.0 in
    absurd cc
never_plain (x ∷ xs) ys zs ws all = never_plain xs ys zs ws all.1

cut_last : (before front text last : List ℕ) → AllPassing is_plain text → AllPassing is_plain last → before ++ 59 ∷ text ≡ front ++ 59 ∷ last → before ≡ front
cut_last [] [] text last plain plain_last same = refl
cut_last [] (f ∷ front) text last plain plain_last same =
    let rest : text ≡ front ++ 59 ∷ last = cc in
    never_plain front last [] (f ∷ front) (subst (AllPassing is_plain) rest plain)
cut_last (b ∷ before) [] text last plain plain_last same =
    let rest : last ≡ before ++ 59 ∷ text = cc in
    never_plain before text (b ∷ before) [] (subst (AllPassing is_plain) rest plain_last)
cut_last (b ∷ before) (f ∷ front) text last plain plain_last same =
    let first : b ≡ f = cc in
    let rest : before ++ 59 ∷ text ≡ front ++ 59 ∷ last = cc in
    ap (λ (k : ℕ). k ∷ before) first ∙ ap (λ (w : List ℕ). f ∷ w) (cut_last before front text last plain plain_last rest)

-- ---- the two parameters

abbrev port : HeaderParameter
port = record { name = codes "rport"; value = None }

bare : (text : List ℕ) → IsParameter text port → AllPassing is_plain text
bare text h = plain_text text (ap is_token_text h.0 ∙ h.1)

port_is_plain : AllPassing is_plain (codes "rport")
port_is_plain = bare (codes "rport") (refl, refl, refl)

parts : (sender mark text asks number source : List ℕ) → sender ++ ((mark ++ text) ++ ((asks ++ number) ++ [])) ++ source ≡ (sender ++ (mark ++ text)) ++ asks ++ number
    ++ source
parts sender mark text asks number source = simp (append_assoc, append-nil)

shape : (sender text asks number source : List ℕ) → sender ++ (59 ∷ text ++ ((asks ++ number) ++ [])) ++ source ≡ (sender ++ 59 ∷ text) ++ asks ++ number ++ source
shape sender text asks number source = parts sender (59 ∷ []) text asks number source

behind : (sender text last : List ℕ) → sender ++ (59 ∷ text ++ (59 ∷ last ++ [])) ≡ (sender ++ 59 ∷ text) ++ 59 ∷ last
behind sender text last = simp (append_assoc, append-nil)

by_texts : (sender host front : List ℕ) (texts : List (List ℕ)) (first : HeaderParameter) (from : Addr) → AllZip IsParameter texts (first ∷ port ∷ []) →
    is_same_text first.name (codes "rport") ≡ false → is_same_text first.name (codes "received") ≡ false → sender ++ as_written texts ≡ front ++ 59 ∷ codes "rport" →
    with_source host from (sender ∷ texts) ≡ front ++ codes ";rport=" ++ decimal from.port ++ (codes ";received=" ++ ip_text from.ip)
by_texts sender host front [] first from are asks received whole = absurd are
by_texts sender host front (a ∷ []) first from are asks received whole = absurd are.1
by_texts sender host front (a ∷ b ∷ []) first from are asks received whole =
    let a_asks : is_parameter (codes "rport") a ≡ false = named (codes "rport") a first are.0 ∙ asks in
    let a_received : is_parameter (codes "received") a ≡ false = named (codes "received") a first are.0 ∙ received in
    let b_asks : is_parameter (codes "rport") b ≡ true = named (codes "rport") b port are.1.0 in
    let b_received : is_parameter (codes "received") b ≡ false = named (codes "received") b port are.1.0 in
    let before : sender ++ 59 ∷ a ≡ front = cut_last (sender ++ 59 ∷ a) front b (codes "rport") (bare b are.1.0) port_is_plain (sym (behind sender a b) ∙ whole) in
    rw (a_asks, a_received, b_asks, b_received)
    (shape sender a (codes ";rport=") (decimal from.port) (codes ";received=" ++ ip_text from.ip)
    ∙ ap (λ (w : List ℕ). w ++ codes ";rport=" ++ decimal from.port ++ (codes ";received=" ++ ip_text from.ip)) before)
by_texts sender host front (a ∷ b ∷ c ∷ texts) first from are asks received whole = absurd are.1.1

-- ---- the value

pub asked_last : (value front : List ℕ) (via : Via) (first : HeaderParameter) → via_of value ≡ Some via
    → via.parameters ≡ first ∷ record { name = codes "rport"; value = None } ∷ [] →
    is_same_text first.name (codes "rport") ≡ false → is_same_text first.name (codes "received") ≡ false → value ≡ front ++ codes ";rport" → IsBeforePort value front
asked_last value front via first is parameters asks received ends = record {
  edited = λ from.
      let w : IsVia value via = written_via value via is in
      ap (λ (o : Option Via). received_as o value from) is
      ∙ ap (with_source via.host from) (sym (only_parts 59 value (w.first ∷ w.texts) w.parted))
      ∙ by_texts w.first via.host front w.texts first from (subst (AllZip IsParameter w.texts) parameters w.are_parameters) asks received
      (sym (joined w.first w.texts) ∙ w.parted.whole ∙ ends);
}

pub with_port : (value front : List ℕ) (from : Addr) → IsBeforePort value front → received_via value from ≡ front ++ codes ";rport=" ++ decimal from.port
    ++ (codes ";received=" ++ ip_text from.ip)
with_port value front from is = is.edited from

-- ---- whether it asks

either : (t : Bool) (first last : HeaderParameter) → is_some (cond t (Some first) (Some last)) ≡ true
either true first last = refl
either false first last = refl

pub asks : (parameters : List HeaderParameter) (first : HeaderParameter) → parameters ≡ first ∷ record { name = codes "rport"; value = None } ∷ []
    → true ≡ is_some (parameter_of (codes "rport") parameters)
asks parameters first is = sym (ap (λ (w : List HeaderParameter). is_some (parameter_of (codes "rport") w)) is
    ∙ either (is_same_text first.name (codes "rport")) first port)
