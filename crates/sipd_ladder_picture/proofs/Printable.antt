-- What is drawn of a text is printable ASCII.
use Rattle.std.proofs.Common.{◌≡◌, ℕ, Bool, true, false, ◌&&◌, ◌==◌, cond, List, [], ◌∷◌, refl, ap, ap₂, ◌∙◌}
use Rattle.std.specs.List.{list_all}
use Rattle.std.specs.Prelude.{codes, nat_lt}
use Rattle.std.specs.Str.{byte}
use Rattle.std.proofs.lemmas.List.Folds.{list_all-append}
use Rattle.sipd_ladder.specs.Saying.{plain}
use Rattle.sipd_report.specs.Html.{escaped_byte}
use Rattle.sipd_ladder_picture.specs.Parts.{is_printable, shown}

-- a byte that is plain
plain_by : (b : ℕ) (is : Bool) → (nat_lt 31 b && nat_lt b 127) ≡ is → is_printable (cond is b (byte "?")) ≡ true
plain_by b true e = e
plain_by b false e = refl

-- the name or the number of a byte, or itself
module _ (b : ℕ) where
  named : is_printable b ≡ true → (amp lt gt quote tick : Bool)
      → list_all is_printable (cond amp (codes "&amp;") (cond lt (codes "&lt;") (cond gt (codes "&gt;") (cond quote (codes "&quot;") (cond tick (codes "&#39;") (b ∷ []))))))
      ≡ true
  named e true lt gt quote tick = refl
  named e false true gt quote tick = refl
  named e false false true quote tick = refl
  named e false false false true tick = refl
  named e false false false false true = refl
  named e false false false false false = ap (λ (x : Bool). x && true) e

  escaped_is : is_printable b ≡ true → list_all is_printable (escaped_byte b) ≡ true
  escaped_is e = named e (b == byte "&") (b == byte "<") (b == byte ">") (b == byte "\"") (b == byte "'")

pub printable : (text : List ℕ) → list_all is_printable (shown text) ≡ true
printable [] = refl
printable (b ∷ bs) =
    list_all-append is_printable (escaped_byte (plain b)) (shown bs)
    ∙ ap₂ (λ (x y : Bool). x && y) (escaped_is (plain b) (plain_by b (nat_lt 31 b && nat_lt b 127) refl)) (printable bs)
