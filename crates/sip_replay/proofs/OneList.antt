-- A script says one list of events, since it says each next one in one way.
use Rattle.std.proofs.Common.{◌≡◌, ◌≢◌, ℕ, List, [], ◌∷◌, ◌++◌, drop, length, refl, sym, ◌∙◌, ap, ap₂, subst, arith, append_assoc}
use Rattle.sip_event.specs.declared.event.Event.{Event}
use Rattle.sip_replay_script.specs.Events.{SaysEvent, SaysEvents, IsNoEvent}

pub rest_is : (front xs ys : List ℕ) → front ++ xs ≡ front ++ ys → xs ≡ ys
rest_is [] xs ys e = e
rest_is (b ∷ front) xs ys e = rest_is front xs ys (ap (drop 1) e)

front_is : (front xs : List ℕ) → front ++ xs ≡ [] → front ≡ []
front_is [] xs e = refl
front_is (b ∷ front) xs e = absurd (omega (arith, ap length e))

module _ (one : (text other more further : List ℕ) (event second : Event) → SaysEvent text event → SaysEvent other second → text ++ more ≡ other ++ further
    → (text ≡ other) × (event ≡ second))
    (something : (text : List ℕ) (event : Event) → SaysEvent text event → text ≢ []) where
  pub one_list : (events others : List Event) (text : List ℕ) → SaysEvents events text → SaysEvents others text → events ≡ others
  one_list [] [] text a b = refl
  one_list [] (f ∷ others) text a b = absurd (something b.first f b.says (front_is b.first b.rest (sym b.cut ∙ a)))
  one_list (e ∷ events) [] text a b = absurd (something a.first e a.says (front_is a.first a.rest (sym a.cut ∙ b)))
  one_list (e ∷ events) (f ∷ others) text a b =
      let same = one a.first b.first a.rest b.rest e f a.says b.says (sym a.cut ∙ b.cut) in
      let rest : b.rest ≡ a.rest = rest_is b.first b.rest a.rest (sym b.cut ∙ a.cut ∙ ap (λ (l : List ℕ). l ++ a.rest) same.0) in
      ap₂ (λ (x : Event) (xs : List Event). x ∷ xs) same.1 (one_list events others a.rest a.others (subst (SaysEvents others) rest b.others))

  module _ (refused : (text more : List ℕ) (event : Event) → SaysEvent text event → IsNoEvent (text ++ more) → ⊥) (refuses : (rest : List ℕ) → IsNoEvent rest
      → rest ≢ []) where
    pub no_list : (events others : List Event) (text rest : List ℕ) → SaysEvents events text → IsNoEvent rest → SaysEvents others (text ++ rest) → ⊥
    no_list [] [] text rest a none b = refuses rest none (ap (λ (l : List ℕ). l ++ rest) (sym a) ∙ b)
    no_list [] (f ∷ others) text rest a none b =
        refused b.first b.rest f b.says (subst IsNoEvent (ap (λ (l : List ℕ). l ++ rest) (sym a) ∙ b.cut) none)
    no_list (e ∷ events) [] text rest a none b =
        something a.first e a.says (front_is a.first (a.rest ++ rest) (sym (append_assoc a.first a.rest rest) ∙ ap (λ (l : List ℕ). l ++ rest) (sym a.cut) ∙ b))
    no_list (e ∷ events) (f ∷ others) text rest a none b =
        let whole : a.first ++ (a.rest ++ rest) ≡ b.first ++ b.rest = sym (append_assoc a.first a.rest rest) ∙ ap (λ (l : List ℕ). l ++ rest) (sym a.cut) ∙ b.cut in
        let same = one a.first b.first (a.rest ++ rest) b.rest e f a.says b.says whole in
        let left : b.rest ≡ a.rest ++ rest = rest_is b.first b.rest (a.rest ++ rest) (sym whole ∙ ap (λ (l : List ℕ). l ++ (a.rest ++ rest)) same.0) in
        no_list events others a.rest rest a.others none (subst (SaysEvents others) left b.others)
