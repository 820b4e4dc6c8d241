-- What was written of a configuration says it, or is a front of what does.
use Rattle.std.proofs.Common.{◌≡◌, ℕ, ◌+◌, ◌≤◌, ◌<◌, List, [], ◌∷◌, ◌++◌, length, take, drop, Bool, true, false, Option, Some, None, Result, Ok, Err, OnOk, refl, sym}
use Rattle.std.proofs.Common.{◌∙◌, ap, subst, arith, append-nil, append_assoc, length-append, take-append-drop}
use Rattle.std.specs.Prelude.{count_by, not, OnErr}
use Rattle.std.specs.Result.{is_err, is_ok}
use Rattle.std.proofs.lemmas.List.{drop-drop, drop_all, length-take, length-take-le, take-take, take_at}
use Rattle.std.specs.Io.KnownBytes.{Appends}
use Rattle.std.proofs.KnownBytes.{Appends-nil, Appends-trans}
use Rattle.sip_replay_script.specs.Devices.{WritesFront}
use Rattle.sip_replay_script.specs.Events.{ended}
use Rattle.sip_replay_script.specs.Lines.{EndsAt, is_end}
use Rattle.sip_journal.specs.Segments.{configuration_line, GivesText, SaysConfiguration}
use Rattle.sip_replay_script.proofs.Fronts.{front_first, front_none, front_second}
use Rattle.sip_replay_script.proofs.LineEnds.{ends_add}
use Rattle.sip_journal.proofs.Segments.{gives_both, gives_nothing, gives_one, some_configuration, some_lines}
use Rattle.sip_journal.specs.Record.{GrewKnown, NotesConfiguration}
use Rattle.sip_journal.specs.Recorder.{told, FrontOfConfiguration, FrontOfText, IsFirstPiece, WritesConfiguration, WritesText}
use Rattle.sip_journal.proofs.Recording.{on_ok}

-- what a call says where it went well, and where it didn't
pub ok_is : {X E P : Type 0} (r : Result X E) → is_ok r ≡ true → OnOk r P → P
ok_is (Ok x) e p = p
ok_is (Err y) e p = absurd cc

pub err_is : {X E P : Type 0} (r : Result X E) → is_err r ≡ true → OnErr r P → P
err_is (Ok x) e p = absurd cc
err_is (Err y) e p = p

-- ---- the first piece

no_end_marked : (mark bytes : List ℕ) → count_by is_end mark ≡ 0 → count_by is_end bytes ≡ 0 → count_by is_end (mark ++ bytes) ≡ 0
no_end_marked mark bytes none single = let sum : count_by is_end (mark ++ bytes) ≡ count_by is_end mark + count_by is_end bytes = ends_add mark bytes in
    omega (arith, sum, none, single)

-- how long what stands near is
near_most : (text near : List ℕ) (most : ℕ) → near ≡ take most text → length near ≤ most
near_most text near most is = omega (arith, ap length is, length-take most text)

near_within : (text near : List ℕ) (most : ℕ) → near ≡ take most text → length near ≤ length text
near_within text near most is = omega (arith, ap length is, length-take most text)

-- a line that stands near
pub ended_piece : (text near bytes : List ℕ) (most place : ℕ) → near ≡ take most text → most ≤ 131072 → EndsAt near place → bytes ≡ take place near
    → IsFirstPiece text (61 ∷ 32 ∷ []) bytes (place + 1)
ended_piece text near bytes most place is few ends bytes_are = record {
  is_line = record {
    short = omega (arith, both, size, inside, near_most text near most is, few);
    single = no_end_marked (61 ∷ 32 ∷ []) bytes refl (ap (count_by is_end) bytes_are ∙ ends.single);
  };
  gives = ap (λ (l : List ℕ). Some l) (ap ended bytes_are ∙ sym front_is);
  some = omega arith;
  within = omega (arith, inside, near_within text near most is);
  short = omega (arith, marked, size, inside, near_most text near most is, few);
} where
  inside : place < length near
  inside = ends.inside

  front_size : length (take place near) ≡ place
  front_size = length-take-le place near (omega (arith, inside))

  size : length bytes ≡ place
  size = ap length bytes_are ∙ front_size

  marked : length {A = ℕ} (61 ∷ 32 ∷ []) ≡ 2
  marked = refl

  both : length {A = ℕ} (61 ∷ 32 ∷ bytes) ≡ 2 + length bytes
  both = length-append {A = ℕ} (61 ∷ 32 ∷ []) bytes

  ended_size : length (ended (take place near)) ≡ place + 1
  ended_size = let sum : length (ended (take place near)) ≡ length (take place near) + 1 = length-append (take place near) (10 ∷ []) in omega (arith, sum, front_size)

  front_is : take (place + 1) text ≡ ended (take place near)
  front_is =
      sym (take-take (place + 1) most text (omega (arith, inside, near_most text near most is)))
      ∙ ap (take (place + 1)) (sym is ∙ ends.cut ∙ sym (append_assoc (take place near) (10 ∷ []) (drop (place + 1) near)))
      ∙ take_at (ended (take place near)) (drop (place + 1) near) (place + 1) ended_size

-- ---- the lines of a text

pub writes_none : (a : Option (List ℕ)) (text : List ℕ) → WritesText a a text text
writes_none a text = record { done = []; lines = []; cut = refl; gives = gives_nothing; written = Appends-nil a }

pub writes_more : (a b c : Option (List ℕ)) (text mark bytes line : List ℕ) (at count : ℕ) → WritesText a b text (drop at text)
    → IsFirstPiece (drop at text) mark bytes count → line ≡ mark ++ (bytes ++ 10 ∷ []) → Appends b c line
    → WritesText a c text (drop (at + count) text)
writes_more a b c text mark bytes line at count w p is h = record {
  done = w.done ++ take count (drop at text);
  lines = w.lines ++ ended (mark ++ bytes);
  cut =
      w.cut ∙ ap (λ (l : List ℕ). w.done ++ l) (sym (take-append-drop count (drop at text))
      ∙ ap (λ (l : List ℕ). take count (drop at text) ++ l) (drop-drop count at text))
      ∙ sym (append_assoc w.done (take count (drop at text)) (drop (at + count) text));
  gives = gives_both w.lines (ended (mark ++ bytes)) w.done (take count (drop at text)) w.gives (gives_one (mark ++ bytes) (take count (drop at text)) p.is_line p.gives);
  written = Appends-trans a b c w.lines (ended (mark ++ bytes)) w.written (subst (λ (l : List ℕ). Appends b c l) (is ∙ sym (append_assoc mark bytes (10 ∷ []))) h);
}

pub writes_all : (a b : Option (List ℕ)) (text : List ℕ) (at : ℕ) → WritesText a b text (drop at text) → length text ≤ at → WritesText a b text []
writes_all a b text at w past = subst (λ (l : List ℕ). WritesText a b text l) (drop_all at text past) w

-- a front of them
pub front_of_text : (a b c : Option (List ℕ)) (text mark bytes line : List ℕ) (at count : ℕ) → WritesText a b text (drop at text)
    → IsFirstPiece (drop at text) mark bytes count → line ≡ mark ++ (bytes ++ 10 ∷ []) → WritesFront b c line
    → FrontOfText a c text
front_of_text a b c text mark bytes line at count w p is h =
    let rest = some_lines (drop count (drop at text)) in
    let first : List ℕ = ended (mark ++ bytes) in
    record {
      lines = w.lines ++ (first ++ rest.text);
      gives =
          subst (λ (l : List ℕ). GivesText (w.lines ++ (first ++ rest.text)) l) (ap (λ (l : List ℕ). w.done ++ l) (take-append-drop count (drop at text)) ∙ sym w.cut)
          (gives_both w.lines (first ++ rest.text) w.done (take count (drop at text) ++ drop count (drop at text)) w.gives
          (gives_both first rest.text (take count (drop at text)) (drop count (drop at text)) (gives_one (mark ++ bytes) (take count (drop at text)) p.is_line p.gives)
          rest.gives));
      written = front_second a b c w.lines (first ++ rest.text) w.written (front_first b c first rest.text
          (subst (λ (l : List ℕ). WritesFront b c l) (is ∙ sym (append_assoc mark bytes (10 ∷ []))) h));
    }

-- ---- the whole

gives_done : (a b : Option (List ℕ)) (text : List ℕ) → (w : WritesText a b text []) → GivesText w.lines text
gives_done a b text w = subst (λ (l : List ℕ). GivesText w.lines l) (sym (w.cut ∙ append-nil w.done)) w.gives

line_is : (line last : List ℕ) → line ≡ last ++ ([] ++ 10 ∷ []) → line ≡ ended last
line_is line last is = is

pub writes_configuration : (a b c : Option (List ℕ)) (flushed : Type 0) (configuration line last : List ℕ) → WritesText a b configuration []
    → last ≡ configuration_line configuration → line ≡ last ++ ([] ++ 10 ∷ []) → Appends b c line → flushed
    → WritesConfiguration a c flushed configuration
writes_configuration a b c flushed configuration line last w last_is is h handed_on = record {
  text = w.lines ++ ended (configuration_line configuration);
  says = record { front = w.lines; gives = gives_done a b configuration w; text_is = refl };
  written = Appends-trans a b c w.lines (ended (configuration_line configuration)) w.written
      (subst (λ (l : List ℕ). Appends b c l) (line_is line last is ∙ ap ended last_is) h);
  handed_on = handed_on;
}

pub front_of_lines : (a b : Option (List ℕ)) (configuration : List ℕ) → FrontOfText a b configuration → FrontOfConfiguration a b configuration
front_of_lines a b configuration f = record {
  text = f.lines ++ ended (configuration_line configuration);
  says = record { front = f.lines; gives = f.gives; text_is = refl };
  written = front_first a b f.lines (ended (configuration_line configuration)) f.written;
}

pub front_of_last : (a b c : Option (List ℕ)) (configuration line last : List ℕ) → WritesText a b configuration [] → last ≡ configuration_line configuration
    → line ≡ last ++ ([] ++ 10 ∷ []) → WritesFront b c line → FrontOfConfiguration a c configuration
front_of_last a b c configuration line last w last_is is h = record {
  text = w.lines ++ ended (configuration_line configuration);
  says = record { front = w.lines; gives = gives_done a b configuration w; text_is = refl };
  written = front_second a b c w.lines (ended (configuration_line configuration)) w.written
      (subst (λ (l : List ℕ). WritesFront b c l) (line_is line last is ∙ ap ended last_is) h);
}

-- nothing was written
pub front_of_none : (a : Option (List ℕ)) (configuration : List ℕ) → FrontOfConfiguration a a configuration
front_of_none a configuration = let some = some_configuration configuration in record { text = some.0; says = some.1; written = front_none a some.0 }

-- ---- what a call answers

known_written : (old new : Option (List ℕ)) (flushed : Type 0) (configuration : List ℕ) → WritesConfiguration old new flushed configuration
    → GrewKnown (λ text. SaysConfiguration text configuration) old new
known_written None new flushed configuration w = tt
known_written (Some front) None flushed configuration w = w.written
known_written (Some front) (Some all) flushed configuration w = record { text = w.text; says = w.says; grown = w.written }

pub configured_ok : {E : Type 0} (result : Result (Unit {0}) E) → (before done : Bool) (old new : Option (List ℕ)) (flushed : Type 0) (configuration : List ℕ)
    → before ≡ false → (done ≡ true → WritesConfiguration old new flushed configuration)
    → OnOk result (NotesConfiguration (told before old) (told (not done) new) configuration)
configured_ok result before true old new flushed configuration fresh writes =
    on_ok result (subst (λ b. NotesConfiguration (told b old) (Some new) configuration) (sym fresh) (known_written old new flushed configuration (writes refl)))
configured_ok result before false old new flushed configuration fresh writes = on_ok result tt
