-- The files of records that are named, one by one or by their folder. Which path finds a folder, and what stands in it, no clause can say.
use Rattle.std.specs.Prelude.{◌≡◌, ◌⊎◌, ℕ, List, [], ◌∷◌, ◌++◌, codes, map}
use Rattle.sipd_record_files.specs.RecordNames.{name_of}

-- these are records of a folder
pub record AreInFolder (folder : List ℕ) (files : List (List ℕ)) : Type 0 where
  pub numbers : List ℕ
  pub names : files ≡ map (λ n. name_of folder n (codes "record")) numbers

-- what a path names: a file, or records of a folder
abbrev pub AreOf : List ℕ → List (List ℕ) → Type 0
AreOf path files = (files ≡ path ∷ []) ⊎ AreInFolder path files

-- these stand behind others
pub record AddsFiles (path : List ℕ) (old new : List (List ℕ)) : Type 0 where
  pub own : List (List ℕ)
  pub behind : new ≡ old ++ own
  pub are : AreOf path own

-- what one path names, and what others name
pub record AreFirst (path : List ℕ) (files : List (List ℕ)) (AreOthers : List (List ℕ) → Type 0) : Type 0 where
  pub own : List (List ℕ)
  pub rest : List (List ℕ)
  pub cut : files ≡ own ++ rest
  pub are : AreOf path own
  pub others : AreOthers rest

-- what paths name, in their order
abbrev pub AreNamed : List (List ℕ) → List (List ℕ) → Type 0
AreNamed [] files = files ≡ []
AreNamed (path ∷ paths) files = AreFirst path files (AreNamed paths)
