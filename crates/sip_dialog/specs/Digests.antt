-- Digests in their order, and where each stands.
use Rattle.std.specs.Prelude.{◌≡◌, ℕ, Bool, List, Option, count_by, nat_eq, slice_get, Some, MatchOption}

-- What a list of digests shows: whether two of them may be equal too, and how many more can be put in with no memory.
pub record DigestList : Type 0 where
  pub list : List ℕ
  pub is_shared : Bool
  pub room : ℕ

-- a digest stands at an index, and nowhere else
pub record StandsOnce (digest : ℕ) (list : List ℕ) (at : ℕ) : Type 0 where
  pub there : slice_get list at ≡ Some digest
  pub once : count_by (nat_eq digest) list ≡ 1

-- where a digest stands, if it does
abbrev pub IsPlace : ℕ → List ℕ → Option ℕ → Type 0
IsPlace digest list place = MatchOption place (count_by (nat_eq digest) list ≡ 0) (StandsOnce digest list)

-- each digest is found where it stands
pub record AreFound (list : List ℕ) (places : ℕ → Option ℕ) : Type 0 where
  pub place : (digest : ℕ) → IsPlace digest list (places digest)
