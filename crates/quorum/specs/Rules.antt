-- Which sets of accounts are quorums, and the laws that every rule keeps.
use Rattle.std.specs.Prelude.{◌≡◌, ℕ, ◌<◌, ◌≤◌, Bool, true, false, List, slice_index_or}

-- a set of accounts, which are told by numbers from 0
abbrev pub Set : Type 0
Set = ℕ → Bool

-- the accounts whose marks are set
abbrev pub marked : List Bool → Set
marked marks k = slice_index_or marks k false

-- a rule for accounts 0 to size - 1
pub record Rule : Type 0 where
  pub size : ℕ
  pub is_quorum : Set → Bool

-- whatever of its accounts S holds, T holds too
abbrev pub Within : Rule → Set → Set → Type 0
Within R S T = (k : ℕ) → k < R.size → S k ≡ true → T k ≡ true

pub record Lawful (R : Rule) : Type 0 where
  pub some : 1 ≤ R.size
  pub few : R.size ≤ 7
  -- the set of all its accounts is a quorum
  pub all : R.is_quorum (λ _. true) ≡ true
  -- a set that contains a quorum is one
  pub wider : (S T : Set) → Within R S T → R.is_quorum S ≡ true → R.is_quorum T ≡ true
  -- two quorums share an account
  pub share : (S T : Set) → R.is_quorum S ≡ true → R.is_quorum T ≡ true → (k : ℕ) × (k < R.size) × (S k ≡ true) × (T k ≡ true)
