-- The two rules: more than half of the accounts, and more than half of their weight.
use Rattle.std.specs.Prelude.{ℕ, zero, suc, ◌+◌, ◌*◌, Bool, true, cond, not, ◌&&◌, List, [], ◌∷◌, length, Ok, Err, Result, ◌==◌, nat_le, nat_lt, slice_index}
use Rattle.record.specs.Checks.{when, unless}
use Rattle.record.specs.declared.refusal.Refusal.{Refusal}
use Rattle.record.specs.declared.refusal.Refusal.TheVariants.{BadAccountCount, NoWeight}
use Rattle.quorum.specs.Rules.{Set, Rule}

-- what those of accounts 0 to n - 1 that are in S weigh together
abbrev pub weight : (ℕ → ℕ) → ℕ → Set → ℕ
weight w zero S = 0
weight w (suc n) S = weight w n S + cond (S n) (w n) 0

abbrev pub everyone : Set
everyone k = true

-- how many of accounts 0 to n - 1 are in S
abbrev pub members : ℕ → Set → ℕ
members n S = weight (λ _. 1) n S

abbrev pub majority : ℕ → Rule
majority n = record { size = n; is_quorum = λ S. nat_lt n (2 * members n S) }

-- account k weighs w k
abbrev pub weighted : (ℕ → ℕ) → ℕ → Rule
weighted w n = record { size = n; is_quorum = λ S. nat_lt (weight w n everyone) (2 * weight w n S) }

-- weights in a list, account 0 first
abbrev pub weight_in : List ℕ → ℕ → ℕ
weight_in ws k = slice_index ws k

abbrev pub total : List ℕ → ℕ
total ws = weight (weight_in ws) (length ws) everyone

-- a rule is for 1 to 7 accounts
abbrev pub is_count : ℕ → Bool
is_count n = nat_le 1 n && nat_le n 7

abbrev pub majority_of : ℕ → Result Rule Refusal
majority_of n = unless (when (not (is_count n)) BadAccountCount ∷ []) (majority n)

abbrev pub weighted_by : List ℕ → Result Rule Refusal
weighted_by ws =
    unless (when (not (is_count (length ws))) BadAccountCount ∷ when (total ws == 0) NoWeight ∷ [])
    (weighted (weight_in ws) (length ws))

-- the rule of what was made, or why nothing was
abbrev pub rule_in : {A : Type 0} → (A → Rule) → Result A Refusal → Result Rule Refusal
rule_in rule (Ok a) = Ok (rule a)
rule_in rule (Err e) = Err e
