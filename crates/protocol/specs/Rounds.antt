-- The law that a round ends: a device's round over a quorum that it can reach answers its open proposal.
use Rattle.std.specs.Prelude.{◌≡◌, ℕ, zero, suc, ◌+◌, ◌*◌, ◌<◌, ◌≤◌, true, cond, ◌⊎◌, List, [], ◌∷◌, ◌++◌, map, length, ◌≢◌}
use Rattle.quorum.specs.Rules.{Set, Rule, Lawful}
use Rattle.protocol.specs.Device.{last_attempt, link_at}
use Rattle.protocol.specs.State.{State, book_at, log_at, device_at}
use Rattle.protocol.specs.Runs.{New, runs, after, said}
use Rattle.protocol.specs.Chain.{Opens, Closes, Answered}
use Rattle.protocol.specs.declared.answer.Answer.TheVariants.{Attempt}
use Rattle.protocol.specs.declared.call.Call.{Call}
use Rattle.protocol.specs.declared.call.Call.TheVariants.{Send, Read, Again}
use Rattle.protocol.specs.declared.link.Link.TheVariants.{Up}

abbrev pub Has : ℕ → List ℕ → Type 0
Has k [] = ⊥
Has k (x ∷ xs) = (k ≡ x) ⊎ Has k xs

abbrev pub Once : List ℕ → Type 0
Once [] = Unit {0}
Once (x ∷ xs) = (Has x xs → ⊥) × Once xs

-- xs names each of the rule's accounts that are in the set S once, in some order, and no other
pub record Names (R : Rule) (S : Set) (xs : List ℕ) : Type 0 where
  pub once : Once xs
  pub only : (k : ℕ) → Has k xs → (k < R.size) × (S k ≡ true)
  pub each : (k : ℕ) → k < R.size → S k ≡ true → Has k xs

-- how many of the first n accounts are in the set
abbrev pub members : Set → ℕ → ℕ
members S zero = 0
members S (suc n) = cond (S n) 1 0 + members S n

-- an order of the accounts for each pass of a round
pub record Orders : Type 0 where
  pub first : List ℕ
  pub second : List ℕ
  pub third : List ℕ
  pub fourth : List ℕ
  pub fifth : List ℕ

-- all of them of the set S
pub record Orderly (R : Rule) (S : Set) (o : Orders) : Type 0 where
  pub first : Names R S o.first
  pub second : Names R S o.second
  pub third : Names R S o.third
  pub fourth : Names R S o.fourth
  pub fifth : Names R S o.fifth

abbrev pub read_each : ℕ → List ℕ → List Call
read_each d ks = map (λ k. Read d k) ks

abbrev pub send_each : ℕ → List ℕ → List Call
send_each d ks = map (λ k. Send d k) ks

-- device d's round: read each, again, send to each, read each, send to each, read each
abbrev pub round : ℕ → Orders → List Call
round d o =
    read_each d o.first
    ++ (Again d ∷ (send_each d o.second ++ (read_each d o.third ++ (send_each d o.fourth ++ read_each d o.fifth))))

-- after the calls cs device d has the proposal of call i open, up links to a quorum S, and room for two records in each account of it;
-- and nobody has used the last attempt
pub record Ready (R : Rule) (s : State) (cs : List Call) (d i : ℕ) (S : Set) : Type 0 where
  pub opened : Opens R s cs d i
  pub still_open : (m : ℕ) → i < m → m < length cs → Closes R s cs d m → ⊥
  pub quorum : R.is_quorum S ≡ true
  pub up : (k : ℕ) → k < R.size → S k ≡ true → link_at (device_at (after R s cs (length cs)) d) k ≡ Up
  pub room : (k : ℕ) → k < R.size → S k ≡ true
      → length (log_at (after R s cs (length cs)) k) + 2 ≤ (book_at (after R s cs (length cs)) k).maximum
  pub unused : (j : ℕ) → j < length cs → said R s cs j ≢ Attempt last_attempt

-- the round's 5p + 1 calls, right after the calls cs, answer the proposal of call i, whatever follows
pub record Ends (R : Rule) (s : State) (cs : List Call) (d i : ℕ) (S : Set) (o : Orders) : Type 0 where
  pub count : length (round d o) ≡ 5 * members S R.size + 1
  pub answered : (rest : List Call)
      → (j : ℕ) × (length cs ≤ j) × (j < length cs + length (round d o)) × Answered R s (cs ++ (round d o ++ rest)) d i j

abbrev pub A-round-ends : Type 0
A-round-ends =
    (R : Rule) → Lawful R → (s : State) → New R s → (cs : List Call) (d i : ℕ) (S : Set) → Ready R s cs d i S
    → (o : Orders) → Orderly R S o → Ends R s cs d i S o

-- the same for a group at hand, whatever calls to a new group have led to its state s
abbrev pub RoundEndsFrom : Rule → State → ℕ → Set → Orders → Type 0
RoundEndsFrom R s d S o =
    (start : State) → New R start → (past : List Call) → (runs R start past).1 ≡ s → (i : ℕ) → Ready R start past d i S → Ends R start past d i S o
