-- What sets weigh, and that two sets of more than half the weight share an account: proofs that the rules carry, and nothing to believe.
use Rattle.std.specs.Prelude.{◌≡◌, ℕ, zero, suc, ◌+◌, ◌*◌, ◌<◌, ◌≤◌, Bool, true, false, cond, ◌⊎◌, nat_lt}
use Rattle.std.proofs.Math.Path.{refl}
use Rattle.std.proofs.Common.{subst, zero-le, add-one}
use Rattle.std.proofs.Math.Logic.{inl, inr}
use native.Mathlib.Omega.{arith}
use borrow.Author.Tests.{lt-ltb, ltb-true}
use Rattle.quorum.specs.Rules.{Set, Lawful}
use Rattle.quorum.specs.Weights.{weight, everyone, weighted, majority}

module _ (w : ℕ → ℕ) where
  Shared : ℕ → Set → Set → Type 0
  Shared n S T = (k : ℕ) × (k < n) × (S k ≡ true) × (T k ≡ true)

  part-wider : (a b : Bool) (x : ℕ) → (a ≡ true → b ≡ true) → cond a x 0 ≤ cond b x 0
  part-wider true b x h = rw (h refl) (omega arith)
  part-wider false b x h = zero-le

  wider : (n : ℕ) (S T : Set) → ((k : ℕ) → k < n → S k ≡ true → T k ≡ true) → weight w n S ≤ weight w n T
  wider zero S T h = zero-le
  wider (suc n) S T h =
      let rest = wider n S T (λ k l. h k (omega arith)) in
      let last = part-wider (S n) (T n) (w n) (h n (omega arith)) in
      omega arith

  -- two sets share an account, or weigh together no more than all accounts
  apart : (n : ℕ) (S T : Set) → Shared n S T ⊎ (weight w n S + weight w n T ≤ weight w n everyone)
  unfolding Shared
  apart zero S T = inr (omega arith)
  apart (suc n) S T = step (S n) (T n) refl refl (apart n S T)
    where
      step : (a b : Bool) → S n ≡ a → T n ≡ b → Shared n S T ⊎ (weight w n S + weight w n T ≤ weight w n everyone)
          → Shared (suc n) S T ⊎ (weight w n S + cond a (w n) 0 + (weight w n T + cond b (w n) 0) ≤ weight w n everyone + w n)
      step a b p q (inl h) = inl (h.0, omega arith, h.2, h.3)
      step true true p q (inr l) = inl (n, omega arith, p, q)
      step true false p q (inr l) = inr (omega arith)
      step false b p q (inr l) = inr (part b)
        where
          part : (x : Bool) → weight w n S + 0 + (weight w n T + cond x (w n) 0) ≤ weight w n everyone + w n
          part true = omega arith
          part false = omega arith

  pub weighted-lawful : (n : ℕ) → 1 ≤ n → n ≤ 7 → 1 ≤ weight w n everyone → Lawful (weighted w n)
  unfolding Shared
  weighted-lawful n low high heavy =
      record {
        some = low;
        few = high;
        all = lt-ltb _ _ (omega arith);
        wider = λ S T h q. let p = ltb-true _ _ q in let l = wider n S T h in lt-ltb _ _ (omega arith);
        share = λ S T p q. meet S T (ltb-true _ _ p) (ltb-true _ _ q) (apart n S T);
      }
    where
      meet : (S T : Set) → weight w n everyone < 2 * weight w n S → weight w n everyone < 2 * weight w n T
          → Shared n S T ⊎ (weight w n S + weight w n T ≤ weight w n everyone) → Shared n S T
      meet S T p q (inl h) = h
      meet S T p q (inr l) = let z : ⊥ = omega arith in absurd z

-- one account more
pub weight-with : (w : ℕ → ℕ) (i : ℕ) (S : Set) → S i ≡ true → weight w (i + 1) S ≡ weight w i S + w i
weight-with w i S e = rw (add-one, e)

pub weight-without : (w : ℕ → ℕ) (i : ℕ) (S : Set) → S i ≡ false → weight w (i + 1) S ≡ weight w i S
weight-without w i S e = rw (add-one, e) (omega arith)

pub members-all : (n : ℕ) → weight (λ _. 1) n everyone ≡ n
members-all zero = refl
members-all (suc n) = let e = members-all n in omega arith

pub members-few : (n : ℕ) (S : Set) → weight (λ _. 1) n S ≤ n
members-few n S = let l = wider (λ _. 1) n S everyone (λ k g h. refl) in let e = members-all n in omega arith

-- a majority is more than half the weight where each account weighs 1
pub majority-lawful : (n : ℕ) → 1 ≤ n → n ≤ 7 → Lawful (majority n)
majority-lawful n low high =
    let e = members-all n in
    let same : weighted (λ _. 1) n ≡ majority n = λ i. record { size = n; is_quorum = λ S. nat_lt (e i) (2 * weight (λ _. 1) n S) } in
    subst Lawful same (weighted-lawful (λ _. 1) n low high (omega arith))

-- weights that agree weigh the same
pub weight-same : (v w : ℕ → ℕ) (n : ℕ) (S : Set) → ((k : ℕ) → k < n → v k ≡ w k) → weight v n S ≡ weight w n S
weight-same v w zero S h = refl
weight-same v w (suc n) S h = λ i. weight-same v w n S (λ k l. h k (omega arith)) i + cond (S n) (h n (omega arith) i) 0

pub weighted-same : (v w : ℕ → ℕ) (n : ℕ) → ((k : ℕ) → k < n → v k ≡ w k) → weighted v n ≡ weighted w n
weighted-same v w n h =
    λ i. record { size = n; is_quorum = λ S. nat_lt (weight-same v w n everyone h i) (2 * weight-same v w n S h i) }
