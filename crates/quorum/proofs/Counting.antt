-- What marks count and weigh together, as the rules' loops go over them. Assumes nothing.
use Rattle.std.proofs.Common.{sum, ◌≡◌, ℕ, zero, suc, ◌+◌, ◌<◌, ◌≤◌, Bool, true, false, cond, List, [], ◌∷◌, ◌++◌, length, take, slice_index_or, count_by, refl, sym, ap, ◌∙◌, arith, add-zero, add-one, ◌⊎◌, inl, inr}
use Rattle.std.proofs.lemmas.List.Sums.{count_by_more_yes, count_by_more_no, sum_by-cons}
use Rattle.quorum.specs.Rules.{marked}
use Rattle.quorum.specs.Weights.{weight, weight_in, members, everyone, total}

-- the marked ones of n accounts
pub counted : (S : List Bool) (n : ℕ) → n ≤ length S → count_by (λ m. m) (take n S) ≡ members n (marked S)
counted S zero h = refl
counted S (suc n) h = ap (λ k. count_by (λ m. m) (take k S)) (sym (add-one n)) ∙ step (slice_index_or S n false) refl ∙ ap (λ k. k + cond (slice_index_or S n false) 1 0) (counted S n (omega arith))
  where
    step : (b : Bool) → slice_index_or S n false ≡ b → count_by (λ m. m) (take (n + 1) S) ≡ count_by (λ m. m) (take n S) + cond b 1 0
    step true e = count_by_more_yes (λ m. m) S n false (omega arith) e
    step false e = count_by_more_no (λ m. m) S n false (omega arith) e ∙ sym (add-zero _)

-- weights of marked accounts, from the first account on
abbrev pub weighed : List Bool → List ℕ → ℕ
weighed [] ws = 0
weighed (m ∷ ms) [] = 0
weighed (m ∷ ms) (w ∷ ws) = cond m w 0 + weighed ms ws

pub weighed-none : (S : List Bool) (ws : List ℕ) → (S ≡ []) ⊎ (ws ≡ []) → weighed S ws ≡ 0
weighed-none S ws (inl e) = ap (λ l. weighed l ws) e
weighed-none S ws (inr e) = ap (weighed S) e ∙ none S
  where
    none : (l : List Bool) → weighed l [] ≡ 0
    none [] = refl
    none (m ∷ ms) = refl

-- the first account apart
front : (m : Bool) (S : List Bool) (w : ℕ) (ws : List ℕ) (n : ℕ) → weight (weight_in (w ∷ ws)) (suc n) (marked (m ∷ S)) ≡ cond m w 0 + weight (weight_in ws) n (marked S)
front m S w ws zero = omega arith
front m S w ws (suc n) = let e = front m S w ws n in omega arith

pub weighed-is : (S : List Bool) (ws : List ℕ) (n : ℕ) → n ≤ length S → n ≤ length ws → weighed S (take n ws) ≡ weight (weight_in ws) n (marked S)
weighed-is S ws zero h k = weighed-none S [] (inr refl)
weighed-is [] ws (suc n) h k = absurd (omega arith)
weighed-is (m ∷ S) [] (suc n) h k = absurd (omega arith)
weighed-is (m ∷ S) (w ∷ ws) (suc n) h k = ap (λ x. cond m w 0 + x) (weighed-is S ws n (omega arith) (omega arith)) ∙ sym (front m S w ws n)

-- weights that stand in front of others are told by the same numbers
pub held-in : (xs ws rest : List ℕ) (k : ℕ) → xs ≡ ws → k < length ws → weight_in (xs ++ rest) k ≡ weight_in ws k
held-in xs ws rest k e h = ap (λ l. weight_in (l ++ rest) k) e ∙ at ws k h
  where
    at : (l : List ℕ) (k : ℕ) → k < length l → weight_in (l ++ rest) k ≡ weight_in l k
    at [] k h = absurd (omega arith)
    at (w ∷ l) zero h = refl
    at (w ∷ l) (suc k) h = at l k (omega arith)

-- all weights together
everyone-front : (w : ℕ) (ws : List ℕ) (n : ℕ) → weight (weight_in (w ∷ ws)) (suc n) everyone ≡ w + weight (weight_in ws) n everyone
everyone-front w ws zero = omega arith
everyone-front w ws (suc n) = let e = everyone-front w ws n in omega arith

pub summed : (ws : List ℕ) → sum ws ≡ total ws
summed [] = refl
summed (w ∷ ws) = sum_by-cons (λ x. x) w ws ∙ ap (λ x. w + x) (summed ws) ∙ sym (everyone-front w ws (length ws))
