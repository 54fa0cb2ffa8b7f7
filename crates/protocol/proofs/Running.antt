-- Runs that go on, and runs as a loop makes them. Assumes nothing.
use Rattle.std.proofs.Common.{◌≡◌, ℕ, zero, suc, ◌+◌, ◌<◌, ◌≤◌, List, [], ◌∷◌, ◌++◌, length, get_or, take, sym, refl, ap, ◌∙◌, add-zero, add-suc, arith}
use Rattle.std.proofs.lemmas.List.{get_or_append_left, get_or-append-add, take_more}
use Rattle.quorum.specs.Rules.{Rule}
use Rattle.protocol.specs.State.{State}
use Rattle.protocol.specs.Runs.{step, runs, call_at, after, said}
use Rattle.protocol.specs.declared.answer.Answer.{Answer}
use Rattle.protocol.specs.declared.call.Call.{Call}
use Rattle.protocol.specs.declared.call.Call.TheVariants.{Known}

module _ (R : Rule) where
  -- what comes later changes nothing of what was
  module _ (s : State) (xs ys : List Call) where
    pub call-left : (t : ℕ) → t < length xs → call_at (xs ++ ys) t ≡ call_at xs t
    call-left t l = get_or_append_left xs ys (Known 0) t l

    pub call-right : (t : ℕ) → call_at (xs ++ ys) (length xs + t) ≡ call_at ys t
    call-right t = get_or-append-add xs ys t (Known 0)

    pub after-left : (t : ℕ) → t ≤ length xs → after R s (xs ++ ys) t ≡ after R s xs t
    unfolding after
    after-left zero l = refl
    after-left (suc t) l =
        ap (λ u. (step R u (call_at (xs ++ ys) t)).1) (after-left t (omega arith)) ∙ ap (λ c. (step R (after R s xs t) c).1) (call-left t (omega arith))

    pub said-left : (t : ℕ) → t < length xs → said R s (xs ++ ys) t ≡ said R s xs t
    unfolding said
    said-left t l =
        ap (λ u. (step R u (call_at (xs ++ ys) t)).0) (after-left t (omega arith)) ∙ ap (λ c. (step R (after R s xs t) c).0) (call-left t l)

    pub after-right : (t : ℕ) → after R s (xs ++ ys) (length xs + t) ≡ after R (after R s xs (length xs)) ys t
    unfolding after
    after-right zero = ap (after R s (xs ++ ys)) (add-zero (length xs)) ∙ after-left (length xs) (omega arith)
    after-right (suc t) =
        ap (after R s (xs ++ ys)) (add-suc (length xs) t)
        ∙ ap (λ u. (step R u (call_at (xs ++ ys) (length xs + t))).1) (after-right t)
        ∙ ap (λ c. (step R (after R (after R s xs (length xs)) ys t) c).1) (call-right t)

    pub said-right : (t : ℕ) → said R s (xs ++ ys) (length xs + t) ≡ said R (after R s xs (length xs)) ys t
    unfolding said
    said-right t =
        ap (λ u. (step R u (call_at (xs ++ ys) (length xs + t))).0) (after-right t)
        ∙ ap (λ c. (step R (after R (after R s xs (length xs)) ys t) c).0) (call-right t)

  pub runs_append : (s : State) (xs ys : List Call)
      → runs R s (xs ++ ys) ≡ ((runs R s xs).0 ++ (runs R (runs R s xs).1 ys).0, (runs R (runs R s xs).1 ys).1)
  unfolding runs
  runs_append s [] ys = refl
  runs_append s (x ∷ xs) ys = ap (λ (r : List Answer × State). ((step R s x).0 ∷ r.0, r.1)) (runs_append (step R s x).1 xs ys)

  -- one call more, as a loop makes it
  pub runs-more : (s : State) (cs : List Call) (i : ℕ) (c : Call) → i < length cs
      → runs R s (take (i + 1) cs)
      ≡ (let r = runs R s (take i cs) in let n = step R r.1 (get_or cs i c) in (r.0 ++ n.0 ∷ [], n.1))
  unfolding runs
  runs-more s cs i c l = ap (runs R s) (take_more cs i c l) ∙ runs_append s (take i cs) (get_or cs i c ∷ [])

  -- a history goes on
  pub runs_on : (start : State) (past : List Call) (s : State) (cs : List Call) → (runs R start past).1 ≡ s
      → (runs R start (past ++ cs)).1 ≡ (runs R s cs).1
  runs_on start past s cs e =
      ap (λ (r : List Answer × State). r.1) (runs_append start past cs) ∙ ap (λ u. (runs R u cs).1) e

  -- the fold and the state by its time
  first_step : (s : State) (c : Call) (cs : List Call) (t : ℕ) → after R s (c ∷ cs) (suc t) ≡ after R (step R s c).1 cs t
  unfolding after
  first_step s c cs zero = refl
  first_step s c cs (suc t) = ap (λ u. (step R u (call_at cs t)).1) (first_step s c cs t)

  pub runs_after : (s : State) (cs : List Call) → (runs R s cs).1 ≡ after R s cs (length cs)
  unfolding runs after
  runs_after s [] = refl
  runs_after s (c ∷ cs) = runs_after (step R s c).1 cs ∙ sym (first_step s c cs (length cs))

  pub runs-length : (s : State) (cs : List Call) → length (runs R s cs).0 ≡ length cs
  unfolding runs
  runs-length s [] = refl
  runs-length s (c ∷ cs) = ap suc (runs-length (step R s c).1 cs)

  pub runs-said : (s : State) (cs : List Call) (t : ℕ) (a : Answer) → t < length cs → get_or (runs R s cs).0 t a ≡ said R s cs t
  unfolding runs said after
  runs-said s [] t a l = let z : ⊥ = omega arith in absurd z
  runs-said s (c ∷ cs) zero a l = refl
  runs-said s (c ∷ cs) (suc t) a l =
      runs-said (step R s c).1 cs t a (omega arith) ∙ ap (λ u. (step R u (call_at cs t)).0) (sym (first_step s c cs t))
