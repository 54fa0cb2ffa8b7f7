-- How the tables of a line refuse. Assumes nothing.
use Rattle.std.proofs.Common.{◌≡◌, ℕ, zero, suc, ◌+◌, ◌<◌, Bool, true, false, cond, not, List, [], ◌∷◌, length, get_or, replicate, add_comm, add-zero, IsErrAnd, Some, map, Ok, Err, Result, sym, refl, ap, ◌∙◌, arith}
use Rattle.std.proofs.lemmas.Result.{err_from_is_err_and}
use Rattle.std.proofs.lemmas.Bool.{and_left, and_right, and_from, cond-false, eq-eqb, not_from_true}
use Rattle.std.proofs.lemmas.List.{length-replicate, get_or-replicate}
use Rattle.std.proofs.lemmas.List.FromFn.{fill_by_all}
use Rattle.std.specs.List.{range_with_len}
use Rattle.record.specs.Checks.{Check, unless}
use Rattle.record.specs.declared.refusal.Refusal.{Refusal}
use Rattle.record.specs.declared.refusal.Refusal.TheVariants.{WrongCount, BadNumber}
use Rattle.protocol.specs.declared.call.Call.{Call}
use Rattle.script.specs.Commands.{commands, find, letter_of, command_of, field_at, number_at, fit_from, number_checks, read_as, parsed_line}
use Rattle.script.specs.Reading.{numbers_of}
use Rattle.script.specs.Numerals.{fits, number_of}
use Rattle.script.specs.Parts.{number_count}

-- a number is refused if it does not fit, and then always with the same refusal
unfit : (b : Bool) (n : ℕ) (e : Refusal) → Err e ≡ cond (not b) (Err BadNumber) (Ok n) → (b ≡ false) × (e ≡ BadNumber)
unfit true n e h = cc
unfit false n e h = (refl, cc)

-- one that fits is read as what it is
fit : (b : Bool) (n x : ℕ) → Ok x ≡ cond (not b) (Err BadNumber) (Ok n) → (b ≡ true) × (x ≡ n)
fit true n x h = (refl, cc)
fit false n x h = cc

unfit-at : (k : ℕ) (bits : List ℕ) (line : List ℕ) (j : ℕ) → j < length bits → fits (get_or bits j 0) (field_at line (k + j)) ≡ false → fit_from k bits line ≡ false
unfit-at k [] line j h e = absurd (omega arith)
unfit-at k (b ∷ bs) line zero h e = and_left _ _ (rw add-zero at e)
unfit-at k (b ∷ bs) line (suc j) h e = and_right _ _ (unfit-at (suc k) bs line j (omega arith) (let same : k + suc j ≡ suc k + j = omega arith in rw same at e))

-- reading the numbers of a line stops at the first that does not fit
pub stops : {A : Type 0} (bits : List ℕ) (line : List ℕ) (j n : ℕ) (a : A) (r : Result A Refusal) (e : Refusal) → IsErrAnd r (λ y. y ≡ e) → n ≡ number_count line
    → n ≡ length bits → j < length bits → Err e ≡ number_of (get_or bits j 0) (field_at line (1 + j)) → r ≡ unless (number_checks bits line) a
stops bits line j n a r e by is count within h =
    let p = err_from_is_err_and r by in
    let u = unfit (fits (get_or bits j 0) (field_at line (1 + j))) _ e h in
    p.1 ∙ ap (λ d. Err d) (p.2 ∙ u.1)
    ∙ sym (λ i. cond (not (eq-eqb _ _ (sym is ∙ count) i)) (Err WrongCount) (cond (not (unfit-at 1 bits line j within u.0 i)) (Err BadNumber) (Ok a)))

-- the same of n numbers of 32 bits
module _ (n : ℕ) (line : List ℕ) where
  pub stops-narrow : {A : Type 0} (j m : ℕ) (a : A) (r : Result A Refusal) (e : Refusal) → IsErrAnd r (λ y. y ≡ e) → m ≡ number_count line → m ≡ n → j < n
      → Err e ≡ number_of 32 (field_at line (j + 1)) → r ≡ unless (number_checks (replicate n 32) line) a
  stops-narrow j m a r e by count is more h =
      let long : length {A = ℕ} (replicate n 32) ≡ n = length-replicate n 32 in
      stops (replicate n 32) line j m a r e by count (omega arith) (omega arith) (h ∙ (λ i. number_of (sym (get_or-replicate n j 32 0 more) i) (field_at line (add_comm j 1 i))))

  fit-all : (k j : ℕ) → ((i : ℕ) → i < k → fits 32 (field_at line (j + i)) ≡ true) → fit_from j (replicate k 32) line ≡ true
  fit-all zero j fit = refl
  fit-all (suc k) j fit =
      and_from _ _ (rw add-zero at (fit 0 (omega arith))) (fit-all k (suc j) (λ i h. let same : j + suc i ≡ suc j + i = omega arith in rw same at (fit (suc i) (omega arith))))

  pub all-read : (m : ℕ) (xs : List ℕ) → m ≡ number_count line → m ≡ n → length xs ≡ n → ((j : ℕ) → j < n → Ok (get_or xs j 0) ≡ number_of 32 (field_at line (j + 1)))
      → Ok xs ≡ numbers_of n line
  all-read m xs count is long read =
      let whole : number_count line ≡ length {A = ℕ} (replicate n 32) = omega (arith, length-replicate {A = ℕ} n 32) in
      let fits-all : fit_from 1 (replicate n 32) line ≡ true =
      fit-all n 1 (λ i h. ap (λ l. fits 32 (field_at line l)) (omega arith) ∙ (fit (fits 32 (field_at line (i + 1))) _ _ (read i h)).0) in
      ap (λ l. Ok l) (fill_by_all (λ k. number_at line (k + 1)) xs n 0 long (λ i h. (fit (fits 32 (field_at line (i + 1))) _ _ (read i h)).1))
      ∙ sym (cond-false _ _ _ (not_from_true _ (eq-eqb _ _ whole)) ∙ cond-false _ _ _ (not_from_true _ fits-all))

-- what a table refuses, it refuses whatever it lets through
refuses : {A B : Type 0} (cs : List Check) (a : A) (b : B) (e : Refusal) → Err e ≡ unless cs a → Err e ≡ unless cs b
refuses [] a b e h = cc
refuses (c ∷ cs) a b e h = at c.test h (refuses cs a b e)
  where
    at : (t : Bool) → Err e ≡ cond t (Err c.refusal) (unless cs a) → (Err e ≡ unless cs a → Err e ≡ unless cs b) → Err e ≡ cond t (Err c.refusal) (unless cs b)
    at true h rest = cc
    at false h rest = rest h

-- a line of a command of n numbers, where they are refused
pub refused_by : (line : List ℕ) (c n : ℕ) (call : Call) → read_as (find c commands) line ≡ unless (number_checks (replicate n 32) line) call → letter_of (field_at line 0) ≡ Some c
    → (x : Result (List ℕ) Refusal) (r : Result Call Refusal) (e : Refusal) → x ≡ numbers_of n line → x ≡ Err e → IsErrAnd r (λ y. y ≡ e) → r ≡ parsed_line line
unfolding parsed_line
refused_by line c n call form is x r e read was by =
    let p = err_from_is_err_and r by in
    p.1
    ∙ ap (λ d. Err d) p.2
    ∙ refuses (number_checks (replicate n 32) line) (map (λ k. number_at line (k + 1)) (range_with_len 0 n)) call e (sym was ∙ read)
    ∙ sym form
    ∙ ap (λ l. read_as (command_of l) line) (sym is)
