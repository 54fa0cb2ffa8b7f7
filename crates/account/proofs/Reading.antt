-- The calls on a log and on account k, by the place in the list. Assumes nothing.
use Rattle.std.proofs.Common.{◌≡◌, ℕ, zero, suc, ◌<◌, ◌≤◌, List, [], ◌∷◌, length, get_or, set, Ok, Err, refl, ap, arith}
use Rattle.record.specs.Entry.{Entry}
use Rattle.record.specs.declared.refusal.Refusal.TheVariants.{PastEnd, NoSuchAccount}
use Rattle.account.specs.Books.{Book, Keeps, AllKeep, appended, fetched, appended_at, fetched_at, length_at}

pub fetched-in : (es : List Entry) (i : ℕ) (d : Entry) → i < length es → fetched es i ≡ Ok (get_or es i d)
fetched-in [] i d h = absurd (omega arith)
fetched-in (e ∷ es) zero d h = refl
fetched-in (e ∷ es) (suc i) d h = fetched-in es i d (omega arith)

pub fetched-past : (es : List Entry) (i : ℕ) → length es ≤ i → fetched es i ≡ Err PastEnd
fetched-past [] i h = refl
fetched-past (e ∷ es) zero h = absurd (omega arith)
fetched-past (e ∷ es) (suc i) h = fetched-past es i (omega arith)

-- account k of several, where there is one
module _ (d : Book) where
  pub length-at : (bs : List Book) (k : ℕ) → k < length bs → length_at bs k ≡ Ok (length (get_or bs k d).log)
  length-at [] k h = absurd (omega arith)
  length-at (b ∷ bs) zero h = refl
  length-at (b ∷ bs) (suc k) h = length-at bs k (omega arith)

  pub fetched-at : (bs : List Book) (k i : ℕ) → k < length bs → fetched_at bs k i ≡ fetched (get_or bs k d).log i
  fetched-at [] k i h = absurd (omega arith)
  fetched-at (b ∷ bs) zero i h = refl
  fetched-at (b ∷ bs) (suc k) i h = fetched-at bs k i (omega arith)

  pub appended-at : (bs : List Book) (k : ℕ) (e : Entry) → k < length bs
      → appended_at bs k e ≡ ((appended (get_or bs k d) e).0, set bs k (appended (get_or bs k d) e).1)
  appended-at [] k e h = absurd (omega arith)
  appended-at (b ∷ bs) zero e h = refl
  appended-at (b ∷ bs) (suc k) e h = ap (λ x. (x.0, b ∷ x.1)) (appended-at bs k e (omega arith))

  pub keeps-at : (bs : List Book) (k : ℕ) → AllKeep bs → k < length bs → Keeps (get_or bs k d)
  keeps-at [] k all h = absurd (omega arith)
  keeps-at (b ∷ bs) zero all h = all.0
  keeps-at (b ∷ bs) (suc k) all h = keeps-at bs k all.1 (omega arith)

-- and where there is none
pub length_none : (bs : List Book) (k : ℕ) → length bs ≤ k → length_at bs k ≡ Err NoSuchAccount
length_none [] k h = refl
length_none (b ∷ bs) zero h = absurd (omega arith)
length_none (b ∷ bs) (suc k) h = length_none bs k (omega arith)

pub fetched-none : (bs : List Book) (k i : ℕ) → length bs ≤ k → fetched_at bs k i ≡ Err NoSuchAccount
fetched-none [] k i h = refl
fetched-none (b ∷ bs) zero i h = absurd (omega arith)
fetched-none (b ∷ bs) (suc k) i h = fetched-none bs k i (omega arith)

pub appended-none : (bs : List Book) (k : ℕ) (e : Entry) → length bs ≤ k → appended_at bs k e ≡ (Err NoSuchAccount, bs)
appended-none [] k e h = refl
appended-none (b ∷ bs) zero e h = absurd (omega arith)
appended-none (b ∷ bs) (suc k) e h = ap (λ x. (x.0, b ∷ x.1)) (appended-none bs k e (omega arith))

-- no append changes how many accounts there are
pub appended-count : (bs : List Book) (k : ℕ) (e : Entry) → length (appended_at bs k e).1 ≡ length bs
appended-count [] k e = refl
appended-count (b ∷ bs) zero e = refl
appended-count (b ∷ bs) (suc k) e = ap suc (appended-count bs k e)
