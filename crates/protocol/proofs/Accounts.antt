-- One account of several: what its calls answer in terms of its book. Assumes nothing.
use Rattle.std.proofs.Common.{◌≡◌, ℕ, zero, suc, ◌+◌, ◌<◌, ◌≤◌, true, false, ◌≢◌, ◌⊎◌, List, [], ◌∷◌, ◌++◌, length, get_or, set, Ok, Err, Result, sym, refl, ap, subst, inl, inr, ⊎_elim, arith, get_or-set_other, get_or-set_same}
use Rattle.std.proofs.lemmas.Bool.{cases_Bool, cases_eq, cond-true, cond-false}
use Rattle.record.specs.Entry.{Entry}
use Rattle.record.specs.declared.refusal.Refusal.TheVariants.{Full, NoSuchAccount}
use Rattle.account.specs.Books.{Book, is_full, grown, fetched, appended_at, fetched_at, length_at}
use Rattle.protocol.specs.State.{State, no_book, book_at, log_at, put_books}

-- an append to account k of those that are there: refused if it is full, else one record more
pub appended-cases : (bs : List Book) (k : ℕ) (e : Entry) → k < length bs
    → ((is_full (get_or bs k no_book) ≡ true) × (appended_at bs k e ≡ (Err Full, bs)))
    ⊎ ((is_full (get_or bs k no_book) ≡ false)
    × (appended_at bs k e ≡ (Ok (length (get_or bs k no_book).log + 1), set bs k (grown (get_or bs k no_book) e))))
appended-cases [] k e l = let z : ⊥ = omega arith in absurd z
appended-cases (b ∷ bs) zero e l =
    ⊎_elim
    (λ t. inl (t, ap (λ (a : Result ℕ _ × Book). (a.0, a.1 ∷ bs)) (cond-true (is_full b) _ _ t)))
    (λ t. inr (t, ap (λ (a : Result ℕ _ × Book). (a.0, a.1 ∷ bs)) (cond-false (is_full b) _ _ t)))
    (cases_Bool (is_full b))
appended-cases (b ∷ bs) (suc k) e l =
    ⊎_elim
    (λ t. inl (t.0, ap (λ (a : Result ℕ _ × List Book). (a.0, b ∷ a.1)) t.1))
    (λ t. inr (t.0, ap (λ (a : Result ℕ _ × List Book). (a.0, b ∷ a.1)) t.1))
    (appended-cases bs k e (omega arith))

-- how long account k is, and the record at a place of it
pub length-at : (bs : List Book) (k : ℕ) → k < length bs → length_at bs k ≡ Ok (length (get_or bs k no_book).log)
length-at [] k l = let z : ⊥ = omega arith in absurd z
length-at (b ∷ bs) zero l = refl
length-at (b ∷ bs) (suc k) l = length-at bs k (omega arith)

pub length-past : (bs : List Book) (k : ℕ) → length bs ≤ k → length_at bs k ≡ Err NoSuchAccount
length-past [] k l = refl
length-past (b ∷ bs) zero l = let z : ⊥ = omega arith in absurd z
length-past (b ∷ bs) (suc k) l = length-past bs k (omega arith)

fetched-is : (es : List Entry) (i : ℕ) (e : Entry) → i < length es → fetched es i ≡ Ok (get_or es i e)
fetched-is [] i e l = let z : ⊥ = omega arith in absurd z
fetched-is (x ∷ es) zero e l = refl
fetched-is (x ∷ es) (suc i) e l = fetched-is es i e (omega arith)

pub fetched-at : (bs : List Book) (k i : ℕ) (e : Entry) → k < length bs → i < length (get_or bs k no_book).log
    → fetched_at bs k i ≡ Ok (get_or (get_or bs k no_book).log i e)
fetched-at [] k i e l m = let z : ⊥ = omega arith in absurd z
fetched-at (b ∷ bs) zero i e l m = fetched-is b.log i e m
fetched-at (b ∷ bs) (suc k) i e l m = fetched-at bs k i e (omega arith) m

-- account k has one record more
abbrev pub append_to : State → ℕ → Entry → State
append_to s k e = put_books s (set s.books k (grown (book_at s k) e))

module _ (s : State) (k : ℕ) (e : Entry) (l : k < length s.books) where
  pub book-here : book_at (append_to s k e) k ≡ grown (book_at s k) e
  book-here = get_or-set_same s.books k _ no_book l

  pub book-there : (j : ℕ) → j ≢ k → book_at (append_to s k e) j ≡ book_at s j
  book-there j ne = get_or-set_other s.books k j _ no_book ne

  pub log-appended : (j : ℕ) → (log_at (append_to s k e) j ≡ log_at s j ++ e ∷ []) ⊎ (log_at (append_to s k e) j ≡ log_at s j)
  log-appended j =
      ⊎_elim
      (λ q. inl (subst (λ i. log_at (append_to s k e) i ≡ log_at s i ++ e ∷ []) (sym q) (ap (λ (b : Book). b.log) book-here)))
      (λ ne. inr (ap (λ (b : Book). b.log) (book-there j ne)))
      (cases_eq j k)
