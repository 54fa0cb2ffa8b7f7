-- What the calls answer where the record at place k is `at k`. Assumes nothing.
use Rattle.std.proofs.Common.{◌≡◌, ℕ, zero, suc, ◌+◌, ◌<◌, ◌≤◌, eqb, [], ◌∷◌, ◌++◌, map, length, Ok, Err, sym, refl, ap, ◌∙◌, arith}
use Rattle.std.proofs.lemmas.List.FromFn.{length-map-range_with_len, get_or-map-range_with_len, map-range_with_len_more}
use Rattle.std.proofs.lemmas.Bool.{cond-true, cond-false, eq-eqb, ne_eqb}
use Rattle.std.specs.List.{range_with_len}
use Rattle.record.specs.Entry.{Entry}
use Rattle.record.specs.declared.refusal.Refusal.TheVariants.{Full, PastEnd}
use Rattle.account.specs.Books.{appended, fetched}
use Rattle.account.proofs.Reading.{fetched-in, fetched-past}
use Rattle.storage.specs.Places.{placed}

same-places : (at bt : ℕ → Entry) (a n : ℕ) → ((i : ℕ) → a ≤ i → i < a + n → at i ≡ bt i) → map at (range_with_len a n) ≡ map bt (range_with_len a n)
same-places at bt a zero e = refl
same-places at bt a (suc n) e =
    λ i. e a (omega arith) (omega arith) i ∷ same-places at bt (a + 1) n (λ k l h. e k (omega arith) (omega arith)) i

module _ (at : ℕ → Entry) (n : ℕ) where
  pub placed-read : (i : ℕ) → i < n → fetched (map at (range_with_len 0 n)) i ≡ Ok (at i)
  placed-read i h =
      fetched-in (map at (range_with_len 0 n)) i (at i) (omega (arith, length-map-range_with_len at 0 n))
      ∙ ap Ok (get_or-map-range_with_len at 0 n i i (at i) h (omega arith))

  pub placed_past : (i : ℕ) → n ≤ i → fetched (map at (range_with_len 0 n)) i ≡ Err PastEnd
  placed_past i h = fetched-past (map at (range_with_len 0 n)) i (omega (arith, length-map-range_with_len at 0 n))

  pub placed-full : (m : ℕ) (e : Entry) → n ≡ m → (Err Full, placed at n m) ≡ appended (placed at n m) e
  placed-full m e h = sym (cond-true (eqb (length (map at (range_with_len 0 n))) m) _ _ (eq-eqb _ m (length-map-range_with_len at 0 n ∙ h)))

  -- place n is written, and no place before it changes
  pub placed-more : (m : ℕ) (e : Entry) (bt : ℕ → Entry) → n < m → ((i : ℕ) → i < n → bt i ≡ at i) → bt n ≡ e
      → (Ok (n + 1), placed bt (n + 1) m) ≡ appended (placed at n m) e
  placed-more m e bt h old new =
      let long = length-map-range_with_len at 0 n in
      let log : map bt (range_with_len 0 (n + 1)) ≡ map at (range_with_len 0 n) ++ e ∷ [] =
      map-range_with_len_more bt 0 n n (omega arith) ∙ (λ i. same-places bt at 0 n (λ k l g. old k (omega arith)) i ++ new i ∷ []) in
      (λ i. (Ok (sym long i + 1), record { log = log i; maximum = m }))
      ∙ sym (cond-false (eqb (length (map at (range_with_len 0 n))) m) _ _ (ne_eqb _ m (λ e. omega arith)))
