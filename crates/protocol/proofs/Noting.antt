-- Laws of what a device notes while it reads: the log's view, the own mark, and the highest attempt seen. Assumes nothing.
use Rattle.std.proofs.Common.{◌≡◌, ℕ, ◌+◌, ◌*◌, ◌<◌, ◌≤◌, max, true, cond, eqb, ◌⊎◌, List, [], ◌∷◌, fold, refl, inl, inr, ⊎_elim, arith}
use Rattle.std.proofs.lemmas.Bool.{and_parts, or_cases}
use Rattle.std.proofs.lemmas.Bool.Decides.{nat_tests}
use Rattle.record.specs.Entry.{Entry}
use Rattle.record.specs.declared.value.Value.{Value}
use Rattle.journal.specs.Log.{tell, view}
use Rattle.journal.specs.declared.view.View.{View}
use Rattle.protocol.specs.Device.{Device, is_accepting, next_version, own_ballot}
use Rattle.protocol.specs.Reading.{noted}
use Rattle.protocol.specs.declared.notes.Notes.{Notes}
use Rattle.protocol.proofs.Logs.{Mem, Took, accepts-is}

heard-one : (w : ℕ) (v : View) (s : ℕ) (e : Entry) → v.promised ≤ s * 16 + 15 → e.device < 16
    → (tell w v e).promised ≤ cond (eqb e.version w) (max s e.attempt) s * 16 + 15
unfolding tell
heard-one w v s e l d = grind (arith, nat_tests)

module _ (d : ℕ) (v : Device) where
  abbrev notes : Notes → List Entry → Notes
  notes n es = fold (noted d v) n es

  pub notes-view : (n : Notes) (es : List Entry) → (notes n es).view ≡ view (next_version v) n.view es
  unfolding view
  notes-view n [] = refl
  notes-view n (e ∷ es) = notes-view (noted d v n e) es

  -- an own mark tells of an ACCEPT that was accepted
  pub notes-own : (n : Notes) (es : List Entry) → (notes n es).own ≡ true
      → (n.own ≡ true) ⊎ ((is_accepting v.phase ≡ true) × (x : Value) × Took (next_version v) (own_ballot d v) x n.view es)
  unfolding Took
  notes-own n [] h = inl h
  notes-own n (e ∷ es) h =
      ⊎_elim
      (λ q. ⊎_elim inl
      (λ t.
      let p = and_parts (is_accepting v.phase) _ t in
      inr (p.0, e.value, inl (accepts-is (next_version v) (own_ballot d v) n.view e p.1)))
      (or_cases n.own _ q))
      (λ q. inr (q.0, q.1, inr q.2))
      (notes-own (noted d v n e) es h)

  pub seen-grows : (n : Notes) (es : List Entry) → n.seen ≤ (notes n es).seen
  seen-grows n [] = omega arith
  seen-grows n (e ∷ es) =
      let one : n.seen ≤ cond (eqb e.version (next_version v)) (max n.seen e.attempt) n.seen = grind (arith, nat_tests) in
      omega (arith, one, seen-grows (noted d v n e) es)

  -- a bound on all attempts bounds what was seen
  pub seen_below : (b : ℕ) (n : Notes) (es : List Entry) → n.seen < b → ((e : Entry) → Mem e es → e.attempt < b) → (notes n es).seen < b
  unfolding Mem
  seen_below b n [] l h = l
  seen_below b n (e ∷ es) l h = seen_below b (noted d v n e) es one (λ f m. h f (inr m))
    where
      one : cond (eqb e.version (next_version v)) (max n.seen e.attempt) n.seen < b
      one = let k = h e (inl refl) in grind (arith, nat_tests)

  -- no ballot that was promised is above the attempts seen
  pub heard : (n : Notes) (es : List Entry) → n.view.promised ≤ n.seen * 16 + 15 → ((e : Entry) → Mem e es → e.device < 16)
      → (notes n es).view.promised ≤ (notes n es).seen * 16 + 15
  unfolding Mem
  heard n [] l h = l
  heard n (e ∷ es) l h =
      heard (noted d v n e) es (heard-one (next_version v) n.view n.seen e l (h e (inl refl))) (λ f m. h f (inr m))
