-- A loop over records, by what is still to come. Assumes nothing.
use Rattle.std.proofs.Common.{◌==◌, ◌≡◌, ℕ, suc, ◌+◌, ◌<◌, ◌≤◌, Bool, true, false, cond, ◌||◌, ◌&&◌, not, max, nat_le, nat_lt, List, [], ◌∷◌, ◌++◌, map, length, get_or, drop, take, ◌-◌, length-drop, is_some, Some, None, Option, sym, refl, ap, ◌∙◌, append-nil, append_assoc, add-zero, add-one, arith, drop-cons}
use Rattle.std.proofs.lemmas.List.{drop_all, take_all}
use Rattle.journal.specs.Log.{is_accept, unread, tell, view, says}
use Rattle.journal.specs.declared.view.View.{View}
use Rattle.record.specs.Entry.{Entry, ballot, entry_of}
use Rattle.std.specs.List.{position, position_or_len}
use Rattle.std.specs.Option.{option_map}
use Rattle.std.proofs.lemmas.Bool.Decides.{nat_tests}
use Rattle.record.specs.declared.record.Record.{Record}
use Rattle.report.specs.Report.{record_lines, occurs, surveyed, version_line, version_lines, version_count, occurrence}
use Rattle.report.specs.Lines.{record_line}

-- a piece that is written is one less to come
wrote-first : (a b x y : List ℕ) → b ≡ a ++ x → b ++ y ≡ a ++ (x ++ y)
wrote-first a b x y p = ap (λ z. z ++ y) p ∙ append_assoc a x y

module _ (rs : List Record) (i : ℕ) where
  -- the record at hand, and those after it
  pub next-entry : (r : Record) → i < length rs → r ≡ get_or rs i r → map entry_of (drop i rs) ≡ entry_of r ∷ map entry_of (drop (i + 1) rs)
  next-entry r h e =
      ap (map entry_of) (drop-cons rs i r h) ∙ (λ k. entry_of (sym e k) ∷ map entry_of (drop (sym (add-one i) k) rs))

  pub last_entry : length rs ≤ i → map entry_of (drop i rs) ≡ []
  last_entry h = ap (map entry_of) (drop_all i rs h)

pub line-more : (place : ℕ) (e : Entry) (es : List Entry) (a b : List ℕ) → b ≡ a ++ record_line place e
    → b ++ record_lines (place + 1) es ≡ a ++ record_lines place (e ∷ es)
unfolding record_lines
line-more place e es a b p = ap (λ n. b ++ record_lines n es) (add-one place) ∙ wrote-first a b (record_line place e) (record_lines (suc place) es) p

pub line-end : (place : ℕ) (a : List ℕ) → a ++ record_lines place [] ≡ a
unfolding record_lines
line-end place a = append-nil a

-- n versions are still to come
pub versions-more : (n w : ℕ) (es : List Entry) (a b : List ℕ) → b ≡ a ++ version_line w (surveyed w es)
    → b ++ version_lines n (w + 1) es ≡ a ++ version_lines (suc n) w es
unfolding version_lines
versions-more n w es a b p =
    ap (λ x. b ++ version_lines n x es) (add-one w) ∙ wrote-first a b (version_line w (surveyed w es)) (version_lines n (suc w) es) p

pub counted-more : (n w : ℕ) (es : List Entry) (was is : ℕ) → is ≡ was + occurrence w es → is + version_count n (w + 1) es ≡ was + version_count (suc n) w es
unfolding version_count
counted-more n w es was is p =
    let e : version_count n (w + 1) es ≡ version_count n (suc w) es = ap (λ x. version_count n x es) (add-one w) in
    omega arith

-- what is known of a version that was looked for
pub occurrence-is : (w : ℕ) (es : List Entry) (o : Option View) → o ≡ surveyed w es → cond (is_some o) 1 0 ≡ occurrence w es
occurrence-is w es o p = ap (λ x. cond (is_some x) 1 0) p ∙ at (occurs w es)
  where
    at : (b : Bool) → ◌≡◌ {A = ℕ} (cond (is_some (cond b (Some (says w es)) None)) 1 0) (cond b 1 0)
    at true = refl
    at false = refl

pub versions-end : (w : ℕ) (es : List Entry) (a : List ℕ) → a ++ version_lines 0 w es ≡ a
unfolding version_lines
versions-end w es a = append-nil a

pub counted-end : (w : ℕ) (es : List Entry) (n : ℕ) → n + version_count 0 w es ≡ n
unfolding version_count
counted-end w es n = add-zero n

pub one_at_most : {X : Type 0} (o : Option X) → cond (is_some o) 1 0 ≤ 1
one_at_most None = omega arith
one_at_most (Some x) = omega arith

-- a record of another version says nothing of this one
tell-other : (w : ℕ) (v : View) (e : Entry) → (e.version == w) ≡ false → tell w v e ≡ v
unfolding tell
tell-other w v e h =
    ap (λ b. cond ((b && (is_accept e.kind && nat_le v.promised (ballot e))) && nat_le v.accepted (ballot e)) (record { promised = v.promised; accepted = ballot e; value = e.value }) (cond (b && not (is_accept e.kind)) (record { promised = max v.promised (ballot e); accepted = v.accepted; value = v.value }) v)) h

module _ (w : ℕ) where
  -- nor do those before its first one
  pub skips : (rs : List Record) (v : View) → view w v (map entry_of (drop (position_or_len (λ r. r.version == w) rs) rs)) ≡ view w v (map entry_of rs)
  unfolding view
  skips [] v = refl
  skips (r ∷ rs) v = at (skips rs v) (r.version == w) refl
    where
      n : ℕ
      n = position_or_len (λ x. x.version == w) rs

      at : view w v (map entry_of (drop n rs)) ≡ view w v (map entry_of rs) → (b : Bool) → (r.version == w) ≡ b
          → view w v (map entry_of (drop (cond (not b) (1 + n) 0) (r ∷ rs))) ≡ view w v (entry_of r ∷ map entry_of rs)
      at _ true h = refl
      at after false h =
          let e : 1 + n ≡ suc n = omega arith in
          ap (λ k. view w v (map entry_of (drop k (r ∷ rs)))) e ∙ after ∙ ap (λ x. view w x (map entry_of rs)) (sym (tell-other w v (entry_of r) h))

  -- and it has one where its first one stands
  pub occurs_at : (rs : List Record) → occurs w (map entry_of rs) ≡ nat_lt (position_or_len (λ r. r.version == w) rs) (length rs)
  occurs_at [] = refl
  occurs_at (r ∷ rs) = at (occurs_at rs) (r.version == w)
    where
      n : ℕ
      n = position_or_len (λ x. x.version == w) rs

      at : occurs w (map entry_of rs) ≡ nat_lt n (length rs) → (b : Bool) → (b || occurs w (map entry_of rs)) ≡ nat_lt (cond (not b) (1 + n) 0) (suc (length rs))
      at _ true = grind (arith, nat_tests)
      at after false = after ∙ grind (arith, nat_tests)

  -- so what the records say is what they say from its first one on
  pub surveyed-is : (rs : List Record) → surveyed w (map entry_of rs) ≡ option_map (λ i. view w unread (map entry_of (drop i rs))) (position (λ r. r.version == w) rs)
  surveyed-is rs =
      ap (λ b. cond b (Some (says w (map entry_of rs))) None) (occurs_at rs)
      ∙ (ap (λ v. cond (nat_lt n (length rs)) (Some v) None) (sym (skips rs unread)) ∙ at (nat_lt n (length rs)))
    where
      n : ℕ
      n = position_or_len (λ r. r.version == w) rs

      f : ℕ → View
      f i = view w unread (map entry_of (drop i rs))

      at : (b : Bool) → ◌≡◌ {A = Option View} (cond b (Some (f n)) None) (option_map f (cond b (Some n) None))
      at true = refl
      at false = refl

-- a slice from a place on
pub rest-is : (rs : List Record) (n : ℕ) → take (length rs - n) (drop n rs) ≡ drop n rs
rest-is rs n = take_all (length rs - n) (drop n rs) (omega (arith, length-drop n rs))
