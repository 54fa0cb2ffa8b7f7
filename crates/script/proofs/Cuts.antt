-- Pieces of a list of bytes, cut off one by one. Assumes nothing.
use Rattle.std.proofs.Common.{◌≡◌, ℕ, zero, suc, ◌+◌, ◌-◌, ◌<◌, ◌≤◌, Bool, true, false, cond, eqb, List, [], ◌∷◌, length, ◌++◌, min, get_or, take, drop, subst, Some, None, Option, sym, refl, ap, ◌∙◌, ⊎_elim, arith, length-drop}
use Rattle.std.proofs.lemmas.List.{nil_from_length, length-take-le, take_all, drop-drop}
use Rattle.std.proofs.lemmas.Bool.{cases_lt, ne_eqb}
use Rattle.std.proofs.lemmas.Slice.{between_to_end}
use Rattle.std.specs.List.{slice_get, between, slice_split, onto_first, position, position_or_len, before_first, after_first, count_by, IsFirstMatchOrLen}
use Rattle.std.proofs.lemmas.List.Recursion.{same_from_clauses}
use Rattle.std.proofs.lemmas.List.Splits.{slice_split_first, slice_split_none, length-slice_split}
use Rattle.std.proofs.lemmas.List.Sums.{fails_before_first}
use Rattle.std.proofs.lemmas.Bool.Decides.{nat_tests}
use Rattle.std.proofs.lemmas.Fn.{always_returns_same}
use Rattle.std.proofs.lemmas.Iterator.{YieldsList}
use Rattle.std.proofs.lemmas.Iterator.Splits.{YieldsList-from_shown_while}
use Rattle.std.specs.Fn.{CalledAt, ComputesKey}
use Rattle.std.specs.Option.{MatchOption, option_map}
use Rattle.std.specs.Slice.Iter.{split_inclusive_rest, split_inclusive_callee}
use Rattle.std.specs.declared.slice.SplitInclusive.{SplitInclusive}
use denote.Param.Members.{Mut}
use denote.Ref.{Bor}
use Rattle.script.specs.Cutting.{without_line_feed}
use Rattle.script.specs.Parts.{parted, lines_of, fields_of, number_count, Part, parts_from, parts_of, part_of}
use Rattle.script.specs.Commands.{field_at}
use Rattle.script.specs.declared.token.Token.{Token}

-- a space
abbrev pub space : ℕ → Bool
space b = eqb b 32

-- the fields are the pieces between spaces
fields-are : (line : List ℕ) → fields_of line ≡ slice_split space line
unfolding parted
fields-are = same_from_clauses fields_of (slice_split space) (λ c ps. cond (space c) ([] ∷ ps) (onto_first c ps)) refl (λ _ _. refl) (λ _ _. refl)

pub numbers-are : (line : List ℕ) → number_count line ≡ count_by space line
numbers-are line = omega (arith, ap length (fields-are line), length-slice_split space line)

none-before : (bs : List ℕ) → length bs ≤ position_or_len space bs → fields_of bs ≡ bs ∷ []
none-before bs h = fields-are bs ∙ slice_split_none space bs (λ k d l. fails_before_first space bs k d (omega (arith, l, h)))

first-before : (bs : List ℕ) → position_or_len space bs < length bs → fields_of bs ≡ before_first space bs ∷ fields_of (after_first space bs)
first-before bs h = fields-are bs ∙ slice_split_first space bs 0 h ∙ ap (λ fs. before_first space bs ∷ fs) (sym (fields-are (after_first space bs)))

-- what `position` says
found-at : (bs : List ℕ) (n : ℕ) → position space bs ≡ Some n → (position_or_len space bs ≡ n) × (n < length bs)
found-at bs n e = grind (arith, nat_tests)

found-nowhere : (bs : List ℕ) → position space bs ≡ None → length bs ≤ position_or_len space bs
found-nowhere bs e = grind (arith, nat_tests)

module _ (w : Bool) (place : ℕ) (bs : List ℕ) where
  -- the field at hand
  pub field-here : slice_get (parts_from w place (fields_of bs)) 0 ≡ Some (record { is_word = w; place = place; bytes = before_first space bs })
  unfolding parts_from
  field-here =
      ⊎_elim
      (λ h. ap (λ fs. slice_get (parts_from w place fs) 0) (first-before bs h))
      (λ h. ap (λ fs. slice_get (parts_from w place fs) 0) (none-before bs h) ∙ ap (λ f. Some (record { is_word = w; place = place; bytes = f })) (sym (take_all _ bs h)))
      (cases_lt (position_or_len space bs) (length bs))

  -- passing one field on the way to another
  pub field-passed : (k n : ℕ) → position space bs ≡ Some n
      → (n < length bs) × (slice_get (parts_from w place (fields_of bs)) (suc k) ≡ slice_get (parts_from false (place + (n + 1)) (fields_of (drop (n + 1) bs))) k)
  unfolding parts_from
  field-passed k n e =
      let at : (position_or_len space bs ≡ n) × (n < length bs) = found-at bs n e in
      let here : position_or_len space bs < length bs = omega arith in
      let long : suc (place + length (before_first space bs)) ≡ place + (n + 1) = omega (arith, length-take-le (position_or_len space bs) bs (omega arith)) in (
        at.1,
        ap (λ fs. slice_get (parts_from w place fs) (suc k)) (first-before bs here)
            ∙ (λ i. slice_get (parts_from false (long i) (fields_of (drop (at.0 i + 1) bs))) k),
      )

  -- there is no field after the last one
  pub field-none : (k : ℕ) → position space bs ≡ None → slice_get (parts_from w place (fields_of bs)) (suc k) ≡ None
  unfolding parts_from
  field-none k e = ap (λ fs. slice_get (parts_from w place fs) (suc k)) (none-before bs (found-nowhere bs e))

-- the same at a place of a line, as code has it
module _ (line : List ℕ) (place : ℕ) where
  rest-is : between place (length line) line ≡ drop place line
  rest-is = between_to_end line place (length line) (omega arith)

  pub found : (w : Bool) (k : ℕ) (bytes : List ℕ) → w ≡ eqb k 0 → bytes ≡ before_first space (between place (length line) line)
      → slice_get (parts_from (eqb k 0) place (fields_of (drop place line))) 0 ≡ slice_get (parts_of line) k
      → Some (record { is_word = w; place = place; bytes = bytes }) ≡ slice_get (parts_of line) k
  found w k bytes word is at =
      (λ i. Some (record { is_word = word i; place = place; bytes = (is ∙ ap (before_first space) rest-is) i })) ∙ sym (field-here (eqb k 0) place (drop place line)) ∙ at

  module _ (w : Bool) (k m : ℕ) (more : k < m) where
    one-more : m - k ≡ suc (m - (k + 1))
    one-more = omega arith

    pub none-left : None ≡ position space (between place (length line) line) → slice_get (parts_from w place (fields_of (drop place line))) (m - k) ≡ None
    none-left e =
        ap (slice_get (parts_from w place (fields_of (drop place line)))) one-more
        ∙ field-none w place (drop place line) (m - (k + 1)) (ap (position space) (sym rest-is) ∙ sym e)

    pub next-left : (n : ℕ) → Some n ≡ position space (between place (length line) line)
        → (place + (n + 1) ≤ length line)
        × (slice_get (parts_from false (place + (n + 1)) (fields_of (drop (place + (n + 1)) line))) (m - (k + 1)) ≡ slice_get (parts_from w place (fields_of (drop place line))) (m - k))
    next-left n e =
        let passed = field-passed w place (drop place line) (m - (k + 1)) n (ap (position space) (sym rest-is) ∙ sym e) in
        let at : n + 1 + place ≡ place + (n + 1) = omega arith in (
          omega (arith, passed.0, length-drop place line),
          sym
              (ap (slice_get (parts_from w place (fields_of (drop place line)))) one-more
              ∙ passed.1
              ∙ ap (λ l. slice_get (parts_from false (place + (n + 1)) (fields_of l)) (m - (k + 1))) (drop-drop (n + 1) place line ∙ ap (λ j. drop j line) (omega arith))),
        )

pub ruleset passing = (none-left, next-left, ne_eqb)

-- the bytes of a field, which is empty where there is none
abbrev pub bytes_in : Option Part → List ℕ
bytes_in None = []
bytes_in (Some p) = p.bytes

pub parts-bytes : (w : Bool) (place : ℕ) (fs : List (List ℕ)) (k : ℕ) → bytes_in (slice_get (parts_from w place fs) k) ≡ get_or fs k []
unfolding parts_from
parts-bytes w place [] k = refl
parts-bytes w place (f ∷ fs) zero = refl
parts-bytes w place (f ∷ fs) (suc k) = parts-bytes false (suc (place + length f)) fs k

pub field-read : (line : List ℕ) (k : ℕ) (o : Option Token) (r : List ℕ) {P : Type 0} {Q : Token → Type 0} → option_map part_of o ≡ slice_get (parts_of line) k
    → MatchOption o P Q → (P → r ≡ []) → ((t : Token) → Q t → r ≡ (part_of t).bytes) → r ≡ field_at line k
field-read line k None r value p none some = none p ∙ ap bytes_in value ∙ parts-bytes true 0 (fields_of line) k
field-read line k (Some t) r value q none some = some t q ∙ ap bytes_in value ∙ parts-bytes true 0 (fields_of line) k

without_line_feed-cons : (c d : ℕ) (cs : List ℕ) → without_line_feed (c ∷ d ∷ cs) ≡ c ∷ without_line_feed (d ∷ cs)
without_line_feed-cons c d cs =
    let more : suc (suc (length cs)) - 1 ≡ suc (length cs) = omega arith in
    let less : suc (length cs) - 1 ≡ length cs = omega arith in
    rw (more, less) (at (eqb (get_or (d ∷ cs) (length cs) 0) 10))
  where
    at : (t : Bool) → cond t (c ∷ take (length cs) (d ∷ cs)) (c ∷ d ∷ cs) ≡ c ∷ cond t (take (length cs) (d ∷ cs)) (d ∷ cs)
    at true = refl
    at false = refl

-- the piece up to the first line feed, with it, is the first line
line-first : (x rest : List ℕ) (i : ℕ) → 0 < length (x ++ rest) → length x ≡ min (i + 1) (length (x ++ rest)) → IsFirstMatchOrLen (λ b. eqb b 10) (x ++ rest) i
    → lines_of (x ++ rest) ≡ without_line_feed x ∷ lines_of rest
unfolding parted
line-first [] rest i some long first = absurd (omega arith)
line-first (c ∷ []) rest zero some long first = at (eqb c 10) (first.1 some 0)
  where
    at : (t : Bool) → t ≡ true → cond t ([] ∷ lines_of rest) (onto_first c (lines_of rest)) ≡ cond t [] (c ∷ []) ∷ lines_of rest
    at true e = refl
    at false e = cc
line-first (c ∷ d ∷ cs) rest zero some long first = absurd (omega arith)
line-first (c ∷ []) [] (suc i) some long first = at (eqb c 10) (first.0 0 0 (omega arith) (omega arith))
  where
    at : (t : Bool) → t ≡ false → cond t ([] ∷ []) (onto_first c []) ≡ cond t [] (c ∷ []) ∷ []
    at true e = cc
    at false e = refl
line-first (c ∷ []) (r ∷ rs) (suc i) some long first = absurd (omega arith)
line-first (c ∷ d ∷ cs) rest (suc i) some long first =
    at (eqb c 10) (first.0 0 0 (omega arith) (omega arith))
    (line-first (d ∷ cs) rest i (omega arith) (omega arith) (λ k e lo hi. first.0 (suc k) e (omega arith) (omega arith), λ h e. first.1 (omega arith) e))
    ∙ ap (λ l. l ∷ lines_of rest) (sym (without_line_feed-cons c d cs))
  where
    at : (t : Bool) → t ≡ false → lines_of ((d ∷ cs) ++ rest) ≡ without_line_feed (d ∷ cs) ∷ lines_of rest
        → cond t ([] ∷ lines_of ((d ∷ cs) ++ rest)) (onto_first c (lines_of ((d ∷ cs) ++ rest))) ≡ (c ∷ without_line_feed (d ∷ cs)) ∷ lines_of rest
    at true e more = cc
    at false e more = ap (onto_first c) more

-- what a step of `split_inclusive` gives
abbrev pub pieces : {F : Type 0} → Mut F (Bor ℕ × Unit {0}) Bool → SplitInclusive ℕ F → Option (Bor (List ℕ)) → SplitInclusive ℕ F → Type 0
pieces g s r t =
    MatchOption r ((length (split_inclusive_rest s) ≡ 0) × (t ≡ s))
    (λ x. (split_inclusive_rest s ≡ x.now ++ split_inclusive_rest t)
    × ((i : ℕ) × (length x.now ≡ min (i + 1) (length (split_inclusive_rest s)))
    × ((p : ℕ → Bool) → ComputesKey g p (split_inclusive_callee s) → ComputesKey g p (split_inclusive_callee t) × IsFirstMatchOrLen p (split_inclusive_rest s) i))
    × (0 < length (split_inclusive_rest s)))

-- the lines of an input, from the pieces that `split_inclusive` gives
pub YieldsList-from_lines : {F : Type 0} {s : SplitInclusive ℕ F} (g : Mut F (Bor ℕ × Unit {0}) Bool) {f : F} (input : List ℕ)
    → split_inclusive_rest s ≡ input → split_inclusive_callee s ≡ f → ((x : ℕ) (b : Bool) (q : F) → CalledAt g f x b q → (q ≡ f) × (b ≡ eqb x 10))
    → YieldsList (pieces g) (λ x. without_line_feed x.now) s (lines_of input)
unfolding parted
YieldsList-from_lines {s = s} g {f} input rest closure tests =
    let p : ℕ → Bool = λ b. eqb b 10 in
    subst (YieldsList (pieces g) (λ x. without_line_feed x.now) s) (λ i. lines_of (rest i))
    (YieldsList-from_shown_while (pieces g) (λ x. without_line_feed x.now) (λ t. lines_of (split_inclusive_rest t)) (λ t. ComputesKey g p (split_inclusive_callee t))
    (λ t u h k. ap (λ bs. length (lines_of bs)) (nil_from_length _ k.0))
    (λ t x u h k. ((k.1.2 p h).0, at _ x.now _ k.1.0 k.0 k.2 k.1.1 (k.1.2 p h).1))
    s (subst (ComputesKey g p) (sym closure) (always_returns_same g (λ a r. r ≡ p a.0.now) f (λ a r q k. let m = tests a.0.now r q (record { shown = a.0; shows = refl; called = k }) in (m.1, m.0)))))
  where
    at : (bs x rest : List ℕ) (i : ℕ) → bs ≡ x ++ rest → 0 < length bs → length x ≡ min (i + 1) (length bs) → IsFirstMatchOrLen (λ b. eqb b 10) bs i → lines_of bs ≡ without_line_feed x ∷ lines_of rest
    at bs x rest i e =
        subst (λ (l : List ℕ). 0 < length l → length x ≡ min (i + 1) (length l) → IsFirstMatchOrLen (λ b. eqb b 10) l i → lines_of l ≡ without_line_feed x ∷ lines_of rest) (sym e) (line-first x rest i)
