-- Digits, read one by one. Assumes nothing.
use Rattle.std.proofs.Common.{◌≡◌, ℕ, ◌+◌, ◌-◌, ◌*◌, ◌^◌, ◌<◌, ◌≤◌, true, false, ◌&&◌, List, [], ◌∷◌, length, get_or, drop, Ok, Err, Result, sym, ap, ◌∙◌, arith}
use Rattle.std.proofs.lemmas.Bool.{and_parts, and_from, cond-true, cond-false, lt-ltb, ltb-true, not_from_true, not_from_false, false_from_ne_true}
use Rattle.std.proofs.lemmas.List.{at_drop_more, at_drop_all}
use Rattle.std.specs.Result.{OkIff}
use Rattle.std.specs.declared.num.TryFromIntError.{TryFromIntError}
use Rattle.record.specs.declared.refusal.Refusal.{Refusal}
use Rattle.script.specs.Numerals.{is_digit, is_digits, is_numeral, read_on, value_of, fits, number_of}
use Rattle.script.specs.Reading.{Reads}

module _ (f : List ℕ) (i : ℕ) where
  pub digits-more : i < length f → is_digits (drop i f) ≡ (is_digit (get_or f i 0) && is_digits (drop (i + 1) f))
  unfolding is_digits
  digits-more h = at_drop_more is_digits f i 0 h

  pub read-more : (n : ℕ) → i < length f → read_on n (drop i f) ≡ read_on (n * 10 + (get_or f i 0 - 48)) (drop (i + 1) f)
  unfolding read_on
  read-more n h = at_drop_more (read_on n) f i 0 h

  pub digits-end : length f ≤ i → is_digits (drop i f) ≡ true
  unfolding is_digits
  digits-end h = at_drop_all is_digits f i h

  pub read-end : (n : ℕ) → length f ≤ i → read_on n (drop i f) ≡ n
  unfolding read_on
  read-end n h = at_drop_all (read_on n) f i h

-- more digits never make a number smaller
pub read-grows : (n : ℕ) (cs : List ℕ) → n ≤ read_on n cs
unfolding read_on
read-grows n [] = omega arith
read-grows n (c ∷ cs) = omega (arith, read-grows (n * 10 + (c - 48)) cs)

pub ruleset digits = (digits-more, digits-end, read-more, read-end, read-grows)

-- a field is read as its number, at a type of so many bits
pub number_is : (bits : ℕ) (f : List ℕ) (r : Result ℕ Refusal) → 2 ^ bits ≤ 2 ^ 64
    → Reads {E = TryFromIntError} (λ n x. OkIff x (n < 2 ^ bits) n) f r → r ≡ number_of bits f
number_is bits f (Ok n) small h =
    let fit : fits bits f ≡ true = and_from (is_numeral f) _ (and_parts (is_numeral f) _ h.0).0 (lt-ltb (value_of f) (2 ^ bits) h.1.0) in
    ap (λ x. Ok x) h.1.1 ∙ sym (cond-false _ _ _ (not_from_true _ fit))
number_is bits f (Err e) small h =
    let unfit : fits bits f ≡ false = false_from_ne_true _ (λ fit.
    let both = and_parts (is_numeral f) _ fit in
    let less : value_of f < 2 ^ bits = ltb-true _ _ both.1 in
    (h.1 (and_from (is_numeral f) _ both.0 (lt-ltb (value_of f) (2 ^ 64) (omega arith)))).1 less) in
    ap (λ x. Err x) h.0 ∙ sym (cond-true _ _ _ (not_from_false _ unfit))
