-- What sixteen bytes, taken apart into a head and a value, are decoded to. Assumes nothing.
use Rattle.std.proofs.Common.{◌≡◌, ℕ, ◌+◌, ◌-◌, ◌*◌, ◌/◌, ◌^◌, ◌<◌, Bool, true, false, cond, not, eqb, List, ◌∷◌, length, take, drop, Some, None, Ok, Err, Result, sym, refl, ap, ◌∙◌, arith, length-drop}
use lib.Bits.{bit_and}
use Rattle.std.proofs.lemmas.Nat.{and_mask}
use Rattle.std.proofs.lemmas.List.{take_rest}
use Rattle.std.proofs.lemmas.Bool.{eq-eqb, eqb-true, cond-true, cond-false}
use Rattle.std.specs.Int.Digits.{number_from_digits}
use Rattle.record.specs.Checks.{when, unless}
use Rattle.record.specs.Halves.{value_in}
use Rattle.record.specs.Layout.{unpacked, is_kind, kind_of, kind_from, meaningless, entry_from, decoded}
use Rattle.record.specs.declared.kind.Kind.{Kind}
use Rattle.record.specs.declared.numbers.Numbers.{Numbers}
use Rattle.record.specs.declared.refusal.Refusal.{Refusal}
use Rattle.record.specs.declared.refusal.Refusal.TheVariants.{UnknownKind}
use Rattle.record.specs.declared.value.Value.{Value}
use Rattle.record.proofs.Digits.{spell, spelled}
use Rattle.record.proofs.Packing.{unpacked-is}

-- what the twelve bytes of a value hold
pub value-is : (bs : List ℕ) (root setup : ℕ) → length bs ≡ 12
    → root ≡ number_from_digits 256 (spell bs 0 8) → setup ≡ number_from_digits 256 (spell bs 8 4) → Some (record { root = root; setup = setup }) ≡ value_in bs
value-is bs root setup e p q =
    let all : bs ≡ spell bs 0 12 = spelled bs 0 12 e in
    let r : root ≡ number_from_digits 256 (take 8 bs) = p ∙ sym (ap (λ x. number_from_digits 256 (take 8 x)) all) in
    let s : setup ≡ number_from_digits 256 (drop 8 bs) = q ∙ sym (ap (λ x. number_from_digits 256 (drop 8 x)) all) in
    (λ i. Some (record { root = r i; setup = s i })) ∙ sym (cond-true (eqb (length bs) 12) _ _ (eq-eqb (length bs) 12 e))

by_length : (t : Bool) (x y : Value) → Some x ≡ cond t (Some y) None → (t ≡ true) × (x ≡ y)
by_length true x y e = (refl, cc)
by_length false x y e = let z : ◌≡◌ {A = ℕ} 0 1 = cc in absurd (omega arith)

-- sixteen bytes as one number, by their head and their value
whole : (bs : List ℕ) (w : ℕ) (v : Value) → length bs ≡ 16 → w ≡ number_from_digits 256 (spell bs 0 4)
    → v.root ≡ number_from_digits 256 (take 8 (drop 4 bs)) → v.setup ≡ number_from_digits 256 (drop 8 (drop 4 bs))
    → number_from_digits 256 bs ≡ w * 2 ^ 96 + v.root * 2 ^ 32 + v.setup
whole bs w v e p q u =
    let all : bs ≡ spell bs 0 16 = spelled bs 0 16 e in
    let r : v.root ≡ number_from_digits 256 (spell bs 4 8) = q ∙ ap (λ x. number_from_digits 256 (take 8 (drop 4 x))) all in
    let s : v.setup ≡ number_from_digits 256 (spell bs 12 4) = u ∙ ap (λ x. number_from_digits 256 (drop 8 (drop 4 x))) all in
    ap (number_from_digits 256) all ∙ omega arith

module _ (bs : List ℕ) (w : ℕ) (v : Value) (head : w ≡ number_from_digits 256 (spell bs 0 4)) (value : Some v ≡ value_in (take (length bs - 4) (drop 4 bs)))
    (root-fits : v.root < 2 ^ 64) (setup-fits : v.setup < 2 ^ 32) where
  -- the fields as the code masks them out
  abbrev pub masked : Numbers
  masked =
      record { kind = w / 2 ^ 30; attempt = bit_and (w / 2 ^ 14) 65535; device = bit_and (w / 2 ^ 10) 15; version = bit_and w 1023; root = v.root; setup = v.setup }

  pub decoded-is : decoded bs ≡ unless (when (not (is_kind (w / 2 ^ 30))) UnknownKind ∷ meaningless masked) (entry_from masked)
  decoded-is =
      let parts = by_length _ v _ (rw take_rest at value) in
      let l : length (drop 4 bs) ≡ 12 = eqb-true (length (drop 4 bs)) 12 parts.0 in
      let e : length bs ≡ 16 = omega (arith, length-drop 4 bs) in
      let n = whole bs w v e head (ap (λ x. x.root) parts.1) (ap (λ x. x.setup) parts.1) in
      let a = and_mask (w / 2 ^ 14) 16 in
      let d = and_mask (w / 2 ^ 10) 4 in
      let k = and_mask w 10 in
      let u : unpacked (number_from_digits 256 bs) ≡ masked =
      ap unpacked n
      ∙ unpacked-is w v.root v.setup root-fits setup-fits
      ∙ (λ i. record { kind = w / 2 ^ 30; attempt = sym a i; device = sym d i; version = sym k i; root = v.root; setup = v.setup }) in
      cond-false (not (eqb (length bs) 16)) _ _ (ap not (eq-eqb (length bs) 16 e))
      ∙ ap (λ m. unless (when (not (is_kind m.kind)) UnknownKind ∷ meaningless m) (entry_from m)) u

-- the rest of a table after a kind was found, and where none was
pub kind-found : {A : Type 0} (k : ℕ) (q : Kind) (r : Result A Refusal) → Ok q ≡ kind_from k → cond (not (is_kind k)) (Err UnknownKind) r ≡ r
kind-found {A} k q r e = at (is_kind k) e
  where
    at : (b : Bool) → Ok q ≡ cond (not b) (Err UnknownKind) (Ok (kind_of k)) → cond (not b) (Err UnknownKind) r ≡ r
    at true d = refl
    at false d = let z : ◌≡◌ {A = ℕ} 0 1 = cc in absurd (omega arith)

pub kind-missing : {A : Type 0} (k : ℕ) (d : Refusal) (r : Result A Refusal) → Err d ≡ kind_from k → Err d ≡ cond (not (is_kind k)) (Err UnknownKind) r
kind-missing {A} k d r e = at (is_kind k) e
  where
    at : (b : Bool) → Err d ≡ cond (not b) (Err UnknownKind) (Ok (kind_of k)) → Err d ≡ cond (not b) (Err UnknownKind) r
    at true f = let z : ◌≡◌ {A = ℕ} 0 1 = cc in absurd (omega arith)
    at false f = cc
