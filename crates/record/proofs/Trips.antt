-- Bytes to a record and back, and a record to bytes and back. Assumes nothing.
use Rattle.std.proofs.Common.{◌≡◌, ℕ, ◌+◌, ◌*◌, ◌/◌, ◌%◌, ◌^◌, ◌<◌, Bool, true, false, cond, not, ◌||◌, eqb, List, ◌∷◌, length, IfOk, Ok, Err, Result, sym, refl, ap, ◌∙◌, mod-eq_of_lt, arith}
use Rattle.std.proofs.lemmas.Bool.{eqb-true, not-false}
use Rattle.std.proofs.lemmas.Bool.Decides.{nat_tests}
use Rattle.std.specs.Int.Digits.{number_from_digits}
use Rattle.record.specs.Checks.{when, unless}
use Rattle.record.specs.Codes.{kind_number}
use Rattle.record.specs.Entry.{Entry, entry_of, entry_in}
use Rattle.record.specs.Halves.{head_of}
use Rattle.record.specs.Layout.{packed, unpacked, bytes_of, is_kind, kind_of, meaningless, entry_from, decoded, encoded}
use Rattle.record.specs.declared.kind.Kind.{Kind}
use Rattle.record.specs.declared.kind.Kind.TheVariants.{Prepare, Accept}
use Rattle.record.specs.declared.numbers.Numbers.{Numbers}
use Rattle.record.specs.declared.record.Record.{Record}
use Rattle.record.specs.declared.refusal.Refusal.{Refusal}
use Rattle.record.specs.declared.refusal.Refusal.TheVariants.{UnknownKind}
use Rattle.record.proofs.Digits.{Bytes, bytes_of-number, number-bytes_of}
use Rattle.record.proofs.Packing.{unpacked-is, packed-is, head-parts}
use Rattle.record.proofs.Tables.{passed, let_through}

pub kind-small : (k : Kind) → kind_number k < 4
kind-small Prepare = omega arith
kind-small Accept = omega arith

kind-back : (k : ℕ) → is_kind k ≡ true → kind_number (kind_of k) ≡ k
kind-back k e = at (eqb k 1) (eqb k 2) (eqb-true k 1) (eqb-true k 2) e
  where
    at : (a b : Bool) → (a ≡ true → k ≡ 1) → (b ≡ true → k ≡ 2) → (a || b) ≡ true → kind_number (cond a Prepare Accept) ≡ k
    at true b p q h = sym (p refl)
    at false b p q h = sym (q h)

packed-unpacked : (n : ℕ) → is_kind (unpacked n).kind ≡ true → packed (entry_from (unpacked n)) ≡ n
packed-unpacked n known =
    let w = n / 2 ^ 96 in
    let root = n / 2 ^ 32 % 2 ^ 64 in
    let setup = n % 2 ^ 32 in
    let e : n ≡ w * 2 ^ 96 + root * 2 ^ 32 + setup = omega arith in
    let u = ap unpacked e ∙ unpacked-is w root setup (omega arith) (omega arith) in
    let k : kind_number (kind_of (w / 2 ^ 30)) ≡ w / 2 ^ 30 = kind-back (w / 2 ^ 30) (sym (ap (λ m. is_kind m.kind) u) ∙ known) in
    ap (λ m. packed (entry_from m)) u
    ∙ sym (packed-is _)
    ∙ ap (λ x. (x * 2 ^ 30 + w / 2 ^ 14 % 2 ^ 16 * 2 ^ 14 + w / 2 ^ 10 % 2 ^ 4 * 2 ^ 10 + w % 2 ^ 10) * 2 ^ 96 + root * 2 ^ 32 + setup) k
    ∙ ap (λ x. x * 2 ^ 96 + root * 2 ^ 32 + setup) (head-parts w)
    ∙ sym e

-- bytes that stand for a record are that record's bytes
pub encoded-decoded : (bs : List ℕ) (e : Entry) → Bytes bs → decoded bs ≡ Ok e → encoded e ≡ bs
encoded-decoded bs e small d =
    let n = unpacked (number_from_digits 256 bs) in
    let whole = passed _ _ _ e d in
    let known = passed _ _ _ e whole.1 in
    let l : length bs ≡ 16 = eqb-true (length bs) 16 (not-false _ whole.0) in
    ap encoded (sym (let_through (meaningless n) (entry_from n) e known.1))
    ∙ ap (bytes_of 16) (packed-unpacked (number_from_digits 256 bs) (not-false _ known.0))
    ∙ ap (λ k. bytes_of k (number_from_digits 256 bs)) (sym l)
    ∙ bytes_of-number bs small

pub read_back : (r : Result Record Refusal) (bs : List ℕ) → Bytes bs → entry_in r ≡ decoded bs → IfOk r (λ x. encoded (entry_of x) ≡ bs)
read_back (Ok x) bs small e = encoded-decoded bs (entry_of x) small (sym e)
read_back (Err d) bs small e = tt

-- a record's fields as numbers
abbrev pub numbers_in : Entry → Numbers
numbers_in e =
    record {
      kind = kind_number e.kind;
      attempt = e.attempt;
      device = e.device;
      version = e.version;
      root = e.value.root;
      setup = e.value.setup;
    }

module _ (e : Entry) (fa : e.attempt < 2 ^ 16) (fd : e.device < 2 ^ 4) (fv : e.version < 2 ^ 10) (fr : e.value.root < 2 ^ 64) (fs : e.value.setup < 2 ^ 32) where
  unpacked-packed : unpacked (packed e) ≡ numbers_in e
  unpacked-packed =
      let w = head_of e in
      let fk = kind-small e.kind in
      let k : w / 2 ^ 30 ≡ kind_number e.kind = omega arith in
      let a : w / 2 ^ 14 % 2 ^ 16 ≡ e.attempt = omega arith in
      let d : w / 2 ^ 10 % 2 ^ 4 ≡ e.device = omega arith in
      let v : w % 2 ^ 10 ≡ e.version = omega arith in
      ap unpacked (sym (packed-is e))
      ∙ unpacked-is w e.value.root e.value.setup fr fs
      ∙ (λ i. record { kind = k i; attempt = a i; device = d i; version = v i; root = e.value.root; setup = e.value.setup })

  packed-small : packed e < 256 ^ 16
  unfolding packed
  packed-small = let fk = kind-small e.kind in omega arith

-- a record's numbers name its kind and mean something
pub record-means : (r : Record)
    → (is_kind (kind_number r.kind) ≡ true) × (unless (meaningless (numbers_in (entry_of r))) (entry_from (numbers_in (entry_of r))) ≡ Ok (entry_of r))
record-means r = at r.kind r.prepare_empty
  where
    at : (k : Kind) → (k ≡ Prepare → (r.value.root ≡ 0) × (r.value.setup ≡ 0))
        → (is_kind (kind_number k) ≡ true)
        × (unless {A = Entry} (meaningless (record { kind = kind_number k; attempt = r.attempt; device = r.device; version = r.version; root = r.value.root; setup = r.value.setup }))
        (record { kind = kind_of (kind_number k); attempt = r.attempt; device = r.device; version = r.version; value = r.value })
        ≡ Ok (record { kind = k; attempt = r.attempt; device = r.device; version = r.version; value = r.value }))
    at Prepare empty = let z = empty refl in let a = r.attempt_in.0 in let v = r.version_in.0 in (refl, grind (arith, nat_tests))
    at Accept empty = let a = r.attempt_in.0 in let v = r.version_in.0 in (refl, grind (arith, nat_tests))

-- a record's bytes stand for it
pub decoded-encoded : (r : Record) → decoded (encoded (entry_of r)) ≡ Ok (entry_of r)
decoded-encoded r =
    let e = entry_of r in
    let n : number_from_digits 256 (encoded e) ≡ packed e =
    number-bytes_of 16 (packed e)
    ∙ mod-eq_of_lt (packed-small e r.attempt_in.1 r.device_in r.version_in.1 r.value_in.0 r.value_in.1) in
    let u = ap unpacked n ∙ unpacked-packed e r.attempt_in.1 r.device_in r.version_in.1 r.value_in.0 r.value_in.1 in
    ap (λ m. unless (when (not (is_kind m.kind)) UnknownKind ∷ meaningless m) (entry_from m)) u
    ∙ ap (λ b. cond (not b) (Err UnknownKind) (unless (meaningless (numbers_in e)) (entry_from (numbers_in e)))) (record-means r).0
    ∙ (record-means r).1
