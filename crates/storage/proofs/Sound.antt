-- Bytes and numbers that stand for a record, and which. Assumes nothing.
use Rattle.std.proofs.Common.{◌≡◌, ℕ, ◌^◌, Bool, true, false, cond, not, eqb, List, [], ◌∷◌, length, is_ok, Ok, Err, refl, ap, ◌∙◌}
use Rattle.std.proofs.lemmas.Bool.{false≢true, lt-leb}
use Rattle.std.specs.Int.Digits.{number_from_digits}
use Rattle.record.specs.Checks.{Check, when, unless}
use Rattle.record.specs.Entry.{Entry, entry_of}
use Rattle.record.specs.Layout.{decoded, from_numbers, unpacked, is_kind, too_wide, meaningless, entry_from}
use Rattle.record.specs.declared.numbers.Numbers.{Numbers}
use Rattle.record.specs.declared.record.Record.{Record}
use Rattle.record.proofs.Trips.{numbers_in, record-means}
use Rattle.record.specs.declared.refusal.Refusal.TheVariants.{NotWhole, UnknownKind, TooWide}

-- a table that does not refuse answers what it was asked about
unless-ok : {A : Type 0} (cs : List Check) (a : A) → is_ok (unless cs a) ≡ true → unless cs a ≡ Ok a
unless-ok [] a h = refl
unless-ok (c ∷ cs) a h = at c.test (unless-ok cs a) h
  where
    at : (b : Bool) → (is_ok (unless cs a) ≡ true → unless cs a ≡ Ok a)
        → is_ok (cond b (Err c.refusal) (unless cs a)) ≡ true → cond b (Err c.refusal) (unless cs a) ≡ Ok a
    at true rest g = absurd (false≢true g)
    at false rest g = rest g

pub decoded-ok : (bs : List ℕ) → is_ok (decoded bs) ≡ true → decoded bs ≡ Ok (entry_from (unpacked (number_from_digits 256 bs)))
decoded-ok bs h =
    let n = unpacked (number_from_digits 256 bs) in
    unless-ok (when (not (eqb (length bs) 16)) NotWhole ∷ when (not (is_kind n.kind)) UnknownKind ∷ meaningless n) (entry_from n) h

pub decoded-is : (bs : List ℕ) (e : Entry) → decoded bs ≡ Ok e → entry_from (unpacked (number_from_digits 256 bs)) ≡ e
decoded-is bs e h = let k = decoded-ok bs (ap is_ok h) in cc

pub numbers-ok : (n : Numbers) → is_ok (from_numbers n) ≡ true → from_numbers n ≡ Ok (entry_from n)
numbers-ok n h =
    unless-ok (when (not (is_kind n.kind)) UnknownKind ∷ when (too_wide n) TooWide ∷ meaningless n) (entry_from n) h

pub numbers-is : (n : Numbers) (e : Entry) → from_numbers n ≡ Ok e → entry_from n ≡ e
numbers-is n e h = let k = numbers-ok n (ap is_ok h) in cc

-- a record's own numbers stand for it
pub numbers-back : (r : Record) → from_numbers (numbers_in (entry_of r)) ≡ Ok (entry_of r)
numbers-back r =
    let n = numbers_in (entry_of r) in
    let a = lt-leb (2 ^ 16) r.attempt r.attempt_in.1 in
    let d = lt-leb (2 ^ 4) r.device r.device_in in
    let v = lt-leb (2 ^ 10) r.version r.version_in.1 in
    let x = lt-leb (2 ^ 64) r.value.root r.value_in.0 in
    let y = lt-leb (2 ^ 32) r.value.setup r.value_in.1 in
    let narrow : too_wide n ≡ false = rw (a, d, v, x, y) in
    ap (λ b. cond (not b) (Err UnknownKind) (cond (too_wide n) (Err TooWide) (unless (meaningless n) (entry_from n)))) (record-means r).0
    ∙ ap (λ b. cond b (Err TooWide) (unless (meaningless n) (entry_from n))) narrow
    ∙ (record-means r).1
