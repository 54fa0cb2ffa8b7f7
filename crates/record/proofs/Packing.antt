-- The fields of a number of 128 bits, and back. Assumes nothing.
use Rattle.std.proofs.Common.{◌≡◌, ℕ, ◌+◌, ◌*◌, ◌/◌, ◌%◌, ◌^◌, ◌<◌, List, ◌++◌, sym, ap, ◌∙◌, arith}
use lib.Bits.{bit_or}
use Rattle.std.proofs.lemmas.Nat.{or_shifted, shr_split}
use Rattle.record.specs.Entry.{Entry}
use Rattle.record.specs.Halves.{head_of}
use Rattle.record.specs.Layout.{packed, unpacked, bytes_of}
use Rattle.record.specs.declared.numbers.Numbers.{Numbers}
use Rattle.record.proofs.Digits.{spell, bytes-split}

-- the fields by a record's first 32 bits and its value
abbrev pub numbers_of : ℕ → ℕ → ℕ → Numbers
numbers_of w root setup =
    record { kind = w / 2 ^ 30; attempt = w / 2 ^ 14 % 2 ^ 16; device = w / 2 ^ 10 % 2 ^ 4; version = w % 2 ^ 10; root = root; setup = setup }

pub unpacked-is : (w root setup : ℕ) → root < 2 ^ 64 → setup < 2 ^ 32 → unpacked (w * 2 ^ 96 + root * 2 ^ 32 + setup) ≡ numbers_of w root setup
unfolding unpacked
unpacked-is w root setup root-fits setup-fits =
    let n = w * 2 ^ 96 + root * 2 ^ 32 + setup in
    let k : n / 2 ^ 126 ≡ w / 2 ^ 30 = omega arith in
    let a : n / 2 ^ 110 % 2 ^ 16 ≡ w / 2 ^ 14 % 2 ^ 16 = omega arith in
    let d : n / 2 ^ 106 % 2 ^ 4 ≡ w / 2 ^ 10 % 2 ^ 4 = omega arith in
    let v : n / 2 ^ 96 % 2 ^ 10 ≡ w % 2 ^ 10 = omega arith in
    let r : n / 2 ^ 32 % 2 ^ 64 ≡ root = omega arith in
    let s : n % 2 ^ 32 ≡ setup = omega arith in
    λ i. record { kind = k i; attempt = a i; device = d i; version = v i; root = r i; setup = s i }

pub packed-is : (e : Entry) → head_of e * 2 ^ 96 + e.value.root * 2 ^ 32 + e.value.setup ≡ packed e
unfolding packed
packed-is e = omega arith

-- 32 bits are their four parts
pub head-parts : (w : ℕ) → w / 2 ^ 30 * 2 ^ 30 + w / 2 ^ 14 % 2 ^ 16 * 2 ^ 14 + w / 2 ^ 10 % 2 ^ 4 * 2 ^ 10 + w % 2 ^ 10 ≡ w
head-parts w =
    let a : w / 2 ^ 10 * 2 ^ 10 + w % 2 ^ 10 ≡ w = shr_split w 10 in
    let b : w / 2 ^ 14 * 2 ^ 4 + w / 2 ^ 10 % 2 ^ 4 ≡ w / 2 ^ 10 = omega arith in
    let c : w / 2 ^ 30 * 2 ^ 16 + w / 2 ^ 14 % 2 ^ 16 ≡ w / 2 ^ 14 = omega arith in
    omega arith

-- the four parts, shifted and joined bit by bit
pub head-is : (k a d v : ℕ) → k < 4 → a < 2 ^ 16 → d < 2 ^ 4 → v < 2 ^ 10
    → bit_or (bit_or (bit_or (k * 2 ^ 30 % 2 ^ 32) (a * 2 ^ 14 % 2 ^ 32)) (d * 2 ^ 10 % 2 ^ 32)) v ≡ k * 2 ^ 30 + a * 2 ^ 14 + d * 2 ^ 10 + v
head-is k a d v fk fa fd fv =
    let k' : k * 2 ^ 30 % 2 ^ 32 ≡ k * 2 ^ 30 = omega arith in
    let a' : a * 2 ^ 14 % 2 ^ 32 ≡ a * 2 ^ 14 = omega arith in
    let d' : d * 2 ^ 10 % 2 ^ 32 ≡ d * 2 ^ 10 = omega arith in
    let one : bit_or (k * 2 ^ 30 % 2 ^ 32) (a * 2 ^ 14 % 2 ^ 32) ≡ (k * 65536 + a) * 2 ^ 14 =
    (λ i. bit_or (k' i) (a' i)) ∙ or_shifted k 30 (a * 2 ^ 14) (omega arith) ∙ omega arith in
    let two : bit_or ((k * 65536 + a) * 2 ^ 14) (d * 2 ^ 10) ≡ (k * 1048576 + a * 16 + d) * 2 ^ 10 =
    or_shifted (k * 65536 + a) 14 (d * 2 ^ 10) (omega arith) ∙ omega arith in
    (λ i. bit_or (bit_or (one i) (d' i)) v)
    ∙ ap (λ x. bit_or x v) two
    ∙ or_shifted (k * 1048576 + a * 16 + d) 10 v (omega arith)
    ∙ omega arith

-- sixteen bytes by those of the head, the root and the setup
pub bytes-are : (w root setup : ℕ) (ws rs ss : List ℕ) → root < 2 ^ 64 → setup < 2 ^ 32
    → ws ≡ bytes_of 4 w → rs ≡ bytes_of 8 root → ss ≡ bytes_of 4 setup
    → spell ws 0 4 ++ (spell rs 0 8 ++ spell ss 0 4) ≡ bytes_of 16 (w * 2 ^ 96 + root * 2 ^ 32 + setup)
bytes-are w root setup ws rs ss fr fs p q r =
    let g : w * 2 ^ 96 + root * 2 ^ 32 + setup ≡ w * 256 ^ 12 + (root * 256 ^ 4 + setup) = omega arith in
    (λ i. spell (p i) 0 4 ++ (spell (q i) 0 8 ++ spell (r i) 0 4))
    ∙ ap (λ x. bytes_of 4 w ++ x) (sym (bytes-split 8 4 root setup fs))
    ∙ sym (bytes-split 4 12 w (root * 256 ^ 4 + setup) (omega arith))
    ∙ ap (bytes_of 16) (sym g)
