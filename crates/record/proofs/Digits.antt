-- The bytes of a number, and the number of some bytes. Assumes nothing.
use Rattle.std.proofs.Common.{◌≡◌, ℕ, zero, suc, ◌+◌, ◌*◌, ◌/◌, ◌%◌, ◌^◌, ◌<◌, ◌≤◌, List, [], ◌∷◌, ◌++◌, length, get_or, drop, sym, refl, ap, ◌∙◌, add_assoc, add-suc, mul-le-mul_right, mul_assoc, mul_comm, add-mul, suc-add, zero-add, div-one, one-add, arith, drop-cons}
use native.Mathlib.Nat.{one-le-pow, pow-succ', div-div-eq-div-mul, mod-one, mul-add-div_right, mul-add-mod_self_right}
use lib.Arith.{mod-mul}
use Rattle.std.proofs.lemmas.Nat.{pow-add, div-mul-add}
use Rattle.std.proofs.lemmas.List.{drop_all}
use Rattle.std.specs.Int.Digits.{number_from_digits, number_from_digits_after}
use Rattle.record.specs.Layout.{bytes_of}

-- the k elements of a list from place i on, each by its place: the form in which a slice pattern has them
abbrev pub spell : List ℕ → ℕ → ℕ → List ℕ
spell bs i zero = []
spell bs i (suc k) = get_or bs i 0 ∷ spell bs (suc i) k

pub spelled : (bs : List ℕ) (i k : ℕ) → length bs ≡ i + k → drop i bs ≡ spell bs i k
spelled bs i zero e = drop_all i bs (omega arith)
spelled bs i (suc k) e =
    let h : i < length bs = omega arith in
    drop-cons bs i 0 h ∙ ap (λ l. get_or bs i 0 ∷ l) (spelled bs (suc i) k (omega arith))

-- the low digits of a number do not depend on the high ones
digit_low : (j k hi lo : ℕ) → (hi * 256 ^ (j + suc k) + lo) / 256 ^ k % 256 ≡ lo / 256 ^ k % 256
digit_low j k hi lo =
    let g : hi * 256 ^ j * 256 * 256 ^ k ≡ hi * (256 ^ j * (256 * 256 ^ k)) = simp mul_assoc in
    let e : hi * 256 ^ (j + suc k) ≡ hi * 256 ^ j * 256 * 256 ^ k =
    ap (λ x. hi * x) (pow-add 256 j (suc k) ∙ ap (λ x. 256 ^ j * x) (pow-succ' 256 k)) ∙ sym g in
    ap (λ x. (x + lo) / 256 ^ k % 256) e
    ∙ ap (λ x. x % 256) (mul-add-div_right (one-le-pow k 256 (omega arith)) (hi * 256 ^ j * 256) lo)
    ∙ mul-add-mod_self_right (hi * 256 ^ j) 256 (lo / 256 ^ k)

low : (k j hi lo : ℕ) → bytes_of k (hi * 256 ^ (j + k) + lo) ≡ bytes_of k lo
low zero j hi lo = refl
low (suc k) j hi lo =
    λ i.
    digit_low j k hi lo i
    ∷ (ap (λ x. bytes_of k (hi * 256 ^ x + lo)) (add-suc j k ∙ sym (suc-add j k)) ∙ low k (suc j) hi lo) i

-- the bytes of two numbers side by side
pub bytes-split : (j k hi lo : ℕ) → lo < 256 ^ k → bytes_of (j + k) (hi * 256 ^ k + lo) ≡ bytes_of j hi ++ bytes_of k lo
bytes-split zero k hi lo h =
    ap (λ x. bytes_of x (hi * 256 ^ k + lo)) (zero-add k)
    ∙ ap (λ x. bytes_of k (hi * 256 ^ x + lo)) (sym (zero-add k))
    ∙ low k 0 hi lo
bytes-split (suc j) k hi lo h =
    ap (λ x. bytes_of x (hi * 256 ^ k + lo)) (suc-add j k) ∙ (λ i. (first i % 256) ∷ bytes-split j k hi lo h i)
  where
    first : (hi * 256 ^ k + lo) / 256 ^ (j + k) ≡ hi / 256 ^ j
    first =
        ap (λ x. (hi * 256 ^ k + lo) / x) (pow-add 256 j k ∙ mul_comm (256 ^ j) (256 ^ k))
        ∙ sym (div-div-eq-div-mul (hi * 256 ^ k + lo) (256 ^ k) (256 ^ j))
        ∙ ap (λ x. x / 256 ^ j) (div-mul-add hi (256 ^ k) lo h)

after : (n : ℕ) (bs : List ℕ) → number_from_digits_after 256 n bs ≡ n * 256 ^ length bs + number_from_digits 256 bs
after n [] = omega arith
after n (x ∷ xs) =
    let p = 256 ^ length xs in
    let e : n * 256 * p ≡ n * 256 ^ suc (length xs) = mul_assoc n 256 p ∙ ap (λ z. n * z) (sym (pow-succ' 256 (length xs))) in
    after (n * 256 + x) xs
    ∙ ap (λ z. z + number_from_digits 256 xs) (add-mul (n * 256) x p ∙ ap (λ z. z + x * p) e)
    ∙ add_assoc (n * 256 ^ suc (length xs)) (x * p) (number_from_digits 256 xs)
    ∙ ap (λ z. n * 256 ^ suc (length xs) + z) (ap (λ z. z * p + number_from_digits 256 xs) (sym (zero-add x)) ∙ sym (after (0 + x) xs))

number-cons : (x : ℕ) (xs : List ℕ) → number_from_digits 256 (x ∷ xs) ≡ x * 256 ^ length xs + number_from_digits 256 xs
number-cons x xs = let e : 0 * 256 + x ≡ x = omega arith in ap (λ z. number_from_digits_after 256 z xs) e ∙ after x xs

pub length-bytes_of : (k n : ℕ) → length (bytes_of k n) ≡ k
length-bytes_of zero n = refl
length-bytes_of (suc k) n = ap suc (length-bytes_of k n)

pub number-bytes_of : (k n : ℕ) → number_from_digits 256 (bytes_of k n) ≡ n % 256 ^ k
number-bytes_of zero n = sym (mod-one n)
number-bytes_of (suc k) n =
    number-cons (n / 256 ^ k % 256) (bytes_of k n)
    ∙ (λ i. (n / 256 ^ k % 256) * 256 ^ length-bytes_of k n i + number-bytes_of k n i)
    ∙ sym (mod-mul n {m = 256} {c = 256 ^ k} (omega arith) (one-le-pow k 256 (omega arith)))
    ∙ ap (λ x. n % x) (sym (pow-succ' 256 k))

-- every element is a byte
abbrev pub Bytes : List ℕ → Type 0
Bytes bs = (i : ℕ) → get_or bs i 0 < 256

number_small : (bs : List ℕ) → Bytes bs → number_from_digits 256 bs < 256 ^ length bs
number_small [] small = omega arith
number_small (x ∷ xs) small =
    let p = 256 ^ length xs in
    let g : number_from_digits 256 xs < p = number_small xs (λ i. small (suc i)) in
    let h : x * p ≤ 255 * p = mul-le-mul_right p (omega (arith, small 0)) in
    omega (arith, number-cons x xs, pow-succ' 256 (length xs))

-- a list of bytes is the bytes of its number
pub bytes_of-number : (bs : List ℕ) → Bytes bs → bytes_of (length bs) (number_from_digits 256 bs) ≡ bs
bytes_of-number [] small = refl
bytes_of-number (x ∷ xs) small =
    let k = length xs in
    let f : x < 256 = small 0 in
    let d : x / 256 ^ 0 % 256 ≡ x = omega arith in
    ap (bytes_of (suc k)) (number-cons x xs)
    ∙ ap (λ j. bytes_of j (x * 256 ^ k + number_from_digits 256 xs)) (sym (one-add k))
    ∙ bytes-split 1 k x (number_from_digits 256 xs) (number_small xs (λ i. small (suc i)))
    ∙ (λ i. d i ∷ bytes_of-number xs (λ j. small (suc j)) i)

-- what `to_be_bytes` gives at 32 and at 64 bits
pub be4 : (n : ℕ) → (n / 2 ^ 24 % 256) ∷ (n / 2 ^ 16 % 256) ∷ (n / 2 ^ 8 % 256) ∷ (n % 256) ∷ [] ≡ bytes_of 4 n
be4 n = let e = sym (div-one n) in λ i. (n / 2 ^ 24 % 256) ∷ (n / 2 ^ 16 % 256) ∷ (n / 2 ^ 8 % 256) ∷ (e i % 256) ∷ []

pub be8 : (n : ℕ)
    → (n / 2 ^ 56 % 256) ∷ (n / 2 ^ 48 % 256) ∷ (n / 2 ^ 40 % 256) ∷ (n / 2 ^ 32 % 256) ∷ (n / 2 ^ 24 % 256) ∷ (n / 2 ^ 16 % 256) ∷ (n / 2 ^ 8 % 256) ∷ (n % 256) ∷ []
    ≡ bytes_of 8 n
be8 n =
    let e = sym (div-one n) in
    λ i. (n / 2 ^ 56 % 256) ∷ (n / 2 ^ 48 % 256) ∷ (n / 2 ^ 40 % 256) ∷ (n / 2 ^ 32 % 256) ∷ (n / 2 ^ 24 % 256) ∷ (n / 2 ^ 16 % 256) ∷ (n / 2 ^ 8 % 256) ∷ (e i % 256) ∷ []
