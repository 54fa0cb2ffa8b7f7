-- Sixteen bytes as a record, numbers as a record, and a record as sixteen bytes.
use Rattle.std.specs.Prelude.{ℕ, zero, suc, ◌+◌, ◌*◌, ◌/◌, ◌%◌, ◌^◌, Bool, cond, not, ◌&&◌, ◌||◌, List, [], ◌∷◌, length, Result, ◌==◌, nat_le}
use Rattle.std.specs.Int.Digits.{number_from_digits}
use Rattle.record.specs.Checks.{Check, when, unless}
use Rattle.record.specs.Codes.{kind_number}
use Rattle.record.specs.Entry.{Entry}
use Rattle.record.specs.declared.kind.Kind.{Kind}
use Rattle.record.specs.declared.kind.Kind.TheVariants.{Prepare, Accept}
use Rattle.record.specs.declared.numbers.Numbers.{Numbers}
use Rattle.record.specs.declared.refusal.Refusal.{Refusal}
use Rattle.record.specs.declared.refusal.Refusal.TheVariants.{NotWhole, UnknownKind, NoAttempt, NoVersion, PrepareWithValue, TooWide}

abbrev pub is_kind : ℕ → Bool
is_kind k = k == 1 || k == 2

abbrev pub kind_of : ℕ → Kind
kind_of k = cond (k == 1) Prepare Accept

-- the kind that a number stands for
abbrev pub kind_from : ℕ → Result Kind Refusal
kind_from k = unless (when (not (is_kind k)) UnknownKind ∷ []) (kind_of k)

abbrev pub has_no_value : Numbers → Bool
has_no_value n = n.root == 0 && n.setup == 0

-- a field does not fit its width: 16, 4, 10, 64 and 32 bits
abbrev pub too_wide : Numbers → Bool
too_wide n =
    nat_le (2 ^ 16) n.attempt
    || (nat_le (2 ^ 4) n.device
    || (nat_le (2 ^ 10) n.version || (nat_le (2 ^ 64) n.root || nat_le (2 ^ 32) n.setup)))

-- what a record may not be, once its kind is known and its fields fit
abbrev pub meaningless : Numbers → List Check
meaningless n =
    when (n.attempt == 0) NoAttempt
    ∷ when (n.version == 0) NoVersion
    ∷ when (n.kind == 1 && not (has_no_value n)) PrepareWithValue
    ∷ []

abbrev pub entry_from : Numbers → Entry
entry_from n =
    record {
      kind = kind_of n.kind;
      attempt = n.attempt;
      device = n.device;
      version = n.version;
      value = record { root = n.root; setup = n.setup };
    }

-- a record from its fields as numbers
abbrev pub from_numbers : Numbers → Result Entry Refusal
from_numbers n = unless (when (not (is_kind n.kind)) UnknownKind ∷ when (too_wide n) TooWide ∷ meaningless n) (entry_from n)

-- the fields of a number of 128 bits, packed from the most significant bit on: 2, 16, 4, 10, 64 and 32 bits
unfoldable pub unpacked : ℕ → Numbers
unpacked n =
    record {
      kind = n / 2 ^ 126;
      attempt = n / 2 ^ 110 % 2 ^ 16;
      device = n / 2 ^ 106 % 2 ^ 4;
      version = n / 2 ^ 96 % 2 ^ 10;
      root = n / 2 ^ 32 % 2 ^ 64;
      setup = n % 2 ^ 32;
    }

-- a record from bytes, the first of which is the most significant
abbrev pub decoded : List ℕ → Result Entry Refusal
decoded bs =
    let n = unpacked (number_from_digits 256 bs) in
    unless (when (not (length bs == 16)) NotWhole ∷ when (not (is_kind n.kind)) UnknownKind ∷ meaningless n) (entry_from n)

unfoldable pub packed : Entry → ℕ
packed e =
    kind_number e.kind * 2 ^ 126 + e.attempt * 2 ^ 110 + e.device * 2 ^ 106 + e.version * 2 ^ 96
    + e.value.root * 2 ^ 32 + e.value.setup

-- the k bytes of a number, the most significant first
abbrev pub bytes_of : ℕ → ℕ → List ℕ
bytes_of zero n = []
bytes_of (suc k) n = (n / 256 ^ k % 256) ∷ bytes_of k n

abbrev pub encoded : Entry → List ℕ
encoded e = bytes_of 16 (packed e)
