-- The sizes of memory that an account can be founded on, and how many records each has room for.
use Rattle.std.specs.Prelude.{◌≡◌, ℕ, ◌/◌, ◌%◌, Bool, not, ◌&&◌, List, [], ◌∷◌, Ok, Err, Result, ◌==◌, nat_le}
use Rattle.record.specs.Checks.{when, unless}
use Rattle.record.specs.declared.refusal.Refusal.{Refusal}
use Rattle.record.specs.declared.refusal.Refusal.TheVariants.{BadSize}

-- either kind holds at most 4,096 records
abbrev pub is_maximum : ℕ → Bool
is_maximum m = nat_le 1 m && nat_le m 4096

-- n bytes, of which a record takes sixteen
abbrev pub byte_room : ℕ → Result ℕ Refusal
byte_room n = unless (when (not (n % 16 == 0 && is_maximum (n / 16))) BadSize ∷ []) (n / 16)

-- n rows, of which a record takes one
abbrev pub row_room : ℕ → Result ℕ Refusal
row_room n = unless (when (not (is_maximum n)) BadSize ∷ []) n

pub record SizeExample : Type 0 where
  pub bytes : ℕ
  pub room : Result ℕ Refusal

abbrev pub size_examples : List SizeExample
size_examples =
    record { bytes = 16; room = Ok 1 }
    ∷ record { bytes = 65536; room = Ok 4096 }
    ∷ record { bytes = 15; room = Err BadSize }
    ∷ record { bytes = 65552; room = Err BadSize }
    ∷ []

abbrev pub SizesHold : List SizeExample → Type 0
SizesHold [] = Unit {0}
SizesHold (x ∷ xs) = (byte_room x.bytes ≡ x.room) × SizesHold xs
