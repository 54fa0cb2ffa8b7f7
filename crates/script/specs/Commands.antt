-- What a line asks for.
use Rattle.std.specs.Prelude.{ℕ, suc, Bool, true, cond, not, ◌&&◌, List, [], ◌∷◌, length, Some, None, Err, Option, Result, ◌==◌, slice_index_or}
use Rattle.record.specs.Checks.{Check, when, unless}
use Rattle.record.specs.declared.refusal.Refusal.{Refusal}
use Rattle.record.specs.declared.refusal.Refusal.TheVariants.{UnknownCommand, WrongCount, BadNumber}
use Rattle.protocol.specs.declared.call.Call.{Call}
use Rattle.protocol.specs.declared.call.Call.TheVariants.{Join, SetLink, Propose, Send, Read, Again, Restart, Known}
use Rattle.script.specs.Numerals.{value_of, fits}
use Rattle.script.specs.Parts.{fields_of, number_count}

-- a letter, the bits of each number after it, and the call that they stand for: number k is n k, counted from 1
pub record Command : Type 0 where
  pub letter : ℕ
  pub bits : List ℕ
  pub call : (ℕ → ℕ) → Call

abbrev command : ℕ → List ℕ → ((ℕ → ℕ) → Call) → Command
command c bits f = record { letter = c; bits = bits; call = f }

-- the letters are J, L, P, S, R, A, X and K
abbrev pub commands : List Command
commands =
    command 74 (32 ∷ []) (λ n. Join (n 1))
    ∷ command 76 (32 ∷ 32 ∷ 32 ∷ []) (λ n. SetLink (n 1) (n 2) (n 3))
    ∷ command 80 (32 ∷ 32 ∷ 64 ∷ 32 ∷ []) (λ n. Propose (n 1) (n 2) (record { root = n 3; setup = n 4 }))
    ∷ command 83 (32 ∷ 32 ∷ []) (λ n. Send (n 1) (n 2))
    ∷ command 82 (32 ∷ 32 ∷ []) (λ n. Read (n 1) (n 2))
    ∷ command 65 (32 ∷ []) (λ n. Again (n 1))
    ∷ command 88 (32 ∷ []) (λ n. Restart (n 1))
    ∷ command 75 (32 ∷ []) (λ n. Known (n 1))
    ∷ []

abbrev pub find : ℕ → List Command → Option Command
find c [] = None
find c (x ∷ xs) = cond (c == x.letter) (Some x) (find c xs)

-- a first field of one letter
abbrev pub letter_of : List ℕ → Option ℕ
letter_of [] = None
letter_of (c ∷ []) = Some c
letter_of (c ∷ d ∷ cs) = None

abbrev pub command_of : Option ℕ → Option Command
command_of None = None
command_of (Some c) = find c commands

abbrev pub field_at : List ℕ → ℕ → List ℕ
field_at line k = slice_index_or (fields_of line) k []

abbrev pub number_at : List ℕ → ℕ → ℕ
number_at line k = value_of (field_at line k)

-- the numbers of a line from number k on fit so many bits each
abbrev pub fit_from : ℕ → List ℕ → List ℕ → Bool
fit_from k [] line = true
fit_from k (b ∷ bs) line = fits b (field_at line k) && fit_from (suc k) bs line

abbrev pub number_checks : List ℕ → List ℕ → List Check
number_checks bits line =
    when (not (number_count line == length bits)) WrongCount ∷ when (not (fit_from 1 bits line)) BadNumber ∷ []

abbrev pub read_as : Option Command → List ℕ → Result Call Refusal
read_as None line = Err UnknownCommand
read_as (Some c) line = unless (number_checks c.bits line) (c.call (number_at line))

-- the call that a line stands for, or why it is refused
unfoldable pub parsed_line : List ℕ → Result Call Refusal
parsed_line line = read_as (command_of (letter_of (field_at line 0))) line
