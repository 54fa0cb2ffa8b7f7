-- How an input is cut into lines, and a line into fields.
use Rattle.std.specs.Prelude.{◌≡◌, ℕ, suc, ◌+◌, ◌-◌, Bool, true, false, cond, List, [], ◌∷◌, length, ◌==◌}
use Rattle.std.specs.List.{between, onto_first}
use Rattle.script.specs.declared.token.Token.{Token}
use Rattle.script.specs.declared.token.Token.TheVariants.{Word, Number}

-- the pieces between the bytes b; last is what stands after the end
unfoldable pub parted : ℕ → List (List ℕ) → List ℕ → List (List ℕ)
parted b last [] = last
parted b last (c ∷ cs) = cond (c == b) ([] ∷ parted b last cs) (onto_first c (parted b last cs))

-- each line is ended by a line feed or the end of the input: an empty rest is no line
abbrev pub lines_of : List ℕ → List (List ℕ)
lines_of input = parted 10 [] input

-- n spaces part n + 1 fields, of which any may be empty
abbrev pub fields_of : List ℕ → List (List ℕ)
fields_of line = parted 32 ([] ∷ []) line

abbrev pub number_count : List ℕ → ℕ
number_count line = length (fields_of line) - 1

-- a field and its place in the line
pub record Part : Type 0 where
  pub is_word : Bool
  pub place : ℕ
  pub bytes : List ℕ

unfoldable pub parts_from : Bool → ℕ → List (List ℕ) → List Part
parts_from w place [] = []
parts_from w place (f ∷ fs) = record { is_word = w; place = place; bytes = f } ∷ parts_from false (suc (place + length f)) fs

-- the first field is a word, and the others are numbers
abbrev pub parts_of : List ℕ → List Part
parts_of line = parts_from true 0 (fields_of line)

-- it stands in the line at its place
abbrev pub LiesIn : List ℕ → Part → Type 0
LiesIn line p = between p.place (p.place + length p.bytes) line ≡ p.bytes

abbrev pub part_of : Token → Part
part_of (Word bytes place) = record { is_word = true; place = place; bytes = bytes.now }
part_of (Number bytes place) = record { is_word = false; place = place; bytes = bytes.now }
