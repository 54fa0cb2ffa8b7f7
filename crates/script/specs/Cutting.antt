-- What the steps of cutting say on their way; no other definition rests on these.
use Rattle.std.specs.Prelude.{◌≡◌, ℕ, ◌-◌, ◌≤◌, if◌then◌else◌, List, length, take, drop, slice_index, Some, None, Option, ◌==◌}
use Rattle.std.specs.List.{slice_get}
use Rattle.script.specs.Parts.{fields_of, parts_from, parts_of}

-- field k begins at a place: it is the first of those that are left there
abbrev pub Starts : List ℕ → ℕ → Option ℕ → Type 0
Starts line k None = slice_get (parts_of line) k ≡ None
Starts line k (Some place) =
    (place ≤ length line)
    × (slice_get (parts_from (k == 0) place (fields_of (drop place line))) 0 ≡ slice_get (parts_of line) k)

-- a line without the line feed that ends it
abbrev pub without_line_feed : List ℕ → List ℕ
without_line_feed line =
    if slice_index line (length line - 1) == 10 then take (length line - 1) line else line
