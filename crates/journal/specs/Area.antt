-- What an area of bytes holds, and what it says about a version.
use Rattle.std.specs.Prelude.{ℕ, zero, suc, ◌*◌, ◌%◌, not, ◌&&◌, List, [], ◌∷◌, map, length, take, drop, Some, None, Ok, Err, vec_items, Option, Result, ◌==◌, nat_le, nat_lt}
use Rattle.record.specs.Checks.{Check, when, unless}
use Rattle.record.specs.Entry.{Entry, entry_of}
use Rattle.record.specs.Layout.{decoded}
use Rattle.record.specs.declared.refusal.Refusal.{Refusal}
use Rattle.record.specs.declared.refusal.Refusal.TheVariants.{NotWhole, NoVersion, TooWide}
use Rattle.journal.specs.Log.{says}
use Rattle.journal.specs.declared.area.Fault.{Fault}
use Rattle.journal.specs.declared.area.Fault.TheVariants.{Request, Record}
use Rattle.journal.specs.declared.area.Reading.{Reading}
use Rattle.journal.specs.declared.view.View.{View}

-- the most records that an area may hold
abbrev pub limit : ℕ
limit = 4096

-- the records at the front of an area, and why what follows them is none, if anything follows
pub record Front : Type 0 where
  pub entries : List Entry
  pub refusal : Option Refusal

abbrev pub stopped : Option Refusal → Front
stopped o = record { entries = []; refusal = o }

abbrev pub before : Result Entry Refusal → Front → Front
before (Ok e) f = record { entries = e ∷ f.entries; refusal = f.refusal }
before (Err d) f = stopped (Some d)

-- at most n records, each of the next sixteen bytes; more bytes than that are not whole
unfoldable pub read_area : ℕ → List ℕ → Front
read_area zero [] = stopped None
read_area zero (b ∷ bs) = stopped (Some NotWhole)
read_area (suc n) [] = stopped None
read_area (suc n) (b ∷ bs) = before (decoded (take 16 (b ∷ bs))) (read_area n (drop 16 (b ∷ bs)))

abbrev pub reading_of : Reading → Front
reading_of r = record { entries = map entry_of (vec_items r.records); refusal = r.refusal }

-- the view of a version, or the place of the first bad record
abbrev pub viewed : ℕ → Front → Result View Fault
viewed w f = elim f.refusal [ None ↦ Ok (says w f.entries) | Some d ↦ Err (Record (length f.entries) d) ]

abbrev pub request_checks : List ℕ → ℕ → List Check
request_checks bs w =
    when (not (length bs % 16 == 0 && nat_le (length bs) (16 * limit))) NotWhole
    ∷ when (nat_lt 1023 w) TooWide
    ∷ when (w == 0) NoVersion
    ∷ []

abbrev pub if_requested : {A : Type 0} → Result A Refusal → (A → Result View Fault) → Result View Fault
if_requested (Ok a) g = g a
if_requested (Err d) g = Err (Request d)

abbrev pub inspected : List ℕ → ℕ → Result View Fault
inspected bs w = if_requested (unless (request_checks bs w) (read_area limit bs)) (viewed w)
