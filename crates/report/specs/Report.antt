-- A whole report: a line for each record, for what is no record, and for each version, and a closing line.
use Rattle.std.specs.Prelude.{ℕ, zero, suc, ◌+◌, ◌-◌, Bool, cond, not, count_by, List, [], ◌∷◌, ◌++◌, length, Some, None, Option, ◌==◌}
use Rattle.std.specs.List.{list_any}
use Rattle.record.specs.Entry.{Entry}
use Rattle.record.specs.declared.refusal.Refusal.{Refusal}
use Rattle.journal.specs.Area.{read_area, limit}
use Rattle.journal.specs.Log.{is_accept, says}
use Rattle.journal.specs.declared.view.View.{View}
use Rattle.report.specs.Lines.{record_line, refusal_line, view_line, closing_line}

-- the first of the records is at this place
unfoldable pub record_lines : ℕ → List Entry → List ℕ
record_lines place [] = []
record_lines place (e ∷ es) = record_line place e ++ record_lines (suc place) es

abbrev pub occurs : ℕ → List Entry → Bool
occurs w es = list_any (λ e. e.version == w) es

-- what the records say about version w, if it occurs
abbrev pub surveyed : ℕ → List Entry → Option View
surveyed w es = cond (occurs w es) (Some (says w es)) None

abbrev pub version_line : ℕ → Option View → List ℕ
version_line w None = []
version_line w (Some v) = view_line w v

-- n versions from w on
unfoldable pub version_lines : ℕ → ℕ → List Entry → List ℕ
version_lines zero w es = []
version_lines (suc n) w es = version_line w (surveyed w es) ++ version_lines n (suc w) es

-- 1 if version w occurs, else 0
abbrev pub occurrence : ℕ → List Entry → ℕ
occurrence w es = cond (occurs w es) 1 0

unfoldable pub version_count : ℕ → ℕ → List Entry → ℕ
version_count zero w es = 0
version_count (suc n) w es = occurrence w es + version_count n (suc w) es

abbrev pub prepares : List Entry → ℕ
prepares es = count_by (λ e. not (is_accept e.kind)) es

abbrev pub refusal_lines : ℕ → Option Refusal → List ℕ
refusal_lines place None = []
refusal_lines place (Some d) = refusal_line place d

abbrev pub front_text : List Entry → Option Refusal → List ℕ
front_text es o =
    record_lines 0 es
    ++ (refusal_lines (length es) o
    ++ (version_lines 1023 1 es ++ closing_line (prepares es) (length es - prepares es) (version_count 1023 1 es)))

-- the report of an area of bytes, of any length
abbrev pub reported : List ℕ → List ℕ
reported bs = let f = read_area limit bs in front_text f.entries f.refusal
