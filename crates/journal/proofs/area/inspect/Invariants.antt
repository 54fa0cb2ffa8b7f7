use Rattle.std.proofs.Common.{◌≡◌, ℕ, ◌*◌, ◌≤◌, length}
use Rattle.std.specs.Iterator.Adapters.{enumerate_source, enumerate_count}
use Rattle.std.specs.Slice.Iter.{chunks_rest, chunks_size}
use Rattle.journal.specs.Area.{read_area, limit, viewed}
use Rattle.journal.proofs.Fronts.{viewed_from}
use Rattle.journal.proofs.area.inspect.Given as goal

-- n records may still come, and what they add to the view so far is what the whole area says
abbrev pub invariant-loop-place : goal.invariant-loop-place
invariant-loop-place l =
    let s = enumerate_source l.place-iterator in
    (chunks_size s ≡ 16)
    × ((n : ℕ) × (length (chunks_rest s) ≤ 16 * n)
    × (viewed_from l.version l.view (enumerate_count l.place-iterator) (read_area n (chunks_rest s)) ≡ viewed l.version (read_area limit l.area)))
