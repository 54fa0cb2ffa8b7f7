use Rattle.std.proofs.Common.{◌≡◌, ◌-◌, ◌≤◌, map, vec_items, vec_len}
use Rattle.std.specs.Slice.Iter.{chunks_rest, chunks_size}
use Rattle.record.specs.Entry.{entry_of}
use Rattle.journal.specs.Area.{read_area, limit}
use Rattle.journal.proofs.Fronts.{after}
use Rattle.journal.proofs.area.read_area.Given as goal

-- the records so far, before what is read of the rest, are what is read of the whole area
abbrev pub invariant-loop-bytes : goal.invariant-loop-bytes
invariant-loop-bytes l =
    (goal.iterator-loop-bytes).can_next l.bytes-iterator
    × (goal.iterator-loop-bytes).is_finite l.bytes-iterator
    × (chunks_size l.bytes-iterator ≡ 16)
    × (vec_len l.records ≤ limit)
    × (after (map entry_of (vec_items l.records)) (read_area (limit - vec_len l.records) (chunks_rest l.bytes-iterator)) ≡ read_area limit l.area)
