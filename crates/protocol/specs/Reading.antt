-- What a device has from the records of an account that it reads.
use Rattle.std.specs.Prelude.{ℕ, max, Bool, cond, ◌&&◌, ◌||◌, List, length, drop, fold, ◌==◌}
use Rattle.record.specs.Entry.{Entry, ballot}
use Rattle.journal.specs.Log.{accepts, tell}
use Rattle.journal.specs.declared.view.View.{View}
use Rattle.protocol.specs.Device.{Device, is_accepting, next_version, own_ballot, slot_at, with_slot}
use Rattle.protocol.specs.declared.notes.Notes.{Notes}
use Rattle.protocol.specs.declared.slot.Slot.{Slot}

-- record e, after records that said u, is device d's own ACCEPT, and is accepted
abbrev pub is_own : ℕ → Device → View → Entry → Bool
is_own d v u e = is_accepting v.phase && (accepts (next_version v) u e && ballot e == own_ballot d v)

-- the highest attempt seen in records of the device's next version, once e was read
abbrev pub seen_with : Device → ℕ → Entry → ℕ
seen_with v seen e = cond (e.version == next_version v) (max seen e.attempt) seen

-- device d has read one record more
abbrev pub noted : ℕ → Device → Notes → Entry → Notes
noted d v n e =
    record {
      view = tell (next_version v) n.view e;
      own = n.own || is_own d v n.view e;
      seen = seen_with v n.seen e;
    }

-- what it has noted of account k, whose log is l, before it reads there, and once it has read from its place to the end
abbrev pub notes_before : Device → ℕ → Notes
notes_before v k = record { view = (slot_at v k).view; own = (slot_at v k).own; seen = v.seen }

abbrev pub notes_after : ℕ → Device → ℕ → List Entry → Notes
notes_after d v k l = fold (noted d v) (notes_before v k) (drop (slot_at v k).place l)

abbrev pub slot_after : ℕ → Device → ℕ → List Entry → Slot
slot_after d v k l =
    let n = notes_after d v k l in
    record { place = length l; view = n.view; sent = (slot_at v k).sent; own = n.own }

abbrev pub caught_up : ℕ → Device → ℕ → List Entry → Device
caught_up d v k l = with_slot v k (slot_after d v k l) (notes_after d v k l).seen
