use Rattle.std.proofs.Common.{◌≡◌, ◌-◌, take, drop, fold}
use Rattle.protocol.specs.Device.{slot_at}
use Rattle.protocol.specs.Reading.{noted, notes_before}
use Rattle.group.specs.Models.{log_of}
use Rattle.group.proofs.device.Device.note_all.Given as goal

-- the notes after the records from the device's place up to i
abbrev pub invariant-loop-i : goal.invariant-loop-i
invariant-loop-i g l =
    let v = l.self in
    let p = (slot_at v l.k.number).place in
    l.notes ≡ fold (noted l.d.number v) (notes_before v l.k.number) (take (l.i - p) (drop p (log_of (g.A.Accounts.books l.accounts) l.k.number)))
