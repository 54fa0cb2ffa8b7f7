use Rattle.std.proofs.Common.{◌<◌, length, get_or, sym, ap, ◌∙◌, arith}
use Rattle.record.specs.Entry.{Entry, no_value}
use Rattle.record.specs.declared.kind.Kind.TheVariants.{Prepare}
use Rattle.protocol.specs.Device.{slot_at}
use Rattle.protocol.specs.Reading.{noted, notes_before}
use Rattle.group.specs.Models.{log_of}
use Rattle.group.proofs.Logs.{read-of-log, folded-part, read-entry, read-fails}
use Rattle.group.proofs.device.Device.note_all.Goals as goal
use Rattle.group.proofs.device.Device.note_all.Goals.{in-Ok, in_default}

abbrev blank : Entry
blank = record { kind = Prepare; attempt = 0; device = 0; version = 0; value = no_value }

pub loop-i-preserved : goal.loop-i-preserved
loop-i-preserved g c =
    let v = c.args.self.now in
    let k = c.args.k.number in
    let i = c.loop-i.i in
    let bs = g.A.Accounts.books c.args.accounts.now in
    let l = log_of bs k in
    let e = get_or l i blank in
    let f = noted c.args.d.number v in
    let h : i < length l = omega (arith, c.requires, c.loop-i-test.true) in
    let r = c.read.ensures ∙ read-of-log bs k i blank h in
    let more = folded-part f (notes_before v k) l (slot_at v k).place i blank (omega (arith, c.place-i.ensures, c.loop-i.auto.i)) h in
    elim c.match-read.branch [
      | in-Ok w ↦
          let q = read-entry w.in-Ok.r e (w.in-Ok.ensures ∙ read-of-log bs k i blank h) in
          w.notes-is ∙ w.note-notes.ensures ∙ ap (f c.loop-i.notes) q ∙ ap (λ x. f x e) c.loop-i.invariant ∙ sym more
      | in_default w ↦ absurd (read-fails c.read.result e w.in_default.not-Ok r)
    ]
