use Rattle.std.proofs.Common.{◌≡◌, ◌+◌, ◌-◌, ◌*◌, ◌<◌, take, drop, sym, ap, ◌∙◌, arith}
use Rattle.record.specs.Layout.{decoded}
use Rattle.storage.specs.Areas.{area_book, slot, record_at}
use Rattle.storage.proofs.Placing.{placed-read, placed_past}
use Rattle.storage.proofs.Sound.{decoded-ok}
use Rattle.storage.proofs.byte_log.calls.ByteLogAccount.read.Goals as goal

pub returns-then-place-self : goal.returns-then-place-self
unfolding area_book
returns-then-place-self c = sym (placed_past _ c.args.self.now.used c.args.place (omega arith))

pub returns : goal.returns
unfolding area_book
returns c =
    let s = c.args.self.now in
    let k = c.args.place in
    let h : k < s.used = omega arith in
    let n : k * 16 + 16 - k * 16 ≡ 16 = omega arith in
    c.from_bytes.ensures.value
    ∙ ap (λ x. decoded (take x (drop (k * 16) s.area.now))) n
    ∙ decoded-ok (slot s.area.now k) (s.sound k h)
    ∙ sym (placed-read (record_at s.area.now) s.used k h)
