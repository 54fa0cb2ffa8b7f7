use Rattle.std.proofs.Common.{◌≡◌, ◌<◌, sym, ap, ◌∙◌, arith}
use Rattle.record.specs.Layout.{from_numbers}
use Rattle.storage.specs.Rows.{row_book, row_at, numbers_of}
use Rattle.storage.proofs.Placing.{placed-read, placed_past}
use Rattle.storage.proofs.Sound.{numbers-ok}
use Rattle.storage.proofs.versioned_file.calls.VersionedFileAccount.read.Goals as goal

pub returns-then-place-self : goal.returns-then-place-self
unfolding row_book
returns-then-place-self c = sym (placed_past _ c.args.self.now.used c.args.place (omega arith))

pub returns : goal.returns
unfolding row_book
returns c =
    let s = c.args.self.now in
    let k = c.args.place in
    let h : k < s.used = omega arith in
    let e : c.loop-at.at ≡ k = omega arith in
    c.try_into.ensures
    ∙ ap from_numbers c.from.ensures
    ∙ ap (λ i. from_numbers (numbers_of (row_at s.rows.now i))) e
    ∙ numbers-ok (numbers_of (row_at s.rows.now k)) (s.sound k h)
    ∙ sym (placed-read _ s.used k h)
