use Rattle.std.proofs.Common.{◌≡◌, ℕ, List, ◌-◌, below_more, ◌+◌, ◌*◌, ◌/◌, ◌<◌, ◌≤◌, eqb, ◌++◌, length, take, drop, is_ok, Ok, sym, refl, ap, ◌∙◌, arith}
use lib.Seq.{paste, length-paste}
use borrow.Rule.Slice.PartMut.{put_mid, same_len_mid}
use Rattle.std.proofs.lemmas.Slice.{put_mid-paste}
use Rattle.std.proofs.lemmas.List.{take_all}
use Rattle.std.proofs.lemmas.Bool.{cond-true, cond-false, eq-eqb, ne_eqb}
use Rattle.std.specs.Int.Digits.{number_from_digits}
use Rattle.record.specs.Entry.{entry_of}
use Rattle.record.specs.Layout.{decoded, unpacked, entry_from}
use Rattle.storage.specs.Areas.{area_book, slot, record_at}
use Rattle.storage.specs.Places.{placed}
use Rattle.storage.proofs.Placing.{placed-full, placed-more}
use Rattle.storage.proofs.Slots.{slot-new, slot-old}
use Rattle.storage.proofs.Sound.{decoded-is}
use Rattle.storage.proofs.byte_log.calls.ByteLogAccount.append.Goals as goal
use Rattle.storage.proofs.byte_log.calls.ByteLogAccount.append.Goals.{After-copy_from_slice}

pub returns-then-at-self : goal.returns-then-at-self
unfolding area_book
returns-then-at-self c =
    let s = c.args.self.now in
    let m = length s.area.now / 16 in
    let e : s.used ≡ m = omega arith in
    record {
      call = placed-full (record_at s.area.now) s.used m (entry_of c.args.r.now) e;
      lent = refl;
      area = sym (cond-true (eqb s.used m) _ _ (eq-eqb s.used m e));
    }

-- the area after the write
abbrev area-now : After-copy_from_slice → List ℕ
area-now c = put_mid (c.args.self.now.used * 16) (c.args.self.now.used * 16 + 16 - c.args.self.now.used * 16) c.args.self.now.area.now c.copy_from_slice.new.self

area-is : (c : After-copy_from_slice) → area-now c ≡ paste c.args.self.now.area.now (c.args.self.now.used * 16) c.to_bytes.result 16
area-is c =
    put_mid-paste (c.args.self.now.used * 16) (c.args.self.now.used * 16 + 16 - c.args.self.now.used * 16) c.args.self.now.area.now c.copy_from_slice.new.self c.to_bytes.result 16
    c.copy_from_slice.ensures.after
    (omega arith)
    (sym (ap length c.to_bytes.ensures.value))

inside : (c : After-copy_from_slice) → c.args.self.now.used * 16 + 16 ≤ length c.args.self.now.area.now
inside c = omega arith

area-long : (c : After-copy_from_slice) → length (area-now c) ≡ length c.args.self.now.area.now
area-long c =
    ap length (area-is c)
    ∙ length-paste c.args.self.now.area.now (c.args.self.now.used * 16) c.to_bytes.result 16 (inside c) (omega (arith, ap length c.to_bytes.ensures.value))

new-slot : (c : After-copy_from_slice) → slot (area-now c) c.args.self.now.used ≡ c.to_bytes.result
new-slot c =
    let s = c.args.self.now in
    ap (λ x. slot x s.used) (area-is c)
    ∙ slot-new s.area.now c.to_bytes.result s.used (inside c) (ap length c.to_bytes.ensures.value)

old-slot : (c : After-copy_from_slice) (k : ℕ) → k < c.args.self.now.used → slot (area-now c) k ≡ slot c.args.self.now.area.now k
old-slot c k h =
    ap (λ x. slot x k) (area-is c)
    ∙ slot-old c.args.self.now.area.now c.to_bytes.result c.args.self.now.used (inside c) (ap length c.to_bytes.ensures.value) k h

pub invariant_of-self : goal.invariant_of-self
invariant_of-self c =
    let a = (goal.at.invariant_of-self c).After-copy_from_slice in
    let s = c.args.self.now in
    let long = same_len_mid _ _ s.area.now _ c.copy_from_slice.ensures.len in
    record {
      whole = rw long s.whole;
      within = omega (arith, inside a, long);
      sound =
          below_more _ _ (λ k h. ap (λ x. is_ok (decoded x)) (old-slot a k h) ∙ s.sound k h)
          (ap (λ x. is_ok (decoded x)) (new-slot a) ∙ ap is_ok c.to_bytes.ensures.back);
    }

pub returns : goal.returns
unfolding area_book
returns c =
    let a = (goal.at.returns c).After-copy_from_slice in
    let s = c.args.self.now in
    let bs = s.area.now in
    let n = s.used in
    let e = entry_of c.args.r.now in
    let new = c.to_bytes.result in
    let h : n < length bs / 16 = omega (arith, inside a) in
    record {
      call =
          ap (λ m. (Ok (n + 1), placed (record_at (area-now a)) (n + 1) (m / 16))) (area-long a)
          ∙ placed-more (record_at bs) n (length bs / 16) e (record_at (area-now a)) h
          (λ i g. ap (λ x. entry_from (unpacked (number_from_digits 256 x))) (old-slot a i g))
          (ap (λ x. entry_from (unpacked (number_from_digits 256 x))) (new-slot a) ∙ decoded-is new e c.to_bytes.ensures.back);
      lent = refl;
      area =
          area-is a
          ∙ ap (λ x. take (n * 16) bs ++ x ++ drop (n * 16 + 16) bs) (take_all 16 new (omega (arith, ap length c.to_bytes.ensures.value)) ∙ c.to_bytes.ensures.value)
          ∙ sym (cond-false (eqb n (length bs / 16)) _ _ (ne_eqb n (length bs / 16) (λ p. omega arith)));
    }
