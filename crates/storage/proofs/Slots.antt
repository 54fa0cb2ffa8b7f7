-- The sixteen bytes at a place, where another part of the area is written. Assumes nothing.
use Rattle.std.proofs.Common.{◌≡◌, ℕ, ◌+◌, ◌-◌, ◌*◌, ◌<◌, ◌≤◌, List, ◌++◌, length, take, drop, sym, ap, ◌∙◌, append_assoc, arith}
use lib.Seq.{paste}
use Rattle.std.proofs.lemmas.List.{drop-take, take-take, drop_at, take_at, take_all, length-take-le}
use Rattle.storage.specs.Areas.{slot}

-- a slot lies in any front that reaches past it
slot-front : (bs : List ℕ) (k n : ℕ) → k * 16 + 16 ≤ n → slot (take n bs) k ≡ slot bs k
slot-front bs k n h =
    let m = n - k * 16 in
    let e : n ≡ k * 16 + m = omega arith in
    ap (λ x. take 16 (drop (k * 16) (take x bs))) e ∙ ap (take 16) (drop-take (k * 16) m bs) ∙ take-take 16 m (drop (k * 16) bs) (omega arith)

slot_same : (cs bs : List ℕ) (k n : ℕ) → k * 16 + 16 ≤ n → take n cs ≡ take n bs → slot cs k ≡ slot bs k
slot_same cs bs k n h e = sym (slot-front cs k n h) ∙ ap (λ x. slot x k) e ∙ slot-front bs k n h

-- sixteen bytes written at place k
module _ (bs new : List ℕ) (k : ℕ) (inside : k * 16 + 16 ≤ length bs) (long : length new ≡ 16) where
  front : take (k * 16) (paste bs (k * 16) new 16) ≡ take (k * 16) bs
  front =
      let n : length (take (k * 16) bs) ≡ k * 16 = length-take-le (k * 16) bs (omega arith) in
      ap (take (k * 16)) (append_assoc (take (k * 16) bs) (take 16 new) (drop (k * 16 + 16) bs)) ∙ take_at (take (k * 16) bs) _ (k * 16) n

  pub slot-new : slot (paste bs (k * 16) new 16) k ≡ new
  slot-new =
      let n : length (take (k * 16) bs) ≡ k * 16 = length-take-le (k * 16) bs (omega arith) in
      let whole : take 16 new ≡ new = take_all 16 new (omega arith) in
      ap (λ x. take 16 (drop (k * 16) x)) (append_assoc (take (k * 16) bs) (take 16 new) (drop (k * 16 + 16) bs))
      ∙ ap (take 16) (drop_at (take (k * 16) bs) (take 16 new ++ drop (k * 16 + 16) bs) (k * 16) n)
      ∙ ap (λ x. take 16 (x ++ drop (k * 16 + 16) bs)) whole
      ∙ take_at new (drop (k * 16 + 16) bs) 16 long

  pub slot-old : (i : ℕ) → i < k → slot (paste bs (k * 16) new 16) i ≡ slot bs i
  slot-old i h = slot_same (paste bs (k * 16) new 16) bs i (k * 16) (omega arith) front
