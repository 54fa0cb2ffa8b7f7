use Rattle.std.proofs.Common.{◌≡◌, ℕ, suc, ◌-◌, min, map, length, vec_items, vec_len, sym, ap, ◌∙◌, arith, rules}
use Rattle.std.specs.Slice.Iter.{chunks_rest, chunks_size}
use Rattle.record.specs.Entry.{entry_of}
use Rattle.record.specs.Layout.{decoded}
use Rattle.journal.specs.Area.{before, read_area, limit}
use Rattle.journal.proofs.Fronts.{after, after_more, nothing-after, read-turn, read-end, read-over}
use Rattle.journal.proofs.area.read_area.Goals as goal
use Rattle.journal.proofs.area.read_area.Goals.{In-Some}

-- the records so far, the one at hand and what comes after it are what is read of the whole area
turn : (c : In-Some) → (vec_len c.loop-bytes.records ≡ limit → ⊥)
    → after (map entry_of (vec_items c.loop-bytes.records))
    (before (decoded c.in-Some.bytes.now) (read_area (limit - suc (vec_len c.loop-bytes.records)) (chunks_rest c.next.new.self)))
    ≡ read_area limit c.args.area.now
turn c room =
    let a = c.in-Some.ensures.steps in
    let i = c.loop-bytes.invariant in
    let long : length c.in-Some.bytes.now ≡ min 16 (length (chunks_rest c.loop-bytes.bytes-iterator)) = omega (arith, a.1.1, i.2) in
    let t = read-turn (limit - suc (vec_len c.loop-bytes.records)) _ c.in-Some.bytes.now _ a.1.0 long a.1.2 in
    let n : limit - vec_len c.loop-bytes.records ≡ suc (limit - suc (vec_len c.loop-bytes.records)) = omega (arith, i.3) in
    ap (after (map entry_of (vec_items c.loop-bytes.records))) (sym (ap (λ k. read_area k (chunks_rest c.loop-bytes.bytes-iterator)) n ∙ t)) ∙ i.4

pub loop-bytes-preserved : goal.loop-bytes-preserved
loop-bytes-preserved c =
    let room : vec_len c.loop-bytes.records ≡ limit → ⊥ = search rules in
    let pushed = c.in_ok-push-in-Ok.ensures in
    let size : chunks_size c.next.new.self ≡ 16 = c.in-Some.ensures.steps.0 ∙ c.loop-bytes.invariant.2 in
    let len : limit - vec_len c.push.new.self ≡ limit - suc (vec_len c.loop-bytes.records) = omega (arith, pushed.len) in
    let rest = λ (n : ℕ). read_area n (chunks_rest c.next.new.self) in (
      omega (arith, size),
      omega arith,
      size,
      omega (arith, pushed.len, room, c.loop-bytes.invariant.3),
      (λ i. after (map entry_of (pushed.items i)) (rest (len i)))
          ∙ after_more (vec_items c.loop-bytes.records) c.in-Ok.r (rest (limit - suc (vec_len c.loop-bytes.records)))
          ∙ ap (λ r. after (map entry_of (vec_items c.loop-bytes.records)) (before r (rest (limit - suc (vec_len c.loop-bytes.records))))) c.in-Ok.ensures.value
          ∙ turn (goal.at.loop-bytes-preserved c).In-Some room,
    )

pub returns-then-len-eq-MOST : goal.returns-then-len-eq-MOST
returns-then-len-eq-MOST c =
    let full : limit - vec_len c.loop-bytes.records ≡ 0 = omega arith in
    nothing-after (map entry_of (vec_items c.loop-bytes.records)) _
    ∙ ap (after (map entry_of (vec_items c.loop-bytes.records))) (sym (read-over _ c.in-Some.ensures.steps.1.2) ∙ ap (λ n. read_area n (chunks_rest c.loop-bytes.bytes-iterator)) (sym full))
    ∙ c.loop-bytes.invariant.4

pub returns-in-Err : goal.returns-in-Err
returns-in-Err c =
    let room : vec_len c.loop-bytes.records ≡ limit → ⊥ = search rules in
    nothing-after (map entry_of (vec_items c.loop-bytes.records)) _
    ∙ ap (λ r. after (map entry_of (vec_items c.loop-bytes.records)) (before r (read_area (limit - suc (vec_len c.loop-bytes.records)) (chunks_rest c.next.new.self)))) c.in-Err.ensures.value
    ∙ turn (goal.at.returns-in-Err c).In-Some room

pub returns : goal.returns
returns c =
    nothing-after (map entry_of (vec_items c.loop-bytes.records)) _
    ∙ ap (after (map entry_of (vec_items c.loop-bytes.records))) (sym (read-end _ _ c.in-None.ensures.steps.1.0))
    ∙ c.loop-bytes.invariant.4
