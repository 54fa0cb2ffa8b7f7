use Rattle.std.proofs.Common.{◌≡◌, ℕ, Err, ◌*◌, ◌≤◌, min, length, sym, ap, ◌∙◌, arith, rules}
use Rattle.std.specs.Iterator.Adapters.{enumerate_source, enumerate_count}
use Rattle.std.specs.Slice.Iter.{chunks_rest, chunks_size}
use Rattle.std.proofs.lemmas.Result.{err_from_is_err_and}
use Rattle.record.specs.Entry.{entry_of, entry_in}
use Rattle.record.specs.Layout.{decoded}
use Rattle.journal.specs.Area.{before, read_area, limit, viewed}
use Rattle.journal.proofs.Fronts.{read_next, read-end, viewed_from, viewed-start, viewed-more, viewed-bad, viewed-end, inspected-is}
use Rattle.journal.specs.declared.area.Fault.TheVariants.{Record as Fault-at}
use Rattle.journal.proofs.Mapping.{was-ok, was-err}
use Rattle.journal.proofs.area.inspect.Goals as goal
use Rattle.journal.proofs.area.inspect.Goals.{In-Some}

pub loop-place-init : goal.loop-place-init
loop-place-init c =
    let a = c.chunks.ensures in
    let b = c.enumerate-place-items.ensures in
    let d = c.into_iter-place-iterator.ensures.into_iter_gives in
    let it = c.into_iter-place-iterator.result in
    let size : chunks_size (enumerate_source it) ≡ 16 = ap (λ x. chunks_size (enumerate_source x)) d ∙ ap chunks_size b.source ∙ a.size in
    let rest : chunks_rest (enumerate_source it) ≡ c.args.area.now = ap (λ x. chunks_rest (enumerate_source x)) d ∙ ap chunks_rest b.source ∙ a.rest in
    let count : enumerate_count it ≡ 0 = ap enumerate_count d ∙ b.count in
    (size, (limit, omega (arith, ap length rest), (λ i. viewed_from c.args.version (c.new-view.ensures i) (count i) (read_area limit (rest i))) ∙ viewed-start c.args.version _))

-- the record at hand, and what comes after it, are what the whole area says
turn : (c : In-Some)
    → (m : ℕ) × (length (chunks_rest (enumerate_source c.next.new.self)) ≤ 16 * m)
    × (viewed_from c.args.version c.loop-place.view (enumerate_count c.loop-place.place-iterator) (before (decoded c.in-Some.bytes.now) (read_area m (chunks_rest (enumerate_source c.next.new.self))))
    ≡ viewed c.args.version (read_area limit c.args.area.now))
turn c =
    let a = c.in-Some.ensures.steps in
    let i = c.loop-place.invariant in
    let long : length c.in-Some.bytes.now ≡ min 16 (length (chunks_rest (enumerate_source c.loop-place.place-iterator))) = omega (arith, a.0.1.1, i.0) in
    let t = read_next i.1.0 _ c.in-Some.bytes.now _ a.0.1.0 long a.0.1.2 i.1.1 in
    (t.0, t.1, ap (viewed_from c.args.version c.loop-place.view (enumerate_count c.loop-place.place-iterator)) (sym t.2) ∙ i.1.2)

pub loop-place-preserved : goal.loop-place-preserved
loop-place-preserved c =
    let a = c.in-Some.ensures.steps in
    let t = turn (goal.at.loop-place-preserved c).In-Some in
    let w = c.args.version in
    let v = c.loop-place.view in
    let p = enumerate_count c.loop-place.place-iterator in
    let rest = read_area t.0 (chunks_rest (enumerate_source c.next.new.self)) in (
      a.0.0 ∙ c.loop-place.invariant.0,
      (
        t.0,
        t.1,
        (λ k. viewed_from w (c.tell.ensures k) (a.2 k) rest)
            ∙ sym (viewed-more w p v (entry_of c.in_ok-r.r) rest)
            ∙ ap (λ r. viewed_from w v p (before r rest)) (sym (ap entry_in (was-ok _ c.map_err.result c.from_bytes.result c.map_err.ensures.cases c.in_ok-r.r c.in_ok-r.was)) ∙ c.from_bytes.ensures.value)
            ∙ t.2,
      ),
    )

pub returns-in_err-r : goal.returns-in_err-r
returns-in_err-r c =
    let p = err_from_is_err_and c.from_residual.result c.from_residual.ensures.1 in
    let q = was-err _ c.map_err.result c.from_bytes.result c.map_err.ensures.cases c.in_err-r.field-0.0 c.in_err-r.was in
    let f : c.in_err-r.field-0.0 ≡ Fault-at c.in-Some.place q.0 = search (rules, q.2) in
    let t = turn (goal.at.returns-in_err-r c).In-Some in
    let w = c.args.version in
    let v = c.loop-place.view in
    let p' = enumerate_count c.loop-place.place-iterator in
    let rest = read_area t.0 (chunks_rest (enumerate_source c.next.new.self)) in
    p.1
    ∙ ap (λ y. Err y) (p.2 ∙ f)
    ∙ ap (λ n. Err (Fault-at n q.0)) c.in-Some.ensures.steps.1
    ∙ sym (viewed-bad w p' v q.0 rest)
    ∙ ap (λ r. viewed_from w v p' (before r rest)) (sym (ap entry_in q.1) ∙ c.from_bytes.ensures.value)
    ∙ t.2
    ∙ sym (inspected-is c.args.area.now w c.if-area-ne0.false (search rules) (search rules) c.if-version-eq0.false)

pub returns : goal.returns
returns c =
    let i = c.loop-place.invariant in
    let x = c.in-None.ensures.steps in
    let w = c.args.version in
    let v = c.loop-place.view in
    let p = enumerate_count c.loop-place.place-iterator in
    sym (viewed-end w p v)
    ∙ ap (viewed_from w v p) (sym (read-end i.1.0 _ x.0.1.0))
    ∙ i.1.2
    ∙ sym (inspected-is c.args.area.now w c.if-area-ne0.false (search rules) (search rules) c.if-version-eq0.false)
