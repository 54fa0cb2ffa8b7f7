use Rattle.std.proofs.Common.{◌≡◌, ◌/◌, ◌^◌, sym, ◌∙◌, arith}
use Rattle.std.proofs.lemmas.Result.{err_from_is_err_and}
use Rattle.record.specs.Entry.{entry_in}
use Rattle.record.specs.Layout.{decoded}
use Rattle.record.proofs.Decoding.{decoded-is, kind-found, kind-missing}
use Rattle.record.proofs.Trips.{read_back}
use Rattle.record.proofs.record.Record.from_bytes.Goals as goal

pub returns-in_err-try_from : goal.returns-in_err-try_from
returns-in_err-try_from c =
    let whole = decoded-is c.args.bytes.now c.from_be_bytes-head.result c.in-Some.value (omega arith) c.in-Some.ensures.value c.in-Some.ensures.bound.0 c.in-Some.ensures.bound.1 in
    let p = err_from_is_err_and c.from_residual.result c.from_residual.ensures.1 in
    let e : entry_in c.from_residual.result ≡ decoded c.args.bytes.now = rw (p.1, p.2) (kind-missing (c.from_be_bytes-head.result / 2 ^ 30) _ _ c.in_err-try_from.ensures ∙ sym whole) in
    record { value = e; back = read_back c.from_residual.result c.args.bytes.now (λ i. (c.type_inv.bytes i).fits) e }

pub returns : goal.returns
returns c =
    let whole = decoded-is c.args.bytes.now c.from_be_bytes-head.result c.in-Some.value (omega arith) c.in-Some.ensures.value c.in-Some.ensures.bound.0 c.in-Some.ensures.bound.1 in
    let e = c.meaningful.ensures ∙ sym (kind-found (c.from_be_bytes-head.result / 2 ^ 30) _ _ c.in_ok-try_from.ensures) ∙ sym whole in
    record { value = e; back = read_back c.meaningful.result c.args.bytes.now (λ i. (c.type_inv.bytes i).fits) e }
