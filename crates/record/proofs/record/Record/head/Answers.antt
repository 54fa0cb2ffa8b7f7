use Rattle.std.proofs.Common.{◌+◌, ◌*◌, ◌^◌, ◌<◌, ap, ◌∙◌, arith}
use Rattle.record.proofs.Packing.{head-is}
use Rattle.record.proofs.Trips.{kind-small}
use Rattle.record.proofs.record.Record.head.Goals as goal

pub returns : goal.returns
returns c =
    let r = c.args.self.now in
    let k : c.from-kind.result < 4 = omega (arith, kind-small r.kind, c.from-kind.ensures) in
    head-is c.from-kind.result r.attempt r.device r.version k (omega arith) (omega arith) (omega arith)
    ∙ ap (λ x. x * 2 ^ 30 + r.attempt * 2 ^ 14 + r.device * 2 ^ 10 + r.version) c.from-kind.ensures
