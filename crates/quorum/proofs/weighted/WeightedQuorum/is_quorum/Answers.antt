use Rattle.std.proofs.Common.{◌≡◌, ◌*◌, nat_lt, arith}
use Rattle.std.proofs.lemmas.Slice.Zip.{either_empty_from_Zip}
use Rattle.quorum.specs.Rules.{marked}
use Rattle.quorum.specs.Weights.{weight, weight_in}
use Rattle.quorum.proofs.Counting.{weighed-none, weighed-is}
use Rattle.quorum.proofs.weighted.WeightedQuorum.is_quorum.Goals as goal

pub returns : goal.returns
returns c =
    let x = c.args.self.now in
    let left = weighed-none c.loop-marked.marked-iterator.a.rest.now c.loop-marked.marked-iterator.b.rest.now (either_empty_from_Zip c.loop-marked.marked-iterator c.next.new.self c.next.result c.in-None.is c.next.ensures.steps) in
    let e : c.loop-marked.weight ≡ weight (weight_in x.weights) x.n (marked c.args.set) = omega (arith, left, c.loop-marked.invariant.0, weighed-is c.args.set x.weights x.n (omega arith) (omega arith)) in
    λ i. nat_lt (x.adds_up i) (2 * e i)
