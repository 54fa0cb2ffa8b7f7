use Rattle.std.proofs.Common.{◌≡◌, ◌≤◌, nat_lt, ◌*◌, cond, take, length, sum_by, count_by, ap, ◌∙◌, arith, rules, tests}
use Rattle.std.proofs.lemmas.Iterator.{YieldsList-from_slice, YieldsList-from_map}
use Rattle.std.proofs.lemmas.Iterator.Consumers.{fits_by_from_yields_list}
use Rattle.std.proofs.lemmas.List.{length-take-le}
use Rattle.std.proofs.lemmas.List.Sums.{count_by-le-length}
use Rattle.quorum.proofs.Counting.{counted}
use Rattle.quorum.proofs.majority.MajorityQuorum.is_quorum.Goals as goal

pub sum-members-requires-clause-fits : goal.sum-members-requires-clause-fits
sum-members-requires-clause-fits c =
    let front = take c.args.self.now.n c.args.set in
    let few : sum_by (λ b. cond b 1 0) front ≤ length front = count_by-le-length (λ b. b) front in
    fits_by_from_yields_list (λ b. cond b 1 0) front c.map.result _
    (YieldsList-from_map _ (λ b. cond b 1 0) (YieldsList-from_slice front cc) c.map.ensures.closure (λ x r q k. search (rules, tests)))
    (omega (arith, ap length c.iter.ensures.rest, c.iter.ensures.bound))

pub overflow_mul-result : goal.overflow_mul-result
overflow_mul-result c =
    let n = c.args.self.now.n in
    let front = take n c.args.set in
    let e : c.sum-members.result ≡ count_by (λ m. m) front = search rules in
    omega (arith, e, count_by-le-length (λ m. m) front, length-take-le n c.args.set (omega arith))

pub returns : goal.returns
returns c =
    let n = c.args.self.now.n in
    let e : c.sum-members.result ≡ count_by (λ m. m) (take n c.args.set) = search rules in
    ap (λ k. nat_lt n (2 * k)) (e ∙ counted c.args.set n (omega arith))
