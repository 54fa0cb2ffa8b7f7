use Rattle.std.proofs.Common.{vec_items, ◌∙◌, arith}
use Rattle.protocol.specs.declared.call.Call.TheVariants.{Join}
use Rattle.protocol.proofs.Ending.{one-order-from}
use Rattle.group.proofs.Acting.{run_none, run_more, run-all, ran-nothing}
use Rattle.group.proofs.calls.Calls.run.Goals as goal

pub loop-call-init : goal.loop-call-init
loop-call-init g c =
    let m = g.Self.Calls.model c.args.self.now in
    let made = c.in_ok-answers.ensures in
    (made.len, made.capacity, (λ i. (made.items i, m)) ∙ run_none m c.args.calls.now)

pub loop-call-preserved : goal.loop-call-preserved
loop-call-preserved g c =
    let inv = c.loop-call.invariant in
    let model = g.Self.Calls.model in
    let cs = c.args.calls.now in
    let i = c.loop-call.call-index in
    let next =
    run_more (model c.args.self.now) (model c.loop-call.self) (model c.call-answer.new.self) cs i (Join 0) (vec_items c.loop-call.answers) c.call-answer.result
    c.loop-call-test.true inv.2 c.call-answer.ensures in (
      omega (arith, inv.0, c.push_reserved.ensures.len),
      omega (arith, inv.1, c.push_reserved.ensures.capacity),
      (λ j. (c.push_reserved.ensures.items j, model c.call-answer.new.self)) ∙ next,
    )

pub returns-in_err-answers : goal.returns-in_err-answers
returns-in_err-answers g c =
    record {
      run = ran-nothing (g.Self.Calls.model c.args.self.now) c.args.calls.now c.from_residual.result c.from_residual.ensures.0;
      order = one-order-from _ (g.met.Self.Calls.lawful c.args.self.now) _ _;
    }

pub returns : goal.returns
returns g c =
    let model = g.Self.Calls.model in
    record {
      run = run-all (model c.args.self.now) (model c.loop-call.self) c.args.calls.now c.loop-call.call-index (vec_items c.loop-call.answers) c.loop-call-test.false c.loop-call.invariant.2;
      order = one-order-from _ (g.met.Self.Calls.lawful c.args.self.now) _ _;
    }
