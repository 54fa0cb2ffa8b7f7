use Rattle.std.proofs.Common.{◌∙◌}
use Rattle.protocol.specs.Rounds.{round}
use Rattle.protocol.proofs.Ending.{round-ends-from}
use Rattle.group.specs.Rounds.{orders_of}
use Rattle.group.proofs.Acting.{ran-nothing, ran-same}
use Rattle.group.proofs.calls.Calls.round.Goals as goal

pub returns-in_err-calls : goal.returns-in_err-calls
returns-in_err-calls g c =
    record {
      run = ran-nothing (g.Self.Calls.model c.args.self.now) (round c.args.device (orders_of c.args.orders.now)) c.from_residual.result c.from_residual.ensures.0;
      ends = λ S n. round-ends-from _ (g.met.Self.Calls.lawful c.args.self.now) _ _ S _ n;
    }

pub returns : goal.returns
returns g c =
    record {
      run =
          ran-same (g.Self.Calls.model c.args.self.now) (g.Self.Calls.model c.run.new.self) c.as_slice.result.now (round c.args.device (orders_of c.args.orders.now)) c.run.result
          (c.as_slice.ensures.value ∙ c.in_ok-calls.ensures)
          c.run.ensures.run;
      ends = λ S n. round-ends-from _ (g.met.Self.Calls.lawful c.args.self.now) _ _ S _ n;
    }
