use Rattle.std.proofs.Common.{sym, ap, ◌∙◌}
use Rattle.protocol.proofs.History.{one-order}
use Rattle.group.specs.Acts.{runs_on}
use Rattle.group.specs.Founding.{new_state}
use Rattle.group.proofs.Emptiness.{founded-new}
use Rattle.group.proofs.found.found_and_run.Goals as goal

pub returns : goal.returns
returns g c =
    let R = g.Q.Quorum.rule c.args.quorum in
    let bs = g.A.Accounts.books c.args.accounts in
    record {
      run =
          let e = c.in_ok-answers.ensures.run ∙ ap (λ m. runs_on m c.args.calls.now) c.new-group.ensures in
          (ap (λ p. p.0) e, c.devices.ensures.same ∙ ap (λ p. p.1.state.devices) e);
      order = one-order R (g.met.Q.Quorum.lawful c.args.quorum) (new_state bs) (founded-new R bs (sym c.in_ok-check.ensures)) c.args.calls.now;
      sound = c.devices.ensures.sound;
    }
