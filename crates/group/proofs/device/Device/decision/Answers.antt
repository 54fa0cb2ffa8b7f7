use Rattle.std.proofs.Common.{rules, arith, ap, ◌∙◌}
use Rattle.quorum.specs.Rules.{marked}
use Rattle.protocol.specs.Device.{fresh}
use Rattle.protocol.specs.Deciding.{decision}
use Rattle.group.proofs.Arrays.{mapped}
use Rattle.group.proofs.device.Device.decision.Goals as goal

pub returns-then-self-eq1023 : goal.returns-then-self-eq1023
unfolding decision
returns-then-self-eq1023 g c = search rules

pub returns-then-is_quorum : goal.returns-then-is_quorum
unfolding decision
returns-then-is_quorum g c =
    let slots = mapped _ (λ s. s.own) _ (λ x y q k. search (rules, k)) fresh _ c.map.result 7 (omega arith) c.map.ensures.items in
    let own = c.if-is_quorum.ensures ∙ ap (λ l. (g.Q.Quorum.rule c.args.quorum.now).is_quorum (marked l)) slots in
    search (rules, own)

pub returns : goal.returns
unfolding decision
returns g c =
    let slots = mapped _ (λ s. s.own) _ (λ x y q k. search (rules, k)) fresh _ c.map.result 7 (omega arith) c.map.ensures.items in
    let own = c.if-is_quorum.ensures ∙ ap (λ l. (g.Q.Quorum.rule c.args.quorum.now).is_quorum (marked l)) slots in
    search (rules, own)
