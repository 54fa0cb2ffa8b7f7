use Rattle.std.proofs.Common.{rules, false, arith}
use Rattle.protocol.specs.Device.{fresh, with_sent}
use Rattle.group.proofs.Arrays.{mapped}
use Rattle.group.proofs.device.Device.carry.Goals as goal

pub returns : goal.returns
returns c =
    let slots = mapped _ (λ s. with_sent s false) _ (λ x y q k. search (rules, k)) fresh _ c.map-slots.result 7 (omega arith) c.map-slots.ensures.items in
    search (rules, slots)
