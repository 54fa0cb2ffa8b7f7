use Rattle.std.proofs.Common.{rules, arith}
use Rattle.protocol.specs.Device.{fresh, unmarked}
use Rattle.group.proofs.Arrays.{mapped}
use Rattle.group.proofs.device.Device.begin.Goals as goal

pub returns : goal.returns
returns c =
    let slots = mapped _ unmarked _ (λ x y q k. search (rules, k)) fresh _ c.map-slots.result 7 (omega arith) c.map-slots.ensures.items in
    search (rules, slots)
