use Rattle.std.proofs.Common.{nat_eq, get_or, rules, sym, ap, ◌∙◌, arith}
use Rattle.quorum.specs.Rules.{marked}
use Rattle.protocol.specs.Device.{fresh}
use Rattle.group.proofs.Arrays.{mapped}
use Rattle.group.proofs.Tallying.{quorum-here, quorum-later, quorum-none, quorum-end}
use Rattle.group.proofs.tally.accepted_by_quorum.Goals as goal
use Rattle.group.proofs.tally.accepted_by_quorum.Goals.{else-ballot-ne0-via-then-ballot-ne0+else-is_quorum, else-ballot-ne0-via-else-ballot-ne0}

pub returns-then-is_quorum : goal.returns-then-is_quorum
returns-then-is_quorum g c =
    let R = g.Q.Quorum.rule c.args.quorum.now in
    let ss = c.args.slots.now in
    let b = (get_or ss c.loop-slot.slot-index fresh).view.accepted in
    let set = mapped _ (λ s. nat_eq s.view.accepted b) _ (λ x y q k. search (rules, k)) fresh _ c.map.result 7 (omega arith) c.map.ensures.items in
    let q = ap (λ l. R.is_quorum (marked l)) (sym set) ∙ sym c.if-is_quorum.ensures in
    sym (quorum-here ss c.loop-slot.slot-index (omega arith) R ss c.if-ballot-ne0.true q) ∙ c.loop-slot.invariant

pub loop-slot-preserved : goal.loop-slot-preserved
loop-slot-preserved g c =
    let R = g.Q.Quorum.rule c.args.quorum.now in
    let ss = c.args.slots.now in
    elim c.else-ballot-ne0.branch [
      | else-ballot-ne0-via-then-ballot-ne0+else-is_quorum w ↦
          let b = (get_or ss c.loop-slot.slot-index fresh).view.accepted in
          let set = mapped _ (λ s. nat_eq s.view.accepted b) _ (λ x y q k. search (rules, k)) fresh _ w.map.result 7 (omega arith) w.map.ensures.items in
          let q = ap (λ l. R.is_quorum (marked l)) (sym set) ∙ sym w.if-is_quorum.ensures in
          sym (quorum-later ss c.loop-slot.slot-index (omega arith) R ss w.if-ballot-ne0.true q) ∙ c.loop-slot.invariant
      | else-ballot-ne0-via-else-ballot-ne0 w ↦ sym (quorum-none ss c.loop-slot.slot-index (omega arith) R ss w.if-ballot-ne0.false) ∙ c.loop-slot.invariant
    ]

pub returns : goal.returns
returns g c = sym (quorum-end c.args.slots.now c.loop-slot.slot-index (omega arith) (g.Q.Quorum.rule c.args.quorum.now) c.args.slots.now) ∙ c.loop-slot.invariant
