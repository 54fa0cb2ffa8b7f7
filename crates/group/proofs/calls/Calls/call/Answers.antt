use Rattle.std.proofs.Common.{ap, sym, ◌∙◌, rules}
use Rattle.protocol.specs.Runs.{step}
use Rattle.protocol.specs.declared.answer.Answer.TheVariants.{Done, Attempt, Length, Taken, Holds}
use Rattle.group.specs.Acts.{steps}
use Rattle.group.proofs.Acting.{called}
use Rattle.group.proofs.calls.Calls.call.Goals as goal

pub returns-in-Join : goal.returns-in-Join
unfolding step
returns-in-Join g c =
    let m = g.Self.Calls.model c.args.self.now in
    called (λ _. Done) m _ _ c.join.result c.answer.result _ c.join.ensures c.answer.ensures (λ x p. search (rules, p)) ∙ ap (steps m) (sym c.in-Join.is)

pub returns-in-SetLink : goal.returns-in-SetLink
unfolding step
returns-in-SetLink g c =
    let m = g.Self.Calls.model c.args.self.now in
    called (λ _. Done) m _ _ c.link.result c.answer-in-SetLink.result _ c.link.ensures c.answer-in-SetLink.ensures (λ x p. search (rules, p)) ∙ ap (steps m) (sym c.in-SetLink.is)

pub returns-in-Propose : goal.returns-in-Propose
unfolding step
returns-in-Propose g c =
    let m = g.Self.Calls.model c.args.self.now in
    called Attempt m _ _ c.propose.result c.answer-in-Propose.result _ c.propose.ensures c.answer-in-Propose.ensures (λ x p. search (rules, p)) ∙ ap (steps m) (sym c.in-Propose.is)

pub returns-in-Send : goal.returns-in-Send
unfolding step
returns-in-Send g c =
    let m = g.Self.Calls.model c.args.self.now in
    called Length m _ _ c.send.result c.answer-in-Send.result _ c.send.ensures c.answer-in-Send.ensures (λ x p. search (rules, p)) ∙ ap (steps m) (sym c.in-Send.is)

pub returns-in-Read : goal.returns-in-Read
unfolding step
returns-in-Read g c =
    let m = g.Self.Calls.model c.args.self.now in
    called (λ t. Taken t.0 t.1) m _ _ c.read.result c.answer-in-Read.result _ c.read.ensures c.answer-in-Read.ensures (λ x p. search (rules, p)) ∙ ap (steps m) (sym c.in-Read.is)

pub returns-in-Again : goal.returns-in-Again
unfolding step
returns-in-Again g c =
    let m = g.Self.Calls.model c.args.self.now in
    called Attempt m _ _ c.again.result c.answer-in-Again.result _ c.again.ensures c.answer-in-Again.ensures (λ x p. search (rules, p)) ∙ ap (steps m) (sym c.in-Again.is)

pub returns-in-Restart : goal.returns-in-Restart
unfolding step
returns-in-Restart g c =
    let m = g.Self.Calls.model c.args.self.now in
    called (λ _. Done) m _ _ c.restart.result c.answer-in-Restart.result _ c.restart.ensures c.answer-in-Restart.ensures (λ x p. search (rules, p)) ∙ ap (steps m) (sym c.in-Restart.is)

pub returns-in-Known : goal.returns-in-Known
unfolding step
returns-in-Known g c =
    let m = g.Self.Calls.model c.args.self.now in
    called Holds m _ _ c.known.result c.answer-in-Known.result _ c.known.ensures c.answer-in-Known.ensures (λ x p. search (rules, p)) ∙ ap (steps m) (sym c.in-Known.is)
