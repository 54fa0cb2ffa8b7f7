-- What each call on a group answers, and the group that it leaves: the protocol's calls. The rule and the lent memory stay.
use Rattle.std.specs.Prelude.{◌≡◌, ℕ, List, Ok, Err, vec_items, Result, Vec}
use Rattle.record.specs.declared.refusal.Refusal.{Refusal}
use Rattle.record.specs.declared.value.Value.{Value}
use Rattle.protocol.specs.Calls as call
use Rattle.protocol.specs.Runs.{step, runs}
use Rattle.protocol.specs.State.{State}
use Rattle.protocol.specs.declared.answer.Answer.{Answer}
use Rattle.protocol.specs.declared.call.Call.{Call}
use Rattle.protocol.specs.declared.outcome.Outcome.{Outcome}
use Rattle.protocol.specs.declared.version.Version.{Version}
use Rattle.group.specs.Models.{Model}

-- the group m once its state has become that of r
abbrev pub leaves : {Y : Type 0} → Model → Y × State → Y × Model
leaves m r = (r.0, record m { state = r.1 })

abbrev pub Act : Type 0 → Type 0
Act X = Result X Refusal × Model

abbrev pub joins : Model → ℕ → Act (Unit {0})
joins m d = leaves m (call.joins m.state d)

abbrev pub links : Model → ℕ → ℕ → ℕ → Act (Unit {0})
links m d k l = leaves m (call.links m.rule m.state d k l)

abbrev pub proposes : Model → ℕ → ℕ → Value → Act ℕ
proposes m d base x = leaves m (call.proposes m.state d base x)

abbrev pub sends : Model → ℕ → ℕ → Act ℕ
sends m d k = leaves m (call.sends m.rule m.state d k)

abbrev pub reads : Model → ℕ → ℕ → Act (ℕ × Outcome)
reads m d k = leaves m (call.reads m.rule m.state d k)

abbrev pub agains : Model → ℕ → Act ℕ
agains m d = leaves m (call.agains m.state d)

abbrev pub restarts : Model → ℕ → Act (Unit {0})
restarts m d = leaves m (call.restarts m.state d)

abbrev pub knows : Model → ℕ → Act Version
knows m d = leaves m (call.knows m.state d)

-- any call, and a list of calls
abbrev pub steps : Model → Call → Answer × Model
steps m c = leaves m (step m.rule m.state c)

abbrev pub runs_on : Model → List Call → List Answer × Model
runs_on m cs = leaves m (runs m.rule m.state cs)

-- the calls cs make the group `before` the group `after` and are answered so; without memory for the answers nothing changes
abbrev pub Ran : {Z E : Type 0} → Model → Model → List Call → Result (Vec Answer Z) E → Type 0
Ran before after cs (Ok v) = (vec_items v, after) ≡ runs_on before cs
Ran before after cs (Err e) = after ≡ before
