-- The chain, and the law of one order: the proposals of a whole run have an order along which the chain gives each its answer.
use Rattle.std.specs.Prelude.{◌≡◌, ℕ, suc, ◌+◌, ◌<◌, cond, ◌⊎◌, List, [], ◌∷◌, ◌++◌, map, length, take, Some, None, fold, Option, ◌==◌, nat_le, nat_lt, slice_index, slice_index_or}
use Rattle.record.specs.Entry.{no_value}
use Rattle.record.specs.declared.value.Value.{Value}
use Rattle.quorum.specs.Rules.{Rule, Lawful}
use Rattle.protocol.specs.Device.{last_version}
use Rattle.protocol.specs.State.{State, device_at, held}
use Rattle.protocol.specs.Runs.{New, runs, call_at, after, said}
use Rattle.protocol.specs.declared.answer.Answer.TheVariants.{Done, Attempt, Taken}
use Rattle.protocol.specs.declared.call.Call.{Call}
use Rattle.protocol.specs.declared.call.Call.TheVariants.{Propose, Read, Restart}
use Rattle.protocol.specs.declared.outcome.Outcome.TheVariants.{Decided}
use Rattle.protocol.specs.declared.version.Version.{Version}

-- the version that a proposal builds on, and the value that it wants next
pub record Proposal : Type 0 where
  pub base : ℕ
  pub value : Value

-- the chain is handed a proposal: it adds the value exactly if it has `base` entries
unfoldable pub hand : List Value → Proposal → List Value
hand xs p = cond (length xs == p.base) (xs ++ p.value ∷ []) xs

-- entry b + 1, counted from 1
abbrev pub entry : List Value → ℕ → Version
entry xs b = record { number = b + 1; value = slice_index_or xs b no_value }

-- the number of the version that a proposal on base b is answered with; a proposal on the last version is refused
abbrev pub number_after : ℕ → Option ℕ
number_after b = cond (nat_le last_version b) None (Some (b + 1))

-- what the chain answers: entry base + 1, if there is one by then
unfoldable pub reply : List Value → Proposal → Option Version
reply xs p = cond (nat_lt p.base (length (hand xs p))) (Some (entry (hand xs p) p.base)) None

-- the chain, at first empty, once it was handed all of these
abbrev pub chain : List Proposal → List Value
chain ps = fold hand [] ps

-- the proposal of a propose; other calls have none
abbrev pub proposal_of : Call → Proposal
proposal_of (Propose d base x) = record { base = base; value = x }
proposal_of _ = record { base = 0; value = no_value }

-- A run: calls to a group that is in state s. A proposal goes by the place, counted from 0, of the call that opened it
module _ (R : Rule) (s : State) (cs : List Call) where
  abbrev pub proposal : ℕ → Proposal
  proposal i = proposal_of (call_at cs i)

  -- call i, a propose of device d that was not refused, opened a proposal
  pub record Opens (d i : ℕ) : Type 0 where
    pub base : ℕ
    pub value : Value
    pub attempt : ℕ
    pub calls : call_at cs i ≡ Propose d base value
    pub said : said R s cs i ≡ Attempt attempt

  -- call j, a read of device d, decided a version
  pub record Decides (d j : ℕ) : Type 0 where
    pub account : ℕ
    pub count : ℕ
    pub calls : call_at cs j ≡ Read d account
    pub said : said R s cs j ≡ Taken count Decided

  -- call j restarted device d
  pub record Restarts (d j : ℕ) : Type 0 where
    pub calls : call_at cs j ≡ Restart d
    pub said : said R s cs j ≡ Done

  -- a device's proposal is open until one of these
  abbrev pub Closes : ℕ → ℕ → Type 0
  Closes d j = Decides d j ⊎ Restarts d j

  -- call j answers the proposal that call i opened: it is device d's first after that which closes, and it decides
  pub record Answered (d i j : ℕ) : Type 0 where
    pub opened : Opens d i
    pub later : i < j
    pub decided : Decides d j
    pub still_open : (m : ℕ) → i < m → m < j → Closes d m → ⊥

  -- the chain run along an order of proposals
  abbrev pub chain_of : List ℕ → List Value
  chain_of order = chain (map proposal order)

  pub record OneOrder : Type 0 where
    -- proposals, by the places of their calls
    pub order : List ℕ
    -- each stands once
    pub once : (p q : ℕ) → p < length order → q < length order → slice_index order p ≡ slice_index order q → p ≡ q
    -- only such as were opened
    pub opened : (p : ℕ) → p < length order → (d : ℕ) × Opens d (slice_index order p)
    -- every answered one stands in it, and the chain run along the order gives it there just the version that its device then holds
    pub answered : (d i j : ℕ) → Answered d i j
        → (p : ℕ) × (p < length order) × (slice_index order p ≡ i) × (reply (chain_of (take p order)) (proposal i) ≡ Some (held (after R s cs (suc j)) d))
    -- one answered before another was opened stands earlier
    pub earlier : (d i j p q : ℕ) → Answered d i j → p < length order → q < length order → slice_index order p ≡ i → j < slice_index order q → p < q
    -- a device that holds a version from 1 on holds the chain's entry of that number
    pub holds : (d u : ℕ) → (device_at (after R s cs (length cs)) d).known ≡ u + 1
        → (u < length (chain_of order)) × (held (after R s cs (length cs)) d ≡ entry (chain_of order) u)

-- whatever calls are made to a new group, their proposals have one order
abbrev pub One-order : Type 0
One-order = (R : Rule) → Lawful R → (s : State) → New R s → (cs : List Call) → OneOrder R s cs

-- the same for calls to a group at hand, whatever calls to a new group have led to its state s
abbrev pub OneOrderFrom : Rule → State → List Call → Type 0
OneOrderFrom R s cs =
    (start : State) → New R start → (past : List Call) → (runs R start past).1 ≡ s → OneOrder R start (past ++ cs)
