-- The numbers of links and of outcomes.
use Rattle.std.specs.Prelude.{ℕ, cond, [], ◌∷◌, Result, ◌==◌, nat_lt}
use Rattle.record.specs.Checks.{when, unless}
use Rattle.record.specs.declared.refusal.Refusal.{Refusal}
use Rattle.record.specs.declared.refusal.Refusal.TheVariants.{NoSuchLinkState}
use Rattle.protocol.specs.declared.link.Link.{Link}
use Rattle.protocol.specs.declared.link.Link.TheVariants.{Up, Down, RepliesLost}
use Rattle.protocol.specs.declared.outcome.Outcome.{Outcome}
use Rattle.protocol.specs.declared.outcome.Outcome.TheVariants.{Waiting, Prepared, Decided, Preempted}

-- 0, 1 and 2
abbrev pub link_of : ℕ → Link
link_of n = cond (n == 0) Up (cond (n == 1) Down RepliesLost)

-- the link that a number stands for
abbrev pub link_from : ℕ → Result Link Refusal
link_from n = unless (when (nat_lt 2 n) NoSuchLinkState ∷ []) (link_of n)

abbrev pub outcome_number : Outcome → ℕ
outcome_number Waiting = 0
outcome_number Prepared = 1
outcome_number Decided = 2
outcome_number Preempted = 3
