use Rattle.std.proofs.Common.{◌<◌, ◌≤◌}
use Rattle.storage.proofs.versioned_file.calls.VersionedFileAccount.read.Given as goal

abbrev pub invariant-loop-at : goal.invariant-loop-at
invariant-loop-at l = (l.place ≤ l.at) × (l.at < l.self.used)

abbrev pub decreases-loop-at : goal.decreases-loop-at
decreases-loop-at l = l.at
