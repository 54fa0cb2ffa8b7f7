-- The number of each kind of record and its name, and the number of each refusal.
use Rattle.std.specs.Prelude.{ℕ, List, codes}
use Rattle.record.specs.declared.kind.Kind.{Kind}
use Rattle.record.specs.declared.kind.Kind.TheVariants.{Prepare, Accept}
use Rattle.record.specs.declared.refusal.Refusal.{Refusal}
use Rattle.record.specs.declared.refusal.Refusal.TheVariants.{NotWhole, UnknownKind, NoAttempt, NoVersion, PrepareWithValue, TooWide}
use Rattle.record.specs.declared.refusal.Refusal.TheVariants.{Full, PastEnd, BadSize, BadAccountCount, NoWeight, QuorumOfOtherSize, NotEmpty}
use Rattle.record.specs.declared.refusal.Refusal.TheVariants.{NoSuchDevice, NotJoined, AlreadyJoined, NoSuchAccount, NoSuchLinkState}
use Rattle.record.specs.declared.refusal.Refusal.TheVariants.{ProposalOpen, NoProposal, OtherBase, LastVersion, NoAttemptLeft}
use Rattle.record.specs.declared.refusal.Refusal.TheVariants.{AlreadySent, LinkDown, RepliesLost}
use Rattle.record.specs.declared.refusal.Refusal.TheVariants.{UnknownCommand, WrongCount, BadNumber, InputTooLong}

abbrev pub kind_number : Kind → ℕ
kind_number Prepare = 1
kind_number Accept = 2

abbrev pub kind_name : Kind → List ℕ
kind_name Prepare = codes "PREPARE"
kind_name Accept = codes "ACCEPT"

abbrev pub code : Refusal → ℕ
code NotWhole = 1
code UnknownKind = 2
code NoAttempt = 3
code NoVersion = 4
code PrepareWithValue = 5
code TooWide = 6
code Full = 10
code PastEnd = 11
code BadSize = 12
code BadAccountCount = 20
code NoWeight = 21
code QuorumOfOtherSize = 30
code NotEmpty = 31
code NoSuchDevice = 40
code NotJoined = 41
code AlreadyJoined = 42
code NoSuchAccount = 43
code NoSuchLinkState = 44
code ProposalOpen = 45
code NoProposal = 46
code OtherBase = 47
code LastVersion = 48
code NoAttemptLeft = 49
code AlreadySent = 50
code LinkDown = 51
code RepliesLost = 52
code UnknownCommand = 60
code WrongCount = 61
code BadNumber = 62
code InputTooLong = 63
