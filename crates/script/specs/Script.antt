-- A whole script: what is asked, and what is printed.
use Rattle.std.specs.Prelude.{ℕ, cond, List, [], ◌∷◌, ◌++◌, map, length, Ok, Err, Result, nat_lt}
use Rattle.record.specs.declared.refusal.Refusal.{Refusal}
use Rattle.record.specs.declared.refusal.Refusal.TheVariants.{InputTooLong}
use Rattle.protocol.specs.declared.answer.Answer.{Answer}
use Rattle.protocol.specs.declared.answer.Answer.TheVariants.{Refused}
use Rattle.bench.specs.Setup.{three_accounts}
use Rattle.quorum.specs.Weights.{majority}
use Rattle.protocol.specs.Runs.{runs}
use Rattle.protocol.specs.declared.call.Call.{Call}
use Rattle.script.specs.Answers.{answer_line}
use Rattle.script.specs.Commands.{parsed_line}
use Rattle.script.specs.Parts.{lines_of}

-- what each line asks for; an input over 65,536 bytes is refused as one line
abbrev pub parsed : List ℕ → List (Result Call Refusal)
parsed input = cond (nat_lt 65536 (length input)) (Err InputTooLong ∷ []) (map parsed_line (lines_of input))

-- the calls of the lines that are not refused
unfoldable pub calls_of : List (Result Call Refusal) → List Call
calls_of [] = []
calls_of (Ok c ∷ ls) = c ∷ calls_of ls
calls_of (Err e ∷ ls) = calls_of ls

-- a refused line prints its refusal, and any other line the next of the answers; nothing stands for an answer that is missing
unfoldable pub shown : List (Result Call Refusal) → List Answer → List ℕ
shown [] answers = []
shown (Err e ∷ ls) answers = answer_line (Refused e) ++ shown ls answers
shown (Ok c ∷ ls) [] = shown ls []
shown (Ok c ∷ ls) (a ∷ answers) = answer_line a ++ shown ls answers

-- what a script prints, where calls are answered by group
abbrev pub responded : (List Call → List Answer) → List ℕ → List ℕ
responded group input = shown (parsed input) (group (calls_of (parsed input)))

-- what a script prints on the bench: a new group of three accounts counted by majority
abbrev pub printed : List ℕ → List ℕ
printed input = responded (λ cs. (runs (majority 3) three_accounts cs).0) input
