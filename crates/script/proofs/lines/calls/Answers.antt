use Rattle.std.proofs.Common.{◌≡◌, List, [], ◌∷◌, Ok, Err, Result, refl, ap, rules, tests}
use Rattle.std.proofs.lemmas.Iterator.{YieldsList-from_slice, items_from_collect}
use Rattle.std.proofs.lemmas.Iterator.Consumers.{YieldsList-from_filter_map}
use Rattle.std.specs.List.{filter_map}
use Rattle.std.specs.Result.{result_ok}
use Rattle.record.specs.declared.refusal.Refusal.{Refusal}
use Rattle.protocol.specs.declared.call.Call.{Call}
use Rattle.script.specs.Script.{calls_of}
use Rattle.script.proofs.lines.calls.Goals as goal

-- the calls of the lines that are not refused, in std's words
calls-are : (ls : List (Result Call Refusal)) → filter_map result_ok ls ≡ calls_of ls
unfolding calls_of
calls-are [] = refl
calls-are (Ok c ∷ ls) = ap (λ cs. c ∷ cs) (calls-are ls)
calls-are (Err e ∷ ls) = calls-are ls

pub returns : goal.returns
returns c =
    rw (← calls-are)
    (items_from_collect _ c.collect.ensures.ran
    (YieldsList-from_filter_map _ result_ok (YieldsList-from_slice c.args.lines.now cc) c.filter_map.ensures.closure (λ x r q k. search (rules, tests))))
