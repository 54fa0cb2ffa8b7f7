use Rattle.std.proofs.Common.{sum, rules, refl, ◌≡◌, ℕ, List, ◌≤◌, true, false, eqb, ◌++◌, ◌∷◌, [], drop, length, Ok, sym, ap, ◌∙◌, arith, length-append, length-drop}
use Rattle.std.proofs.lemmas.Bool.{le-leb, eq-eqb, ne_eqb}
use Rattle.quorum.specs.Weights.{everyone, is_count, total}
use Rattle.quorum.specs.Weighing.{weight-same, weighted-same}
use Rattle.quorum.proofs.Counting.{held-in, summed}
use Rattle.quorum.proofs.weighted.Weighted.new.Goals as goal
use Rattle.quorum.proofs.weighted.Weighted.new.Goals.{Else-total-eq0}

-- what the weights are copied into
abbrev zeros : List ℕ
zeros = 0 ∷ 0 ∷ 0 ∷ 0 ∷ 0 ∷ 0 ∷ 0 ∷ []

total-is : (c : Else-total-eq0) → c.sum-total.result ≡ total c.args.weights.now
total-is c =
    let e : c.sum-total.result ≡ sum c.args.weights.now = search rules in
    e ∙ summed c.args.weights.now

pub returns-then-total-eq0 : goal.returns-then-total-eq0
returns-then-total-eq0 c =
    let ws = c.args.weights.now in
    let e : c.sum-total.result ≡ sum ws = search rules in
    let counted : is_count (length ws) ≡ true = rw (le-leb 1 (length ws) c.if-n-lt1.false, le-leb (length ws) 7 c.if-n-gt7.false) in
    let none : eqb (total ws) 0 ≡ true = eq-eqb (total ws) 0 (sym (summed ws) ∙ sym e ∙ c.if-total-eq0.true) in
    rw (counted, none) refl

pub invariant_of-result : goal.invariant_of-result
invariant_of-result c =
    let ws = c.args.weights.now in
    let rest = drop (length ws) zeros in
    let copied = c.copy_from_slice.new.self in
    let seven : length (copied ++ rest) ≡ 7 = omega (arith, length-append copied rest, length-drop (length ws) zeros, ap length c.copy_from_slice.ensures.after, c.if-n-gt7.false) in
    let heavy : 1 ≤ c.sum-total.result = omega arith in
    record {
      size_in = (c.if-n-lt1.false, c.if-n-gt7.false);
      seven = seven;
      adds_up = total-is (goal.at.invariant_of-result c).Else-total-eq0 ∙ sym (weight-same _ _ (length ws) everyone (λ k h. held-in copied ws rest k c.copy_from_slice.ensures.after h));
      heavy = heavy;
    }

pub returns : goal.returns
returns c =
    let a = (goal.at.returns c).Else-total-eq0 in
    let ws = c.args.weights.now in
    let rest = drop (length ws) zeros in
    let counted : is_count (length ws) ≡ true = rw (le-leb 1 (length ws) c.if-n-lt1.false, le-leb (length ws) 7 c.if-n-gt7.false) in
    let heavy : eqb (total ws) 0 ≡ false = ne_eqb (total ws) 0 (λ e. c.if-total-eq0.false (total-is a ∙ e)) in
    ap Ok (weighted-same _ _ (length ws) (λ k h. held-in c.copy_from_slice.new.self ws rest k c.copy_from_slice.ensures.after h)) ∙ rw (counted, heavy)
