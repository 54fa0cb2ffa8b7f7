use Rattle.std.proofs.Common.{◌≡◌, List, [], ◌∷◌, ◌++◌, ap, ◌∙◌, append_assoc, rules}
use Rattle.protocol.specs.declared.call.Call.{Call}
use Rattle.protocol.specs.declared.call.Call.TheVariants.{Read, Send}
use Rattle.group.proofs.Acting.{added}
use Rattle.group.proofs.round.round_calls.Goals as goal

-- six parts, one pushed after another
joined : (n0 n1 n2 n3 n4 n5 n6 a b c d e : List Call) (x : Call)
    → n0 ≡ [] → n1 ≡ n0 ++ a → n2 ≡ n1 ++ x ∷ [] → n3 ≡ n2 ++ b → n4 ≡ n3 ++ c → n5 ≡ n4 ++ d → n6 ≡ n5 ++ e
    → n6 ≡ a ++ (x ∷ (b ++ (c ++ (d ++ e))))
joined n0 n1 n2 n3 n4 n5 n6 a b c d e x p0 p1 p2 p3 p4 p5 p6 =
    p6
    ∙ ap (λ l. l ++ e) (p5 ∙ ap (λ l. l ++ d) (p4 ∙ ap (λ l. l ++ c) (p3 ∙ ap (λ l. l ++ b) (p2 ∙ ap (λ l. l ++ x ∷ []) (p1 ∙ ap (λ l. l ++ a) p0)))))
    ∙ simp append_assoc

pub returns : goal.returns
returns c =
    let d = c.args.device in
    let o = c.args.orders.now in
    joined _ _ _ _ _ _ _ _ _ _ _ _ _
    c.new-calls.ensures.items
    (added (λ k. Read d k) _ o.first.now _ _ (λ k x p. search (rules, p)) c.in_ok-push_each.ensures)
    c.in_ok-push.ensures.items
    (added (λ k. Send d k) _ o.second.now _ _ (λ k x p. search (rules, p)) c.in_ok-push_each-2.ensures)
    (added (λ k. Read d k) _ o.third.now _ _ (λ k x p. search (rules, p)) c.in_ok-push_each-3.ensures)
    (added (λ k. Send d k) _ o.fourth.now _ _ (λ k x p. search (rules, p)) c.in_ok-push_each-4.ensures)
    (added (λ k. Read d k) _ o.fifth.now _ _ (λ k x p. search (rules, p)) c.in_ok-push_each-5.ensures)
