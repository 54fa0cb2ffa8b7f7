use Rattle.std.proofs.Common.{ℕ, [], ◌∷◌, ◌++◌, take, subst, sym, ap, ◌∙◌, append_assoc}
use Rattle.std.proofs.lemmas.List.{take_more}
use Rattle.std.proofs.lemmas.Slice.Zip.{all_zipped_more}
use Rattle.std.specs.List.{AllZip}
use Rattle.protocol.specs.declared.call.Call.{Call}
use Rattle.group.proofs.round.push_each.Goals as goal

pub loop-account-preserved : goal.loop-account-preserved
loop-account-preserved g c =
    let inv = c.loop-account.invariant in
    let i = c.loop-account.account-index in
    let ks = c.args.accounts.now in
    let called : ℕ → Call → Type 0 = λ k x. g.F.Fn.post c.args.call (k, tt) x in
    let next = all_zipped_more called (take i ks) inv.0 _ c.call.result inv.2 c.call.ensures in (
      inv.0 ++ c.call.result ∷ [],
      c.in_ok-push.ensures.items ∙ ap (λ l. l ++ c.call.result ∷ []) inv.1 ∙ append_assoc _ inv.0 (c.call.result ∷ []),
      subst (λ l. AllZip called l (inv.0 ++ c.call.result ∷ [])) (sym (take_more ks i 0 c.loop-account-test.true)) next,
    )
