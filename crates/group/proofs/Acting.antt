-- Calls as answers, and lists of calls as a loop makes them. Assumes nothing.
use Rattle.std.proofs.Common.{map, ◌≡◌, ℕ, ◌+◌, ◌<◌, ◌≤◌, true, List, [], ◌∷◌, ◌++◌, length, get_or, take, is_err, Ok, Err, Result, Vec, sym, refl, ap, ◌∙◌, arith}
use Rattle.std.proofs.lemmas.List.{take_all}
use Rattle.record.specs.declared.refusal.Refusal.{Refusal}
use Rattle.protocol.specs.Calls.{Reply}
use Rattle.protocol.specs.Runs.{answer_by, to_answer, runs}
use Rattle.protocol.specs.declared.answer.Answer.{Answer}
use Rattle.protocol.specs.declared.answer.Answer.TheVariants.{Refused}
use Rattle.std.specs.Result.{MatchResult}
use Rattle.protocol.specs.declared.call.Call.{Call}
use Rattle.protocol.proofs.Running.{runs-more}
use Rattle.std.specs.List.{AllZip}
use Rattle.group.specs.Rounds.{AddsEach}
use Rattle.group.specs.Acts.{leaves, steps, runs_on, Ran}
use Rattle.group.specs.Models.{Model}

pub answered : {X : Type 0} (f : X → Answer) (m n : Model) (reply : Reply X) (r : Result X Refusal) (a : Answer)
    → (r, n) ≡ leaves m reply → a ≡ answer_by f r → (a, n) ≡ leaves m (to_answer f reply)
answered f m n reply r a e p = (λ i. (p i, n)) ∙ ap (λ x. (answer_by f x.0, x.1)) e

-- no call yet, one call more, and all of them
pub run_none : (m : Model) (cs : List Call) → ([], m) ≡ runs_on m (take 0 cs)
unfolding runs
run_none m cs = ap (λ x. x) (λ i. ([], m))

pub run_more : (m n o : Model) (cs : List Call) (i : ℕ) (c : Call) (ys : List Answer) (a : Answer) → i < length cs
    → (ys, n) ≡ runs_on m (take i cs) → (a, o) ≡ steps n (get_or cs i c) → (ys ++ a ∷ [], o) ≡ runs_on m (take (i + 1) cs)
run_more m n o cs i c ys a h past now =
    let next : List Answer × Model → List Answer × Model = λ x. (x.0 ++ (steps x.1 (get_or cs i c)).0 ∷ [], (steps x.1 (get_or cs i c)).1) in
    ap (λ t. (ys ++ t.0 ∷ [], t.1)) now ∙ ap next past ∙ sym (ap (leaves m) (runs-more m.rule m.state cs i c h))

pub run-all : (m n : Model) (cs : List Call) (i : ℕ) (ys : List Answer) → length cs ≤ i → (ys, n) ≡ runs_on m (take i cs) → (ys, n) ≡ runs_on m cs
run-all m n cs i ys h past = past ∙ ap (runs_on m) (take_all i cs h)

-- where there was no memory, and where the calls were made under another name
pub ran-nothing : {Z E : Type 0} (m : Model) (cs : List Call) (r : Result (Vec Answer Z) E) → is_err r ≡ true → Ran m m cs r
ran-nothing m cs (Ok v) e = let z : ◌≡◌ {A = ℕ} 0 1 = cc in absurd (omega arith)
ran-nothing m cs (Err d) e = refl

pub ran-same : {Z E : Type 0} (m n : Model) (cs ds : List Call) (r : Result (Vec Answer Z) E) → cs ≡ ds → Ran m n cs r → Ran m n ds r
ran-same m n cs ds (Ok v) e q = q ∙ ap (runs_on m) e
ran-same m n cs ds (Err d) e q = q

-- a reply as an answer, from what is known of its two cases
pub answer-is : {X : Type 0} (f : X → Answer) (r : Result X Refusal) (a : Answer) (P : X → Type 0) → MatchResult r P (λ e. a ≡ Refused e) → ((x : X) → P x → a ≡ f x) → a ≡ answer_by f r
answer-is f (Ok x) a P m g = g x m
answer-is f (Err e) a P m g = m

-- calls that are each a function's are its map
zipped : (f : ℕ → Call) (P : ℕ → Call → Type 0) → ((k : ℕ) (c : Call) → P k c → c ≡ f k) → (ks : List ℕ) (cs : List Call) → AllZip P ks cs → cs ≡ map f ks
zipped f P g [] [] z = refl
zipped f P g [] (c ∷ cs) z = elim z [ ]
zipped f P g (k ∷ ks) [] z = elim z [ ]
zipped f P g (k ∷ ks) (c ∷ cs) z = λ i. g k c z.0 i ∷ zipped f P g ks cs z.1 i

pub added : (f : ℕ → Call) (P : ℕ → Call → Type 0) (ks : List ℕ) (old new : List Call) → ((k : ℕ) (c : Call) → P k c → c ≡ f k) → AddsEach P ks old new → new ≡ old ++ map f ks
added f P ks old new g a = a.1 ∙ ap (λ l. old ++ l) (zipped f P g ks a.0 a.2)

-- the same of a call: what it answers and leaves is what the protocol says of its reply
pub called : {X : Type 0} (f : X → Answer) (m n : Model) (reply : Reply X) (r : Result X Refusal) (a : Answer) (P : X → Type 0)
    → (r, n) ≡ leaves m reply → MatchResult r P (λ e. a ≡ Refused e) → ((x : X) → P x → a ≡ f x) → (a, n) ≡ leaves m (to_answer f reply)
called f m n reply r a P e x g = answered f m n reply r a e (answer-is f r a P x g)
