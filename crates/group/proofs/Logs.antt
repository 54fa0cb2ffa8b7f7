-- Reading the log of one account of several, record by record. Assumes nothing.
use Rattle.std.proofs.Common.{◌≡◌, ℕ, zero, suc, ◌+◌, ◌-◌, ◌<◌, ◌≤◌, List, [], ◌∷◌, length, get_or, take, drop, Ok, Err, fold, Result, refl, ap, ◌∙◌, arith, length-drop, get_or-drop}
use Rattle.std.specs.Result.{result_unwrap_or}
use Rattle.std.proofs.lemmas.List.Sums.{fold_more}
use Rattle.record.specs.Entry.{Entry, entry_of, entry_in}
use Rattle.record.specs.declared.record.Record.{Record}
use Rattle.record.specs.declared.refusal.Refusal.{Refusal}
use Rattle.account.specs.Books.{Book, length_at, fetched_at}
use Rattle.account.proofs.Reading.{fetched-in}
use Rattle.group.specs.Models.{log_of}

clash : ◌≡◌ {A = ℕ} 0 1 → ⊥
clash e = omega arith

-- the length that the accounts answer is the log's; where there is no account the log is empty
pub log-long : (bs : List Book) (k : ℕ) → result_unwrap_or (length_at bs k) 0 ≡ length (log_of bs k)
log-long [] k = refl
log-long (b ∷ bs) zero = refl
log-long (b ∷ bs) (suc k) = log-long bs k

pub read-of-log : (bs : List Book) (k i : ℕ) (d : Entry) → i < length (log_of bs k) → fetched_at bs k i ≡ Ok (get_or (log_of bs k) i d)
read-of-log [] k i d h = absurd (omega arith)
read-of-log (b ∷ bs) zero i d h = fetched-in b.log i d h
read-of-log (b ∷ bs) (suc k) i d h = read-of-log bs k i d h

-- one record more of the part of a log from place p on
pub folded-part : {X Y : Type 0} (f : Y → X → Y) (a : Y) (xs : List X) (p i : ℕ) (d : X) → p ≤ i → i < length xs
    → fold f a (take (i + 1 - p) (drop p xs)) ≡ f (fold f a (take (i - p) (drop p xs))) (get_or xs i d)
folded-part f a xs p i d h l =
    let e : i + 1 - p ≡ i - p + 1 = omega arith in
    let m : i - p < length (drop p xs) = rw length-drop (omega arith) in
    let s : p + (i - p) ≡ i = omega arith in
    rw e
    (fold_more f a (drop p xs) (i - p) d m
    ∙ ap (f (fold f a (take (i - p) (drop p xs)))) (get_or-drop p xs (i - p) d ∙ ap (λ j. get_or xs j d) s))

-- a read that must succeed does, and gives the entry
pub read-entry : (r : Record) (e : Entry) → ◌≡◌ {A = Result Entry Refusal} (Ok (entry_of r)) (Ok e) → entry_of r ≡ e
read-entry r e p = cc

pub read-fails : (o : Result Record Refusal) (e : Entry) → ((r : Record) → o ≡ Ok r → ⊥) → entry_in o ≡ Ok e → ⊥
read-fails (Ok x) e p q = p x refl
read-fails (Err x) e p q = let z : ◌≡◌ {A = ℕ} 0 1 = cc in clash z
