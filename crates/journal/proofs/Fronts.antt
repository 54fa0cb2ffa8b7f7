-- Reading an area, one record more at a time. Assumes nothing.
use Rattle.std.proofs.Common.{◌≡◌, ℕ, zero, suc, ◌+◌, ◌*◌, ◌%◌, ◌<◌, ◌≤◌, min, List, [], ◌∷◌, ◌++◌, map, length, take, drop, Some, None, Ok, Err, Option, Result, sym, refl, ap, ◌∙◌, ⊎_elim, append_assoc, append-nil, add-zero, zero-add, arith, length-append}
use mathlib.Core.List.{map-append}
use Rattle.std.proofs.lemmas.List.{take_at, drop_at, take_all, drop_all, nil_from_length}
use Rattle.std.proofs.lemmas.Bool.{cases_lt}
use Rattle.std.proofs.lemmas.Bool.Decides.{nat_tests}
use Rattle.record.specs.Entry.{Entry, entry_of}
use Rattle.record.specs.Layout.{decoded}
use Rattle.record.specs.declared.refusal.Refusal.{Refusal}
use Rattle.record.specs.declared.refusal.Refusal.TheVariants.{NotWhole}
use Rattle.record.specs.Checks.{unless}
use Rattle.record.specs.declared.record.Record.{Record}
use Rattle.journal.specs.Area.{Front, stopped, before, read_area, limit, viewed, request_checks, if_requested, inspected}
use Rattle.journal.specs.Log.{unread, tell, view}
use Rattle.journal.specs.declared.area.Fault.{Fault}
use Rattle.journal.specs.declared.area.Fault.TheVariants.{Record as Fault-at}
use Rattle.journal.specs.declared.view.View.{View}

-- the next chunk of an area is its first sixteen bytes, or all of it
module _ (bs part rest : List ℕ) (cut : bs ≡ part ++ rest) (long : length part ≡ min 16 (length bs)) where
  none_left : length bs < 16 → length rest ≡ 0
  none_left h = omega (arith, ap length cut, length-append part rest)

  chunk : (take 16 bs ≡ part) × (drop 16 bs ≡ rest)
  chunk =
      ⊎_elim
      (λ h.
      let e = nil_from_length rest (none_left h) in
      let whole : bs ≡ part = cut ∙ ap (λ r. part ++ r) e ∙ append-nil part in
      (take_all 16 bs (omega arith) ∙ whole, drop_all 16 bs (omega arith) ∙ sym e))
      (λ h. (ap (take 16) cut ∙ take_at part rest 16 (omega arith), ap (drop 16) cut ∙ drop_at part rest 16 (omega arith)))
      (cases_lt (length bs) 16)

pub read-turn : (n : ℕ) (bs part rest : List ℕ) → bs ≡ part ++ rest → length part ≡ min 16 (length bs) → 0 < length bs
    → read_area (suc n) bs ≡ before (decoded part) (read_area n rest)
unfolding read_area
read-turn n [] part rest cut long some = absurd (omega arith)
read-turn n (b ∷ bs) part rest cut long some =
    let c = chunk (b ∷ bs) part rest cut long in
    λ i. before (decoded (c.0 i)) (read_area n (c.1 i))

-- the same where n is only known to be enough
pub read_next : (n : ℕ) (bs part rest : List ℕ) → bs ≡ part ++ rest → length part ≡ min 16 (length bs) → 0 < length bs → length bs ≤ 16 * n
    → (m : ℕ) × (length rest ≤ 16 * m) × (read_area n bs ≡ before (decoded part) (read_area m rest))
read_next zero bs part rest cut long some few = absurd (omega arith)
read_next (suc n) bs part rest cut long some few = (n, omega (arith, ap length cut, length-append part rest), read-turn n bs part rest cut long some)

pub read-end : (n : ℕ) (bs : List ℕ) → length bs ≡ 0 → read_area n bs ≡ stopped None
unfolding read_area
read-end zero [] e = refl
read-end (suc n) [] e = refl
read-end n (b ∷ bs) e = absurd (omega arith)

pub read-over : (bs : List ℕ) → 0 < length bs → read_area 0 bs ≡ stopped (Some NotWhole)
unfolding read_area
read-over [] h = absurd (omega arith)
read-over (b ∷ bs) h = refl

-- records that were read already, before what is read from here on
abbrev pub after : List Entry → Front → Front
after es f = record { entries = es ++ f.entries; refusal = f.refusal }

pub after_more : (xs : List Record) (r : Record) (f : Front) → after (map entry_of (xs ++ r ∷ [])) f ≡ after (map entry_of xs) (before (Ok (entry_of r)) f)
after_more xs r f = λ i. record { entries = (ap (λ l. l ++ f.entries) (map-append entry_of xs (r ∷ [])) ∙ append_assoc (map entry_of xs) (entry_of r ∷ []) f.entries) i; refusal = f.refusal }

pub nothing-after : (es : List Entry) (o : Option Refusal) → record { entries = es; refusal = o } ≡ after es (stopped o)
nothing-after es o = λ i. record { entries = sym (append-nil es) i; refusal = o }

-- the view after records that gave v, which are p records, and what is read from here on
abbrev pub viewed_from : ℕ → View → ℕ → Front → Result View Fault
viewed_from w v p f = elim f.refusal [ None ↦ Ok (view w v f.entries) | Some d ↦ Err (Fault-at (p + length f.entries) d) ]

pub viewed-start : (w : ℕ) (f : Front) → viewed_from w unread 0 f ≡ viewed w f
viewed-start w f = at f.refusal
  where
    at : (o : Option Refusal) → viewed_from w unread 0 (record { entries = f.entries; refusal = o }) ≡ viewed w (record { entries = f.entries; refusal = o })
    at None = refl
    at (Some d) = ap (λ n. Err (Fault-at n d)) (zero-add (length f.entries))

pub viewed-more : (w p : ℕ) (v : View) (e : Entry) (f : Front) → viewed_from w v p (before (Ok e) f) ≡ viewed_from w (tell w v e) (p + 1) f
unfolding view
viewed-more w p v e f = at f.refusal
  where
    at : (o : Option Refusal)
        → viewed_from w v p (before (Ok e) (record { entries = f.entries; refusal = o })) ≡ viewed_from w (tell w v e) (p + 1) (record { entries = f.entries; refusal = o })
    at None = refl
    at (Some d) = ap (λ n. Err (Fault-at n d)) (omega arith)

pub viewed-bad : (w p : ℕ) (v : View) (d : Refusal) (f : Front) → viewed_from w v p (before (Err d) f) ≡ Err (Fault-at p d)
viewed-bad w p v d f = ap (λ n. Err (Fault-at n d)) (add-zero p)

pub viewed-end : (w p : ℕ) (v : View) → viewed_from w v p (stopped None) ≡ Ok v
unfolding view
viewed-end w p v = refl

-- where neither the area nor the version is refused
pub inspected-is : (bs : List ℕ) (w : ℕ) → length bs % 16 ≡ 0 → length bs ≤ 65536 → w ≤ 1023 → (w ≡ 0 → ⊥) → inspected bs w ≡ viewed w (read_area limit bs)
inspected-is bs w whole few small some =
    let front = read_area limit bs in
    let t : unless (request_checks bs w) front ≡ Ok front = grind (arith, nat_tests) in
    ap (λ r. if_requested r (viewed w)) t
