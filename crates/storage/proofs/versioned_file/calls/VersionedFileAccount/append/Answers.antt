use Rattle.std.proofs.Common.{◌≡◌, ℕ, ◌+◌, ◌<◌, eqb, List, length, set, is_ok, Ok, sym, refl, ap, ◌∙◌, arith, length-set, get_or-set_other, get_or-set_same, below_more}
use Rattle.std.proofs.lemmas.Bool.{cond-true, cond-false, eq-eqb, ne_eqb}
use Rattle.record.specs.Entry.{entry_of}
use Rattle.record.specs.Layout.{from_numbers, entry_from}
use Rattle.record.proofs.Trips.{numbers_in}
use Rattle.storage.specs.Places.{placed}
use Rattle.storage.specs.Rows.{row_book, blank, row_at, row_of, numbers_of}
use Rattle.storage.specs.declared.row.Row.{Row}
use Rattle.storage.proofs.Placing.{placed-full, placed-more}
use Rattle.storage.proofs.Sound.{numbers-back, numbers-is}
use Rattle.storage.proofs.versioned_file.calls.VersionedFileAccount.append.Goals as goal
use Rattle.storage.proofs.versioned_file.calls.VersionedFileAccount.append.Goals.{After-new}

pub returns-then-used-self : goal.returns-then-used-self
unfolding row_book
returns-then-used-self c =
    let s = c.args.self.now in
    let m = length s.rows.now in
    let e : s.used ≡ m = omega arith in
    record {
      call = placed-full _ s.used m (entry_of c.args.r.now) e;
      lent = refl;
      rows = sym (cond-true (eqb s.used m) _ _ (eq-eqb s.used m e));
    }

-- the rows after the write
abbrev rows-now : After-new → List Row
rows-now c = set c.args.self.now.rows.now c.args.self.now.used c.new.result

row_new : (c : After-new) → row_at (rows-now c) c.args.self.now.used ≡ row_of (entry_of c.args.r.now) c.args.self.now.used
row_new c =
    get_or-set_same c.args.self.now.rows.now c.args.self.now.used c.new.result blank c.if-used-self.false
    ∙ c.new.ensures

row_old : (c : After-new) (k : ℕ) → k < c.args.self.now.used → row_at (rows-now c) k ≡ row_at c.args.self.now.rows.now k
row_old c k h =
    get_or-set_other c.args.self.now.rows.now c.args.self.now.used k c.new.result blank (λ e. omega arith)

pub invariant_of-self : goal.invariant_of-self
invariant_of-self c =
    let s = c.args.self.now in
    let r = c.args.r.now in
    record {
      size = simp length-set s.size;
      within = simp length-set (omega arith);
      linked = below_more _ _ (λ k g. ap (λ x. x.before) (row_old c k g) ∙ s.linked k g) (ap (λ x. x.before) (row_new c));
      sound =
          below_more _ _ (λ k g. ap (λ x. is_ok (from_numbers (numbers_of x))) (row_old c k g) ∙ s.sound k g)
          (ap (λ x. is_ok (from_numbers (numbers_of x))) (row_new c) ∙ ap is_ok (numbers-back r));
    }

pub returns : goal.returns
unfolding row_book
returns c =
    let a = (goal.at.returns c).After-new in
    let s = c.args.self.now in
    let rs = s.rows.now in
    let n = s.used in
    let r = c.args.r.now in
    let means = λ (x : Row). entry_from (numbers_of x) in
    record {
      call =
          ap (λ m. (Ok (n + 1), placed (λ k. means (row_at (rows-now a) k)) (n + 1) m)) (length-set rs n c.new.result)
          ∙ placed-more (λ k. means (row_at rs k)) n (length rs) (entry_of r) (λ k. means (row_at (rows-now a) k)) c.if-used-self.false
          (λ i g. ap means (row_old a i g))
          (ap means (row_new a) ∙ numbers-is (numbers_in (entry_of r)) (entry_of r) (numbers-back r));
      lent = refl;
      rows =
          ap (set rs n) c.new.ensures
          ∙ sym (cond-false (eqb n (length rs)) _ _ (ne_eqb n (length rs) (λ e. omega arith)));
    }
