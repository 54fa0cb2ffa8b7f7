-- Whether accounts are empty, and what a group that can be founded is. Assumes nothing.
use Rattle.std.proofs.Common.{◌≡◌, ℕ, zero, suc, true, not, eqb, List, [], ◌∷◌, length, Ok, refl}
use Rattle.std.proofs.lemmas.List.{nil_from_length}
use Rattle.std.proofs.lemmas.Bool.{eqb-true, and_parts, not-false}
use Rattle.record.proofs.Tables.{passed}
use Rattle.account.specs.Books.{Book}
use Rattle.quorum.specs.Rules.{Rule}
use Rattle.protocol.specs.Runs.{New}
use Rattle.group.specs.Founding.{all_empty, founding, new_state}
use Rattle.group.specs.Models.{log_of}

no-records : (bs : List Book) → all_empty bs ≡ true → (k : ℕ) → log_of bs k ≡ []
no-records [] e k = refl
no-records (b ∷ bs) e zero = nil_from_length b.log (eqb-true (length b.log) 0 (and_parts _ _ e).0)
no-records (b ∷ bs) e (suc k) = no-records bs (and_parts (eqb (length b.log) 0) (all_empty bs) e).1 k

pub founded-new : (R : Rule) (bs : List Book) → founding R bs ≡ Ok tt → New R (new_state bs)
founded-new R bs e =
    let sized = passed (not (eqb (length bs) R.size)) _ _ tt e in
    let empty = passed (not (all_empty bs)) _ _ tt sized.1 in
    record {
      accounts = eqb-true (length bs) R.size (not-false _ sized.0);
      empty = no-records bs (not-false _ empty.0);
      devices = refl;
    }
