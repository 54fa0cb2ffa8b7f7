-- Worked cases, in one table.
use Rattle.std.specs.Prelude.{◌≡◌, ℕ, ◌+◌, List, [], ◌∷◌, length, replicate, Ok, Err, Result}
use Rattle.record.specs.Entry.{Entry, ballot}
use Rattle.record.specs.Layout.{decoded}
use Rattle.record.specs.declared.kind.Kind.{Kind}
use Rattle.record.specs.declared.kind.Kind.TheVariants.{Prepare, Accept}
use Rattle.record.specs.declared.refusal.Refusal.{Refusal}
use Rattle.record.specs.declared.refusal.Refusal.TheVariants.{UnknownKind, NoAttempt, NoVersion}
use Rattle.journal.specs.Log.{says}
use Rattle.journal.specs.declared.view.View.{View}

-- each entry is a question, and the answer that a rule gives to it
abbrev pub Each : {X Y : Type 0} → (X → Y) → List (X × Y) → Type 0
Each f [] = Unit {0}
Each f (e ∷ es) = (f e.0 ≡ e.1) × Each f es

abbrev entry : Kind → ℕ → ℕ → ℕ → ℕ → ℕ → Entry
entry k a d w r s = record { kind = k; attempt = a; device = d; version = w; value = record { root = r; setup = s } }

-- sixteen bytes, and the record that they stand for
abbrev pub bytes : List (List ℕ × Result Entry Refusal)
bytes =
    (0x40 ∷ 0x00 ∷ 0x44 ∷ 0x01 ∷ replicate 12 0, Ok (entry Prepare 1 1 1 0 0))
    ∷ (0x80 ∷ 0x00 ∷ 0x44 ∷ 0x01 ∷ 0 ∷ 0 ∷ 0 ∷ 0 ∷ 0 ∷ 0 ∷ 0x01 ∷ 0xF4 ∷ 0 ∷ 0 ∷ 0 ∷ 0x07 ∷ [], Ok (entry Accept 1 1 1 500 7))
    ∷ (0xBF ∷ 0xFF ∷ 0xFF ∷ 0xFF ∷ replicate 12 0, Ok (entry Accept 65535 15 1023 0 0))
    ∷ (0xC0 ∷ replicate 15 0, Err UnknownKind)
    ∷ (0x40 ∷ 0x00 ∷ 0x04 ∷ 0x01 ∷ replicate 12 0, Err NoAttempt)
    ∷ (0x40 ∷ 0x00 ∷ 0x44 ∷ 0x00 ∷ replicate 12 0, Err NoVersion)
    ∷ []

-- records, and their ballots
abbrev pub ballots : List (Entry × ℕ)
ballots = (entry Prepare 1 1 1 0 0, 17) ∷ (entry Accept 1 1 1 500 7, 17) ∷ (entry Accept 2 2 1 0 0, 34) ∷ []

abbrev prepare17 : Entry
prepare17 = entry Prepare 1 1 1 0 0

abbrev prepare34 : Entry
prepare34 = entry Prepare 2 2 1 0 0

abbrev accept17 : Entry
accept17 = entry Accept 1 1 1 500 7

abbrev accept34 : Entry
accept34 = entry Accept 2 2 1 900 8

abbrev saying : ℕ → ℕ → ℕ → ℕ → View
saying p a r s = record { promised = p; accepted = a; value = record { root = r; setup = s } }

-- logs, and what they say about version 1
abbrev pub logs : List (List Entry × View)
logs =
    (prepare17 ∷ accept34 ∷ accept17 ∷ [], saying 17 34 900 8)
    ∷ (prepare34 ∷ accept17 ∷ [], saying 34 0 0 0)
    ∷ (prepare34 ∷ accept34 ∷ [], saying 34 34 900 8)
    ∷ []

-- n cases stand in the table, and each is what the rules give
pub record Worked (n : ℕ) : Type 0 where
  pub cases : n ≡ length bytes + length ballots + length logs
  pub decodes : Each decoded bytes
  pub numbered : Each ballot ballots
  pub logged : Each (says 1) logs
