-- What a record says, without the ranges that its type keeps: the form in which lists and models hold records.
use Rattle.std.specs.Prelude.{ℕ, ◌+◌, ◌*◌, Ok, Err, Result}
use Rattle.record.specs.declared.kind.Kind.{Kind}
use Rattle.record.specs.declared.record.Record.{Record}
use Rattle.record.specs.declared.refusal.Refusal.{Refusal}
use Rattle.record.specs.declared.value.Value.{Value}

pub record Entry : Type 0 where
  pub kind : Kind
  pub attempt : ℕ
  pub device : ℕ
  pub version : ℕ
  pub value : Value

abbrev pub entry_of : Record → Entry
entry_of r =
    record { kind = r.kind; attempt = r.attempt; device = r.device; version = r.version; value = r.value }

-- the same of an answer that may be a refusal
abbrev pub entry_in : Result Record Refusal → Result Entry Refusal
entry_in (Ok r) = Ok (entry_of r)
entry_in (Err e) = Err e

-- ballots order attempts first, and the devices within one attempt
abbrev pub ballot_of : ℕ → ℕ → ℕ
ballot_of attempt device = attempt * 16 + device

abbrev pub ballot : Entry → ℕ
ballot e = ballot_of e.attempt e.device

abbrev pub no_value : Value
no_value = record { root = 0; setup = 0 }
