-- Numbers that were checked, as a program holds them.
use Rattle.std.specs.Prelude.{ℕ, [], ◌∷◌, Ok, Err, Result, nat_le, nat_lt}
use Rattle.record.specs.Checks.{when, unless}
use Rattle.record.specs.declared.refusal.Refusal.{Refusal}
use Rattle.record.specs.declared.refusal.Refusal.TheVariants.{NoSuchDevice, NoSuchAccount}
use Rattle.group.specs.declared.device_number.DeviceNumber.{DeviceNumber}
use Rattle.group.specs.declared.account_number.AccountNumber.{AccountNumber}

abbrev pub device_number_in : Result DeviceNumber Refusal → Result ℕ Refusal
device_number_in (Ok d) = Ok d.number
device_number_in (Err e) = Err e

abbrev pub account_number_in : Result AccountNumber Refusal → Result ℕ Refusal
account_number_in (Ok k) = Ok k.number
account_number_in (Err e) = Err e

abbrev pub device_from : ℕ → Result ℕ Refusal
device_from n = unless (when (nat_lt 15 n) NoSuchDevice ∷ []) n

-- one of so many accounts
abbrev pub account_from : ℕ → ℕ → Result ℕ Refusal
account_from count n = unless (when (nat_le count n) NoSuchAccount ∷ []) n
