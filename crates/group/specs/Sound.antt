-- What is true of every device that a program holds.
use Rattle.std.specs.Prelude.{◌≡◌, ◌<◌, ◌≤◌, true, length, List}
use Rattle.std.specs.List.{All}
use Rattle.protocol.specs.Device.{Device, is_open}

-- it holds a version that there is; with a proposal open it has made an attempt, and has a version left to decide
abbrev pub IsSound : Device → Type 0
IsSound v = (v.known ≤ 1023) × (is_open v.phase ≡ true → (1 ≤ v.attempt) × (v.known < 1023)) × (length v.links ≡ 7) × (length v.slots ≡ 7)

abbrev pub AreSound : List Device → Type 0
AreSound vs = All IsSound vs
