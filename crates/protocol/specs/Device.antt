-- What a device holds, and each way in which it changes.
use Rattle.std.specs.Prelude.{ℕ, ◌+◌, max, Bool, true, false, cond, List, map, replicate, slice_index_or, slice_set}
use Rattle.record.specs.Entry.{Entry, ballot_of, no_value}
use Rattle.record.specs.declared.kind.Kind.TheVariants.{Prepare, Accept}
use Rattle.record.specs.declared.value.Value.{Value}
use Rattle.journal.specs.Log.{unread}
use Rattle.protocol.specs.declared.link.Link.{Link}
use Rattle.protocol.specs.declared.link.Link.TheVariants.{Up}
use Rattle.protocol.specs.declared.phase.Phase.{Phase}
use Rattle.protocol.specs.declared.phase.Phase.TheVariants.{Idle, Preparing, Accepting}
use Rattle.protocol.specs.declared.slot.Slot.{Slot}

abbrev pub last_version : ℕ
last_version = 1023

abbrev pub last_attempt : ℕ
last_attempt = 65535

pub record Device : Type 0 where
  pub joined : Bool
  -- the last attempt that it used
  pub attempt : ℕ
  -- the number of the version that it holds, 0 for none, and that version's value
  pub known : ℕ
  pub value : Value
  pub phase : Phase
  -- the value that its open proposal wants, and the one that its ACCEPTs carry
  pub proposed : Value
  pub carried : Value
  -- the highest attempt in any record of its next version that it has read
  pub seen : ℕ
  -- one of each for each of seven accounts
  pub links : List Link
  pub slots : List Slot

-- a proposal is open
abbrev pub is_open : Phase → Bool
is_open Idle = false
is_open _ = true

abbrev pub is_preparing : Phase → Bool
is_preparing Preparing = true
is_preparing _ = false

abbrev pub is_accepting : Phase → Bool
is_accepting Accepting = true
is_accepting _ = false

-- the version that it reads and writes about
abbrev pub next_version : Device → ℕ
next_version v = v.known + 1

-- the attempt that the next propose or again uses
abbrev pub next_attempt : Device → ℕ
next_attempt v = max v.attempt v.seen + 1

-- the ballot of device d
abbrev pub own_ballot : ℕ → Device → ℕ
own_ballot d v = ballot_of v.attempt d

abbrev pub fresh : Slot
fresh = record { place = 0; view = unread; sent = false; own = false }

abbrev pub link_at : Device → ℕ → Link
link_at v k = slice_index_or v.links k Up

abbrev pub slot_at : Device → ℕ → Slot
slot_at v k = slice_index_or v.slots k fresh

-- everything is 0, unmarked and idle
abbrev pub new_device : Bool → Device
new_device joined =
    record {
      joined = joined;
      attempt = 0;
      known = 0;
      value = no_value;
      phase = Idle;
      proposed = no_value;
      carried = no_value;
      seen = 0;
      links = replicate 7 Up;
      slots = replicate 7 fresh;
    }

abbrev pub with_link : Device → ℕ → Link → Device
with_link v k l = record v { links = slice_set v.links k l }

abbrev pub with_slot : Device → ℕ → Slot → ℕ → Device
with_slot v k s seen = record v { seen = seen; slots = slice_set v.slots k s }

abbrev pub with_sent : Slot → Bool → Slot
with_sent s sent = record s { sent = sent }

abbrev pub unmarked : Slot → Slot
unmarked s = record s { sent = false; own = false }

-- its request stands in account k
abbrev pub sent_to : Device → ℕ → Device
sent_to v k = with_slot v k (with_sent (slot_at v k) true) v.seen

-- it prepares the value x under a new attempt, and nothing is marked
abbrev pub opened : Device → Value → Device
opened v x = record v { attempt = next_attempt v; phase = Preparing; proposed = x; slots = map unmarked v.slots }

-- it asks for the value x to be accepted, and has sent that nowhere
abbrev pub carrying : Device → Value → Device
carrying v x = record v { phase = Accepting; carried = x; slots = map (λ s. with_sent s false) v.slots }

-- it holds version n with the value x and begins anew, with its attempt and its links as they were
abbrev pub holding : Device → ℕ → Value → Device
holding v n x =
    record v { known = n; value = x; phase = Idle; proposed = no_value; carried = no_value; seen = 0; slots = replicate 7 fresh }

abbrev pub restarted : Device → Device
restarted v = holding v v.known v.value

abbrev pub decided : Device → Value → Device
decided v x = holding v (next_version v) x

-- the record that device d sends
abbrev pub request : ℕ → Device → Entry
request d v =
    record {
      kind = cond (is_accepting v.phase) Accept Prepare;
      attempt = v.attempt;
      device = d;
      version = next_version v;
      value = cond (is_accepting v.phase) v.carried no_value;
    }
