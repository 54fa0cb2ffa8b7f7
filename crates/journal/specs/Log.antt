-- What a list of records says about one version.
use Rattle.std.specs.Prelude.{ℕ, max, Bool, true, false, cond, not, ◌&&◌, List, [], ◌∷◌, ◌==◌, nat_le}
use Rattle.record.specs.Entry.{Entry, ballot, no_value}
use Rattle.record.specs.declared.kind.Kind.{Kind}
use Rattle.record.specs.declared.kind.Kind.TheVariants.{Prepare, Accept}
use Rattle.journal.specs.declared.view.View.{View}

abbrev pub is_accept : Kind → Bool
is_accept Prepare = false
is_accept Accept = true

-- before any record was read
abbrev pub unread : View
unread = record { promised = 0; accepted = 0; value = no_value }

-- a PREPARE of version w
abbrev pub promises : ℕ → Entry → Bool
promises w e = e.version == w && not (is_accept e.kind)

-- an ACCEPT of version w whose ballot is not below what v says was promised
abbrev pub accepts : ℕ → View → Entry → Bool
accepts w v e = e.version == w && (is_accept e.kind && nat_le v.promised (ballot e))

-- one record more. What is accepted does not raise promised, and the highest ballot stays, not the latest
unfoldable pub tell : ℕ → View → Entry → View
tell w v e =
    cond (accepts w v e && nat_le v.accepted (ballot e))
    (record { promised = v.promised; accepted = ballot e; value = e.value })
    (cond (promises w e) (record { promised = max v.promised (ballot e); accepted = v.accepted; value = v.value }) v)

-- more records, after those that gave v
unfoldable pub view : ℕ → View → List Entry → View
view w v [] = v
view w v (e ∷ es) = view w (tell w v e) es

-- a whole log
abbrev pub says : ℕ → List Entry → View
says w es = view w unread es
