-- The lines of a report, as bytes.
use Rattle.std.specs.Prelude.{ℕ, List, [], ◌∷◌, ◌++◌, codes, decimal}
use Rattle.record.specs.Codes.{code, kind_name}
use Rattle.record.specs.Entry.{Entry, ballot}
use Rattle.record.specs.declared.refusal.Refusal.{Refusal}
use Rattle.record.specs.declared.refusal.Refusal.TheVariants.{NotWhole, UnknownKind, NoAttempt, NoVersion, PrepareWithValue}
use Rattle.record.specs.declared.value.Value.{Value}
use Rattle.journal.specs.declared.view.View.{View}

abbrev text_after : List ℕ → List (List ℕ) → List ℕ
text_after a [] = a
text_after a (b ∷ bs) = a ++ text_after b bs

-- pieces of text, one after another
abbrev pub text : List (List ℕ) → List ℕ
text [] = []
text (a ∷ bs) = text_after a bs

abbrev pub newline : List ℕ
newline = 10 ∷ []

abbrev pub request_text : ℕ → Entry → List ℕ
request_text place e =
    text
    (decimal place
    ∷ codes " "
    ∷ kind_name e.kind
    ∷ codes " attempt "
    ∷ decimal e.attempt
    ∷ codes " device "
    ∷ decimal e.device
    ∷ codes " version "
    ∷ decimal e.version
    ∷ codes " ballot "
    ∷ decimal (ballot e)
    ∷ [])

abbrev pub value_text : Value → List ℕ
value_text x = text (codes " root " ∷ decimal x.root ∷ codes " setup " ∷ decimal x.setup ∷ newline ∷ [])

-- a record under its place
abbrev pub record_line : ℕ → Entry → List ℕ
record_line place e = request_text place e ++ value_text e.value

-- what a refusal says of a record
abbrev pub meaning_text : Refusal → List ℕ
meaning_text NotWhole = codes "not sixteen bytes, or beyond the 4096 records of an area"
meaning_text UnknownKind = codes "the kind is neither PREPARE nor ACCEPT"
meaning_text NoAttempt = codes "the attempt is 0"
meaning_text NoVersion = codes "the version is 0"
meaning_text PrepareWithValue = codes "a PREPARE carries a value"
meaning_text _ = codes "no record"

abbrev pub refusal_line : ℕ → Refusal → List ℕ
refusal_line place d = text (decimal place ∷ codes " refused " ∷ decimal (code d) ∷ codes ": " ∷ meaning_text d ∷ newline ∷ [])

-- what a log says about version w; accepted 0 means that nothing is
abbrev pub view_line : ℕ → View → List ℕ
view_line w v =
    text
    (codes "version "
    ∷ decimal w
    ∷ codes " promised "
    ∷ decimal v.promised
    ∷ codes " accepted "
    ∷ decimal v.accepted
    ∷ codes " root "
    ∷ decimal v.value.root
    ∷ codes " setup "
    ∷ decimal v.value.setup
    ∷ newline
    ∷ [])

abbrev pub closing_line : ℕ → ℕ → ℕ → List ℕ
closing_line prepares accepts versions =
    text
    (codes "read "
    ∷ decimal prepares
    ∷ codes " PREPARE and "
    ∷ decimal accepts
    ∷ codes " ACCEPT of "
    ∷ decimal versions
    ∷ codes " versions\n"
    ∷ [])
