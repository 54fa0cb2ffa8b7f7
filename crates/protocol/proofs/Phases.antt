-- How the phases exclude and contain one another. Assumes nothing.
use Rattle.std.proofs.Common.{◌≡◌, true, false, ◌⊎◌, sym, refl, ◌∙◌, inl, inr}
use Rattle.std.proofs.lemmas.Bool.{false≢true}
use Rattle.protocol.specs.Device.{is_open, is_preparing, is_accepting}
use Rattle.protocol.specs.declared.phase.Phase.{Phase}
use Rattle.protocol.specs.declared.phase.Phase.TheVariants.{Idle, Preparing, Accepting}

pub accepting-open : (p : Phase) → is_accepting p ≡ true → is_open p ≡ true
accepting-open Idle e = e
accepting-open Preparing e = refl
accepting-open Accepting e = refl

pub preparing-open : (p : Phase) → is_preparing p ≡ true → is_open p ≡ true
preparing-open Idle e = e
preparing-open Preparing e = refl
preparing-open Accepting e = refl

pub preparing-silent : (p : Phase) → is_preparing p ≡ true → is_accepting p ≡ false
preparing-silent Idle e = refl
preparing-silent Preparing e = refl
preparing-silent Accepting e = absurd (false≢true e)

pub not-both : (p : Phase) → is_preparing p ≡ true → is_accepting p ≡ true → ⊥
not-both p e f = false≢true (sym (preparing-silent p e) ∙ f)

pub open-cases : (p : Phase) → is_open p ≡ true → (is_preparing p ≡ true) ⊎ (is_accepting p ≡ true)
open-cases Idle e = absurd (false≢true e)
open-cases Preparing e = inl refl
open-cases Accepting e = inr refl
