-- What is written, by what is called for.
use Rattle.std.proofs.Common.{◌≡◌, ◌<◌, ℕ, Bool, true, false, nat_le, List, length, take, Option, None, Some, IfSome, Err, refl, subst, arith}
use Rattle.std.proofs.lemmas.Bool.Decides.{nat_tests}
use Rattle.std.specs.Io.KnownBytes.{Appends}
use Rattle.wf_outside.specs.declared.sinks.SinkFault.{SinkFault}
use Rattle.wf_outside.specs.Sinks.{FitsRoom}
use Rattle.wf_tool.specs.declared.ending.Ending.{Ending}
use Rattle.wf_tool.specs.declared.ending.Ending.TheVariants.{Done, Refused, Usage, InputFault, OutputFault, ScriptRefused, NoMemory, Turns, TextRefused, Undefined}
use Rattle.wf_tool.specs.Answer.{Writes, WritesPart, WritesText}

-- What calls for more.
module _ (calls others : Ending → List ℕ → Type 0) (more : (e : Ending) (text : List ℕ) → calls e text → others e text) (old new : Option (List ℕ)) (room : Option ℕ) where
  text-more : (ending : Ending) → WritesText calls old new ending → WritesText others old new ending
  text-more ending w = record { text = w.text; called = more ending w.text w.called; wrote = w.wrote }

  pub writes-more : (ending : Ending) → Writes calls old new room ending → Writes others old new room ending
  writes-more Done w = text-more Done w
  writes-more Refused w = text-more Refused w
  writes-more Usage w = text-more Usage w
  writes-more InputFault w = text-more InputFault w
  writes-more OutputFault w = record { ending = w.ending; text = w.text; gone = w.gone; called = more w.ending w.text w.called; wrote = w.wrote; lacking = w.lacking }
  writes-more ScriptRefused w = text-more ScriptRefused w
  writes-more NoMemory w = w
  writes-more Turns w = text-more Turns w
  writes-more TextRefused w = text-more TextRefused w
  writes-more Undefined w = text-more Undefined w

-- A part of what is called for, where a put has failed.
no-room : (room left : Option ℕ) (fault : SinkFault) (count : ℕ) → FitsRoom room left (Err fault) count → IfSome room (λ it. it < count)
no-room None left fault count fits = tt
no-room (Some room) left fault count fits = by_case (nat_le count room) refl
  where
    by_case : (b : Bool) → nat_le count room ≡ b → room < count
    by_case true is = let never = (fits (grind (arith, nat_tests, is))).0 in absurd (cc never)
    by_case false is = grind (arith, nat_tests, is)

pub part-told : (calls : Ending → List ℕ → Type 0) (ending : Ending) (text bytes : List ℕ) (old new : Option (List ℕ)) (room left : Option ℕ) (fault : SinkFault)
    → calls ending text → bytes ≡ text → Appends old new (take fault.gone bytes) → FitsRoom room left (Err fault) (length bytes) → WritesPart calls old new room
part-told calls ending text bytes old new room left fault called same wrote fits =
    let A : List ℕ → Type 0 = λ it. Appends old new (take fault.gone it) in
    let F : List ℕ → Type 0 = λ it. FitsRoom room left (Err fault) (length it) in
    record { ending = ending; text = text; gone = fault.gone; called = called; wrote = subst A same wrote; lacking = no-room room left fault (length text) (subst F same fits) }

-- Where nothing was written before.
pub writes-after : (calls : Ending → List ℕ → Type 0) (old between new : Option (List ℕ)) (room left : Option ℕ) (ending : Ending) → between ≡ old → left ≡ room → Writes calls between new left ending → Writes calls old new room ending
writes-after calls old between new room left ending same_bytes same_room w =
    let B : Option (List ℕ) → Type 0 = λ it. Writes calls it new room ending in
    let R : Option ℕ → Type 0 = λ it. Writes calls between new it ending in
    subst B same_bytes (subst R same_room w)
