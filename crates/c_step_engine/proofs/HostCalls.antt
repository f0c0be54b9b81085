-- A function by its name is the function with its number.
use Rattle.std.proofs.Common.{◌≡◌, ℕ, suc, ◌<◌, Bool, true, false, List, [], ◌∷◌, length, Option, Some, None, refl, sym, ap, ◌∙◌, arith}
use Rattle.std.specs.Prelude.{if◌then◌else◌, nat_eq, ◌&&◌, bytes_eq, slice_get, option_map, option_and_then}
use Rattle.wf_text.specs.declared.numbers.StatusId.{StatusId}
use Rattle.wf_text.specs.Surface.{Surface}
use Rattle.wf_text.specs.Surface as kind
use Rattle.wf_text.specs.Seen as answer
use Rattle.wf_bufs.specs.declared.outcomes.Outcome.TheVariants.{Status}
use Rattle.c_meaning.specs.declared.values.Pointer.{Pointer}
use Rattle.c_meaning.specs.declared.values.CValue.{CValue}
use Rattle.c_meaning.specs.declared.values.CValue.TheVariants.{Numeric as numeric, Address as address, NullPointer as null_pointer}
use Rattle.c_meaning.specs.CValues.{to_object}
use Rattle.c_meaning.specs.CMemory.{Memory}
use Rattle.c_meaning.specs.CTypes.{Function}
use Rattle.c_meaning.specs.CCall.{Program, host_call, function_meaning, expression_call, call_of}
use Rattle.c_meaning.specs.CRun.{status_text, answer_of}
use Rattle.c_step_exprs.specs.Resolving.{function_number}
use Rattle.c_step_text.specs.Acting.{meaning_by}
use Rattle.c_step_text.specs.Numbered.{meaning_at}
use Rattle.c_step_text.proofs.Numbers.{call_numbered}
use Rattle.c_step_frames.specs.Frames.{FrameView}
use Rattle.c_step_run.specs.Coding.{CodeView, AreCoded}
use Rattle.c_step_run.proofs.Lookups.{Found, found}
use Rattle.c_step_engine.specs.Engines.{number_of, outcome_for}
use Rattle.c_step_engine.specs.Statuses.{status_at, AreStatuses, status_in}

number_within : (fs : List Function) (name : List ℕ) (k : ℕ) → function_number fs name ≡ Some k → k < length fs
number_within [] name k e = absurd (cc (e))
number_within (f ∷ fs) name k e = by_test (number_within fs name k) (bytes_eq f.name name) e
  where
    by_test : (function_number fs name ≡ Some k → k < length fs) → (b : Bool) → (if b then Some (length fs) else function_number fs name) ≡ Some k → k < suc (length fs)
    by_test later true h = let s : length fs ≡ k = cc (h) in omega (arith, s)
    by_test later false h = omega (arith, later h)

pub found_by_name : (c : CodeView) (frames args : List FrameView) (p : Program) (name : List ℕ) (k : ℕ) → function_number p.functions name ≡ Some k → AreCoded c frames args p p.functions → Found c frames args p p.functions k
found_by_name c frames args p name k e coded = found c frames args p p.functions k (number_within p.functions name k e) coded

pub called_by_name : (c : CodeView) (frames args : List FrameView) (p : Program) (name : List ℕ) (k n : ℕ) (given : List CValue) (memory : Memory) → function_number p.functions name ≡ Some k → (r : Found c frames args p p.functions k)
    → host_call p name n given memory ≡ function_meaning p r.it (expression_call p r.front) (call_of p r.front) n given memory
called_by_name c frames args p name k n given memory e r =
    call_numbered p p.functions name n given memory
    ∙ (ap (λ (o : Option ℕ). meaning_by (meaning_at p p.functions) o n given memory) e ∙ r.meaning n given memory)

-- A status that a pointer leads to.
pub status_there : (p : Program) (surface : Surface) (table : List (Option StatusId)) (q : Pointer) → AreStatuses p surface table
    → option_map (λ id. Status id) (status_at table q) ≡ option_map (outcome_for surface) (option_map answer.status (status_text p surface q))
status_there p surface table q h = by_test (nat_eq q.field 0 && nat_eq q.index 0) (h q.object)
  where
    mapped : (o : Option (List ℕ)) → option_map (λ (id : StatusId). Status id) (option_map (λ text. record { 0 = number_of surface.statuses text }) o) ≡ option_map (outcome_for surface) (option_map answer.status o)
    mapped None = refl
    mapped (Some text) = refl

    by_test : (b : Bool) → option_and_then (λ (it : Option StatusId). it) (slice_get table q.object) ≡ option_map (λ text. record { 0 = number_of surface.statuses text }) (status_text p surface (to_object q.object))
        → option_map (λ (id : StatusId). Status id) (if b then option_and_then (λ it. it) (slice_get table q.object) else None)
        ≡ option_map (outcome_for surface) (option_map answer.status (if b then status_text p surface (to_object q.object) else None))
    by_test true e = ap (option_map (λ (id : StatusId). Status id)) e ∙ mapped (status_text p surface (to_object q.object))
    by_test false e = refl

first_number : (xs : List (List ℕ)) → slice_get xs 0 ≡ Some [] → number_of xs [] ≡ 0
first_number [] e = refl
first_number (x ∷ xs) e = let s : x ≡ [] = cc (e) in ap (λ (y : List ℕ). if bytes_eq y [] then 0 else suc (number_of xs [])) s

pub status_answered : (p : Program) (surface : Surface) (table : List (Option StatusId)) (v : CValue) → slice_get surface.statuses 0 ≡ Some [] → AreStatuses p surface table
    → status_in table v ≡ option_map (outcome_for surface) (answer_of p surface kind.status (Some v))
status_answered p surface table null_pointer ok h = ap (λ (n : ℕ). Some (Status (record { 0 = n }))) (sym (first_number surface.statuses ok))
status_answered p surface table (address q) ok h = status_there p surface table q h
status_answered p surface table (numeric n) ok h = refl
