-- Functions by number are those by name.
use Rattle.std.proofs.Common.{◌≡◌, ℕ, zero, suc, ◌<◌, ◌≤◌, Bool, true, false, List, [], ◌∷◌, ◌++◌, length, Option, Some, None, refl, sym, ap, ◌∙◌, subst, arith}
use Rattle.std.specs.Prelude.{if◌then◌else◌, nat_eq, option_and_then, bytes_eq}
use Rattle.std.proofs.lemmas.Bool.Decides.{nat_tests}
use Rattle.std.proofs.lemmas.List.{length-append}
use Rattle.turns.specs.Run.{Outcome, Got, More, Lost}
use Rattle.turns.specs.Steps.{LeavesFewer}
use Rattle.turns.proofs.Raises.{fewer}
use Rattle.c_text.specs.declared.kinds.Linkage.{Linkage}
use Rattle.c_text.specs.declared.kinds.Linkage.TheVariants.{External, Static, StaticInline}
use Rattle.c_text.proofs.Names.{bytes_eq-true}
use Rattle.c_meaning.specs.declared.values.CValue.{CValue}
use Rattle.c_meaning.specs.CMemory.{Memory}
use Rattle.c_meaning.specs.CTypes.{Function}
use Rattle.c_meaning.specs.CStep.{stop, Returned, Running, state, weight, step}
use Rattle.c_meaning.specs.CCall.{Program, expression_meaning, expression_call, entered, initialized, frame_object, without_frame, body_run, running, started, function_meaning, call_of}
use Rattle.c_meaning.proofs.Weights.{step_falls}
use Rattle.c_step_exprs.specs.Resolving.{function_number}
use Rattle.c_step_exprs.specs.Values.{called_by}
use Rattle.c_step_text.specs.Flat.{FlatText}
use Rattle.c_step_text.specs.Layout.{go}
use Rattle.c_step_text.specs.Acting.{Activation, end_of, meaning_by, IsNumbered, IsLaid, Inside}
use Rattle.c_step_text.specs.Numbered.{meaning_at, expression_at, activation_of, AreOthers}

-- A number is below that of functions.
abbrev IsBelow : ℕ → Option ℕ → Type 0
IsBelow n None = Unit {0}
IsBelow n (Some k) = k < n

below_more : (n : ℕ) (o : Option ℕ) → IsBelow n o → IsBelow (suc n) o
below_more n None h = tt
below_more n (Some k) h = omega (arith, h)

number_below : (fs : List Function) (name : List ℕ) → IsBelow (length fs) (function_number fs name)
number_below [] name = tt
number_below (f ∷ fs) name = by_cases (bytes_eq f.name name) (number_below fs name)
  where
    by_cases : (b : Bool) → IsBelow (length fs) (function_number fs name) → IsBelow (suc (length fs)) (if b then Some (length fs) else function_number fs name)
    by_cases true h = omega arith
    by_cases false h = below_more (length fs) (function_number fs name) h

not_equal : (k n : ℕ) → k < n → nat_eq k n ≡ false
not_equal k n h = grind (arith, nat_tests, h)

equal : (n : ℕ) → nat_eq n n ≡ true
equal n = grind (arith, nat_tests)

module _ (p : Program) where
  -- Calls as statements.
  meaning_below : (f : Function) (fs : List Function) (o : Option ℕ) (n : ℕ) (given : List CValue) (memory : Memory) → IsBelow (length fs) o → meaning_by (meaning_at p (f ∷ fs)) o n given memory ≡ meaning_by (meaning_at p fs) o n given memory
  meaning_below f fs None n given memory h = refl
  meaning_below f fs (Some k) n given memory h = ap (λ (b : Bool). (if b then function_meaning p f (expression_call p fs) (call_of p fs) else meaning_at p fs k) n given memory) (not_equal k (length fs) h)

  meaning_here : (f : Function) (fs : List Function) (n : ℕ) (given : List CValue) (memory : Memory) → function_meaning p f (expression_call p fs) (call_of p fs) n given memory ≡ meaning_at p (f ∷ fs) (length fs) n given memory
  meaning_here f fs n given memory = sym (ap (λ (b : Bool). (if b then function_meaning p f (expression_call p fs) (call_of p fs) else meaning_at p fs (length fs)) n given memory) (equal (length fs)))

  pub call_numbered : (fs : List Function) (name : List ℕ) (n : ℕ) (given : List CValue) (memory : Memory) → call_of p fs name n given memory ≡ meaning_by (meaning_at p fs) (function_number fs name) n given memory
  call_numbered [] name n given memory = refl
  call_numbered (f ∷ fs) name n given memory = by_cases (bytes_eq f.name name) (call_numbered fs name n given memory)
    where
      by_cases : (b : Bool) → call_of p fs name n given memory ≡ meaning_by (meaning_at p fs) (function_number fs name) n given memory → (if b then function_meaning p f (expression_call p fs) (call_of p fs) else call_of p fs name) n given memory
          ≡ meaning_by (meaning_at p (f ∷ fs)) (if b then Some (length fs) else function_number fs name) n given memory
      by_cases true h = meaning_here f fs n given memory
      by_cases false h = h ∙ sym (meaning_below f fs (function_number fs name) n given memory (number_below fs name))

  -- Calls in expressions.
  abbrev by_number_in : List Function → Memory → ℕ → List CValue → Option CValue
  by_number_in fs memory k given = expression_at p fs k memory given

  expression_below : (f : Function) (fs : List Function) (o : Option ℕ) (given : List CValue) (memory : Memory) → IsBelow (length fs) o → called_by (by_number_in (f ∷ fs) memory) o given ≡ called_by (by_number_in fs memory) o given
  expression_below f fs None given memory h = refl
  expression_below f fs (Some k) given memory h = ap (λ (b : Bool). (if b then expression_meaning p f (expression_call p fs) else expression_at p fs k) memory given) (not_equal k (length fs) h)

  expression_here : (f : Function) (fs : List Function) (given : List CValue) (memory : Memory) → expression_meaning p f (expression_call p fs) memory given ≡ expression_at p (f ∷ fs) (length fs) memory given
  expression_here f fs given memory = sym (ap (λ (b : Bool). (if b then expression_meaning p f (expression_call p fs) else expression_at p fs (length fs)) memory given) (equal (length fs)))

  expression_numbered : (fs : List Function) (name : List ℕ) (given : List CValue) (memory : Memory) → expression_call p fs name memory given ≡ called_by (by_number_in fs memory) (function_number fs name) given
  expression_numbered [] name given memory = refl
  expression_numbered (f ∷ fs) name given memory = by_cases (bytes_eq f.name name) (expression_numbered fs name given memory)
    where
      by_cases : (b : Bool) → expression_call p fs name memory given ≡ called_by (by_number_in fs memory) (function_number fs name) given → (if b then expression_meaning p f (expression_call p fs) else expression_call p fs name) memory given
          ≡ called_by (by_number_in (f ∷ fs) memory) (if b then Some (length fs) else function_number fs name) given
      by_cases true h = expression_here f fs given memory
      by_cases false h = h ∙ sym (expression_below f fs (function_number fs name) given memory (number_below fs name))

  -- There is none with a greater number.
  expression_beyond : (fs : List Function) (k : ℕ) (given : List CValue) (memory : Memory) → length fs ≤ k → expression_at p fs k memory given ≡ None
  expression_beyond [] k given memory h = refl
  expression_beyond (f ∷ fs) k given memory h =
      ap (λ (b : Bool). (if b then expression_meaning p f (expression_call p fs) else expression_at p fs k) memory given) (differs k (length fs) h)
      ∙ expression_beyond fs k given memory (omega (arith, h))
    where
      differs : (j n : ℕ) → suc n ≤ j → nat_eq j n ≡ false
      differs j n l = grind (arith, nat_tests, l)

  -- Further functions with other names change nothing.
  numbers_agree : (front fs : List Function) (name : List ℕ) (given : List CValue) (memory : Memory) → AreOthers front fs
      → called_by (by_number_in fs memory) (function_number fs name) given ≡ called_by (by_number_in fs memory) (function_number (front ++ fs) name) given
  numbers_agree [] fs name given memory h = refl
  numbers_agree (g ∷ gs) fs name given memory h = by_cases (bytes_eq g.name name) refl (numbers_agree gs fs name given memory h.1)
    where
      by_cases : (b : Bool) → bytes_eq g.name name ≡ b → called_by (by_number_in fs memory) (function_number fs name) given ≡ called_by (by_number_in fs memory) (function_number (gs ++ fs) name) given → called_by (by_number_in fs memory) (function_number fs name) given
          ≡ called_by (by_number_in fs memory) (if b then Some (length (gs ++ fs)) else function_number (gs ++ fs) name) given
      by_cases true e k =
          let none : function_number fs name ≡ None = subst (λ (it : List ℕ). function_number fs it ≡ None) (bytes_eq-true g.name name e) h.0 in
          let l : length fs ≤ length (gs ++ fs) = omega (arith, length-append gs fs) in
          ap (λ (o : Option ℕ). called_by (by_number_in fs memory) o given) none ∙ sym (expression_beyond fs (length (gs ++ fs)) given memory l)
      by_cases false e k = k

  -- No call leaves more turns than it was given.
  fewer_body : (r : Running) (f : Function) (n : ℕ) (o : Option Memory) → LeavesFewer n (body_run r f n o)
  fewer_body r f n None = tt
  fewer_body r f n (Some memory) = fewer (step r) weight (step_falls r) n (state f.body stop memory)

  fewer_without : (objects n : ℕ) (o : Outcome Returned) → LeavesFewer n o → LeavesFewer n (without_frame objects o)
  fewer_without objects n (Got left done) h = h
  fewer_without objects n More h = tt
  fewer_without objects n Lost h = tt

  fewer_started : (r : Running) (f : Function) (given : List CValue) (memory : Memory) (n : ℕ) → LeavesFewer n (started r f given memory n)
  fewer_started r f given memory n = fewer_without (length memory) n (body_run r f n (option_and_then (λ fields. initialized r (length f.params) f.locals (memory ++ fields ∷ [])) (frame_object f given))) (fewer_body r f n _)

  less : (n : ℕ) (o : Outcome Returned) → LeavesFewer n o → LeavesFewer (suc n) o
  less n (Got left done) h = omega (arith, h)
  less n More h = tt
  less n Lost h = tt

  fewer_entered : (linkage : Linkage) (n : ℕ) (on : ℕ → Outcome Returned) → ((m : ℕ) → LeavesFewer m (on m)) → LeavesFewer n (entered linkage n on)
  fewer_entered External n on h = h n
  fewer_entered Static zero on h = tt
  fewer_entered Static (suc n) on h = less n (on n) (h n)
  fewer_entered StaticInline n on h = h n

  fewer_call : (fs : List Function) (name : List ℕ) (n : ℕ) (given : List CValue) (memory : Memory) → LeavesFewer n (call_of p fs name n given memory)
  fewer_call [] name n given memory = tt
  fewer_call (f ∷ fs) name n given memory = by_cases (bytes_eq f.name name) (fewer_call fs name n given memory)
    where
      by_cases : (b : Bool) → LeavesFewer n (call_of p fs name n given memory) → LeavesFewer n ((if b then function_meaning p f (expression_call p fs) (call_of p fs) else call_of p fs name) n given memory)
      by_cases true h = fewer_entered f.linkage n _ (λ m. fewer_started (running p f (expression_call p fs) (call_of p fs) (length memory)) f given memory m)
      by_cases false h = h

  pub numbered : (f : Function) (front callable : List Function) (frame start : ℕ) → p.functions ≡ front ++ callable → AreOthers front callable → IsNumbered (activation_of p f callable frame start)
  numbered f front callable frame start e h = record {
    values = λ memory name given. expression_numbered callable name given memory
        ∙ (numbers_agree front callable name given memory h
        ∙ sym (ap (λ (fs : List Function). called_by (by_number_in callable memory) (function_number fs name) given) e));
    callees = λ name n given memory. call_numbered callable name n given memory;
    fewer = λ name n given memory. fewer_call callable name n given memory;
  }

-- A function's body begins at its number.
pub begins : (t : FlatText) (a : Activation) → IsLaid t a → IsNumbered a → Inside t a (go a.start (end_of a) a.running.body) a.running.body stop
begins t a laid numbered_so = record {
  laid = laid;
  numbered = numbered_so;
  stands = record { i = a.start; next = end_of a; is = refl; tied = omega arith; laid = laid.body; follows = (refl, laid.end) };
}
