-- The functions of a program by their numbers.
use Rattle.std.proofs.Common.{◌≡◌, ℕ, suc, ◌<◌, ◌≤◌, Bool, true, false, List, [], ◌∷◌, length, None, refl, ap, ◌∙◌, arith}
use Rattle.std.specs.Prelude.{if◌then◌else◌, nat_eq, slice_get}
use Rattle.std.proofs.lemmas.Bool.Decides.{nat_tests}
use Rattle.turns.specs.Run.{Lost}
use Rattle.c_meaning.specs.declared.values.CValue.{CValue}
use Rattle.c_meaning.specs.CMemory.{Memory}
use Rattle.c_meaning.specs.CTypes.{Function}
use Rattle.c_meaning.specs.CCall.{Program, expression_meaning, expression_call, function_meaning, call_of}
use Rattle.c_step_text.specs.Numbered.{meaning_at, expression_at}
use Rattle.c_step_frames.specs.Frames.{FrameView}
use Rattle.c_step_run.specs.Coding.{CodeView, IsCoded, AreCoded}

-- The function with a number among those that a function can call.
pub record Found (c : CodeView) (frames args : List FrameView) (p : Program) (callable : List Function) (k : ℕ) : Type 0 where
  pub it : Function
  pub front : List Function
  pub coded : IsCoded c frames args p it front
  pub others : AreCoded c frames args p front
  pub size : length front ≡ k
  pub expression : (memory : Memory) (given : List CValue) → expression_at p callable k memory given ≡ expression_meaning p it (expression_call p front) memory given
  pub meaning : (n : ℕ) (given : List CValue) (memory : Memory) → meaning_at p callable k n given memory ≡ function_meaning p it (expression_call p front) (call_of p front) n given memory

same_number : (k n : ℕ) → nat_eq k n ≡ true → n ≡ k
same_number k n e = grind (arith, nat_tests, e)

other_number : (k n : ℕ) → nat_eq k n ≡ false → k < suc n → k < n
other_number k n e h = grind (arith, nat_tests, e, h)

not_equal : (k n : ℕ) → n < k → nat_eq k n ≡ false
not_equal k n h = grind (arith, nat_tests, h)

module _ (c : CodeView) (frames args : List FrameView) (p : Program) where
  pub found : (callable : List Function) (k : ℕ) → k < length callable → AreCoded c frames args p callable → Found c frames args p callable k
  found [] k h coded = absurd (omega (arith, h))
  found (f ∷ fs) k h coded = by_number (λ l. found fs k l coded.1) (nat_eq k (length fs)) refl
    where
      expression_if : (b : Bool) → nat_eq k (length fs) ≡ b → (memory : Memory) (given : List CValue) → expression_at p (f ∷ fs) k memory given ≡ (if b then expression_meaning p f (expression_call p fs) else expression_at p fs k) memory given
      expression_if b e memory given = ap (λ (x : Bool). (if x then expression_meaning p f (expression_call p fs) else expression_at p fs k) memory given) e

      meaning_if : (b : Bool) → nat_eq k (length fs) ≡ b → (n : ℕ) (given : List CValue) (memory : Memory) → meaning_at p (f ∷ fs) k n given memory ≡ (if b then function_meaning p f (expression_call p fs) (call_of p fs) else meaning_at p fs k) n given memory
      meaning_if b e n given memory = ap (λ (x : Bool). (if x then function_meaning p f (expression_call p fs) (call_of p fs) else meaning_at p fs k) n given memory) e

      further : nat_eq k (length fs) ≡ false → Found c frames args p fs k → Found c frames args p (f ∷ fs) k
      further e r = record {
        it = r.it;
        front = r.front;
        coded = r.coded;
        others = r.others;
        size = r.size;
        expression = λ memory given. expression_if false e memory given ∙ r.expression memory given;
        meaning = λ n given memory. meaning_if false e n given memory ∙ r.meaning n given memory;
      }

      by_number : (k < length fs → Found c frames args p fs k) → (b : Bool) → nat_eq k (length fs) ≡ b → Found c frames args p (f ∷ fs) k
      by_number recur true e = record { it = f; front = fs; coded = coded.0; others = coded.1; size = same_number k (length fs) e; expression = expression_if true e; meaning = meaning_if true e }
      by_number recur false e = further e (recur (other_number k (length fs) e h))

  -- What functions stand in is the same where the frames of those numbers are.
  one_same : (frames' args' : List FrameView) (f : Function) (fs : List Function) → slice_get frames' (length fs) ≡ slice_get frames (length fs) → slice_get args' (length fs) ≡ slice_get args (length fs)
      → IsCoded c frames args p f fs → IsCoded c frames' args' p f fs
  one_same frames' args' f fs a b h = record {
    func = h.func;
    is = h.is;
    frame = a ∙ h.frame;
    arguments = b ∙ h.arguments;
    numbered = h.numbered;
    laid = h.laid;
    entry = h.entry;
    turn = h.turn;
    initials = h.initials;
    inline = h.inline;
  }

  pub all_same : (frames' args' : List FrameView) (fs : List Function) → ((k : ℕ) → k < length fs → slice_get frames' k ≡ slice_get frames k) → ((k : ℕ) → k < length fs → slice_get args' k ≡ slice_get args k)
      → AreCoded c frames args p fs → AreCoded c frames' args' p fs
  all_same frames' args' [] a b h = tt
  all_same frames' args' (f ∷ fs) a b h =
      (one_same frames' args' f fs (a (length fs) (omega arith)) (b (length fs) (omega arith)) h.0, all_same frames' args' fs (λ k l. a k (omega (arith, l))) (λ k l. b k (omega (arith, l))) h.1)

-- Numbers that no function has.
pub no_expression : (p : Program) (fs : List Function) (k : ℕ) → length fs ≤ k → (memory : Memory) (given : List CValue) → expression_at p fs k memory given ≡ None
no_expression p [] k h memory given = refl
no_expression p (f ∷ fs) k h memory given =
    ap (λ (x : Bool). (if x then expression_meaning p f (expression_call p fs) else expression_at p fs k) memory given) (not_equal k (length fs) (omega (arith, h)))
    ∙ no_expression p fs k (omega (arith, h)) memory given

pub no_meaning : (p : Program) (fs : List Function) (k : ℕ) → length fs ≤ k → (n : ℕ) (given : List CValue) (memory : Memory) → meaning_at p fs k n given memory ≡ Lost
no_meaning p [] k h n given memory = refl
no_meaning p (f ∷ fs) k h n given memory =
    ap (λ (x : Bool). (if x then function_meaning p f (expression_call p fs) (call_of p fs) else meaning_at p fs k) n given memory) (not_equal k (length fs) (omega (arith, h)))
    ∙ no_meaning p fs k (omega (arith, h)) n given memory
