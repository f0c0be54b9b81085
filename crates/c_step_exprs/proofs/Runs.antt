-- Runs of instructions in a row: what puts a value, and what turns the value on top of the stack into another one.
use Rattle.std.proofs.Common.{◌≡◌, ℕ, suc, Bool, true, false, List, [], ◌∷◌, ◌++◌, length, Option, Some, None, refl, sym, ap, ◌∙◌}
use Rattle.std.specs.Prelude.{option_map, option_and_then}
use Rattle.std.proofs.lemmas.List.{append_assoc}
use Rattle.c_meaning.specs.declared.values.CValue.{CValue}
use Rattle.c_meaning.specs.declared.values.CValue.TheVariants.{Numeric as numeric}
use Rattle.c_meaning.specs.CValues.{truth, holds}
use Rattle.c_meaning.specs.CExprs.{truth_value, and_also, or_else, chosen}
use Rattle.c_step_exprs.specs.declared.instrs.Instr.{Instr}
use Rattle.c_step_exprs.specs.declared.instrs.Instr.TheVariants as does
use Rattle.c_step_exprs.specs.declared.instrs.Turn.TheVariants as turn
use Rattle.c_step_exprs.specs.declared.instrs.Test.TheVariants as tests
use Rattle.c_step_exprs.specs.Instrs.{Around, pushed, goes_on, tested, truth_of, step, exec}
use Rattle.c_step_exprs.specs.Resolving.{arms_code}

-- What an option leads to.
pub through : {A B C : Type 0} (f : A → Option B) (g : B → Option C) (o : Option A) → option_and_then g (option_and_then f o) ≡ option_and_then (λ a. option_and_then g (f a)) o
through f g None = refl
through f g (Some x) = refl

pub alike : {A B : Type 0} (f g : A → Option B) → ((x : A) → f x ≡ g x) → (o : Option A) → option_and_then f o ≡ option_and_then g o
alike f g h None = refl
alike f g h (Some x) = h x

pub by_result : {A B : Type 0} (f : A → Option B) (o p : Option A) → o ≡ p → option_and_then f o ≡ option_and_then f p
by_result f o p e = ap (option_and_then f) e

module _ (a : Around) where
  -- The instructions put this value, where there is one; else their run ends.
  pub record Pushes (code : List Instr) (value : Option CValue) : Type 0 where
    pub by : (rest : List Instr) (stack : List CValue) → exec a 0 (code ++ rest) stack ≡ option_and_then (λ v. exec a 0 rest (v ∷ stack)) value

  -- They take a value and put what it is turned into.
  pub record Turns (code : List Instr) (f : CValue → Option CValue) : Type 0 where
    pub by : (rest : List Instr) (v : CValue) (stack : List CValue) → exec a 0 (code ++ rest) (v ∷ stack) ≡ option_and_then (λ w. exec a 0 rest (w ∷ stack)) (f v)

  pub in_front : (c d rest : List Instr) (stack : List CValue) → exec a 0 ((c ++ d) ++ rest) stack ≡ exec a 0 (c ++ (d ++ rest)) stack
  in_front c d rest stack = ap (λ (is : List Instr). exec a 0 is stack) (append_assoc c d rest)

  pub followed : (c d : List Instr) (o : Option CValue) (f : CValue → Option CValue) → Pushes c o → Turns d f → Pushes (c ++ d) (option_and_then f o)
  followed c d o f h g = record {
    by = λ rest stack. in_front c d rest stack ∙ (h.by (d ++ rest) stack
        ∙ (alike (λ v. exec a 0 (d ++ rest) (v ∷ stack)) (λ v. option_and_then (λ w. exec a 0 rest (w ∷ stack)) (f v)) (λ v. g.by rest v stack) o
        ∙ sym (through f (λ w. exec a 0 rest (w ∷ stack)) o)));
  }

  pub compose : (c d : List Instr) (f g : CValue → Option CValue) → Turns c f → Turns d g → Turns (c ++ d) (λ v. option_and_then g (f v))
  compose c d f g h k = record {
    by = λ rest v stack. in_front c d rest (v ∷ stack) ∙ (h.by (d ++ rest) v stack
        ∙ (alike (λ w. exec a 0 (d ++ rest) (w ∷ stack)) (λ w. option_and_then (λ x. exec a 0 rest (x ∷ stack)) (g w)) (λ w. k.by rest w stack) (f v)
        ∙ sym (through g (λ x. exec a 0 rest (x ∷ stack)) (f v))));
  }

  pub pushes_same : (c : List Instr) (o p : Option CValue) → Pushes c o → o ≡ p → Pushes c p
  pushes_same c o p h e = record { by = λ rest stack. h.by rest stack ∙ by_result (λ v. exec a 0 rest (v ∷ stack)) o p e }

  pub turns_same : (c : List Instr) (f g : CValue → Option CValue) → Turns c f → ((v : CValue) → f v ≡ g v) → Turns c g
  turns_same c f g h e = record { by = λ rest v stack. h.by rest v stack ∙ by_result (λ w. exec a 0 rest (w ∷ stack)) (f v) (g v) (e v) }

  -- One instruction.
  goes_to : (rest : List Instr) (o : Option CValue) (stack : List CValue)
      → option_and_then (λ (next : ℕ × List CValue). exec a next.0 rest next.1) (goes_on (pushed o stack)) ≡ option_and_then (λ v. exec a 0 rest (v ∷ stack)) o
  goes_to rest None stack = refl
  goes_to rest (Some v) stack = refl

  pub puts : (i : Instr) (o : Option CValue) → ((stack : List CValue) → step a i stack ≡ goes_on (pushed o stack)) → Pushes (i ∷ []) o
  puts i o h = record { by = λ rest stack. by_result (λ (next : ℕ × List CValue). exec a next.0 rest next.1) (step a i stack) (goes_on (pushed o stack)) (h stack) ∙ goes_to rest o stack }

  pub turns : (i : Instr) (f : CValue → Option CValue) → ((v : CValue) (stack : List CValue) → step a i (v ∷ stack) ≡ goes_on (pushed (f v) stack)) → Turns (i ∷ []) f
  turns i f h = record { by = λ rest v stack. by_result (λ (next : ℕ × List CValue). exec a next.0 rest next.1) (step a i (v ∷ stack)) (goes_on (pushed (f v) stack)) (h v stack) ∙ goes_to rest (f v) stack }

  pub nothing : (f : CValue → Option CValue) → ((v : CValue) → Some v ≡ f v) → Turns [] f
  nothing f h = record { by = λ rest v stack. by_result (λ w. exec a 0 rest (w ∷ stack)) (Some v) (f v) (h v) }

  pub stuck : (f : CValue → Option CValue) → ((v : CValue) → None ≡ f v) → Turns (does.Stuck ∷ []) f
  stuck f h = record { by = λ rest v stack. by_result (λ w. exec a 0 rest (w ∷ stack)) None (f v) (h v) }

  -- A second operand and an instruction that takes both.
  pub with_second : (c : List Instr) (p : Option CValue) (i : Instr) (f : CValue → CValue → Option CValue) → Pushes c p
      → ((first second : CValue) (stack : List CValue) → step a i (second ∷ first ∷ stack) ≡ goes_on (pushed (f first second) stack)) → Turns (c ++ i ∷ []) (λ v. option_and_then (f v) p)
  with_second c p i f h e = record {
    by = λ rest v stack. in_front c (i ∷ []) rest (v ∷ stack) ∙ (h.by (i ∷ rest) (v ∷ stack)
        ∙ (alike (λ w. exec a 0 (i ∷ rest) (w ∷ v ∷ stack)) (λ w. option_and_then (λ x. exec a 0 rest (x ∷ stack)) (f v w))
        (λ w. by_result (λ (next : ℕ × List CValue). exec a next.0 rest next.1) (step a i (w ∷ v ∷ stack)) (goes_on (pushed (f v w) stack)) (e v w stack) ∙ goes_to rest (f v w) stack) p
        ∙ sym (through (f v) (λ x. exec a 0 rest (x ∷ stack)) p)));
  }

  -- Instructions that are passed over.
  pub pass : (c rest : List Instr) (stack : List CValue) → exec a (length c) (c ++ rest) stack ≡ exec a 0 rest stack
  pass [] rest stack = refl
  pass (i ∷ is) rest stack = pass is rest stack

  pub pass_one : (c : List Instr) (i : Instr) (rest : List Instr) (stack : List CValue) → exec a (suc (length c)) (c ++ i ∷ rest) stack ≡ exec a 0 rest stack
  pass_one [] i rest stack = refl
  pass_one (j ∷ is) i rest stack = pass_one is i rest stack

  pass_both : (c : List Instr) (i : Instr) (rest : List Instr) (stack : List CValue) → exec a (suc (length c)) ((c ++ i ∷ []) ++ rest) stack ≡ exec a 0 rest stack
  pass_both c i rest stack = ap (λ (is : List Instr). exec a (suc (length c)) is stack) (append_assoc c (i ∷ []) rest) ∙ pass_one c i rest stack

  -- The second operand of `&&` and of `||`.
  second_truth : (second : List Instr) (p : Option CValue) → Pushes second p → Pushes (second ++ does.Turn turn.Truth ∷ []) (option_and_then (λ v. Some (truth_of v)) p)
  second_truth second p h = followed second (does.Turn turn.Truth ∷ []) p (λ v. Some (truth_of v)) h (turns (does.Turn turn.Truth) (λ v. Some (truth_of v)) (λ v stack. refl))

  truths : (p : Option CValue) → option_and_then (λ v. Some (truth_of v)) p ≡ truth_value (option_map holds p)
  truths None = refl
  truths (Some v) = refl

  pub both_runs : (second : List Instr) (p : Option CValue) → Pushes second p → Turns (does.Test tests.And (suc (length second)) ∷ (second ++ does.Turn turn.Truth ∷ [])) (λ v. truth_value (and_also (holds v) p))
  both_runs second p h = record { by = λ rest v stack. by_first rest stack (holds v) }
    where
      by_first : (rest : List Instr) (stack : List CValue) (b : Bool)
          → option_and_then (λ (next : ℕ × List CValue). exec a next.0 ((second ++ does.Turn turn.Truth ∷ []) ++ rest) next.1) (tested tests.And b (suc (length second)) stack)
          ≡ option_and_then (λ w. exec a 0 rest (w ∷ stack)) (truth_value (and_also b p))
      by_first rest stack true = (second_truth second p h).by rest stack ∙ by_result (λ w. exec a 0 rest (w ∷ stack)) (option_and_then (λ v. Some (truth_of v)) p) (truth_value (option_map holds p)) (truths p)
      by_first rest stack false = pass_both second (does.Turn turn.Truth) rest (numeric (truth false) ∷ stack)

  pub either_runs : (second : List Instr) (p : Option CValue) → Pushes second p → Turns (does.Test tests.Or (suc (length second)) ∷ (second ++ does.Turn turn.Truth ∷ [])) (λ v. truth_value (or_else (holds v) p))
  either_runs second p h = record { by = λ rest v stack. by_first rest stack (holds v) }
    where
      by_first : (rest : List Instr) (stack : List CValue) (b : Bool)
          → option_and_then (λ (next : ℕ × List CValue). exec a next.0 ((second ++ does.Turn turn.Truth ∷ []) ++ rest) next.1) (tested tests.Or b (suc (length second)) stack)
          ≡ option_and_then (λ w. exec a 0 rest (w ∷ stack)) (truth_value (or_else b p))
      by_first rest stack true = pass_both second (does.Turn turn.Truth) rest (numeric (truth true) ∷ stack)
      by_first rest stack false = (second_truth second p h).by rest stack ∙ by_result (λ w. exec a 0 rest (w ∷ stack)) (option_and_then (λ v. Some (truth_of v)) p) (truth_value (option_map holds p)) (truths p)

  -- Both arms of `?:`.
  pub arms_run : (met unmet : List Instr) (p q : Option CValue) → Pushes met p → Pushes unmet q → Turns (arms_code met unmet) (λ v. chosen (holds v) p q)
  arms_run met unmet p q h k = record { by = λ rest v stack. by_first rest stack (holds v) }
    where
      skips : List Instr
      skips = does.Skip (length unmet) ∷ unmet

      by_first : (rest : List Instr) (stack : List CValue) (b : Bool)
          → option_and_then (λ (next : ℕ × List CValue). exec a next.0 ((met ++ skips) ++ rest) next.1) (tested tests.Unless b (suc (length met)) stack)
          ≡ option_and_then (λ w. exec a 0 rest (w ∷ stack)) (chosen b p q)
      by_first rest stack true = in_front met skips rest stack ∙ (h.by (does.Skip (length unmet) ∷ (unmet ++ rest)) stack
          ∙ alike (λ v. exec a (length unmet) (unmet ++ rest) (v ∷ stack)) (λ w. exec a 0 rest (w ∷ stack)) (λ v. pass unmet rest (v ∷ stack)) p)
      by_first rest stack false = ap (λ (is : List Instr). exec a (suc (length met)) is stack) (append_assoc met skips rest)
          ∙ (pass_one met (does.Skip (length unmet)) (unmet ++ rest) stack ∙ k.by rest stack)
