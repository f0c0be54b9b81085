-- The functions of the saturating operators, read in the meaning of C.
use Rattle.std.proofs.Common.{◌≡◌, ℕ, ◌+◌, ◌-◌, ◌%◌, ◌^◌, ◌<◌, ◌≤◌, Bool, true, false, List, [], ◌∷◌, ◌++◌, length, Some, refl, ap, ◌∙◌, subst, arith, pos, min}
use Rattle.std.specs.Prelude.{if◌then◌else◌, nat_lt, nat_le, option_and_then, codes}
use Rattle.std.proofs.lemmas.Bool.Decides.{nat_tests}
use Rattle.wf_num.specs.declared.c_arithmetic.CTy.{CTy}
use Rattle.wf_num.specs.declared.c_arithmetic.CTy.TheVariants.{Int, U32, U64}
use Rattle.wf_num.specs.CArithmetic.{IsIn, c_result, c_sum, c_difference}
use Rattle.wf_num.proofs.CLaws.{c_limit, c_value-whole, c_sum-whole, c_difference-whole}
use Rattle.wf_ast.specs.TypedTree.{Order, less, at_most, equal, differs, at_least, greater}
use Rattle.wf_ast.specs.WellTyped.{is_width}
use Rattle.wf_ast.proofs.TreeLemmas.{slice_get-seam}
use Rattle.c_text.specs.declared.kinds.COp.TheVariants.{Add, Sub, Lt, Gt}
use Rattle.c_text.specs.CTree.{ExprTree, variable, choice}
use Rattle.c_meaning.specs.declared.cells.Cell.TheVariants.{Num as num_cell}
use Rattle.c_meaning.specs.declared.values.CValue.{CValue}
use Rattle.c_meaning.specs.declared.values.CValue.TheVariants.{Numeric as numeric}
use Rattle.c_meaning.specs.CValues.{number, common}
use Rattle.c_meaning.specs.CMemory.{Memory, Object, cells, value_of}
use Rattle.c_meaning.specs.CTypes.{ExprType, numbers, points_to, zero_literal, as_number, one_type, test_type, operation_type, choice_type, assignable, function_named, type_of}
use Rattle.c_meaning.specs.CExprs.{Surroundings, cell_type}
use Rattle.c_meaning.specs.CCall.{Program, ExprMeaning, scope_in, expression_meaning}
use Rattle.wf_exprs.specs.Words.{literal, num, uint_of, two}
use Rattle.wf_exprs.specs.Exprs.{calculated, literal_type, order_op, saturating_name, saturated}
use Rattle.wf_exprs.specs.Helpers.{saturating_value}
use Rattle.wf_exprs_laws.specs.ExprLaw.{GivesNumber, IsTheNumber}
use Rattle.wf_exprs_laws.specs.HelperLaw.{helper, saturation, IsHelperLaw}
use Rattle.wf_exprs_laws.proofs.CNumbers.{by_width, width-limit, kept, limit-width, limit-left, limit-right}
use Rattle.wf_exprs_laws.proofs.Operands.{IsNumber, in-type, has-type, promoted-width, literal-number, Calculates, chained-number, calculated-number}
use Rattle.wf_exprs_laws.proofs.Law.{is_stored}
use Rattle.wf_exprs_laws.proofs.Conditions.{CondGives, order-cond}

-- What a cell of a width holds.
cell-value : (bits n : ℕ) → is_width bits ≡ true → value_of (cell_type (uint_of bits)) (num_cell n) ≡ Some (numeric (number (calculated bits) n))
cell-value bits n w = by_width (λ bits. value_of (cell_type (uint_of bits)) (num_cell n) ≡ Some (numeric (number (calculated bits) n))) bits w refl refl refl refl

joined : (a b c d : CTy) → Some a ≡ Some c → Some b ≡ Some d → Some (numbers (common a b)) ≡ Some (numbers (common c d))
joined a b c d p q = let e : a ≡ c = cc p in let f : b ≡ d = cc q in rw (e, f) refl

one_type-numbers : (a b : ExprType) (ta tb : CTy) → as_number a ≡ Some ta → as_number b ≡ Some tb → one_type true a b ≡ Some (numbers (common ta tb))
one_type-numbers (points_to t) b ta tb p q = absurd (cc p)
one_type-numbers (numbers s) (points_to t) ta tb p q = absurd (cc q)
one_type-numbers zero_literal (points_to t) ta tb p q = absurd (cc q)
one_type-numbers (numbers s) (numbers t) ta tb p q = joined s t ta tb p q
one_type-numbers (numbers s) zero_literal ta tb p q = joined s Int ta tb p q
one_type-numbers zero_literal (numbers t) ta tb p q = joined Int t ta tb p q
one_type-numbers zero_literal zero_literal ta tb p q = joined Int Int ta tb p q

-- The arm that is taken is the number, in the type of both.
module _ (x : Surroundings) (test met unmet : ExprTree) (ts tm tu : CTy) (tested : option_and_then as_number (type_of x.scope test) ≡ Some ts) (met_is : option_and_then as_number (type_of x.scope met) ≡ Some tm) (unmet_is : option_and_then as_number (type_of x.scope unmet) ≡ Some tu) where
  arms : choice_type (type_of x.scope met) (type_of x.scope unmet) ≡ Some (numbers (common tm tu))
  arms =
      let a = has-type (type_of x.scope met) tm met_is in
      let b = has-type (type_of x.scope unmet) tu unmet_is in
      rw (a.is, b.is) (one_type-numbers a.type b.type tm tu a.number b.number)

  choice-type : option_and_then as_number (type_of x.scope (choice test met unmet)) ≡ Some (common tm tu)
  choice-type = let t = has-type (type_of x.scope test) ts tested in rw (t.is, arms) refl

  met-number : (r : ℕ) → CondGives x test true → IsNumber x met tm r → IsNumber x (choice test met unmet) (common tm tu) r
  met-number r g h =
      let small = limit-left tm tu r h.small in
      record {
        gives = record {
          type = choice-type;
          value = rw (arms, g.value, g.is, h.gives.value) (ap (λ n. Some (numeric (number (common tm tu) n))) (kept (common tm tu) tm r h.small (limit-width (common tm tu) r small)));
        };
        small = small;
      }

  unmet-number : (r : ℕ) → CondGives x test false → IsNumber x unmet tu r → IsNumber x (choice test met unmet) (common tm tu) r
  unmet-number r g h =
      let small = limit-right tm tu r h.small in
      record {
        gives = record {
          type = choice-type;
          value = rw (arms, g.value, g.is, h.gives.value) (ap (λ n. Some (numeric (number (common tm tu) n))) (kept (common tm tu) tu r h.small (limit-width (common tm tu) r small)));
        };
        small = small;
      }

common-same : (a : CTy) → common a a ≡ a
common-same Int = refl
common-same U32 = refl
common-same U64 = refl

-- A comparison is an `int`.
two-typed : (x : Surroundings) (op : Order) (e f : ExprTree) (a b : CTy) (m n : ℕ) → IsNumber x e a m → IsNumber x f b n → option_and_then as_number (type_of x.scope (two (order_op op) e f)) ≡ Some Int
two-typed x op e f a b m n h g =
    let s = has-type (type_of x.scope e) a h.gives.type in
    let t = has-type (type_of x.scope f) b g.gives.type in
    rw (s.is, t.is) (by op s.type t.type s.number t.number)
  where
    mixed : (z : Bool) (s t : ExprType) → as_number s ≡ Some a → as_number t ≡ Some b → option_and_then as_number (test_type (one_type z s t)) ≡ Some Int
    mixed z (points_to u) t p q = absurd (cc p)
    mixed z (numbers u) (points_to v) p q = absurd (cc q)
    mixed z zero_literal (points_to v) p q = absurd (cc q)
    mixed z (numbers u) (numbers v) p q = refl
    mixed z (numbers u) zero_literal p q = refl
    mixed z zero_literal (numbers v) p q = refl
    mixed z zero_literal zero_literal p q = refl

    by : (op : Order) (s t : ExprType) → as_number s ≡ Some a → as_number t ≡ Some b → option_and_then as_number (operation_type (order_op op) s t) ≡ Some Int
    by less s t p q = mixed false s t p q
    by at_most s t p q = mixed false s t p q
    by equal s t p q = mixed true s t p q
    by differs s t p q = mixed true s t p q
    by at_least s t p q = mixed false s t p q
    by greater s t p q = mixed false s t p q

-- A sum of two numbers of a width leaves it exactly where what is left is below the first.
wraps : (bits m n : ℕ) → is_width bits ≡ true → m < 2 ^ bits → n < 2 ^ bits → nat_lt (2 ^ bits - 1) (m + n) ≡ nat_lt ((m + n) % 2 ^ bits) m
wraps bits m n w p q = same-tests (2 ^ bits - 1) (m + n) ((m + n) % 2 ^ bits) m
    (λ l. by_width (λ bits. m < 2 ^ bits → n < 2 ^ bits → 2 ^ bits - 1 < m + n → (m + n) % 2 ^ bits < m) bits w
    (λ p q l. omega (arith, p, q, l)) (λ p q l. omega (arith, p, q, l)) (λ p q l. omega (arith, p, q, l)) (λ p q l. omega (arith, p, q, l)) p q l)
    (λ l. by_width (λ bits. m < 2 ^ bits → n < 2 ^ bits → (m + n) % 2 ^ bits < m → 2 ^ bits - 1 < m + n) bits w
    (λ p q l. omega (arith, p, q, l)) (λ p q l. omega (arith, p, q, l)) (λ p q l. omega (arith, p, q, l)) (λ p q l. omega (arith, p, q, l)) p q l)
  where
    same-tests : (i j k l : ℕ) → (i < j → k < l) → (k < l → i < j) → nat_lt i j ≡ nat_lt k l
    same-tests i j k l f g = by (nat_lt i j) (nat_lt k l) refl refl
      where
        by : (t u : Bool) → nat_lt i j ≡ t → nat_lt k l ≡ u → t ≡ u
        by true true e h = refl
        by false false e h = refl
        by true false e h = let lt : k < l = f (grind (arith, nat_tests, e)) in absurd (grind (arith, nat_tests, h, lt))
        by false true e h = let lt : i < j = g (grind (arith, nat_tests, h)) in absurd (grind (arith, nat_tests, e, lt))

stays-whole : (bits m n : ℕ) → is_width bits ≡ true → m < 2 ^ bits → n < 2 ^ bits → nat_lt ((m + n) % 2 ^ bits) m ≡ false → (m + n) % 2 ^ bits ≡ m + n
stays-whole bits m n w p q h =
    let le : m ≤ (m + n) % 2 ^ bits = grind (arith, nat_tests, h) in
    by_width (λ bits. m < 2 ^ bits → n < 2 ^ bits → m ≤ (m + n) % 2 ^ bits → (m + n) % 2 ^ bits ≡ m + n) bits w
    (λ p q l. omega (arith, p, q, l)) (λ p q l. omega (arith, p, q, l)) (λ p q l. omega (arith, p, q, l)) (λ p q l. omega (arith, p, q, l)) p q le

-- The two parameters while the function is called.
module _ (p : Program) (is_sum : Bool) (callee : List ℕ → ExprMeaning) (memory : Memory) (bits m n : ℕ) (w : is_width bits ≡ true) (m_few : m < 2 ^ bits) (n_few : n < 2 ^ bits) where
  abbrev object : Object
  object = cells (cell_type (uint_of bits)) (num_cell m ∷ []) ∷ cells (cell_type (uint_of bits)) (num_cell n ∷ []) ∷ []

  abbrev now : Memory
  now = memory ++ object ∷ []

  abbrev inside : Surroundings
  inside = record { scope = scope_in p (helper is_sum bits); frame = length memory; memory = now; called = λ name. callee name now }

  abbrev a : ExprTree
  a = variable (codes "a")

  abbrev b : ExprTree
  b = variable (codes "b")

  a-number : IsNumber inside a (calculated bits) m
  a-number = record {
    gives = record { type = ap Some (promoted-width bits w); value = rw (slice_get-seam memory object []) (cell-value bits m w) };
    small = width-limit bits m w m_few;
  }

  b-number : IsNumber inside b (calculated bits) n
  b-number = record {
    gives = record { type = ap Some (promoted-width bits w); value = rw (slice_get-seam memory object []) (cell-value bits n w) };
    small = width-limit bits n w n_few;
  }

  abbrev sum : ExprTree
  sum = two Add a b

  difference-gives : Calculates inside (two Sub a b) (calculated bits) (c_difference (calculated bits) m n)
  difference-gives =
      subst (λ ty. Calculates inside (two Sub a b) ty (c_difference ty m n)) (common-same (calculated bits)) (chained-number inside false Sub refl a b (calculated bits) (calculated bits) m n a-number b-number)

  sum-gives : Calculates inside sum (calculated bits) (c_sum (calculated bits) m n)
  sum-gives =
      subst (λ ty. Calculates inside sum ty (c_sum ty m n)) (common-same (calculated bits)) (chained-number inside false Add refl a b (calculated bits) (calculated bits) m n a-number b-number)

  -- `((a < b) ? 0 : (a - b))`
  difference-number : IsNumber inside (saturating_value false bits) (calculated bits) (m - n)
  difference-number = by (nat_lt m n) refl
    where
      test : CondGives inside (two Lt a b) (nat_lt m n)
      test = order-cond inside less a b (calculated bits) (calculated bits) m n a-number b-number

      by : (t : Bool) → nat_lt m n ≡ t → IsNumber inside (saturating_value false bits) (calculated bits) (m - n)
      by true e =
          let l : m < n = grind (arith, nat_tests, e) in
          let zero_is : 0 ≡ m - n = omega (arith, l) in
          subst (λ r. IsNumber inside (saturating_value false bits) (calculated bits) r) zero_is
          (met-number inside (two Lt a b) (num 0) (two Sub a b) Int Int (calculated bits) (two-typed inside less a b (calculated bits) (calculated bits) m n a-number b-number) refl difference-gives.type 0
          (subst (λ t. CondGives inside (two Lt a b) t) e test) (literal-number inside 0 (omega arith)))
      by false e =
          let l : n ≤ m = grind (arith, nat_tests, e) in
          let fits = width-limit bits m w m_few in
          unmet-number inside (two Lt a b) (num 0) (two Sub a b) Int Int (calculated bits) (two-typed inside less a b (calculated bits) (calculated bits) m n a-number b-number) refl difference-gives.type (m - n)
          (subst (λ t. CondGives inside (two Lt a b) t) e test)
          (calculated-number inside (two Sub a b) (calculated bits) (c_difference (calculated bits) m n) (m - n) difference-gives (c_difference-whole (calculated bits) m n fits l) (omega (arith, fits)))

  -- `(TEST ? MOST : (a + b))`, where the test tells whether the sum leaves the width, and is right where it doesn't
  sum-stops : (test : ExprTree) (t : Bool) → option_and_then as_number (type_of inside.scope test) ≡ Some Int → CondGives inside test t → nat_lt (2 ^ bits - 1) (m + n) ≡ t
      → (s : ℕ) → c_sum (calculated bits) m n ≡ Some s → (t ≡ false → s ≡ m + n)
      → IsNumber inside (choice test (num (2 ^ bits - 1)) sum) (calculated bits) (min (m + n) (2 ^ bits - 1))
  sum-stops test true typed g e s r same =
      let most : 2 ^ bits - 1 < 2 ^ bits = by_width (λ bits. 2 ^ bits - 1 < 2 ^ bits) bits w (omega arith) (omega arith) (omega arith) (omega arith) in
      let wide : 2 ^ bits - 1 < 2 ^ 64 = by_width (λ bits. 2 ^ bits - 1 < 2 ^ 64) bits w (omega arith) (omega arith) (omega arith) (omega arith) in
      let l : 2 ^ bits - 1 < m + n = grind (arith, nat_tests, e) in
      let stops : 2 ^ bits - 1 ≡ min (m + n) (2 ^ bits - 1) = omega (arith, l) in
      let ty : common (literal_type (literal (2 ^ bits - 1))) (calculated bits) ≡ calculated bits = by_width (λ bits. common (literal_type (literal (2 ^ bits - 1))) (calculated bits) ≡ calculated bits) bits w refl refl refl refl in
      let h = literal-number inside (2 ^ bits - 1) wide in
      subst (λ r. IsNumber inside (choice test (num (2 ^ bits - 1)) sum) (calculated bits) r) stops
      (subst (λ ty. IsNumber inside (choice test (num (2 ^ bits - 1)) sum) ty (2 ^ bits - 1)) ty
      (met-number inside test (num (2 ^ bits - 1)) sum Int (literal_type (literal (2 ^ bits - 1))) (calculated bits) typed h.gives.type sum-gives.type (2 ^ bits - 1) g h))
  sum-stops test false typed g e s r same =
      let wide : 2 ^ bits - 1 < 2 ^ 64 = by_width (λ bits. 2 ^ bits - 1 < 2 ^ 64) bits w (omega arith) (omega arith) (omega arith) (omega arith) in
      let l : m + n ≤ 2 ^ bits - 1 = grind (arith, nat_tests, e) in
      let small : m + n < 2 ^ bits = omega (arith, l, m_few) in
      let stays : m + n ≡ min (m + n) (2 ^ bits - 1) = omega (arith, l) in
      let ty : common (literal_type (literal (2 ^ bits - 1))) (calculated bits) ≡ calculated bits = by_width (λ bits. common (literal_type (literal (2 ^ bits - 1))) (calculated bits) ≡ calculated bits) bits w refl refl refl refl in
      let h = literal-number inside (2 ^ bits - 1) wide in
      subst (λ r. IsNumber inside (choice test (num (2 ^ bits - 1)) sum) (calculated bits) r) stays
      (subst (λ ty. IsNumber inside (choice test (num (2 ^ bits - 1)) sum) ty (m + n)) ty
      (unmet-number inside test (num (2 ^ bits - 1)) sum Int (literal_type (literal (2 ^ bits - 1))) (calculated bits) typed h.gives.type sum-gives.type (m + n) g
      (calculated-number inside sum (calculated bits) (c_sum (calculated bits) m n) (m + n) sum-gives (r ∙ ap Some (same refl)) (width-limit bits (m + n) w small))))

  -- Up to 16 bits the sum is compared with the greatest number of the width.
  narrow-sum : c_sum (calculated bits) m n ≡ Some (m + n) → m + n < c_limit (calculated bits)
      → IsNumber inside (choice (two Gt sum (num (2 ^ bits - 1))) (num (2 ^ bits - 1)) sum) (calculated bits) (min (m + n) (2 ^ bits - 1))
  narrow-sum r small =
      let wide : 2 ^ bits - 1 < 2 ^ 64 = by_width (λ bits. 2 ^ bits - 1 < 2 ^ 64) bits w (omega arith) (omega arith) (omega arith) (omega arith) in
      let s = calculated-number inside sum (calculated bits) (c_sum (calculated bits) m n) (m + n) sum-gives r small in
      let most = literal-number inside (2 ^ bits - 1) wide in
      sum-stops (two Gt sum (num (2 ^ bits - 1))) (nat_lt (2 ^ bits - 1) (m + n))
      (two-typed inside greater sum (num (2 ^ bits - 1)) (calculated bits) (literal_type (literal (2 ^ bits - 1))) (m + n) (2 ^ bits - 1) s most)
      (order-cond inside greater sum (num (2 ^ bits - 1)) (calculated bits) (literal_type (literal (2 ^ bits - 1))) (m + n) (2 ^ bits - 1) s most) refl (m + n) r (λ _. refl)

  -- From 32 bits on a sum that leaves the width is below its first operand.
  wide-sum : c_sum (calculated bits) m n ≡ Some ((m + n) % 2 ^ bits) → IsNumber inside (choice (two Lt sum a) (num (2 ^ bits - 1)) sum) (calculated bits) (min (m + n) (2 ^ bits - 1))
  wide-sum r =
      let below : (m + n) % 2 ^ bits < 2 ^ bits = by_width (λ bits. (m + n) % 2 ^ bits < 2 ^ bits) bits w (omega arith) (omega arith) (omega arith) (omega arith) in
      let s = calculated-number inside sum (calculated bits) (c_sum (calculated bits) m n) ((m + n) % 2 ^ bits) sum-gives r (width-limit bits ((m + n) % 2 ^ bits) w below) in
      let tells : nat_lt (2 ^ bits - 1) (m + n) ≡ nat_lt ((m + n) % 2 ^ bits) m = wraps bits m n w m_few n_few in
      sum-stops (two Lt sum a) (nat_lt ((m + n) % 2 ^ bits) m)
      (two-typed inside less sum a (calculated bits) (calculated bits) ((m + n) % 2 ^ bits) m s a-number)
      (order-cond inside less sum a (calculated bits) (calculated bits) ((m + n) % 2 ^ bits) m s a-number) tells ((m + n) % 2 ^ bits) r (stays-whole bits m n w m_few n_few)

  sum-number : IsNumber inside (saturating_value true bits) (calculated bits) (min (m + n) (2 ^ bits - 1))
  sum-number = by (nat_le bits 16) refl
    where
      limits : m < c_limit (calculated bits)
      limits = width-limit bits m w m_few

      by : (t : Bool) → nat_le bits 16 ≡ t → IsNumber inside (choice (if t then two Gt sum (num (2 ^ bits - 1)) else two Lt sum a) (num (2 ^ bits - 1)) sum) (calculated bits) (min (m + n) (2 ^ bits - 1))
      by true e =
          let small : m + n < c_limit (calculated bits) = by_width (λ bits. nat_le bits 16 ≡ true → m < 2 ^ bits → n < 2 ^ bits → m + n < c_limit (calculated bits)) bits w
          (λ _ p q. omega (arith, p, q)) (λ _ p q. omega (arith, p, q)) (λ f _ _. absurd (cc f)) (λ f _ _. absurd (cc f)) e m_few n_few in
          narrow-sum (c_sum-whole (calculated bits) m n limits (width-limit bits n w n_few) small) small
      by false e =
          wide-sum (rw (c_value-whole (calculated bits) m limits, c_value-whole (calculated bits) n (width-limit bits n w n_few))
          (by_width (λ bits. nat_le bits 16 ≡ false → c_result (calculated bits) (pos (m + n)) ≡ Some ((m + n) % 2 ^ bits)) bits w (λ f. absurd (cc f)) (λ f. absurd (cc f)) (λ _. refl) (λ _. refl) e))

  pub value-number : IsNumber inside (saturating_value is_sum bits) (calculated bits) (saturation is_sum bits m n)
  value-number = by is_sum
    where
      by : (sum_wanted : Bool) → IsNumber inside (saturating_value sum_wanted bits) (calculated bits) (saturation sum_wanted bits m n)
      by true = sum-number
      by false = difference-number

-- A call of the function.
helper-gives : (p : Program) (is_sum : Bool) (bits : ℕ) (callee : List ℕ → ExprMeaning) (memory : Memory) (ty uy : CTy) (m n : ℕ) → is_width bits ≡ true
    → IsIn ty (pos m) → IsIn uy (pos n) → m < 2 ^ bits → n < 2 ^ bits
    → expression_meaning p (helper is_sum bits) callee memory (numeric (number ty m) ∷ numeric (number uy n) ∷ []) ≡ Some (numeric (number (calculated bits) (saturation is_sum bits m n)))
helper-gives p is_sum bits callee memory ty uy m n w h g m_few n_few =
    let v = value-number p is_sum callee memory bits m n w m_few n_few in
    let small : saturation is_sum bits m n < 2 ^ bits = saturation-below is_sum bits m n w m_few in
    rw (
      is_stored bits ty m w h m_few,
      is_stored bits uy n w g n_few,
      v.gives.value,
      is_stored bits (calculated bits) (saturation is_sum bits m n) w (in-type (calculated bits) (saturation is_sum bits m n) v.small) small,
    ) (cell-value bits (saturation is_sum bits m n) w)
  where
    saturation-below : (is_sum : Bool) (bits m n : ℕ) → is_width bits ≡ true → m < 2 ^ bits → saturation is_sum bits m n < 2 ^ bits
    saturation-below true bits m n w h = by_width (λ bits. min (m + n) (2 ^ bits - 1) < 2 ^ bits) bits w (omega arith) (omega arith) (omega arith) (omega arith)
    saturation-below false bits m n w h = omega (arith, h)

-- The same in an expression.
call-gives : (p : Program) (is_sum : Bool) (bits : ℕ) (callee : List ℕ → ExprMeaning) (x : Surroundings) → is_width bits ≡ true
    → function_named x.scope.functions (saturating_name is_sum bits) ≡ Some (helper is_sum bits)
    → ((given : List CValue) → x.called (saturating_name is_sum bits) given ≡ expression_meaning p (helper is_sum bits) callee x.memory given)
    → (e f : ExprTree) (ty uy : CTy) (m n : ℕ) → m < 2 ^ bits → n < 2 ^ bits → IsTheNumber x e ty m → IsTheNumber x f uy n
    → GivesNumber x (saturated is_sum bits e f) (calculated bits) (saturation is_sum bits m n)
call-gives p is_sum bits callee x w named called e f ty uy m n m_few n_few h g =
    let s = has-type (type_of x.scope e) ty h.gives.type in
    let t = has-type (type_of x.scope f) uy g.gives.type in
    record {
      type = rw (named, s.is, t.is, takes-number bits s.type ty s.number, takes-number bits t.type uy t.number) (ap Some (promoted-width bits w));
      value = rw (h.gives.value, g.gives.value) (called (numeric (number ty m) ∷ numeric (number uy n) ∷ []) ∙ helper-gives p is_sum bits callee x.memory ty uy m n w h.fits g.fits m_few n_few);
    }
  where
    takes-number : (bits : ℕ) (t : ExprType) (ty : CTy) → as_number t ≡ Some ty → assignable (uint_of bits) t ≡ true
    takes-number bits (numbers k) ty h = refl
    takes-number bits zero_literal ty h = refl
    takes-number bits (points_to u) ty h = absurd (cc h)

pub helper_law : IsHelperLaw
helper_law = record { declared = λ is_sum bits. refl; gives = helper-gives; in_expressions = call-gives }
