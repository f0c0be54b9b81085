-- The types and the values of the C expressions that lowering builds of numbers: literals, casts and operators.
use Rattle.std.proofs.Common.{◌≡◌, ℕ, ◌%◌, ◌^◌, ◌<◌, ◌≤◌, Bool, true, false, List, [], ◌∷◌, ◌++◌, Option, Some, None, refl, sym, ap, ◌∙◌, subst, arith, pos}
use Rattle.std.specs.Prelude.{if◌then◌else◌, nat_eq, nat_le, nat_lt, option_map, option_and_then, bytes_eq, find, unwrap_or}
use Rattle.std.proofs.lemmas.Bool.Decides.{nat_tests}
use Rattle.std.proofs.lemmas.Slice.Eq.{bytes_eq-Decides}
use Rattle.std.proofs.lemmas.Int.{ints}
use Rattle.wf_num.specs.declared.c_arithmetic.CTy.{CTy}
use Rattle.wf_num.specs.declared.c_arithmetic.CTy.TheVariants.{Int, U32, U64}
use Rattle.wf_num.specs.CArithmetic.{IsIn, modulo}
use Rattle.wf_num.proofs.CLaws.{c_limit, c_value-whole}
use Rattle.wf_ast.specs.WellTyped.{is_width}
use Rattle.c_text.specs.declared.kinds.CNumber.TheVariants as literals
use Rattle.c_text.specs.declared.kinds.COp.{COp}
use Rattle.c_text.specs.declared.kinds.COp.TheVariants.{Add, Sub, Mul, Div, Rem, Shl, Shr, BitAnd, BitOr, BitXor, Lt, Le, Gt, Ge, Eq, Ne, Both, Either}
use Rattle.c_text.specs.declared.kinds.CUint.{CUint}
use Rattle.c_text.specs.CSpelling.{op_bytes}
use Rattle.c_text.specs.CTree.{uint, ExprTree, operation, cast, Operands, no_operand, operand}
use Rattle.c_text.specs.CTree as tree
use Rattle.c_meaning.specs.declared.values.Number.{Number}
use Rattle.c_meaning.specs.declared.values.CValue.{CValue}
use Rattle.c_meaning.specs.declared.values.CValue.TheVariants.{Numeric as numeric}
use Rattle.c_meaning.specs.CValues.{number, whole, common, of_type, arithmetic, class_of, arithmetics, operated_as}
use Rattle.c_meaning.specs.CMemory.{Memory}
use Rattle.c_meaning.specs.CTypes.{StructDecl, CScope, ExprType, numbers, points_to, zero_literal, promoted, value_type, as_number, cast_from, operation_type, operations_type, type_of, operand_types}
use Rattle.c_meaning.specs.CExprs.{Surroundings, as_type, combined, from_left, is_object_pointer, operand_values}
use Rattle.c_meaning.specs.CExprs as c
use Rattle.wf_exprs.specs.Words.{literal, num, width_of, uint_of, two}
use Rattle.wf_exprs.specs.Exprs.{calculated, rank, Rated, literal_type, suffixed, recast, firm, balanced, is_filled, taken, is_literal_zero, with_operand, same_op, chained}
use Rattle.wf_exprs_laws.specs.ExprLaw.{GivesNumber, IsTheNumber}
use Rattle.wf_exprs_laws.proofs.CNumbers.{by_width, width-limit, same-arithmetic, common-turned}

-- An expression is a number that its type represents.
pub record IsNumber (x : Surroundings) (e : ExprTree) (ty : CTy) (n : ℕ) : Type 0 where
  pub gives : GivesNumber x e ty n
  pub small : n < c_limit ty

-- The numbers that a type represents, by their limit.
pub in-type : (ty : CTy) (n : ℕ) → n < c_limit ty → IsIn ty (pos n)
in-type Int n h = (omega (arith, ints), omega (arith, ints, h))
in-type U32 n h = (omega (arith, ints), omega (arith, ints, h))
in-type U64 n h = (omega (arith, ints), omega (arith, ints, h))

pub below-limit : (ty : CTy) (n : ℕ) → IsIn ty (pos n) → n < c_limit ty
below-limit Int n h = omega (arith, ints, h.1)
below-limit U32 n h = omega (arith, ints, h.1)
below-limit U64 n h = omega (arith, ints, h.1)

pub the-number : (x : Surroundings) (e : ExprTree) (ty : CTy) (n : ℕ) → IsNumber x e ty n → IsTheNumber x e ty n
the-number x e ty n h = record { gives = h.gives; fits = in-type ty n h.small }

pub is-number : (x : Surroundings) (e : ExprTree) (ty : CTy) (n : ℕ) → IsTheNumber x e ty n → IsNumber x e ty n
is-number x e ty n h = record { gives = h.gives; small = below-limit ty n h.fits }

-- The type of a number.
pub record HasType (t : Option ExprType) (ty : CTy) : Type 0 where
  pub type : ExprType
  pub is : t ≡ Some type
  pub number : as_number type ≡ Some ty

pub has-type : (t : Option ExprType) (ty : CTy) → option_and_then as_number t ≡ Some ty → HasType t ty
has-type None ty h = absurd (cc h)
has-type (Some type) ty h = record { type = type; is = refl; number = h }

-- ---- literals

int-number : (x : Surroundings) (n : ℕ) → n < 2 ^ 31 → IsNumber x (tree.number (literals.Int n)) Int n
int-number x n h = record { gives = record { type = by (nat_eq n 0); value = refl }; small = h }
  where
    by : (test : Bool) → as_number (if test then zero_literal else numbers Int) ≡ Some Int
    by true = refl
    by false = refl

pub suffixed-number : (x : Surroundings) (ty : CTy) (n : ℕ) → n < c_limit ty → IsNumber x (tree.number (suffixed ty n)) ty n
suffixed-number x Int n h = let t : nat_lt n (2 ^ 31) ≡ true = grind (arith, nat_tests, h) in rw t (int-number x n h)
suffixed-number x U32 n h = record { gives = record { type = refl; value = refl }; small = h }
suffixed-number x U64 n h = record { gives = record { type = refl; value = refl }; small = h }

pub literal-number : (x : Surroundings) (n : ℕ) → n < 2 ^ 64 → IsNumber x (num n) (literal_type (literal n)) n
literal-number x n h = by (nat_lt n (2 ^ 31)) (nat_lt n (2 ^ 32)) refl refl
  where
    by : (a b : Bool) → nat_lt n (2 ^ 31) ≡ a → nat_lt n (2 ^ 32) ≡ b
        → IsNumber x (tree.number (if a then literals.Int n else if b then literals.Unsigned n else literals.Long n)) (literal_type (if a then literals.Int n else if b then literals.Unsigned n else literals.Long n)) n
    by true b p q = int-number x n (grind (arith, nat_tests, p))
    by false true p q = suffixed-number x U32 n (grind (arith, nat_tests, q))
    by false false p q = suffixed-number x U64 n h

-- The type of a literal is no wider than that of its width.
pub literal-rank : (bits n : ℕ) → is_width bits ≡ true → n < 2 ^ bits → rank (literal_type (literal n)) ≤ rank (calculated bits)
literal-rank bits n w h = by (nat_lt n (2 ^ 31)) (nat_lt n (2 ^ 32)) refl refl
  where
    by : (a b : Bool) → nat_lt n (2 ^ 31) ≡ a → nat_lt n (2 ^ 32) ≡ b → rank (literal_type (if a then literals.Int n else if b then literals.Unsigned n else literals.Long n)) ≤ rank (calculated bits)
    by true b p q = omega arith
    by false true p q =
        let m : 2 ^ 31 ≤ n = grind (arith, nat_tests, p) in
        by_width (λ bits. n < 2 ^ bits → 1 ≤ rank (calculated bits)) bits w (λ k. absurd (omega (arith, k, m))) (λ k. absurd (omega (arith, k, m))) (λ k. omega arith) (λ k. omega arith) h
    by false false p q =
        let m : 2 ^ 32 ≤ n = grind (arith, nat_tests, q) in
        by_width (λ bits. n < 2 ^ bits → 2 ≤ rank (calculated bits)) bits w (λ k. absurd (omega (arith, k, m))) (λ k. absurd (omega (arith, k, m))) (λ k. absurd (omega (arith, k, m))) (λ k. omega arith) h

-- ---- casts

pub promoted-width : (bits : ℕ) → is_width bits ≡ true → promoted (width_of bits) ≡ calculated bits
promoted-width bits w = by_width (λ bits. promoted (width_of bits) ≡ calculated bits) bits w refl refl refl refl

cast-type : (structs : List StructDecl) (u : CUint) (t : ExprType) (ty : CTy) → as_number t ≡ Some ty → cast_from structs (uint u) t ≡ Some (value_type (uint u))
cast-type structs u (numbers c) ty h = refl
cast-type structs u (points_to p) ty h = absurd (cc h)
cast-type structs u zero_literal ty h = refl

pub cast-typed : (bits : ℕ) → is_width bits ≡ true → (scope : CScope) (e : ExprTree) (ty : CTy) → option_and_then as_number (type_of scope e) ≡ Some ty
    → option_and_then as_number (type_of scope (cast (uint_of bits) e)) ≡ Some (calculated bits)
cast-typed bits w scope e ty h =
    let t = has-type (type_of scope e) ty h in
    rw (t.is, cast-type scope.structs (width_of bits) t.type ty t.number) (ap Some (promoted-width bits w))

pub cast-value : (bits : ℕ) → is_width bits ≡ true → (x : Surroundings) (e : ExprTree) (k : Number) → c.value x e ≡ Some (numeric k)
    → c.value x (cast (uint_of bits) e) ≡ Some (numeric (number (calculated bits) (modulo (whole k) (2 ^ bits))))
cast-value bits w x e k h =
    rw h (by_width (λ bits. as_type (uint_of bits) (numeric k) ≡ Some (numeric (number (calculated bits) (modulo (whole k) (2 ^ bits))))) bits w refl refl refl refl)

pub small-mod : (bits n : ℕ) → is_width bits ≡ true → n < 2 ^ bits → n % 2 ^ bits ≡ n
small-mod bits n w h = by_width (λ bits. n < 2 ^ bits → n % 2 ^ bits ≡ n) bits w (λ k. omega (arith, k)) (λ k. omega (arith, k)) (λ k. omega (arith, k)) (λ k. omega (arith, k)) h

-- A cast keeps a number that the width holds.
pub cast-number : (bits : ℕ) → is_width bits ≡ true → (x : Surroundings) (e : ExprTree) (ty : CTy) (n : ℕ) → IsNumber x e ty n → n < 2 ^ bits
    → IsNumber x (cast (uint_of bits) e) (calculated bits) n
cast-number bits w x e ty n h k =
    let same : modulo (whole (number ty n)) (2 ^ bits) ≡ n = rw (c_value-whole ty n h.small) (small-mod bits n w k) in
    record {
      gives = record {
        type = cast-typed bits w x.scope e ty h.gives.type;
        value = cast-value bits w x e (number ty n) h.gives.value ∙ ap (λ n. Some (numeric (number (calculated bits) n))) same;
      };
      small = width-limit bits n w k;
    }

-- And so does what C converts to it.
pub taken-number : (bits : ℕ) → is_width bits ≡ true → (x : Surroundings) (e : ExprTree) (ty : CTy) (n : ℕ) → IsNumber x e ty n → n < 2 ^ bits
    → (own : CTy) × IsNumber x (taken bits e) own n
taken-number bits w x e ty n h k = by (is_filled e) (nat_le bits 16)
  where
    by : (filled short : Bool) → (own : CTy) × IsNumber x (if filled then (if short then cast (uint_of bits) e else e) else e) own n
    by true true = (calculated bits, cast-number bits w x e ty n h k)
    by true false = (ty, h)
    by false short = (ty, h)

abbrev bits_in : Option CValue → ℕ
bits_in (Some (numeric k)) = k.bits
bits_in v = 0

same-bits : (a b : Number) → Some (numeric a) ≡ Some (numeric b) → a.bits ≡ b.bits
same-bits a b h = ap bits_in h

pub recast-number : (bits : ℕ) → is_width bits ≡ true → (x : Surroundings) (e : ExprTree) (ty : CTy) (n : ℕ) → IsNumber x e ty n → n < 2 ^ bits
    → IsNumber x (recast bits e) (calculated bits) n
recast-number bits w x (tree.number (literals.Int k)) ty n h s =
    subst (λ k. IsNumber x (tree.number (suffixed (calculated bits) k)) (calculated bits) n) (sym (same-bits (number Int k) (number ty n) h.gives.value)) (suffixed-number x (calculated bits) n (width-limit bits n w s))
recast-number bits w x (tree.number (literals.Unsigned k)) ty n h s =
    subst (λ k. IsNumber x (tree.number (suffixed (calculated bits) k)) (calculated bits) n) (sym (same-bits (number U32 k) (number ty n) h.gives.value)) (suffixed-number x (calculated bits) n (width-limit bits n w s))
recast-number bits w x e ty n h s = cast-number bits w x e ty n h s

-- A literal 0 is 0.
pub zero-number : (x : Surroundings) (e : ExprTree) (ty : CTy) (n : ℕ) → is_literal_zero e ≡ true → IsNumber x e ty n → n ≡ 0
zero-number x (tree.number (literals.Int k)) ty n z h =
    let zero : k ≡ 0 = grind (arith, nat_tests, z) in
    sym (same-bits (number Int k) (number ty n) h.gives.value) ∙ zero
zero-number x e ty n z h = absurd (cc z)

-- ---- the type in which two operands are calculated with

rank-same : (a b : CTy) → nat_eq (rank a) (rank b) ≡ true → a ≡ b
rank-same Int Int h = refl
rank-same U32 U32 h = refl
rank-same U64 U64 h = refl
rank-same a b h = absurd (cc h)

pub common-wider : (a b : CTy) → rank a ≤ rank b → common a b ≡ b
common-wider Int b h = refl
common-wider U32 Int h = absurd (omega (arith, h))
common-wider U32 U32 h = refl
common-wider U32 U64 h = refl
common-wider U64 Int h = absurd (omega (arith, h))
common-wider U64 U32 h = absurd (omega (arith, h))
common-wider U64 U64 h = refl

pub firm-number : (bits : ℕ) → is_width bits ≡ true → (x : Surroundings) (a : Rated) (n : ℕ) → IsNumber x a.code a.ty n → n < 2 ^ bits
    → IsNumber x (firm bits a) (calculated bits) n
firm-number bits w x a n h s = by (nat_eq (rank a.ty) (rank (calculated bits))) refl
  where
    by : (test : Bool) → nat_eq (rank a.ty) (rank (calculated bits)) ≡ test → IsNumber x (if test then a.code else recast bits a.code) (calculated bits) n
    by true e = subst (λ ty. IsNumber x a.code ty n) (rank-same a.ty (calculated bits) e) h
    by false e = recast-number bits w x a.code a.ty n h s

-- The left operand of two has a type with which C calculates in that of the width.
pub record IsBalanced (bits : ℕ) (x : Surroundings) (e : ExprTree) (right : CTy) (n : ℕ) : Type 0 where
  pub ty : CTy
  pub is : IsNumber x e ty n
  pub together : common ty right ≡ calculated bits

pub balanced-number : (bits : ℕ) → is_width bits ≡ true → (x : Surroundings) (a b : Rated) (n : ℕ) → IsNumber x a.code a.ty n → n < 2 ^ bits
    → rank a.ty ≤ rank (calculated bits) → rank b.ty ≤ rank (calculated bits) → IsBalanced bits x (balanced bits a b) b.ty n
balanced-number bits w x a b n h s p q = by (nat_eq (rank b.ty) (rank (calculated bits))) refl
  where
    by : (test : Bool) → nat_eq (rank b.ty) (rank (calculated bits)) ≡ test → IsBalanced bits x (if test then a.code else firm bits a) b.ty n
    by true e =
        let same = rank-same b.ty (calculated bits) e in
        record { ty = a.ty; is = h; together = rw same (common-wider a.ty (calculated bits) p) }
    by false e = record { ty = calculated bits; is = firm-number bits w x a n h s; together = common-turned (calculated bits) b.ty ∙ common-wider b.ty (calculated bits) q }

-- ---- chains

operand_values-more : (x : Surroundings) (os : Operands) (e : ExprTree) → operand_values x (with_operand os e) ≡ operand_values x os ++ c.value x e ∷ []
operand_values-more x no_operand e = refl
operand_values-more x (operand f os) e = ap (λ vs. c.value x f ∷ vs) (operand_values-more x os e)

from_left-more : (memory : Memory) (o : Bool) (op : COp) (first : Option CValue) (vs : List (Option CValue)) (w : Option CValue)
    → from_left memory o op first (vs ++ w ∷ []) ≡ combined memory o op (from_left memory o op first vs) w
from_left-more memory o op first [] w = refl
from_left-more memory o op first (v ∷ vs) w = from_left-more memory o op (combined memory o op first v) vs w

operand_types-more : (scope : CScope) (os : Operands) (e : ExprTree) → operand_types scope (with_operand os e) ≡ operand_types scope os ++ type_of scope e ∷ []
operand_types-more scope no_operand e = refl
operand_types-more scope (operand f os) e = ap (λ ts. type_of scope f ∷ ts) (operand_types-more scope os e)

abbrev joint_type : COp → (first second : Option ExprType) → Option ExprType
joint_type op first second = option_and_then (λ a. option_and_then (operation_type op a) second) first

operations_type-more : (op : COp) (first : Option ExprType) (ts : List (Option ExprType)) (t : Option ExprType)
    → operations_type op first (ts ++ t ∷ []) ≡ joint_type op (operations_type op first ts) t
operations_type-more op first [] t = refl
operations_type-more op first (s ∷ ts) t = operations_type-more op (joint_type op first s) ts t

-- Operators are spelt apart.
abbrev all_ops : List COp
all_ops = Add ∷ Sub ∷ Mul ∷ Div ∷ Rem ∷ Shl ∷ Shr ∷ BitAnd ∷ BitOr ∷ BitXor ∷ Lt ∷ Le ∷ Gt ∷ Ge ∷ Eq ∷ Ne ∷ Both ∷ Either ∷ []

abbrev spelt : List ℕ → COp
spelt bytes = unwrap_or (find (λ op. bytes_eq (op_bytes op) bytes) all_ops) Add

spelt-op : (op : COp) → spelt (op_bytes op) ≡ op
spelt-op Add = refl
spelt-op Sub = refl
spelt-op Mul = refl
spelt-op Div = refl
spelt-op Rem = refl
spelt-op Shl = refl
spelt-op Shr = refl
spelt-op BitAnd = refl
spelt-op BitOr = refl
spelt-op BitXor = refl
spelt-op Lt = refl
spelt-op Le = refl
spelt-op Gt = refl
spelt-op Ge = refl
spelt-op Eq = refl
spelt-op Ne = refl
spelt-op Both = refl
spelt-op Either = refl

same-op : (a b : COp) → same_op a b ≡ true → a ≡ b
same-op a b h = sym (spelt-op a) ∙ (ap spelt ((bytes_eq-Decides (op_bytes a) (op_bytes b)).0 h) ∙ spelt-op b)

-- A chain that goes on has the value, and the type, of its operator with two operands.
pub chained-value : (x : Surroundings) (joined : Bool) (op : COp) (a e : ExprTree)
    → (o : Bool) × (c.value x (chained joined op a e) ≡ combined x.memory o op (c.value x a) (c.value x e))
chained-value x false op a e = (is_object_pointer (type_of x.scope a), refl)
chained-value x true op (operation other f s os) e = by (same_op op other) refl
  where
    by : (test : Bool) → same_op op other ≡ test
        → (o : Bool) × (c.value x (if test then operation other f s (with_operand os e) else two op (operation other f s os) e) ≡ combined x.memory o op (c.value x (operation other f s os)) (c.value x e))
    by true h =
        let o : Bool = is_object_pointer (type_of x.scope f) in
        (o, rw (operand_values-more x os e, same-op op other h) (from_left-more x.memory o other (c.value x f) (c.value x s ∷ operand_values x os) (c.value x e)))
    by false h = (is_object_pointer (type_of x.scope (operation other f s os)), refl)
chained-value x true op a e = (is_object_pointer (type_of x.scope a), refl)

pub chained-type : (scope : CScope) (joined : Bool) (op : COp) (a e : ExprTree)
    → type_of scope (chained joined op a e) ≡ joint_type op (type_of scope a) (type_of scope e)
chained-type scope false op a e = refl
chained-type scope true op (operation other f s os) e = by (same_op op other) refl
  where
    by : (test : Bool) → same_op op other ≡ test
        → type_of scope (if test then operation other f s (with_operand os e) else two op (operation other f s os) e) ≡ joint_type op (type_of scope (operation other f s os)) (type_of scope e)
    by true h = rw (operand_types-more scope os e, same-op op other h) (operations_type-more other (type_of scope f) (type_of scope s ∷ operand_types scope os) (type_of scope e))
    by false h = refl
chained-type scope true op a e = refl

-- ---- operators with two numbers

operation-type : (op : COp) → class_of op ≡ arithmetics → (a b : ExprType) (ta tb : CTy) → as_number a ≡ Some ta → as_number b ≡ Some tb
    → operation_type op a b ≡ Some (numbers (common ta tb))
operation-type Shl h a b ta tb p q = absurd (cc h)
operation-type Shr h a b ta tb p q = absurd (cc h)
operation-type Lt h a b ta tb p q = absurd (cc h)
operation-type Le h a b ta tb p q = absurd (cc h)
operation-type Gt h a b ta tb p q = absurd (cc h)
operation-type Ge h a b ta tb p q = absurd (cc h)
operation-type Eq h a b ta tb p q = absurd (cc h)
operation-type Ne h a b ta tb p q = absurd (cc h)
operation-type Both h a b ta tb p q = absurd (cc h)
operation-type Either h a b ta tb p q = absurd (cc h)
operation-type Add h (points_to t) b ta tb p q = absurd (cc p)
operation-type Add h (numbers s) b ta tb p q = rw (p, q) refl
operation-type Add h zero_literal b ta tb p q = rw (p, q) refl
operation-type op h a b ta tb p q = rw (p, q) refl

pub joint-number : (op : COp) → class_of op ≡ arithmetics → (s t : Option ExprType) (ta tb : CTy) → option_and_then as_number s ≡ Some ta → option_and_then as_number t ≡ Some tb
    → option_and_then as_number (joint_type op s t) ≡ Some (common ta tb)
joint-number op h s t ta tb p q =
    let a = has-type s ta p in
    let b = has-type t tb q in
    rw (a.is, b.is, operation-type op h a.type b.type ta tb a.number b.number) refl

combined-numbers : (memory : Memory) (o : Bool) (op : COp) → class_of op ≡ arithmetics → (a b : Number)
    → combined memory o op (Some (numeric a)) (Some (numeric b)) ≡ option_map numeric (operated_as arithmetics op a b)
combined-numbers memory o Shl h a b = absurd (cc h)
combined-numbers memory o Shr h a b = absurd (cc h)
combined-numbers memory o Lt h a b = absurd (cc h)
combined-numbers memory o Le h a b = absurd (cc h)
combined-numbers memory o Gt h a b = absurd (cc h)
combined-numbers memory o Ge h a b = absurd (cc h)
combined-numbers memory o Eq h a b = absurd (cc h)
combined-numbers memory o Ne h a b = absurd (cc h)
combined-numbers memory o Both h a b = absurd (cc h)
combined-numbers memory o Either h a b = absurd (cc h)
combined-numbers memory o op h a b = refl

-- An operator of arithmetic, as one more of a chain or by itself, calculates in the type of both.
pub record Calculates (x : Surroundings) (e : ExprTree) (ty : CTy) (result : Option ℕ) : Type 0 where
  pub type : option_and_then as_number (type_of x.scope e) ≡ Some ty
  pub value : c.value x e ≡ option_map numeric (of_type ty result)

pub chained-number : (x : Surroundings) (joined : Bool) (op : COp) → class_of op ≡ arithmetics → (a e : ExprTree) (ta te : CTy) (m n : ℕ)
    → IsNumber x a ta m → IsNumber x e te n → Calculates x (chained joined op a e) (common ta te) (arithmetic op (common ta te) m n)
chained-number x joined op k a e ta te m n h g =
    let v = chained-value x joined op a e in
    record {
      type = rw (chained-type x.scope joined op a e) (joint-number op k (type_of x.scope a) (type_of x.scope e) ta te h.gives.type g.gives.type);
      value = v.1 ∙ rw (h.gives.value, g.gives.value) (combined-numbers x.memory v.0 op k (number ta m) (number te n) ∙ ap (option_map numeric) (same-arithmetic op ta te m n h.small g.small));
    }

-- What is calculated is a number where it has a result that the type represents.
pub calculated-number : (x : Surroundings) (e : ExprTree) (ty : CTy) (result : Option ℕ) (n : ℕ) → Calculates x e ty result → result ≡ Some n → n < c_limit ty → IsNumber x e ty n
calculated-number x e ty result n h r s = record { gives = record { type = h.type; value = h.value ∙ ap (λ r. option_map numeric (of_type ty r)) r }; small = s }
