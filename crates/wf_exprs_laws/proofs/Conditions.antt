-- The law for statuses and conditions.
use Rattle.std.proofs.Common.{◌≡◌, ℕ, zero, suc, ◌^◌, ◌<◌, Bool, true, false, not, ◌&&◌, ◌||◌, List, [], ◌∷◌, Option, Some, None, refl, sym, ap, ◌∙◌, subst, arith, pos, ◌⊎◌, inl, inr}
use Rattle.std.specs.Prelude.{if◌then◌else◌, nat_eq, nat_le, nat_lt, is_some, slice_get, option_map, option_and_then}
use Rattle.std.proofs.lemmas.Bool.{and_parts}
use Rattle.std.proofs.lemmas.Bool.Decides.{nat_tests}
use Rattle.wf_text.specs.declared.categories.Category.{Category}
use Rattle.wf_text.specs.declared.categories.Category.TheVariants.{Fine, Note, Suspension, Fault}
use Rattle.wf_text.specs.StatusText.{category_of, category_by}
use Rattle.wf_num.specs.declared.c_arithmetic.CTy.{CTy}
use Rattle.wf_num.specs.declared.c_arithmetic.CTy.TheVariants.{Int}
use Rattle.wf_num.proofs.CLaws.{c_limit}
use Rattle.wf_ast.specs.declared.types.Ty.TheVariants as types
use Rattle.wf_ast.specs.TypedTree.{local, field, arg, Order, less, at_most, equal, differs, at_least, greater, NumTree, StatusTree, status, held, no_status, CondTree, truth, flag, compare, same_status, junction, negation, closed, has_category}
use Rattle.wf_ast.specs.TypedPackage.{MethodTree, PackageTree}
use Rattle.wf_ast.specs.Same.{same_state}
use Rattle.wf_ast.proofs.SameValue.{path_same}
use Rattle.wf_ast.specs.Value.{State, value, io_buffer, compares, same_truth, same_category, status_value, truth_of}
use Rattle.wf_ast.specs.WellTyped.{variable_at, is_whole_number, width_of, fit_together, well_num, well_status, well_cond}
use Rattle.c_text.specs.declared.kinds.COp.{COp}
use Rattle.c_text.specs.declared.kinds.COp.TheVariants.{Eq, Ne, Both, Either}
use Rattle.c_text.specs.declared.kinds.CUnary.TheVariants.{Not}
use Rattle.c_text.specs.CTree.{uint, size, boolean, uint_pointer, struct_pointer, text, ExprTree, variable, unary}
use Rattle.c_text.specs.CTree as tree
use Rattle.c_meaning.specs.declared.cells.Cell.TheVariants.{Num as num_cell}
use Rattle.c_meaning.specs.declared.cells.CellType.TheVariants.{Flag as flag_cell}
use Rattle.c_meaning.specs.declared.values.Number.{Number}
use Rattle.c_meaning.specs.declared.values.Pointer.{Pointer}
use Rattle.c_meaning.specs.declared.values.CValue.{CValue}
use Rattle.c_meaning.specs.declared.values.CValue.TheVariants.{Numeric as numeric, Address as address, NullPointer as null_pointer}
use Rattle.c_meaning.specs.CValues.{number, holds, negated, same_pointer}
use Rattle.c_meaning.specs.CValues as values
use Rattle.c_meaning.specs.CMemory.{Memory, cell_of, loaded, offset}
use Rattle.c_meaning.specs.CTypes.{cell, object, byte, ExprType, numbers, points_to, zero_literal, Held, one, fixed, many, inner, character, characters, held_type, assignable, type_of}
use Rattle.c_meaning.specs.CExprs.{Surroundings, held_value, combined, truth_value, and_also, or_else}
use Rattle.c_meaning.specs.CExprs as c
use Rattle.wf_exprs.specs.Names.{names_of, status_name}
use Rattle.wf_exprs.specs.Words.{literal, num, two}
use Rattle.wf_exprs.specs.Exprs.{literal_type, path_code, is_held, is_literal, is_constant, constant_number, constants_compared, held_compared, order_op, Rated, compared, left_compared, right_compared, is_literal_zero, known_if, settled, settled_or, numbers_compared, chained, decides, begun, joint_of, comparand, status_constant, lowered_status, variables_compared, statuses_compared, begins_with, category_code, lowered_cond}
use Rattle.wf_exprs_laws.specs.ExprLaw.{Declares, HasConstant, DeclaresStatus, DeclaresCond, IsNull, IsStatusValue, GivesNumber, GivesStatus, cell_behind, Stands}
use Rattle.wf_exprs_laws.proofs.CNumbers.{comparison-whole}
use Rattle.wf_exprs_laws.proofs.Operands.{IsNumber, literal-number, zero-number, chained-value}
use Rattle.wf_exprs_laws.proofs.Buffers.{buffer-some, reader-type}
use Rattle.wf_exprs_laws.proofs.Trees.{came, mapped, comparand-number, left_compared-number, right_compared-number}

-- An expression of C holds or doesn't, as a truth value says, and is 1 or 0 in a flag's cell.
pub record CondGives (x : Surroundings) (e : ExprTree) (b : Bool) : Type 0 where
  pub at : CValue
  pub value : c.value x e ≡ Some at
  pub is : holds at ≡ b
  pub stored : cell_of flag_cell at ≡ Some (num_cell (if b then 1 else 0))

-- Every number is stored so.
stored-number : (n : Number) (b : Bool) → holds (numeric n) ≡ b → cell_of flag_cell (numeric n) ≡ Some (num_cell (if b then 1 else 0))
stored-number n b h = ap (λ b. Some (num_cell (if b then 1 else 0))) h

holds-truth : (b : Bool) → holds (numeric (values.truth b)) ≡ b
holds-truth true = refl
holds-truth false = refl

truth-cond : (x : Surroundings) (e : ExprTree) (t b : Bool) → c.value x e ≡ Some (numeric (values.truth t)) → t ≡ b → CondGives x e b
truth-cond x e t b h same = record { at = numeric (values.truth t); value = h; is = holds-truth t ∙ same; stored = stored-number (values.truth t) b (holds-truth t ∙ same) }

not-cond : (x : Surroundings) (e : ExprTree) (b : Bool) → CondGives x e b → CondGives x (unary Not e) (not b)
not-cond x e b g = record {
  at = numeric (negated g.at);
  value = ap (option_map (λ v. numeric (negated v))) g.value;
  is = holds-truth (not (holds g.at)) ∙ ap not g.is;
  stored = stored-number (negated g.at) (not b) (holds-truth (not (holds g.at)) ∙ ap not g.is);
}

not-not : (b : Bool) → not (not b) ≡ b
not-not true = refl
not-not false = refl

-- ---- comparisons of numbers

order-combined : (memory : Memory) (o : Bool) (op : Order) (a b : CTy) (m n : ℕ) → m < c_limit a → n < c_limit b
    → combined memory o (order_op op) (Some (numeric (number a m))) (Some (numeric (number b n))) ≡ Some (numeric (values.truth (compares op m n)))
order-combined memory o less a b m n p q = ap (option_map numeric) (comparison-whole less a b m n p q)
order-combined memory o at_most a b m n p q = ap (option_map numeric) (comparison-whole at_most a b m n p q)
order-combined memory o equal a b m n p q = ap (option_map numeric) (comparison-whole equal a b m n p q)
order-combined memory o differs a b m n p q = ap (option_map numeric) (comparison-whole differs a b m n p q)
order-combined memory o at_least a b m n p q = ap (option_map numeric) (comparison-whole at_least a b m n p q)
order-combined memory o greater a b m n p q = ap (option_map numeric) (comparison-whole greater a b m n p q)

pub order-cond : (x : Surroundings) (op : Order) (e f : ExprTree) (a b : CTy) (m n : ℕ) → IsNumber x e a m → IsNumber x f b n → CondGives x (two (order_op op) e f) (compares op m n)
order-cond x op e f a b m n h g =
    let v = chained-value x false (order_op op) e f in
    truth-cond x (two (order_op op) e f) (compares op m n) (compares op m n)
    (v.1 ∙ rw (h.gives.value, g.gives.value) (order-combined x.memory v.0 op a b m n h.small g.small)) refl

-- However `==` is written, it compares.
same-cond : (x : Surroundings) (e f : ExprTree) (t : Bool) → CondGives x (two Eq e f) t → CondGives x (two Eq f e) t → CondGives x (two Ne e f) (not t) → (first second stays : Bool)
    → CondGives x (if first then two Eq e f else (if second then two Eq f e else (if stays then unary Not (two Ne e f) else two Eq e f))) t
same-cond x e f t straight turned apart true second stays = straight
same-cond x e f t straight turned apart false true stays = turned
same-cond x e f t straight turned apart false false true = subst (λ t. CondGives x (unary Not (two Ne e f)) t) (not-not t) (not-cond x (two Ne e f) (not t) apart)
same-cond x e f t straight turned apart false false false = straight

turned-same : (m n : ℕ) → nat_eq n m ≡ nat_eq m n
turned-same m n = grind (arith, nat_tests)

compared-cond : (x : Surroundings) (op : Order) (e f : ExprTree) (a b : CTy) (m n : ℕ) → IsNumber x e a m → IsNumber x f b n → CondGives x (compared op e f) (compares op m n)
compared-cond x less e f a b m n h g = order-cond x less e f a b m n h g
compared-cond x at_most e f a b m n h g = order-cond x at_most e f a b m n h g
compared-cond x equal e f a b m n h g =
    same-cond x e f (nat_eq m n) (order-cond x equal e f a b m n h g) (subst (λ t. CondGives x (two Eq f e) t) (turned-same m n) (order-cond x equal f e b a n m g h)) (order-cond x differs e f a b m n h g)
    (is_literal e) (is_literal f) (is_held e)
compared-cond x differs e f a b m n h g = order-cond x differs e f a b m n h g
compared-cond x at_least e f a b m n h g = order-cond x at_least e f a b m n h g
compared-cond x greater e f a b m n h g = order-cond x greater e f a b m n h g

-- No number is below 0.
known-some : (is met t : Bool) → known_if is met ≡ Some t → (is ≡ true) × (met ≡ t)
known-some true met t h = (refl, cc h)
known-some false met t h = absurd (cc h)

settled-value : (x : Surroundings) (op : Order) (e f : ExprTree) (a b : CTy) (m n : ℕ) → IsNumber x e a m → IsNumber x f b n → (t : Bool) → settled op e f ≡ Some t → compares op m n ≡ t
settled-value x less e f a b m n h g t k =
    let q = known-some (is_literal_zero f) false t k in
    let z : n ≡ 0 = zero-number x f b n q.0 g in
    let never : nat_lt m n ≡ false = grind (arith, nat_tests, z) in
    never ∙ q.1
settled-value x at_most e f a b m n h g t k =
    let q = known-some (is_literal_zero e) true t k in
    let z : m ≡ 0 = zero-number x e a m q.0 h in
    let always : nat_le m n ≡ true = grind (arith, nat_tests, z) in
    always ∙ q.1
settled-value x at_least e f a b m n h g t k =
    let q = known-some (is_literal_zero f) true t k in
    let z : n ≡ 0 = zero-number x f b n q.0 g in
    let always : nat_le n m ≡ true = grind (arith, nat_tests, z) in
    always ∙ q.1
settled-value x greater e f a b m n h g t k =
    let q = known-some (is_literal_zero e) false t k in
    let z : m ≡ 0 = zero-number x e a m q.0 h in
    let never : nat_lt n m ≡ false = grind (arith, nat_tests, z) in
    never ∙ q.1
settled-value x equal e f a b m n h g t k = absurd (cc k)
settled-value x differs e f a b m n h g t k = absurd (cc k)

number-cond : (x : Surroundings) (b : Bool) → CondGives x (num (if b then 1 else 0)) b
number-cond x true = record { at = numeric (number Int 1); value = refl; is = refl; stored = refl }
number-cond x false = record { at = numeric (number Int 0); value = refl; is = refl; stored = refl }

settled-cond : (x : Surroundings) (o : Option Bool) (e : ExprTree) (t : Bool) → ((met : Bool) → o ≡ Some met → t ≡ met) → CondGives x e t → CondGives x (settled_or o e) t
settled-cond x (Some met) e t h g = subst (λ b. CondGives x (num (if met then 1 else 0)) b) (sym (h met refl)) (number-cond x met)
settled-cond x None e t h g = g

numbers-cond : (x : Surroundings) (op : Order) (a b : Rated) (m n : ℕ) → IsNumber x a.code a.ty m → IsNumber x b.code b.ty n → CondGives x (numbers_compared op a b) (compares op m n)
numbers-cond x op a b m n h g =
    settled-cond x (settled op a.code b.code) (compared op (left_compared a b).code (right_compared b a).code) (compares op m n) (settled-value x op a.code b.code a.ty b.ty m n h g)
    (compared-cond x op (left_compared a b).code (right_compared b a).code (left_compared a b).ty (right_compared b a).ty m n (left_compared-number x a b m h) (right_compared-number x b a n g))

-- ---- `and` and `or`

and-value : (a : Bool) (w : CValue) → truth_value (and_also a (Some w)) ≡ Some (numeric (values.truth (a && holds w)))
and-value true w = refl
and-value false w = refl

or-value : (a : Bool) (w : CValue) → truth_value (or_else a (Some w)) ≡ Some (numeric (values.truth (a || holds w)))
or-value true w = refl
or-value false w = refl

junction-cond : (x : Surroundings) (both joined : Bool) (e f : ExprTree) (p q : Bool) → CondGives x e p → CondGives x f q
    → CondGives x (chained joined (if both then Both else Either) e f) (if both then p && q else p || q)
junction-cond x true joined e f p q g h =
    let v = chained-value x joined Both e f in
    truth-cond x (chained joined Both e f) (holds g.at && holds h.at) (p && q) (v.1 ∙ rw (g.value, h.value) (and-value (holds g.at) h.at)) (rw (g.is, h.is) refl)
junction-cond x false joined e f p q g h =
    let v = chained-value x joined Either e f in
    truth-cond x (chained joined Either e f) (holds g.at || holds h.at) (p || q) (v.1 ∙ rw (g.value, h.value) (or-value (holds g.at) h.at)) (rw (g.is, h.is) refl)

-- The first operand is itself, or is negated twice.
begun-cond : (x : Surroundings) (joined : Bool) (joint : COp) (e f : ExprTree) (p : Bool) → CondGives x e p → CondGives x (begun joined joint e f) p
begun-cond x true joint e f p g = g
begun-cond x false joint e f p g = by (decides joint e f)
  where
    by : (test : Bool) → CondGives x (if test then unary Not (unary Not e) else e) p
    by true = subst (λ p. CondGives x (unary Not (unary Not e)) p) (not-not p) (not-cond x (unary Not e) (not p) (not-cond x e p g))
    by false = g

-- ---- comparisons of statuses

-- What `==` and `!=` of two values give.
abbrev Compares : Surroundings → (o : Bool) → CValue → CValue → (same : Bool) → Type 0
Compares x o v w t =
    (combined x.memory o Eq (Some v) (Some w) ≡ Some (numeric (values.truth t))) × (combined x.memory o Ne (Some v) (Some w) ≡ Some (numeric (values.truth (not t))))

null-null : (x : Surroundings) (o : Bool) (v w : CValue) → IsNull v → IsNull w → Compares x o v w true
null-null x o (numeric a) (numeric b) h g = (rw (h, g) refl, rw (h, g) refl)
null-null x o (numeric a) null_pointer h g = (refl, refl)
null-null x o null_pointer (numeric b) h g = (refl, refl)
null-null x o null_pointer null_pointer h g = (refl, refl)
null-null x o (address p) w h g = absurd h
null-null x o v (address q) h g = absurd g

null-address : (x : Surroundings) (o : Bool) (v : CValue) (q : Pointer) → IsNull v → Compares x o v (address q) false
null-address x o (numeric a) q h = (refl, refl)
null-address x o null_pointer q h = (refl, refl)
null-address x o (address p) q h = absurd h

address-null : (x : Surroundings) (o : Bool) (p : Pointer) (w : CValue) → IsNull w → Compares x o (address p) w false
address-null x o p (numeric b) h = (refl, refl)
address-null x o p null_pointer h = (refl, refl)
address-null x o p (address q) h = absurd h

address-address : (x : Surroundings) (o : Bool) (p q : Pointer) (t : Bool) → same_pointer p q ≡ t → Compares x o (address p) (address q) t
address-address x o p q t h = (ap (λ t. Some (numeric (values.truth t))) h, ap (λ t. Some (numeric (values.truth (not t)))) h)

same-itself : (p : Pointer) → same_pointer p p ≡ true
same-itself p = grind (arith, nat_tests)

abbrev point : (object field index : ℕ) → Pointer
point o f i = record { object = o; field = f; index = i }

pointers-same : (p q : Pointer) → same_pointer p q ≡ true → p ≡ q
pointers-same p q h =
    let a = and_parts (nat_eq p.object q.object) _ h in
    let b = and_parts (nat_eq p.field q.field) _ a.1 in
    let e : p.object ≡ q.object = grind (arith, nat_tests, a.0) in
    let f : p.field ≡ q.field = grind (arith, nat_tests, b.0) in
    let g : p.index ≡ q.index = grind (arith, nat_tests, b.1) in
    ap (λ k. point k p.field p.index) e ∙ (ap (λ k. point q.object k p.index) f ∙ ap (λ k. point q.object q.field k) g)

-- ---- categories

-- A status has the category where its text begins with the byte.
record IsMark (category : Category) (mark : ℕ) : Type 0 where
  pub code : (e : ExprTree) → category_code category e ≡ begins_with mark e
  pub few : mark < 2 ^ 8
  pub not_fine : same_category category Fine ≡ false
  pub by : (b : ℕ) → same_category category (category_by b) ≡ nat_eq mark b

note-by : (b : ℕ) → same_category Note (category_by b) ≡ nat_eq 64 b
note-by b = by (nat_eq b 64) (nat_eq b 36) (nat_eq b 35) refl
  where
    by : (t u v : Bool) → nat_eq b 64 ≡ t → same_category Note (if t then Note else if u then Suspension else if v then Fault else Fine) ≡ nat_eq 64 b
    by true u v e = sym (turned-same b 64 ∙ e)
    by false true v e = sym (turned-same b 64 ∙ e)
    by false false true e = sym (turned-same b 64 ∙ e)
    by false false false e = sym (turned-same b 64 ∙ e)

suspension-by : (b : ℕ) → same_category Suspension (category_by b) ≡ nat_eq 36 b
suspension-by b = by (nat_eq b 64) (nat_eq b 36) (nat_eq b 35) refl refl
  where
    by : (t u v : Bool) → nat_eq b 64 ≡ t → nat_eq b 36 ≡ u → same_category Suspension (if t then Note else if u then Suspension else if v then Fault else Fine) ≡ nat_eq 36 b
    by true u v d e = let n : b ≡ 64 = grind (arith, nat_tests, d) in rw n refl
    by false true v d e = sym (turned-same b 36 ∙ e)
    by false false true d e = sym (turned-same b 36 ∙ e)
    by false false false d e = sym (turned-same b 36 ∙ e)

fault-by : (b : ℕ) → same_category Fault (category_by b) ≡ nat_eq 35 b
fault-by b = by (nat_eq b 64) (nat_eq b 36) (nat_eq b 35) refl refl refl
  where
    by : (t u v : Bool) → nat_eq b 64 ≡ t → nat_eq b 36 ≡ u → nat_eq b 35 ≡ v → same_category Fault (if t then Note else if u then Suspension else if v then Fault else Fine) ≡ nat_eq 35 b
    by true u v d e f = let n : b ≡ 64 = grind (arith, nat_tests, d) in rw n refl
    by false true v d e f = let n : b ≡ 36 = grind (arith, nat_tests, e) in rw n refl
    by false false true d e f = sym (turned-same b 35 ∙ f)
    by false false false d e f = sym (turned-same b 35 ∙ f)

first-byte : (bytes : List ℕ) → same_category Fine (category_of bytes) ≡ false → (b : ℕ) × ((slice_get bytes 0 ≡ Some b) × (category_of bytes ≡ category_by b))
first-byte [] h = absurd (cc h)
first-byte (b ∷ bytes) h = (b, (refl, refl))

held-character : (memory : Memory) (o : Option Pointer) → held_value memory (Some character) o ≡ option_and_then (loaded memory) o
held-character memory None = refl
held-character memory (Some p) = refl

-- The first byte of a text.
first-number : (x : Surroundings) (e : ExprTree) (p : Pointer) (b : ℕ) → type_of x.scope e ≡ Some (points_to byte) → c.value x e ≡ Some (address p) → b < 2 ^ 8
    → cell_behind x.memory (address p) 0 ≡ Some (numeric (number Int b)) → IsNumber x (tree.element e (num 0)) Int b
first-number x e p b t v small h = record {
  gives = record { type = rw t refl; value = rw (t, v) (held-character x.memory (offset x.memory p (pos 0)) ∙ h) };
  small = omega (arith, small);
}

null-holds : (v : CValue) → IsNull v → holds v ≡ false
null-holds (numeric n) h = rw h refl
null-holds null_pointer h = refl
null-holds (address p) h = absurd h

-- A value that doesn't hold decides an `and`.
none-cond : (x : Surroundings) (e f : ExprTree) (v : CValue) → c.value x e ≡ Some v → holds v ≡ false → CondGives x (two Both e f) false
none-cond x e f v h n =
    let w = chained-value x false Both e f in
    truth-cond x (two Both e f) false false (w.1 ∙ rw h (rw n refl)) refl

-- A pointer leaves it to the other operand.
some-cond : (x : Surroundings) (e f : ExprTree) (p : Pointer) (b : Bool) → c.value x e ≡ Some (address p) → CondGives x f b → CondGives x (two Both e f) b
some-cond x e f p b v h =
    let w = chained-value x false Both e f in
    truth-cond x (two Both e f) (holds h.at) b (w.1 ∙ rw (v, h.value) (and-value true h.at)) h.is

-- A type that may go where a status goes.
goes-type : (t : ExprType) → assignable text t ≡ true → (t ≡ zero_literal) ⊎ (t ≡ points_to byte)
goes-type zero_literal h = inl refl
goes-type (numbers k) h = absurd (cc h)
goes-type (points_to (cell a)) h = absurd (cc h)
goes-type (points_to (object n)) h = absurd (cc h)
goes-type (points_to byte) h = inr refl

-- What is held is no literal.
held-not_zero : (o : Option Held) → option_and_then held_type o ≡ Some zero_literal → ⊥
held-not_zero None h = absurd (cc h)
held-not_zero (Some (one (uint u))) h = absurd (cc h)
held-not_zero (Some (one size)) h = absurd (cc h)
held-not_zero (Some (one boolean)) h = absurd (cc h)
held-not_zero (Some (one (uint_pointer u))) h = absurd (cc h)
held-not_zero (Some (one (struct_pointer n))) h = absurd (cc h)
held-not_zero (Some (one text)) h = absurd (cc h)
held-not_zero (Some (fixed (uint u))) h = absurd (cc h)
held-not_zero (Some (fixed size)) h = absurd (cc h)
held-not_zero (Some (fixed boolean)) h = absurd (cc h)
held-not_zero (Some (fixed (uint_pointer u))) h = absurd (cc h)
held-not_zero (Some (fixed (struct_pointer n))) h = absurd (cc h)
held-not_zero (Some (fixed text)) h = absurd (cc h)
held-not_zero (Some (many t)) h = absurd (cc h)
held-not_zero (Some (inner n)) h = absurd (cc h)
held-not_zero (Some character) h = absurd (cc h)
held-not_zero (Some characters) h = absurd (cc h)

-- ---- statuses and conditions, by their trees

module _ (p : PackageTree) (m : MethodTree) (s : State) (x : Surroundings) (st : Stands p m s x) where
  abbrev IsStatus : ℕ → Type 0
  IsStatus n = HasConstant x n

  constant-gives : (n : ℕ) → IsStatus n → GivesStatus x (status_constant n) n
  constant-gives zero h = record { type = zero_literal; typed = refl; goes = refl; at = numeric (number Int 0); value = refl; same = refl }
  constant-gives (suc n) h =
      let t = st.texts (suc n) (omega arith) h in
      record { type = points_to byte; typed = t.typed; goes = refl; at = address t.at; value = t.value; same = t.value }

  -- What has a value is declared.
  status-known : (n : ℕ) (e : ExprTree) → GivesStatus x e n → IsStatus n
  status-known zero e g = refl
  status-known (suc n) e g = ap is_some g.same

  pub status-gives : (t : StatusTree) (n : ℕ) → DeclaresStatus x t → well_status (record { within = p; method = m }) t ≡ true → status_value s t ≡ Some n
      → IsStatus n × GivesStatus x (lowered_status (names_of p m) t) n
  status-gives (status at k) n u h e = let same : k ≡ n = cc e in subst (λ n. IsStatus n × GivesStatus x (status_constant k) n) same (u, constant-gives k u)
  status-gives (held at path) n u h e = let g = st.statuses path n h e in (status-known n (path_code (names_of p m) path) g, g)
  status-gives no_status n u h e = absurd (cc e)

  -- A status but ok is the address of its text.
  record IsAddress (n : ℕ) (v : CValue) : Type 0 where
    pub at : Pointer
    pub is : address at ≡ v
    pub value : c.value x (status_constant n) ≡ Some (address at)

  status-address : (n : ℕ) (v : CValue) → IsStatus (suc n) → IsStatusValue x (suc n) v → IsAddress (suc n) v
  status-address n v h e =
      let t = st.texts (suc n) (omega arith) h in
      let same : Some (address t.at) ≡ Some v = sym t.value ∙ e in
      record { at = t.at; is = cc same; value = t.value }

  pointers-tell : (n k : ℕ) (v w : CValue) → IsStatus n → IsStatus k → (a : IsAddress n v) → (b : IsAddress k w) → same_pointer a.at b.at ≡ nat_eq n k
  pointers-tell n k v w h g a b = by (same_pointer a.at b.at) (nat_eq n k) refl refl
    where
      by : (t u : Bool) → same_pointer a.at b.at ≡ t → nat_eq n k ≡ u → t ≡ u
      by true true e f = refl
      by false false e f = refl
      by true false e f =
          let same : n ≡ k = st.apart n k h g (a.value ∙ (ap (λ q. Some (address q)) (pointers-same a.at b.at e) ∙ sym b.value)) in
          absurd (grind (arith, nat_tests, same, f))
      by false true e f =
          let same : n ≡ k = grind (arith, nat_tests, f) in
          let values : Some (address a.at) ≡ Some (address b.at) = sym a.value ∙ (ap (λ n. c.value x (status_constant n)) same ∙ b.value) in
          let pointers : a.at ≡ b.at = cc values in
          absurd (cc (e, subst (λ q. same_pointer a.at q ≡ true) pointers (same-itself a.at)))

  statuses-compare : (o : Bool) (n k : ℕ) (v w : CValue) → IsStatus n → IsStatus k → IsStatusValue x n v → IsStatusValue x k w → Compares x o v w (nat_eq n k)
  statuses-compare o zero zero v w h g d e = null-null x o v w d e
  statuses-compare o zero (suc k) v w h g d e =
      let a = status-address k w g e in
      let f : false ≡ nat_eq zero (suc k) = grind (arith, nat_tests) in
      subst (λ t. Compares x o v w t) f (subst (λ w. Compares x o v w false) a.is (null-address x o v a.at d))
  statuses-compare o (suc n) zero v w h g d e =
      let a = status-address n v h d in
      let f : false ≡ nat_eq (suc n) zero = grind (arith, nat_tests) in
      subst (λ t. Compares x o v w t) f (subst (λ v. Compares x o v w false) a.is (address-null x o a.at w e))
  statuses-compare o (suc n) (suc k) v w h g d e =
      let a = status-address n v h d in
      let b = status-address k w g e in
      subst (λ v. Compares x o v w (nat_eq (suc n) (suc k))) a.is (subst (λ w. Compares x o (address a.at) w (nat_eq (suc n) (suc k))) b.is
      (address-address x o a.at b.at (nat_eq (suc n) (suc k)) (pointers-tell (suc n) (suc k) v w h g a b)))

  module _ (e f : ExprTree) (n k : ℕ) (n_is : IsStatus n) (k_is : IsStatus k) (g : GivesStatus x e n) (h : GivesStatus x f k) where
    one-cond : CondGives x (two Eq e f) (nat_eq n k)
    one-cond =
        let v = chained-value x false Eq e f in
        truth-cond x (two Eq e f) (nat_eq n k) (nat_eq n k) (v.1 ∙ rw (g.value, h.value) (statuses-compare v.0 n k g.at h.at n_is k_is g.same h.same).0) refl

    two-cond : CondGives x (two Ne e f) (not (nat_eq n k))
    two-cond =
        let v = chained-value x false Ne e f in
        truth-cond x (two Ne e f) (not (nat_eq n k)) (not (nat_eq n k)) (v.1 ∙ rw (g.value, h.value) (statuses-compare v.0 n k g.at h.at n_is k_is g.same h.same).1) refl

  -- Both ways to compare them.
  held-cond : (alike : Bool) (a b : StatusTree) (n k : ℕ) → IsStatus n → IsStatus k → GivesStatus x (lowered_status (names_of p m) a) n → GivesStatus x (lowered_status (names_of p m) b) k
      → CondGives x (held_compared alike (names_of p m) a b) (same_truth alike (nat_eq n k))
  held-cond true a b n k n_is k_is g h =
      let e = lowered_status (names_of p m) a in
      let f = lowered_status (names_of p m) b in
      same-cond x e f (nat_eq n k) (one-cond e f n k n_is k_is g h) (subst (λ t. CondGives x (two Eq f e) t) (turned-same n k) (one-cond f e k n k_is n_is h g)) (two-cond e f n k n_is k_is g h)
      (is_constant a) (is_constant b) (is_held e)
  held-cond false a b n k n_is k_is g h = two-cond (lowered_status (names_of p m) a) (lowered_status (names_of p m) b) n k n_is k_is g h

  truth-literal : (b : Bool) → CondGives x (num (if b then 1 else 0)) b
  truth-literal true = record { at = numeric (number Int 1); value = refl; is = refl; stored = refl }
  truth-literal false = record { at = numeric (number Int 0); value = refl; is = refl; stored = refl }

  constant-is : (t : StatusTree) (n : ℕ) → is_constant t ≡ true → status_value s t ≡ Some n → constant_number t ≡ n
  constant-is (status at k) n c e = cc e
  constant-is (held at path) n c e = absurd (cc c)
  constant-is no_status n c e = absurd (cc c)

  same-status : (a b : StatusTree) (n k : ℕ) → same_state a b ≡ true → status_value s a ≡ Some n → status_value s b ≡ Some k → nat_eq n k ≡ true
  same-status (status at i) (status at' j) n k h e f =
      let same : i ≡ n = cc e in
      let other : j ≡ k = cc f in
      grind (arith, nat_tests, h, same, other)
  same-status (held at q) (held at' r) n k h e f =
      let held_both : Some n ≡ Some k = sym e ∙ (ap s.status_at (path_same q r h) ∙ f) in
      let same : n ≡ k = cc held_both in
      grind (arith, nat_tests, same)
  same-status a b n k h e f = absurd (cc h)

  one-itself : (one : Bool) (n k : ℕ) → nat_eq n k ≡ true → one ≡ same_truth one (nat_eq n k)
  one-itself true n k h = sym h
  one-itself false n k h = sym (ap not h)

  -- A variable is one with itself.
  variables-cond : (alike : Bool) (a b : StatusTree) (n k : ℕ) → status_value s a ≡ Some n → status_value s b ≡ Some k → IsStatus n → IsStatus k
      → GivesStatus x (lowered_status (names_of p m) a) n → GivesStatus x (lowered_status (names_of p m) b) k → CondGives x (variables_compared alike (names_of p m) a b) (same_truth alike (nat_eq n k))
  variables-cond alike a b n k e f n_is k_is g h = by (same_state a b) refl
    where
      by : (t : Bool) → same_state a b ≡ t → CondGives x (if t then num (if alike then 1 else 0) else held_compared alike (names_of p m) a b) (same_truth alike (nat_eq n k))
      by true v = subst (λ t. CondGives x (num (if alike then 1 else 0)) t) (one-itself alike n k (same-status a b n k v e f)) (truth-literal alike)
      by false v = held-cond alike a b n k n_is k_is g h

  statuses-cond : (alike : Bool) (a b : StatusTree) (n k : ℕ) → status_value s a ≡ Some n → status_value s b ≡ Some k → IsStatus n → IsStatus k
      → GivesStatus x (lowered_status (names_of p m) a) n → GivesStatus x (lowered_status (names_of p m) b) k → CondGives x (statuses_compared alike (names_of p m) a b) (same_truth alike (nat_eq n k))
  statuses-cond alike a b n k e f n_is k_is g h = by (is_constant a) (is_constant b) refl refl
    where
      by : (t u : Bool) → is_constant a ≡ t → is_constant b ≡ u
          → CondGives x (if t && u then constants_compared alike (constant_number a) (constant_number b) else variables_compared alike (names_of p m) a b) (same_truth alike (nat_eq n k))
      by true true v w =
          subst (λ t. CondGives x (constants_compared alike (constant_number a) (constant_number b)) t)
          (ap (λ j. same_truth alike (nat_eq j (constant_number b))) (constant-is a n v e) ∙ ap (λ j. same_truth alike (nat_eq n j)) (constant-is b k w f))
          (truth-literal (same_truth alike (nat_eq (constant_number a) (constant_number b))))
      by true false v w = variables-cond alike a b n k e f n_is k_is g h
      by false u v w = variables-cond alike a b n k e f n_is k_is g h

  -- ok
  fine-cond : (e : ExprTree) (n : ℕ) → IsStatus n → GivesStatus x e n → CondGives x (two Eq (num 0) e) (same_category Fine (category_of (s.status_text n)))
  fine-cond e zero h g =
      let v = chained-value x false Eq (num 0) e in
      truth-cond x (two Eq (num 0) e) true (same_category Fine (category_of (s.status_text zero)))
      (v.1 ∙ rw g.value (null-null x v.0 (numeric (number Int 0)) g.at refl g.same).0) (rw st.ok refl)
  fine-cond e (suc n) h g =
      let v = chained-value x false Eq (num 0) e in
      let a = status-address n g.at h g.same in
      let t = st.texts (suc n) (omega arith) h in
      truth-cond x (two Eq (num 0) e) false (same_category Fine (category_of (s.status_text (suc n))))
      (v.1 ∙ rw (g.value, sym a.is) (null-address x v.0 (numeric (number Int 0)) a.at refl).0) (sym t.told)

  -- A status that isn't written as the literal 0: it isn't null, and its text begins with the byte.
  marked-cond : (category : Category) (mark : ℕ) → IsMark category mark → (e : ExprTree) (n : ℕ) → (type_of x.scope e ≡ Some zero_literal → ⊥) → IsStatus n → GivesStatus x e n
      → CondGives x (two Both e (two Eq (num mark) (tree.element e (num 0)))) (same_category category (category_of (s.status_text n)))
  marked-cond category mark k e zero typed h g =
      subst (λ t. CondGives x (two Both e (two Eq (num mark) (tree.element e (num 0)))) t) (rw st.ok (sym k.not_fine))
      (none-cond x e (two Eq (num mark) (tree.element e (num 0))) g.at g.value (null-holds g.at g.same))
  marked-cond category mark k e (suc n) typed h g =
      let t = st.texts (suc n) (omega arith) h in
      let b = first-byte (s.status_text (suc n)) t.told in
      let there = t.first b.0 b.1.0 in
      let same : Some (address t.at) ≡ Some g.at = sym t.value ∙ g.same in
      let at : c.value x e ≡ Some (address t.at) = g.value ∙ sym same in
      let pointer : type_of x.scope e ≡ Some (points_to byte) = elim (goes-type g.type g.goes) [ inl z ↦ absurd (typed (g.typed ∙ ap Some z)) | inr q ↦ g.typed ∙ ap Some q ] in
      let second = order-cond x equal (num mark) (tree.element e (num 0)) (literal_type (literal mark)) Int mark b.0 (literal-number x mark (omega (arith, k.few))) (first-number x e t.at b.0 pointer at there.0 there.1) in
      subst (λ t. CondGives x (two Both e (two Eq (num mark) (tree.element e (num 0)))) t) (sym (k.by b.0) ∙ sym (ap (same_category category) b.1.1))
      (some-cond x e (two Eq (num mark) (tree.element e (num 0))) t.at (nat_eq mark b.0) at second)

  zero-marked : (mark : ℕ) → CondGives x (begins_with mark (status_constant 0)) false
  zero-marked mark = record { at = numeric (number Int 0); value = refl; is = refl; stored = refl }

  marked : (category : Category) (mark : ℕ) → IsMark category mark → (t : StatusTree) (n : ℕ) → DeclaresStatus x t → well_status (record { within = p; method = m }) t ≡ true → status_value s t ≡ Some n
      → CondGives x (begins_with mark (lowered_status (names_of p m) t)) (same_category category (category_of (s.status_text n)))
  marked category mark k (status at zero) n u h e =
      let same : 0 ≡ n = cc e in
      subst (λ n. CondGives x (begins_with mark (status_constant 0)) (same_category category (category_of (s.status_text n)))) same
      (subst (λ t. CondGives x (begins_with mark (status_constant 0)) t) (rw st.ok (sym k.not_fine)) (zero-marked mark))
  marked category mark k (status at (suc j)) n u h e =
      let same : suc j ≡ n = cc e in
      let no : nat_eq (suc j) 0 ≡ false = grind (arith, nat_tests) in
      let constant : variable (status_name (suc j)) ≡ status_constant (suc j) = rw no refl in
      subst (λ n. CondGives x (begins_with mark (status_constant (suc j))) (same_category category (category_of (s.status_text n)))) same
      (subst (λ e. CondGives x (begins_with mark e) (same_category category (category_of (s.status_text (suc j))))) constant
      (marked-cond category mark k (variable (status_name (suc j))) (suc j) (held-not_zero _) u (subst (λ e. GivesStatus x e (suc j)) (sym constant) (constant-gives (suc j) u))))
  marked category mark k (held at (local j)) n u h e =
      let g = st.statuses (local j) n h e in marked-cond category mark k (path_code (names_of p m) (local j)) n (held-not_zero _) (status-known n (path_code (names_of p m) (local j)) g) g
  marked category mark k (held at (arg j)) n u h e =
      let g = st.statuses (arg j) n h e in marked-cond category mark k (path_code (names_of p m) (arg j)) n (held-not_zero _) (status-known n (path_code (names_of p m) (arg j)) g) g
  marked category mark k (held at (field j)) n u h e =
      let g = st.statuses (field j) n h e in marked-cond category mark k (path_code (names_of p m) (field j)) n (held-not_zero _) (status-known n (path_code (names_of p m) (field j)) g) g
  marked category mark k no_status n u h e = absurd (cc e)

  category-cond : (category : Category) (t : StatusTree) (n : ℕ) → DeclaresStatus x t → well_status (record { within = p; method = m }) t ≡ true → status_value s t ≡ Some n
      → CondGives x (category_code category (lowered_status (names_of p m) t)) (same_category category (category_of (s.status_text n)))
  category-cond Fine t n u h e = let g = status-gives t n u h e in fine-cond (lowered_status (names_of p m) t) n g.0 g.1
  category-cond Note t n u h e = marked Note 64 (record { code = λ e. refl; few = omega arith; not_fine = refl; by = note-by }) t n u h e
  category-cond Suspension t n u h e = marked Suspension 36 (record { code = λ e. refl; few = omega arith; not_fine = refl; by = suspension-by }) t n u h e
  category-cond Fault t n u h e = marked Fault 35 (record { code = λ e. refl; few = omega arith; not_fine = refl; by = fault-by }) t n u h e

  flag-cond : (e : ExprTree) (b : Bool) → GivesNumber x e Int (if b then 1 else 0) → CondGives x e b
  flag-cond e true g = record { at = numeric (number Int 1); value = g.value; is = refl; stored = refl }
  flag-cond e false g = record { at = numeric (number Int 0); value = g.value; is = refl; stored = refl }

  compare-cond : (op : Order) (a b : NumTree) (t : Bool) → Declares (names_of p m) s x a × Declares (names_of p m) s x b → (well_num (record { within = p; method = m }) a && well_num (record { within = p; method = m }) b) ≡ true
      → option_and_then (λ k. option_map (compares op k) (value s b)) (value s a) ≡ Some t
      → CondGives x (numbers_compared op (comparand (names_of p m) a) (comparand (names_of p m) b)) t
  compare-cond op a b t u h e =
      let q = and_parts (well_num (record { within = p; method = m }) a) _ h in
      let d = came (λ k. option_map (compares op k) (value s b)) (value s a) t e in
      let f = mapped (compares op d.from) (value s b) t d.gives in
      let g = comparand-number p m s x st a d.from u.0 (and_parts (is_whole_number a) _ q.0).1 d.is in
      let i = comparand-number p m s x st b f.from u.1 (and_parts (is_whole_number b) _ q.1).1 f.is in
      subst (λ t. CondGives x (numbers_compared op (comparand (names_of p m) a) (comparand (names_of p m) b)) t) f.gives
      (numbers-cond x op (comparand (names_of p m) a) (comparand (names_of p m) b) d.from f.from g i)

  pub conditions : (t : CondTree) (b : Bool) → DeclaresCond (names_of p m) s x t → well_cond (record { within = p; method = m }) t ≡ true → truth_of s t ≡ Some b → CondGives x (lowered_cond (names_of p m) t) b
  conditions (truth at v) b u h e = let same : v ≡ b = cc e in subst (λ b. CondGives x (num (if v then 1 else 0)) b) same (truth-literal v)
  conditions (flag at path) b u h e = flag-cond (path_code (names_of p m) path) b (st.flags path b h e)
  conditions (compare at sign a op d_) b u h e = compare-cond op a d_ b u (and_parts (fit_together a d_ (width_of a) (width_of d_)) _ h).1 e
  conditions (same_status at sign a alike d_) b u h e =
      let q = and_parts (well_status (record { within = p; method = m }) a) _ h in
      let d = came (λ k. option_map (λ n. same_truth alike (nat_eq k n)) (status_value s d_)) (status_value s a) b e in
      let f = mapped (λ n. same_truth alike (nat_eq d.from n)) (status_value s d_) b d.gives in
      let g = status-gives a d.from u.0 q.0 d.is in
      let i = status-gives d_ f.from u.1 q.1 f.is in
      subst (λ b. CondGives x (statuses_compared alike (names_of p m) a d_) b) f.gives (statuses-cond alike a d_ d.from f.from d.is f.is g.0 i.0 g.1 i.1)
  conditions (junction at both joined a d_) b u h e =
      let q = and_parts (well_cond (record { within = p; method = m }) a) _ h in
      let d = came (λ p. option_map (λ q. if both then p && q else p || q) (truth_of s d_)) (truth_of s a) b e in
      let f = mapped (λ q. if both then d.from && q else d.from || q) (truth_of s d_) b d.gives in
      let left = lowered_cond (names_of p m) a in
      let right = lowered_cond (names_of p m) d_ in
      let first = begun joined (joint_of both) left right in
      subst (λ b. CondGives x (chained joined (joint_of both) first right) b) f.gives
      (junction-cond x both joined first right d.from f.from (begun-cond x joined (joint_of both) left right d.from (conditions a d.from u.0 q.0 d.is)) (conditions d_ f.from u.1 q.1 f.is))
  conditions (negation at a) b u h e =
      let d = mapped not (truth_of s a) b e in
      subst (λ b. CondGives x (unary Not (lowered_cond (names_of p m) a)) b) d.gives (not-cond x (lowered_cond (names_of p m) a) d.from (conditions a d.from u h d.is))
  conditions (closed at a) b u h e =
      let d = mapped (λ b. b.closed) (io_buffer s a) b e in
      let i = buffer-some s a d.from d.is in
      let g = st.buffers a i.number types.Reader d.from (reader-type (variable_at m.args a) h) i.named i.at in
      subst (λ b. CondGives x (lowered_cond (names_of p m) (closed at a)) b) d.gives (flag-cond (lowered_cond (names_of p m) (closed at a)) d.from.closed g.1.closed)
  conditions (has_category at t category) b u h e =
      let d = mapped (λ n. same_category category (category_of (s.status_text n))) (status_value s t) b e in
      subst (λ b. CondGives x (category_code category (lowered_status (names_of p m) t)) b) d.gives (category-cond category t d.from u h d.is)
