-- What an operator makes of two numbers is the same by the rules of names as by the rules of types.
use Rattle.std.proofs.Common.{◌≡◌, ℕ, zero, suc, ◌+◌, ◌-◌, ◌*◌, ◌/◌, ◌%◌, ◌^◌, ◌<◌, min, Bool, true, false, not, Option, Some, None, nat_lt, refl, sym, ap, ◌∙◌, subst, arith}
use Rattle.std.specs.Prelude.{if◌then◌else◌, nat_le, nat_eq, is_some, option_map}
use Rattle.std.proofs.lemmas.Bool.Decides.{nat_tests}
use Rattle.std.proofs.lemmas.Nat.{mod_below, pow_pos}
use Rattle.wf_base.specs.declared.widths.Width.{Width}
use Rattle.wf_base.specs.BaseTable.{bits_of}
use Rattle.wf_ast.specs.declared.operators.Op.{Op}
use Rattle.wf_ast.specs.declared.operators.Op.TheVariants as ops
use Rattle.wf_ast.specs.TypedTree.{Arith, minus, divided, remainder, shift_left, shift_right, mod_plus, mod_minus, mod_times, mod_shift_left, sat_plus, sat_minus}
use Rattle.wf_ast.specs.Value.{applied, fitted, only_if}
use Rattle.wf_names_rules.specs.ConstantValues.{bits_or_most, joined_number, shifted_number}
use Rattle.wf_names_rules.specs.ConstantValues as by_names
use Rattle.wf_types_rules.specs.Operands.{bits_in}
use Rattle.wf_typed_const_laws.specs.OneValue.{sized}

pub lt-test : (a b : ℕ) → a < b → nat_lt a b ≡ true
lt-test a b h = grind (arith, nat_tests, h)

pub test-lt : (a b : ℕ) → nat_lt a b ≡ true → a < b
test-lt a b h = grind (arith, nat_tests, h)

pub one-bits : (w : Option Width) → bits_or_most (option_map bits_of w) ≡ bits_in w
one-bits None = refl
one-bits (Some w) = refl

pub none-there : {X : Type 0} (x : Option X) → not (is_some x) ≡ true → x ≡ None
none-there None h = refl
none-there (Some x) h = absurd (cc h)

pub fitted-is : (bits n v : ℕ) → fitted bits n ≡ Some v → (n ≡ v) × (v < 2 ^ bits)
fitted-is bits n v h = by (nat_lt n (2 ^ bits)) refl h
  where
    by : (b : Bool) → nat_lt n (2 ^ bits) ≡ b → (if b then Some n else None) ≡ Some v → (n ≡ v) × (v < 2 ^ bits)
    by true e k =
        let same : n ≡ v = cc k in
        let P : ℕ → Type 0 = λ x. x < 2 ^ bits in
        (same, subst P same (test-lt n (2 ^ bits) e))
    by false e k = absurd (cc k)

-- A number in its width fits by the rules of names.
pub fits : (w : Option Width) (n : ℕ) → n < 2 ^ bits_in w → by_names.fitted (option_map bits_of w) n ≡ Some (sized w n)
fits w n h =
    let P : ℕ → Type 0 = λ b. n < 2 ^ b in
    let e : nat_lt n (2 ^ bits_or_most (option_map bits_of w)) ≡ true = lt-test n (2 ^ bits_or_most (option_map bits_of w)) (subst P (sym (one-bits w)) h) in
    rw e refl

-- Two operands of one width, and what they give.
abbrev pub Joins : Op → Arith → Type 0
Joins op a = (bits m n v : ℕ) → m < 2 ^ bits → n < 2 ^ bits → applied a bits m n ≡ Some v → (joined_number op bits m n ≡ Some v) × (v < 2 ^ bits)

where_test : {X : Type 0} (b : Bool) (x : Option X) (v : X) → only_if b x ≡ Some v → (b ≡ true) × (x ≡ Some v)
where_test true x v h = (refl, h)
where_test false x v h = absurd (cc h)

small : (bits x v : ℕ) → Some (x % 2 ^ bits) ≡ Some v → v < 2 ^ bits
small bits x v e =
    let same : x % 2 ^ bits ≡ v = cc e in
    let P : ℕ → Type 0 = λ y. y < 2 ^ bits in
    subst P same (mod_below x (2 ^ bits) (pow_pos bits))

pub joins-minus : Joins ops.Sub minus
joins-minus bits m n v a b e =
    let t = where_test (nat_le n m) (fitted bits (m - n)) v e in
    let f = fitted-is bits (m - n) v t.1 in
    let over : nat_lt m n ≡ false = grind (arith, nat_tests, t.0) in
    (rw over (ap Some f.0), f.1)

pub joins-divided : Joins ops.Div divided
joins-divided bits m zero v a b e = absurd (cc e)
joins-divided bits m (suc n) v a b e =
    let f = fitted-is bits (m / suc n) v e in
    let some : nat_eq (suc n) 0 ≡ false = grind (arith, nat_tests) in
    (rw some (ap Some f.0), f.1)

pub joins-remainder : Joins ops.Rem remainder
joins-remainder bits m zero v a b e = absurd (cc e)
joins-remainder bits m (suc n) v a b e =
    let f = fitted-is bits (m % suc n) v e in
    let some : nat_eq (suc n) 0 ≡ false = grind (arith, nat_tests) in
    (rw some (ap Some f.0), f.1)

pub joins-mod-plus : Joins ops.ModAdd mod_plus
joins-mod-plus bits m n v a b e = (e, small bits (m + n) v e)

pub joins-mod-minus : Joins ops.ModSub mod_minus
joins-mod-minus bits m n v a b e =
    let same : m + 2 ^ bits - n ≡ m + (2 ^ bits - n) = omega (arith, b) in
    (ap (λ (x : ℕ). Some (x % 2 ^ bits)) same ∙ e, small bits (m + (2 ^ bits - n)) v e)

pub joins-mod-times : Joins ops.ModMul mod_times
joins-mod-times bits m n v a b e = (e, small bits (m * n) v e)

pub joins-sat-plus : Joins ops.SatAdd sat_plus
joins-sat-plus bits m n v a b e =
    let same : min (m + n) (2 ^ bits - 1) ≡ v = cc e in
    (e, omega (arith, same, pow_pos bits))

pub joins-sat-minus : Joins ops.SatSub sat_minus
joins-sat-minus bits m n v a b e =
    let same : m - n ≡ v = cc e in
    (e, omega (arith, same, a))

-- A number and by how much it is shifted.
abbrev pub Shifts : Op → Arith → Type 0
Shifts op a = (bits m n v : ℕ) → applied a bits m n ≡ Some v → (shifted_number op bits m n ≡ Some v) × (v < 2 ^ bits)

pub shifts-left : Shifts ops.Shl shift_left
shifts-left bits m n v e =
    let t = where_test (nat_lt n bits) (fitted bits (m * 2 ^ n)) v e in
    let f = fitted-is bits (m * 2 ^ n) v t.1 in
    (rw t.0 (ap Some f.0), f.1)

pub shifts-right : Shifts ops.Shr shift_right
shifts-right bits m n v e =
    let t = where_test (nat_lt n bits) (fitted bits (m / 2 ^ n)) v e in
    let f = fitted-is bits (m / 2 ^ n) v t.1 in
    (rw t.0 (ap Some f.0), f.1)

pub shifts-mod-left : Shifts ops.ModShl mod_shift_left
shifts-mod-left bits m n v e =
    let t = where_test (nat_lt n bits) (Some ((m * 2 ^ n) % 2 ^ bits)) v e in
    (rw t.0 t.1, small bits (m * 2 ^ n) v t.1)
