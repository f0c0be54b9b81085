-- The values of constant expressions: numbers and names of constants with operators between them.
use Rattle.std.specs.Prelude.{ℕ, ◌+◌, ◌-◌, ◌*◌, ◌/◌, ◌%◌, ◌^◌, min, Bool, true, false, ◌&&◌, if◌then◌else◌, List, [], ◌∷◌, ◌++◌, Option, Some, None, nat_eq, nat_lt, nat_le, bit_and, bit_or, bit_xor}
use Rattle.std.specs.List.{find}
use Rattle.wf_base.specs.declared.widths.Width.{Width}
use Rattle.wf_base.specs.BaseTable.{bits_of}
use Rattle.wf_ast.specs.declared.parsed.Name.{Name}
use Rattle.wf_ast.specs.declared.parsed.Root.TheVariants as roots
use Rattle.wf_ast.specs.declared.parsed.Root.{Root}
use Rattle.wf_ast.specs.declared.operators.Op.{Op}
use Rattle.wf_ast.specs.declared.operators.Op.TheVariants as ops
use Rattle.wf_ast.specs.ParsedTree as tree
use Rattle.wf_ast.specs.ParsedTree.{ExprTree, PartTree, LinkTrees, TypeTree, BoundsTree}
use Rattle.wf_names_rules.specs.Declarations.{Constant, Declared, is_spelt, text_of}
use Rattle.wf_names_rules.specs.Meanings.{width_of}

-- A number, with its width in bits; a literal has none until it stands beside one.
pub record Sized : Type 0 where
  pub bits : Option ℕ
  pub number : ℕ

-- A constant that is known, with its value if it has one.
pub record Valued : Type 0 where
  pub name : Name
  pub value : Option Sized

-- The width that a number without one counts in.
abbrev pub bits_or_most : Option ℕ → ℕ
bits_or_most None = 64
bits_or_most (Some bits) = bits

-- The number where it lies in its width.
abbrev pub fitted : Option ℕ → ℕ → Option Sized
fitted bits n = if nat_lt n (2 ^ bits_or_most bits) then Some (record { bits = bits; number = n }) else None

-- The one width of two operands, if they can have one.
abbrev pub joined_bits : Option ℕ → Option ℕ → Option (Option ℕ)
joined_bits None b = Some b
joined_bits (Some a) None = Some (Some a)
joined_bits (Some a) (Some b) = if nat_eq a b then Some (Some a) else None

-- What an operator makes of two numbers of a width, before it is asked whether that fits; none where it has no
-- value at all.
abbrev pub joined_number : Op → (bits a b : ℕ) → Option ℕ
joined_number ops.Add bits a b = Some (a + b)
joined_number ops.Mul bits a b = Some (a * b)
joined_number ops.BitAnd bits a b = Some (bit_and a b)
joined_number ops.BitOr bits a b = Some (bit_or a b)
joined_number ops.BitXor bits a b = Some (bit_xor a b)
joined_number ops.Sub bits a b = if nat_lt a b then None else Some (a - b)
joined_number ops.Div bits a b = if nat_eq b 0 then None else Some (a / b)
joined_number ops.Rem bits a b = if nat_eq b 0 then None else Some (a % b)
joined_number ops.ModAdd bits a b = Some ((a + b) % 2 ^ bits)
joined_number ops.ModSub bits a b = Some ((a + 2 ^ bits - b) % 2 ^ bits)
joined_number ops.ModMul bits a b = Some ((a * b) % 2 ^ bits)
joined_number ops.SatAdd bits a b = Some (min (a + b) (2 ^ bits - 1))
joined_number ops.SatSub bits a b = Some (a - b)
joined_number _ bits a b = None

-- What a shift makes of a number of a width.
abbrev pub shifted_number : Op → (bits a b : ℕ) → Option ℕ
shifted_number ops.Shl bits a b = if nat_lt b bits then Some (a * 2 ^ b) else None
shifted_number ops.Shr bits a b = if nat_lt b bits then Some (a / 2 ^ b) else None
shifted_number ops.ModShl bits a b = if nat_lt b bits then Some ((a * 2 ^ b) % 2 ^ bits) else None
shifted_number _ bits a b = None

abbrev pub is_shift : Op → Bool
is_shift ops.Shl = true
is_shift ops.Shr = true
is_shift ops.ModShl = true
is_shift _ = false

-- A chain so far: the one width of its operands, the largest of them, and the number.
pub record Running : Type 0 where
  pub bits : Option ℕ
  pub largest : ℕ
  pub number : ℕ

abbrev pub started : Option Sized → Option Running
started None = None
started (Some a) = Some (record { bits = a.bits; largest = a.number; number = a.number })

abbrev pub run_to : Option ℕ → (largest : ℕ) → Option ℕ → Option Running
run_to bits largest None = None
run_to bits largest (Some n) = Some (record { bits = bits; largest = largest; number = n })

abbrev pub run_joined : Op → Running → Sized → Option (Option ℕ) → Option Running
run_joined op r b None = None
run_joined op r b (Some bits) =
    run_to bits (if nat_lt r.largest b.number then b.number else r.largest) (joined_number op (bits_or_most bits) r.number b.number)

-- A shift keeps the width of its left side.
abbrev pub run_shifted : Op → Running → Sized → Option Running
run_shifted op r b = run_to r.bits r.largest (shifted_number op (bits_or_most r.bits) r.number b.number)

abbrev pub run_on : Op → Option Running → Option Sized → Option Running
run_on op None b = None
run_on op (Some r) None = None
run_on op (Some r) (Some b) = if is_shift op then run_shifted op r b else run_joined op r b (joined_bits r.bits b.bits)

-- A chain has a value where its operands and the whole lie in its width; parts of it need not.
abbrev pub ended : Option Running → Option Sized
ended None = None
ended (Some r) = if nat_lt r.largest (2 ^ bits_or_most r.bits) then fitted r.bits r.number else None

abbrev pub known_value : Option Valued → Option Sized
known_value None = None
known_value (Some k) = k.value

-- A name is a constant where nothing hides it.
abbrev pub named_value : (hidden : ℕ → Bool) → List Valued → Root → ℕ → Option Sized
named_value hidden known roots.Bare text = if hidden text then None else known_value (find (λ k. is_spelt text k.name) known)
named_value hidden known _ text = None

abbrev pub converted : Option Width → Option Sized → Option Sized
converted None a = None
converted (Some width) None = None
converted (Some width) (Some a) = fitted (Some (bits_of width)) a.number

-- The width that `as` may name: that of a numeric type without bounds.
abbrev pub plain_width : Declared → TypeTree → Option Width
plain_width d (tree.base_type name at tree.unrefined) = width_of (text_of d) (tree.base_type name at tree.unrefined)
plain_width d _ = None

-- The value of an expression, if it is constant and breaks no rule of values.
abbrev mutual
  pub value_of : Declared → (hidden : ℕ → Bool) → List Valued → ExprTree → Option Sized
  value_of d hidden known (tree.number value at) = fitted None value
  value_of d hidden known (tree.path path) = named_value hidden known path.root path.name.text.0
  value_of d hidden known (tree.chain op first links at) = ended (links_value d hidden known op (started (value_of d hidden known first)) links)
  value_of d hidden known (tree.convert of to at) = converted (plain_width d to) (value_of d hidden known of)
  value_of d hidden known _ = None

  pub links_value : Declared → (hidden : ℕ → Bool) → List Valued → Op → Option Running → LinkTrees → Option Running
  links_value d hidden known op r tree.no_link = r
  links_value d hidden known op r (tree.link sign operand others) = links_value d hidden known op (run_on op r (value_of d hidden known operand)) others

-- The number of a constant where it lies between two bounds, which lie in the type.
abbrev pub bounded : (bits : ℕ) → Option Sized → Option Sized → Option Sized → Option Sized
bounded bits (Some low) (Some high) (Some a) =
    if nat_le low.number a.number && (nat_le a.number high.number && nat_lt high.number (2 ^ bits)) then Some (record { bits = Some bits; number = a.number }) else None
bounded bits _ _ _ = None

abbrev pub low_value : Declared → List Valued → PartTree → Option Sized
low_value d known tree.absent = Some (record { bits = None; number = 0 })
low_value d known (tree.present low) = value_of d (λ text. false) known low

abbrev pub refined_value : Declared → List Valued → (bits : ℕ) → BoundsTree → Option Sized → Option Sized
refined_value d known bits tree.unrefined None = None
refined_value d known bits tree.unrefined (Some a) = fitted (Some bits) a.number
refined_value d known bits (tree.refined low high) a = bounded bits (low_value d known low) (value_of d (λ text. false) known high) a

abbrev pub typed_value : Declared → List Valued → Option Width → TypeTree → Option Sized → Option Sized
typed_value d known (Some width) (tree.base_type name at bounds) a = refined_value d known (bits_of width) bounds a
typed_value d known _ _ a = None

-- A constant whose number lies outside its type has no value, nor has one of another type than a numeric one.
abbrev pub constant_value : Declared → List Valued → Constant → Option Sized
constant_value d known c = typed_value d known (width_of (text_of d) c.of) c.of (value_of d (λ text. false) known c.value)

-- The constants in order, each with its value, which those before it make.
abbrev pub known_from : Declared → List Valued → List Constant → List Valued
known_from d known [] = known
known_from d known (c ∷ cs) = known_from d (known ++ record { name = c.name; value = constant_value d known c } ∷ []) cs

abbrev pub known_constants : Declared → List Valued
known_constants d = known_from d [] d.constants
