-- The values of constant expressions by tables: what the code finds.
use Rattle.std.specs.Prelude.{◌≡◌, ℕ, Bool, false, List, Option, Some, None, is_some, nat_eq, if◌then◌else◌, cond}
use Rattle.std.specs.Borrow.{Bor}
use Rattle.std.specs.List.{find}
use Rattle.std.specs.Option.{option_or}
use Rattle.indexmap.specs.IndexMap.{IndexMap, get}
use Rattle.wf_base.specs.declared.widths.Width.{Width}
use Rattle.wf_ast.specs.declared.operators.Op.{Op}
use Rattle.wf_ast.specs.declared.parsed.Root.TheVariants as roots
use Rattle.wf_ast.specs.declared.parsed.Root.{Root}
use Rattle.wf_ast.specs.ParsedTree as tree
use Rattle.wf_ast.specs.ParsedTree.{ExprTree, PartTree, LinkTrees, TypeTree, BoundsTree}
use Rattle.wf_names_rules.specs.declared.tables.Variables.{Variables}
use Rattle.wf_names_rules.specs.Declarations.{is_spelt, bytes_of}
use Rattle.wf_names_rules.specs.Meanings.{width_named}
use Rattle.wf_names_rules.specs.ConstantValues.{Sized, Valued, Running, fitted, started, run_on, ended, converted, bounded}
use Rattle.wf_names_sizes.specs.declared.environment.Environment.{Environment}
use Rattle.wf_names_sizes.specs.declared.numbers.ConstantValue.{ConstantValue}
use Rattle.wf_names_sizes.specs.Capped.{sized}

-- What a table has under a name, and the value of that.
abbrev pub stored : Option (Option ConstantValue) → Option (Option Sized)
stored None = None
stored (Some value) = Some (sized value)

abbrev pub stored_value : Option (Option Sized) → Option Sized
stored_value None = None
stored_value (Some value) = value

abbrev pub valued : Option Valued → Option (Option Sized)
valued None = None
valued (Some k) = Some k.value

-- What a table answers after one more key, where `look` is what it answers before it.
abbrev pub with_first : {X : Type 0} → (look : ℕ → Option X) → ℕ → X → ℕ → Option X
with_first look key value other = option_or (look other) (cond (nat_eq key other) (Some value) None)

-- A table has of each name what the list has first.
abbrev pub Knows : {S : Type 0} → IndexMap ℕ (Option ConstantValue) S → List Valued → Type 0
Knows table known = (text : ℕ) → stored (get nat_eq table text) ≡ valued (find (λ k. is_spelt text k.name) known)

-- Whether a local hides a name.
abbrev pub hides : Option (Bor Variables) → ℕ → Bool
hides None text = false
hides (Some locals) text = is_some (get nat_eq locals.now.entries text)

-- The value of a name, by the constants and the locals that hide them.
abbrev pub constant_by : Environment → Root → ℕ → Option Sized
constant_by env roots.Bare text = if hides env.locals text then None else stored_value (stored (get nat_eq env.constants.now text))
constant_by env _ text = None

-- The width of a numeric type without bounds; `bytes` are those of each text.
abbrev pub plain_by : (bytes : ℕ → List ℕ) → TypeTree → Option Width
plain_by bytes (tree.base_type name at tree.unrefined) = width_named (bytes name.text.0)
plain_by bytes _ = None

-- The value of an expression; `constant` is that of a name after a root.
abbrev mutual
  pub value_by : (bytes : ℕ → List ℕ) → (constant : Root → ℕ → Option Sized) → ExprTree → Option Sized
  value_by bytes constant (tree.number value at) = fitted None value
  value_by bytes constant (tree.path path) = constant path.root path.name.text.0
  value_by bytes constant (tree.chain op first links at) = ended (links_by bytes constant op (started (value_by bytes constant first)) links)
  value_by bytes constant (tree.convert of to at) = converted (plain_by bytes to) (value_by bytes constant of)
  value_by bytes constant _ = None

  pub links_by : (bytes : ℕ → List ℕ) → (constant : Root → ℕ → Option Sized) → Op → Option Running → LinkTrees → Option Running
  links_by bytes constant op r tree.no_link = r
  links_by bytes constant op r (tree.link sign operand others) = links_by bytes constant op (run_on op r (value_by bytes constant operand)) others

-- The value of an expression in an environment.
abbrev pub value_in : Environment → ExprTree → Option Sized
value_in env = value_by (bytes_of env.parsed.now.texts) (constant_by env)

-- The number of a constant by the bounds of its type; `value` is that of an expression.
abbrev pub low_by : (value : ExprTree → Option Sized) → PartTree → Option Sized
low_by value tree.absent = Some (record { bits = None; number = 0 })
low_by value (tree.present low) = value low

abbrev pub refined_by : (value : ExprTree → Option Sized) → (bits : ℕ) → BoundsTree → Option Sized → Option Sized
refined_by value bits tree.unrefined None = None
refined_by value bits tree.unrefined (Some a) = fitted (Some bits) a.number
refined_by value bits (tree.refined low high) a = bounded bits (low_by value low) (value high) a
