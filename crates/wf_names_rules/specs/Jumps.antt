-- The loops of a body, and what jumps out of them or to their heads.
use Rattle.std.specs.Prelude.{ℕ, Bool, false, not, List, [], ◌∷◌, ◌++◌, fold, Option, Some, None}
use Rattle.std.specs.List.{list_any}
use Rattle.wf_text.specs.declared.rules.Refusal.{Refusal}
use Rattle.wf_text.specs.declared.rules.Rule.TheVariants.{N2, N5}
use Rattle.wf_text.specs.Precedence.{sooner}
use Rattle.wf_text.specs.declared.place.Place.{Place}
use Rattle.wf_ast.specs.declared.parsed.Name.{Name}
use Rattle.wf_ast.specs.ParsedTree as tree
use Rattle.wf_ast.specs.ParsedTree.{StmtTree, BlockTree, ArmTrees}
use Rattle.wf_names_rules.specs.Declarations.{Declared, Method, is_spelt}
use Rattle.wf_names_rules.specs.Passes.{refused_if, reserved_name}

-- A loop that has a label, or a `break` or `continue`; `loops` are the loops that it stands in, the outermost first,
-- each with its label if it has one.
pub data Jump : Type 0 where
  labelled : (loops : List (Option Name)) → (label : Name) → Jump
  to_label : (loops : List (Option Name)) → (label : Name) → Jump
  to_innermost : (loops : List (Option Name)) → (at : Place) → Jump

abbrev pub label_jumps : List (Option Name) → Option Name → List Jump
label_jumps loops None = []
label_jumps loops (Some label) = labelled loops label ∷ []

abbrev pub jump : List (Option Name) → Option Name → Place → Jump
jump loops None at = to_innermost loops at
jump loops (Some label) at = to_label loops label

abbrev mutual
  pub stmt_jumps : List (Option Name) → StmtTree → List Jump
  stmt_jumps loops (tree.branch arms at) = arm_jumps loops arms
  stmt_jumps loops (tree.loop label condition clauses body at) = label_jumps loops label ++ block_jumps (loops ++ label ∷ []) body
  stmt_jumps loops (tree.leave label at) = jump loops label at ∷ []
  stmt_jumps loops (tree.again label at) = jump loops label at ∷ []
  stmt_jumps loops _ = []

  pub block_jumps : List (Option Name) → BlockTree → List Jump
  block_jumps loops (tree.close at) = []
  block_jumps loops (tree.more_stmts first others) = stmt_jumps loops first ++ block_jumps loops others

  pub arm_jumps : List (Option Name) → ArmTrees → List Jump
  arm_jumps loops tree.no_else = []
  arm_jumps loops (tree.otherwise body) = block_jumps loops body
  arm_jumps loops (tree.arm condition body others) = block_jumps loops body ++ arm_jumps loops others

abbrev pub is_labelled : ℕ → Option Name → Bool
is_labelled text None = false
is_labelled text (Some label) = is_spelt text label

-- One of these loops has the label.
abbrev pub has_label : List (Option Name) → ℕ → Bool
has_label loops text = list_any (is_labelled text) loops

-- A label of a loop that stands in a loop of the same label.
abbrev pub label_twice : List (Option Name) → Name → Option Refusal
label_twice loops label = refused_if (has_label loops label.text.0) N2 label.at

-- A label of a loop that is reserved; `texts` are those of the package.
abbrev pub reserved_label : (texts : List (List ℕ)) → Name → Option Refusal
reserved_label texts label = reserved_name texts label

-- A jump to a label that no loop round it has.
abbrev pub unknown_label : List (Option Name) → Name → Option Refusal
unknown_label loops label = refused_if (not (has_label loops label.text.0)) N5 label.at

-- A jump without a label outside every loop.
abbrev pub outside_loops : List (Option Name) → Place → Option Refusal
outside_loops [] at = Some (record { rule = N5; at = at })
outside_loops (loop ∷ loops) at = None

-- The first refusal of what was found before and what a labelled loop or a jump breaks.
abbrev pub jump_judged : (texts : List (List ℕ)) → Option Refusal → Jump → Option Refusal
jump_judged texts found (labelled loops label) = sooner (sooner found (label_twice loops label)) (reserved_label texts label)
jump_judged texts found (to_label loops label) = sooner found (unknown_label loops label)
jump_judged texts found (to_innermost loops at) = sooner found (outside_loops loops at)

abbrev pub jumped : (texts : List (List ℕ)) → Option Refusal → List Jump → Option Refusal
jumped texts found [] = found
jumped texts found (j ∷ js) = jumped texts (jump_judged texts found j) js

-- The first refusal of what was found before and what the loops and jumps of a method break.
abbrev pub method_labels : (texts : List (List ℕ)) → Option Refusal → Method → Option Refusal
method_labels texts found m = jumped texts found (block_jumps [] m.body)

-- The same of all methods.
abbrev pub labels_found : Declared → Option Refusal → Option Refusal
labels_found d found = fold (method_labels d.texts) found d.methods
