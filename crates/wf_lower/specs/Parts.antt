-- The text of a package, part by part.
use Rattle.std.specs.Prelude.{ℕ, Bool, List, [], ◌∷◌, ◌++◌, if◌then◌else◌}
use Rattle.wf_ast.specs.TypedPackage.{MethodTree, PackageTree}
use Rattle.c_text.specs.CTree.{ItemTree}
use Rattle.wf_exprs.specs.Helpers.{all_saturating, saturating}
use Rattle.wf_lower.specs.Bodies.{entry_function}
use Rattle.wf_lower.specs.Called.{has_entry}
use Rattle.wf_lower.specs.Unit.{all_functions, io_buffer_item, struct_items, used_helpers, used_texts}

abbrev pub entry_functions : PackageTree → (number : ℕ) → MethodTree → List ItemTree
entry_functions p n m = if has_entry p n m then entry_function p n m ∷ [] else []

-- What stands before the functions, and all of it.
abbrev pub items_before : PackageTree → (functions : List ItemTree) → List ItemTree
items_before p functions = io_buffer_item ∷ struct_items p p.struct_order ++ (used_texts functions 0 p.statuses ++ used_helpers functions all_saturating)

abbrev pub items_in : PackageTree → List ItemTree
items_in p = items_before p (all_functions p) ++ all_functions p

abbrev pub saturating_widths : (is_sum : Bool) → List ItemTree
saturating_widths is_sum = saturating is_sum 8 ∷ saturating is_sum 16 ∷ saturating is_sum 32 ∷ saturating is_sum 64 ∷ []
