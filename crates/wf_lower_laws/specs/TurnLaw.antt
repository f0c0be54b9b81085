-- How many loops a text has, and its package.
use Rattle.std.specs.Prelude.{◌≡◌, ℕ, ◌+◌, Bool, true, List, sum_by}
use Rattle.wf_ast.specs.TypedTree.{Block, end, plain, choose, loop}
use Rattle.wf_ast.specs.TypedPackage.{MethodTree, PackageTree}
use Rattle.wf_ast.specs.WellTyped.{well_typed}
use Rattle.c_text.specs.CTree.{Code, finish, nested, empty, assign, call, jump, branch, repeat, select, leave, case_label, default_label, name_label, ItemTree, function_item}
use Rattle.wf_exprs.specs.Helpers.{saturating}
use Rattle.wf_lower_stmts.specs.Forms.{form_of}
use Rattle.wf_lower.specs.Bodies.{body_function, entry_function}
use Rattle.wf_lower.specs.Unit.{initialize_function, lowered_unit}

-- The `while` statements of a block, those of the blocks in it included.
abbrev pub whiles : Code → ℕ
whiles finish = 0
whiles (nested inner rest) = whiles inner + whiles rest
whiles (empty rest) = whiles rest
whiles (assign target value rest) = whiles rest
whiles (call target function given rest) = whiles rest
whiles (jump label rest) = whiles rest
whiles (branch test body otherwise other rest) = whiles body + whiles other + whiles rest
whiles (repeat test body rest) = 1 + whiles body + whiles rest
whiles (select on body rest) = whiles body + whiles rest
whiles (leave value rest) = whiles rest
whiles (case_label n rest) = whiles rest
whiles (default_label rest) = whiles rest
whiles (name_label name rest) = whiles rest

-- Those of an item, which a function's body has, and those of all items of a text.
abbrev pub item_whiles : ItemTree → ℕ
item_whiles (function_item linkage result_type name params locals body) = whiles body
item_whiles item = 0

abbrev pub text_whiles : List ItemTree → ℕ
text_whiles items = sum_by item_whiles items

-- The loops of a block of the source.
abbrev pub loops : Block → ℕ
loops end = 0
loops (plain site s rest) = loops rest
loops (choose site chained c a b rest) = loops a + loops b + loops rest
loops (loop site head body rest) = 1 + loops body + loops rest

-- Those of all methods of a package.
abbrev pub package_loops : PackageTree → ℕ
package_loops p = sum_by (λ m. loops m.body) p.methods

-- The body of a method has as many `while` statements as the method has loops; no other function has one.
pub record LoopAlike (p : PackageTree) : Type 0 where
  pub bodies : (m : MethodTree) → item_whiles (body_function (form_of p m)) ≡ loops m.body
  pub entries : (n : ℕ) (m : MethodTree) → item_whiles (entry_function p n m) ≡ 0
  pub inits : (s : ℕ) → item_whiles (initialize_function p s) ≡ 0
  pub helpers : (sum : Bool) (bits : ℕ) → item_whiles (saturating sum bits) ≡ 0

-- So the whole text of a package that keeps the rules of types, whose order has each method once, has as many as the package has
-- loops.
abbrev pub TextsLoopAlike : Type 0
TextsLoopAlike = (p : PackageTree) → well_typed p ≡ true → text_whiles (lowered_unit p) ≡ package_loops p
